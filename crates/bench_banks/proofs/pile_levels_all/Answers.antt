use Rattle.std.proofs.Common.{rules, ◌≡◌, get_or, ap, ◌∙◌, arith}
use Rattle.std.proofs.lemmas.List.FromFn.{get_or-map-range_with_len}
use Rattle.bank.specs.Meaning.{capacities_at}
use Rattle.bench_banks.specs.Bench.{full_pile}
use Rattle.bench_banks.proofs.pile_levels_all.Goals as goal

pub returns : goal.returns
returns c =
    let slot = c.args.slot in
    let pile = full_pile c.args.rows.now in
    let levels : c.capacities-levels.result ≡ capacities_at pile slot = c.capacities-levels.ensures ∙ ap (λ m. capacities_at m slot) c.full_pile.ensures in
    c.put_answers.ensures _ (λ k r few met. search rules ∙ ap (λ xs. get_or xs k 0) levels ∙ get_or-map-range_with_len (λ i. pile.capacity i slot) 0 65 k k 0 few (omega arith))
