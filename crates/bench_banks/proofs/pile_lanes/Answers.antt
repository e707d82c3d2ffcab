use Rattle.std.proofs.Common.{rules, ap, ◌∙◌}
use Rattle.bench_banks.specs.Bench.{core_or_none}
use Rattle.bench_banks.proofs.pile_lanes.Goals as goal

pub returns : goal.returns
returns c = c.put_answers.ensures _ (λ k r few met. search rules ∙ ap (λ m. core_or_none m c.args.slot k) c.full_pile-pile.ensures)
