use Rattle.std.proofs.Common.{rules, ap, ◌∙◌}
use Rattle.bench_banks.proofs.pile_levels_each.Goals as goal

pub returns : goal.returns
returns c = c.put_answers.ensures _ (λ k r few met. search rules ∙ ap (λ m. m.capacity k c.args.slot) c.full_pile-pile.ensures)
