use Rattle.std.proofs.Common.{ap, ◌∙◌}
use Rattle.bank.specs.Meaning.{mark_after}
use Rattle.bench_banks.proofs.pile_mark.Goals as goal

pub returns : goal.returns
returns c = c.mark_after.ensures ∙ ap (λ m. mark_after m c.args.slot) c.full_pile.ensures
