use Rattle.std.proofs.Common.{ap, ◌∙◌}
use Rattle.bankmap.specs.Survey.{with_state}
use Rattle.bankmap.specs.declared.survey.CoreState.TheVariants.{Usable}
use Rattle.bankmap.proofs.States.{states_of}
use Rattle.bankmap.proofs.survey.Spans.core_states.Goals as goal

pub returns : goal.returns
returns g c =
    let spans = c.args.self.now in
    let bottom = g.A.Bank.means spans.bottom.now in
    let pile = g.B.Bank.means spans.pile.now in
    c.with_cores.ensures ∙ ap (with_state pile spans.from Usable) c.with_cores-below.ensures ∙ states_of bottom pile spans.from
