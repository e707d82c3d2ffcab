use Rattle.bankmap.proofs.States.{Changed}
use Rattle.bankmap.proofs.survey.with_cores.Given as goal

abbrev pub invariant-loop-lane : goal.invariant-loop-lane
invariant-loop-lane g l = Changed (g.B.Bank.means l.cores) l.slot l.state l.initial.changed l.lane l.changed
