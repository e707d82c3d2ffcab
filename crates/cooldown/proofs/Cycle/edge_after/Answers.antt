use Rattle.std.proofs.Common.{arith}
use Rattle.cooldown.proofs.Cycles.{rest_none, rest_first}
use Rattle.cooldown.proofs.Cycle.edge_after.Goals as goal
use Rattle.cooldown.proofs.Cycle.edge_after.Goals.{then-self-eq0-via-then-self-eq0, then-self-eq0-via-else-self-eq0+then-self, then-self-eq0-via-else-self-eq0+else-self+then-slot-limit}

pub returns-then-self-eq0 : goal.returns-then-self-eq0
returns-then-self-eq0 c =
    rest_none c.args.self.now.period c.args.self.now.rest c.args.limit c.args.slot (λ a b d.
    elim c.then-self-eq0.branch [
      | then-self-eq0-via-then-self-eq0 w ↦ omega arith
      | then-self-eq0-via-else-self-eq0+then-self w ↦ omega arith
      | then-self-eq0-via-else-self-eq0+else-self+then-slot-limit w ↦ omega arith
    ])

pub returns : goal.returns
returns c =
    rest_first c.args.self.now.period c.args.self.now.rest c.args.limit c.args.slot _ _ _
    (omega arith) (omega arith) c.remainder_after-end.ensures c.remainder_after-begin.ensures c.min.ensures
