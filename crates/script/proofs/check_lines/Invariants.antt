use Rattle.std.proofs.Common.{length}
use Rattle.script.proofs.Scripts.{Reading}
use Rattle.script.proofs.check_lines.Given as goal

abbrev pub invariant-loop-rest : goal.invariant-loop-rest
invariant-loop-rest l = Reading l.tickets l.text.bytes.now l.rest l.number

abbrev pub decreases-loop-rest : goal.decreases-loop-rest
decreases-loop-rest l = length l.rest
