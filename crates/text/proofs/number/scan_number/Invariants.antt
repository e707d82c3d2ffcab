use Rattle.text.proofs.Numerals.{Sofar}
use Rattle.text.proofs.number.scan_number.Given as goal

abbrev pub invariant-loop-digits : goal.invariant-loop-digits
invariant-loop-digits l = Sofar l.rest l.digits l.number
