use Rattle.std.proofs.Common.{◌≡◌, ℕ, ◌<◌, take}
use Rattle.calendar.specs.Calendar.{out}
use Rattle.calendar.specs.Cores.{bit}
use Rattle.calendar.proofs.cores_out.Given as goal

abbrev pub invariant-loop-o : goal.invariant-loop-o
invariant-loop-o l = (c : ℕ) → c < 64 → bit l.word c ≡ out (take l.o-index l.rows) l.slot c
