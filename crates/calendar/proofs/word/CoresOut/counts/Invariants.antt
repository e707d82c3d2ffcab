use Rattle.std.proofs.Common.{◌≡◌, ℕ, ◌+◌, ◌<◌, length, get_or}
use Rattle.calendar.specs.Cores.{bit, usable}
use Rattle.calendar.proofs.word.CoresOut.counts.Given as goal

abbrev pub invariant-loop-core : goal.invariant-loop-core
invariant-loop-core l =
    (l.count ≡ length (usable (bit l.self.word) l.core)) ×
    ((k : ℕ) → k < l.core → get_or l.level_above-items k 0 ≡ length (usable (bit l.self.word) (k + 1)))
