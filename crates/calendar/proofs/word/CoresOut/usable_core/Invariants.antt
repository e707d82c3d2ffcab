use Rattle.std.proofs.Common.{◌-◌, ◌<◌, ◌≤◌, length}
use Rattle.calendar.specs.Cores.{bit, usable}
use Rattle.calendar.proofs.word.CoresOut.usable_core.Given as goal

abbrev pub invariant-loop-high : goal.invariant-loop-high
invariant-loop-high l =
    (l.low < l.high) × (l.high ≤ l.level) × (length (usable (bit l.self.word) l.low) ≤ l.lane) × (l.lane < length (usable (bit l.self.word) l.high))

abbrev pub decreases-loop-high : goal.decreases-loop-high
decreases-loop-high l = l.high - l.low
