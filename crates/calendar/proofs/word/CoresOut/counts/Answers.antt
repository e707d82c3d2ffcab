use Rattle.std.proofs.Common.{◌≡◌, ◌+◌, ◌-◌, length, refl, arith}
use Rattle.calendar.specs.Laws.Usable.{usable_length}
use Rattle.calendar.specs.Cores.{bit, usable}
use Rattle.calendar.proofs.Counted.{counted_up}
use Rattle.calendar.proofs.word.CoresOut.counts.Goals as goal

pub overflow_add-count : goal.overflow_add-count
overflow_add-count c = omega (arith, usable_length (bit c.args.self.word) c.loop-core.core)

pub returns : goal.returns
returns c =
    let long : length c.loop-core.level_above-items ≡ c.min-cores.result = omega (arith, c.loop-core.auto.level_above-items) in
    counted_up (λ k. length (usable (bit c.args.self.word) k)) c.args.top c.min-cores.result (c.min-cores.result + 1 - 1) c.loop-core.level_above-items refl (omega (arith, c.min-cores.ensures)) (omega arith) long
    (λ k h. c.loop-core.invariant.1 k (omega arith))
