use Rattle.std.proofs.Common.{◌≡◌, ◌+◌, length, sym, ap, arith}
use Rattle.std.proofs.lemmas.Option.{slice_get_past}
use Rattle.calendar.specs.Cores.{bit, usable}
use Rattle.calendar.specs.Laws.Usable.{lane_core}
use Rattle.calendar.proofs.word.CoresOut.usable_core.Goals as goal

pub returns-then-lane-usable_below : goal.returns-then-lane-usable_below
returns-then-lane-usable_below c = sym (slice_get_past (usable (bit c.args.self.word) c.args.level) c.args.lane (omega arith))

pub returns : goal.returns
returns c =
    let w = c.args.self.word in
    let next : c.loop-high.high ≡ c.loop-high.low + 1 = omega arith in
    let counts = ap (λ k. length (usable (bit w) k)) next in
    sym (lane_core (bit w) c.loop-high.low c.args.level c.args.lane (omega arith) (omega arith) (omega arith))
