use Rattle.std.proofs.Common.{◌≡◌, ◌*◌, ◌≤◌, take}
use Rattle.reserve.specs.Reserve.{withheld}
use Rattle.reserve.proofs.table.WindowTable.withheld.Given as goal

abbrev pub invariant-loop-w : goal.invariant-loop-w
invariant-loop-w l = (l.sum ≡ withheld (take l.w-index l.self.rows) l.slot) × (l.sum ≤ 64 * l.w-index)
