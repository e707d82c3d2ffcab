use Rattle.std.proofs.Common.{◌≡◌, ◌+◌, ◌*◌, ◌≤◌, ◌++◌, take, length}
use Rattle.sheet.specs.Writing.{write_lines}
use Rattle.sheet.proofs.writer.Written.put_rows.Given as goal

abbrev pub invariant-loop-row : goal.invariant-loop-row
invariant-loop-row g l =
    (l.self ≡ l.initial.self ++ write_lines g.R.Row.numbers (take l.row-index l.rows))
    × (length l.self ≤ length l.initial.self + 35 * l.row-index)
