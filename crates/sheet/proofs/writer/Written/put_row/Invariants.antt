use Rattle.std.proofs.Common.{◌≡◌, ◌+◌, ◌*◌, ◌≤◌, ◌++◌, drop, length}
use Rattle.sheet.specs.Writing.{write_line}
use Rattle.sheet.proofs.writer.Written.put_row.Given as goal

abbrev pub invariant-loop-j : goal.invariant-loop-j
invariant-loop-j g l =
    (l.self ++ write_line (drop l.j l.n-items) ≡ l.initial.self ++ write_line l.n-items)
    × (length l.self ≤ length l.initial.self + 7 * l.j)
