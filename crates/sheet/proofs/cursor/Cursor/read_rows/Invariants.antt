use Rattle.std.proofs.Common.{◌+◌}
use Rattle.sheet.proofs.Lines.{InLine, InRows}
use Rattle.sheet.proofs.cursor.Cursor.read_rows.Given as goal

abbrev pub invariant-loop-j : goal.invariant-loop-j
invariant-loop-j g l = InLine l.limit-items g.row.N l.initial.rest l.j l.byte l.rest l.numbers

abbrev pub invariant-loop-i : goal.invariant-loop-i
invariant-loop-i g l = InRows l.limits g.R.Row.make l.count l.self.line l.initial.rest l.initial.rows.items l.i (l.self.line + l.i) l.rest l.rows.items
