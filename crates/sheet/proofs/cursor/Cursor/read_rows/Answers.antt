use Rattle.std.proofs.Common.{◌+◌, subst, Err, ◌≡◌, sym, ap, ◌∙◌, arith}
use Rattle.sheet.specs.Fields.{lines}
use Rattle.sheet.proofs.Lines.{InRows, line_all, line_fault, line_more, rows_fault, rows_more}
use Rattle.sheet.proofs.cursor.Cursor.read_rows.Goals as goal

pub loop-j-preserved : goal.loop-j-preserved
loop-j-preserved g c =
    let told = c.in-Ok.ensures in
    line_more c.LIMITS-limits.result g.row.N c.loop-i.rest.now c.loop-j.j c.loop-j.byte c.loop-j.rest.now c.loop-j.numbers c.loop-j.invariant
    c.loop-j-test.true c.close_after.result c.close_after.ensures c.in-Ok.field told.reads told.within told.short

pub loop-i-preserved : goal.loop-i-preserved
loop-i-preserved g c =
    let line = line_all c.LIMITS-limits.result g.row.N c.loop-i.rest.now c.loop-j.j c.loop-j.byte c.loop-j.rest.now c.loop-j.numbers c.loop-j.invariant c.loop-j-test.false in
    subst (λ next. InRows c.LIMITS-limits.result g.R.Row.make c.args.count c.args.self.now.line c.args.self.now.rest.now c.args.rows.now.items (c.loop-i.i + 1) next c.loop-j.rest.now c.push.new.self.items) next_line
    (rows_more c.LIMITS-limits.result g.R.Row.make c.args.count c.args.self.now.line c.args.self.now.rest.now c.args.rows.now.items c.loop-i.i (c.args.self.now.line + c.loop-i.i) c.loop-i.rest.now c.loop-i.rows.items c.loop-i.invariant c.loop-i-test.true
    c.loop-j.numbers c.loop-j.rest.now c.from_numbers.result c.push.new.self.items line
    (omega (arith, c.loop-j.invariant.taken, c.loop-j-test.false, g.met.R.Row.sized.some)) c.from_numbers.ensures c.push.ensures.items)
  where
    next_line : c.args.self.now.line + c.loop-i.i + 1 ≡ c.args.self.now.line + (c.loop-i.i + 1)
    next_line = omega arith

pub returns-in-Err : goal.returns-in-Err
returns-in-Err g c =
    let line = line_fault c.LIMITS-limits.result g.row.N c.loop-i.rest.now c.loop-j.j c.loop-j.byte c.loop-j.rest.now c.loop-j.numbers c.loop-j.invariant
    c.loop-j-test.true c.close_after.result c.close_after.ensures c.in-Err.number c.in-Err.ensures.reads in
    ap (λ t. lines t g.R.Row.make c.args.count c.args.self.now.line c.args.self.now.rest.now c.args.rows.now.items) (sym c.LIMITS-limits.ensures)
    ∙ rows_fault c.LIMITS-limits.result g.R.Row.make c.args.count c.args.self.now.line c.args.self.now.rest.now c.args.rows.now.items c.loop-i.i (c.args.self.now.line + c.loop-i.i) c.loop-i.rest.now c.loop-i.rows.items c.loop-i.invariant c.loop-i-test.true c.in-Err.number line
    ∙ ap Err (sym c.from.ensures)
