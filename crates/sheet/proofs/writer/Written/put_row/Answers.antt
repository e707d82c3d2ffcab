use Rattle.std.proofs.Common.{◌<◌, ◌^◌, length, get_or, sym, ap, ◌∙◌, subst, arith}
use Rattle.sheet.proofs.Writes.{small_at, put_more}
use Rattle.sheet.proofs.writer.Written.put_row.Goals as goal

pub put_field-requires-clause-small : goal.put_field-requires-clause-small
put_field-requires-clause-small g c =
    let format = g.met.R.Row.format in
    subst (λ ns. get_or ns c.loop-j.j 0 < 10 ^ 6) (sym c.numbers-numbers.ensures)
    (small_at g.R.Row.LIMITS (g.R.Row.numbers c.args.row.now) c.loop-j.j format.short c.requires.fit (omega (arith, c.loop-j-test.true, g.met.R.Row.sized.counted)))

pub loop-j-preserved : goal.loop-j-preserved
loop-j-preserved g c = (
  put_more c.loop-j.self c.put_field.new.self c.args.self.now c.numbers-numbers.result g.row.N c.loop-j.j c.close_after.result
      (ap length c.numbers-numbers.ensures ∙ g.met.R.Row.sized.width c.args.row.now) c.loop-j-test.true c.loop-j.invariant.0 c.put_field.ensures.wrote c.close_after.ensures,
  omega (arith, c.loop-j.invariant.1, c.put_field.ensures.short),
)
