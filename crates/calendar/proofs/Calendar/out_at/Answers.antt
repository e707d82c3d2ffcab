use Rattle.std.proofs.Common.{leb, ltb, sym}
use Rattle.std.proofs.lemmas.Bool.{and_parts, ltb-true}
use Rattle.calendar.proofs.Calendars.{word_levels}
use Rattle.calendar.proofs.Calendar.out_at.Goals as goal

pub returns-then-has-clause-known : goal.returns-then-has-clause-known
returns-then-has-clause-known c =
    let b = c.args.self.now in
    let last = ltb-true c.args.slot b.size.slots (and_parts (leb c.args.level b.size.top) (ltb c.args.slot b.size.slots) (sym c.if-has.ensures)).1 in
    word_levels b.rows.now b.size.slots b.size.top c.args.slot c.cores_out.result.word b.size.top_fit.1 c.cores_out.ensures last
