use Rattle.calendar.proofs.Calendars.{counts_at, no_counts}
use Rattle.calendar.proofs.Calendar.counts.Goals as goal

pub returns-in-Some : goal.returns-in-Some
returns-in-Some c =
    let b = c.args.self.now in
    counts_at b.rows.now b.size.slots b.size.top c.args.slot c.in-Some.out.word c.counts.result c.counts.ensures c.in-Some.ensures.known

pub returns-in-None : goal.returns-in-None
returns-in-None c =
    let b = c.args.self.now in
    no_counts b.rows.now b.size.slots b.size.top c.args.slot c.in-None.ensures.past
