use Rattle.std.proofs.Common.{ap, ◌∙◌}
use Rattle.bank.specs.Interval.{within}
use Rattle.bank.specs.declared.interval.Interval.{Interval}
use Rattle.calendar.proofs.Calendars.{row_bit}
use Rattle.calendar.proofs.Outage.bit_at.Goals as goal

pub returns-then-covers : goal.returns-then-covers
returns-then-covers c core h =
    let o = c.args.self.now in
    row_bit o.core core (within o.from o.to c.args.slot) c.if-self-lt64.true (c.if-covers.ensures ∙ ap (λ (i : Interval). within i.from i.to c.args.slot) c.interval.ensures)
