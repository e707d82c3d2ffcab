use Rattle.std.proofs.Common.{List, ap, ◌∙◌, arith, take_all}
use Rattle.calendar.specs.Calendar.{out}
use Rattle.calendar.specs.declared.Outage.{Outage}
use Rattle.calendar.proofs.Calendars.{word_more}
use Rattle.calendar.proofs.cores_out.Goals as goal

abbrev none : Outage
none = record { core = 0; from = 0; to = 0 }

pub loop-o-preserved : goal.loop-o-preserved
loop-o-preserved c = word_more c.args.rows.now c.loop-o.o-index none c.args.slot c.loop-o.word c.bit_at-word.result (omega arith) c.loop-o.invariant c.bit_at-word.ensures

pub returns : goal.returns
returns c core h =
    c.loop-o.invariant core h ∙ ap (λ (rows : List Outage). out rows c.args.slot core) (take_all c.loop-o.o-index c.args.rows.now (omega arith))
