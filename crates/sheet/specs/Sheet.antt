-- A sheet as a text of bytes.
use Rattle.std.specs.Prelude.{ℕ, List, [], ◌∷◌, Ok, Err, Result, slice_index_or}
use Rattle.text.specs.declared.LineFault.{LineFault}
use Rattle.bank.specs.declared.refusal.Refusal.TheVariants.{NotInFormat}
use Rattle.text.specs.declared.TextFault.{TextFault}
use Rattle.sheet.specs.declared.records.Extent.{Extent}
use Rattle.calendar.specs.declared.Outage.{Outage}
use Rattle.reserve.specs.declared.Window.{Window}
use Rattle.cooldown.specs.declared.Schedule.{Schedule}
use Rattle.bank.specs.declared.ticket.Ticket.{Ticket}
use Rattle.sheet.specs.Fields.{Rows, lines, section}
use Rattle.text.specs.Field.{and_then}
use Rattle.sheet.specs.Records.{extent_limits, make_extent, no_extent, outage_limits, make_outage, window_limits, make_window, cool_down_limits, make_cool_down, ticket_limits, make_ticket}

-- what a sheet says
pub record Sheet : Type 0 where
  -- how many slots and cores
  pub extent : Extent
  pub outages : List Outage
  pub windows : List Window
  pub cool_downs : List Schedule
  pub tickets : List Ticket

-- a line's fault in its section
abbrev pub in_section : {X : Type 0} → ℕ → Result X LineFault → Result X TextFault
in_section n (Ok x) = Ok x
in_section n (Err fault) = Err (record { section = n; line = fault })

-- no text is left after the last line
abbrev pub ended : Sheet → ℕ → List ℕ → Result Sheet TextFault
ended s next [] = Ok s
ended s next (b ∷ bs) = Err (record { section = 4; line = record { line = next; number = record { refusal = NotInFormat; byte = 0 } } })

abbrev pub after_cool_downs : Rows Extent → Rows Outage → Rows Window → Rows Schedule → Result Sheet TextFault
after_cool_downs h o w c =
    and_then (in_section 4 (section 64 ticket_limits make_ticket c.next c.rest)) (λ t. ended (record { extent = slice_index_or h.rows 0 no_extent; outages = o.rows; windows = w.rows; cool_downs = c.rows; tickets = t.rows }) t.next t.rest)

abbrev pub after_windows : Rows Extent → Rows Outage → Rows Window → Result Sheet TextFault
after_windows h o w = and_then (in_section 3 (section 1 cool_down_limits make_cool_down w.next w.rest)) (after_cool_downs h o w)

abbrev pub after_outages : Rows Extent → Rows Outage → Result Sheet TextFault
after_outages h o = and_then (in_section 2 (section 8 window_limits make_window o.next o.rest)) (after_windows h o)

abbrev pub after_extent : Rows Extent → Result Sheet TextFault
after_extent h = and_then (in_section 1 (section 64 outage_limits make_outage h.next h.rest)) (after_outages h)

-- the size on line 1, then outages, windows, a cool-down and tickets, each in a section of its own
abbrev pub sheet : List ℕ → Result Sheet TextFault
sheet text = and_then (in_section 0 (lines extent_limits make_extent 1 1 text [])) after_extent
