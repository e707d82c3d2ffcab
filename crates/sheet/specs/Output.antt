-- What the writing of a sheet answers, and what it leaves in the caller's buffer.
use Rattle.std.specs.Prelude.{◌≡◌, ℕ, Bool, ◌&&◌, ◌||◌, List, ◌++◌, length, drop, Some, Ok, Err, Result, nat_lt, if◌then◌else◌}
use Rattle.std.specs.List.{list_all}
use Rattle.bank.specs.declared.refusal.Refusal.{Refusal}
use Rattle.bank.specs.Refusals.{refusal_of}
use Rattle.sheet.specs.declared.records.Extent.{Extent}
use Rattle.calendar.specs.declared.Outage.{Outage}
use Rattle.reserve.specs.declared.Window.{Window}
use Rattle.cooldown.specs.declared.Schedule.{Schedule}
use Rattle.bank.specs.declared.ticket.Ticket.{Ticket}
use Rattle.sheet.specs.Fields.{fits}
use Rattle.sheet.specs.Records.{extent_limits, extent_numbers, outage_limits, outage_numbers, window_limits, window_numbers, cool_down_limits, cool_down_numbers, ticket_limits, ticket_numbers}
use Rattle.sheet.specs.Sheet.{Sheet}
use Rattle.sheet.specs.Writing.{write_sheet}

abbrev pub sheet_of : Extent → List Outage → List Window → List Schedule → List Ticket → Sheet
sheet_of e o w c t = record { extent = e; outages = o; windows = w; cool_downs = c; tickets = t }

-- whether every number of the sheet stands within its limits
abbrev pub sheet_fits : Sheet → Bool
sheet_fits s =
    fits extent_limits (extent_numbers s.extent)
    && (list_all (λ x. fits outage_limits (outage_numbers x)) s.outages
    && (list_all (λ x. fits window_limits (window_numbers x)) s.windows
    && (list_all (λ x. fits cool_down_limits (cool_down_numbers x)) s.cool_downs
    && list_all (λ x. fits ticket_limits (ticket_numbers x)) s.tickets)))

-- whether a section has more lines than it may have
abbrev pub too_many : Sheet → Bool
too_many s = nat_lt 64 (length s.outages) || (nat_lt 8 (length s.windows) || (nat_lt 1 (length s.cool_downs) || nat_lt 64 (length s.tickets)))

-- the text of the sheet, or why it is not written
abbrev pub writing : Sheet → List ℕ → Result (List ℕ) ℕ
writing s out =
    if sheet_fits s
    then (if too_many s then Err 17 else (if nat_lt (length out) (length (write_sheet s)) then Err 18 else Ok (write_sheet s)))
    else Err 16

-- what a result of the writing leaves
abbrev pub Put : List ℕ → List ℕ → Result ℕ Refusal → Result (List ℕ) ℕ → Type 0
Put old new r (Ok text) = (r ≡ Ok (length text)) × (new ≡ text ++ drop (length text) old)
Put old new r (Err why) = (refusal_of r ≡ Some why) × (new ≡ old)
