-- The reading and the writing of sheets undo one another.
use Rattle.std.specs.Prelude.{◌≡◌, ℕ, ◌≤◌, false, List, length, Ok}
use Rattle.std.specs.List.{AllByRecursion}
use Rattle.bank.specs.declared.ticket.Ticket.{Ticket}
use Rattle.calendar.specs.declared.Outage.{Outage}
use Rattle.reserve.specs.declared.Window.{Window}
use Rattle.text.specs.declared.limits.Limits.{Limits}
use Rattle.sheet.specs.Fields.{Fitting}
use Rattle.sheet.specs.Output.{writing}
use Rattle.sheet.specs.Reading.{too_short, reading}
use Rattle.sheet.specs.Records.{extent_limits, outage_limits, window_limits, cool_down_limits, ticket_limits, extent_numbers, outage_numbers, window_numbers, cool_down_numbers, ticket_numbers}
use Rattle.sheet.specs.Sheet.{Sheet, sheet}
use Rattle.sheet.specs.Writing.{write_sheet}

-- at most `most` records, each with its numbers within the limits
abbrev pub FitRows : {R : Type 0} → ℕ → List Limits → (R → List ℕ) → List R → Type 0
FitRows most ls numbers rows = (length rows ≤ most) × AllByRecursion (λ x. Fitting ls (numbers x)) rows

-- a sheet with every number within its limits and no section too long
pub record Valid (s : Sheet) : Type 0 where
  pub extent : Fitting extent_limits (extent_numbers s.extent)
  pub outages : FitRows 64 outage_limits outage_numbers s.outages
  pub windows : FitRows 8 window_limits window_numbers s.windows
  pub cool_downs : FitRows 1 cool_down_limits cool_down_numbers s.cool_downs
  pub tickets : FitRows 64 ticket_limits ticket_numbers s.tickets

-- a valid sheet that is written is read back
abbrev pub ReadsBack : Type 0
ReadsBack = (s : Sheet) → Valid s → sheet (write_sheet s) ≡ Ok s

-- a text that is accepted is the one that its sheet is written as, and the sheet is valid
abbrev pub WritesBack : Type 0
WritesBack = (text : List ℕ) (s : Sheet) → sheet text ≡ Ok s → (write_sheet s ≡ text) × Valid s

-- what the writer gives out, the reader accepts with lists that are long enough, as the same values
abbrev pub WrittenThenRead : Type 0
WrittenThenRead = (s : Sheet) (out text : List ℕ) (o : List Outage) (w : List Window) (t : List Ticket) →
    writing s out ≡ Ok text → too_short o w t ≡ false → reading text o w t ≡ Ok s

-- what the reader accepts, the writer gives out into an output that is long enough, as the same text
abbrev pub ReadThenWritten : Type 0
ReadThenWritten = (s : Sheet) (out text : List ℕ) (o : List Outage) (w : List Window) (t : List Ticket) →
    reading text o w t ≡ Ok s → length text ≤ length out → writing s out ≡ Ok text
