-- What the reading of a sheet answers, and what it leaves in the caller's tables.
use Rattle.std.specs.Prelude.{◌≡◌, ℕ, Bool, ◌||◌, List, [], ◌∷◌, ◌++◌, length, drop, Some, None, Ok, Err, Option, Result, nat_lt, if◌then◌else◌}
use Rattle.text.specs.declared.TextFault.{TextFault}
use Rattle.text.specs.declared.ReadFault.{ReadFault}
use Rattle.text.specs.declared.ReadFault.TheVariants.{At}
use Rattle.text.specs.Faults.{Refused, refused_by, read_refusal}
use Rattle.sheet.specs.declared.reader.SheetHead.{SheetHead}
use Rattle.calendar.specs.declared.Outage.{Outage}
use Rattle.reserve.specs.declared.Window.{Window}
use Rattle.bank.specs.declared.ticket.Ticket.{Ticket}
use Rattle.sheet.specs.Sheet.{Sheet, sheet}

abbrev pub first_of : {X : Type 0} → List X → Option X
first_of [] = None
first_of (x ∷ xs) = Some x

-- a table whose front holds these rows, and whose other places are as they were
abbrev pub onto : {X : Type 0} → List X → List X → List X
onto rows table = rows ++ drop (length rows) table

-- a sheet's head: its size and the counts
abbrev pub head_of : Sheet → SheetHead
head_of s = record {
  extent = s.extent;
  outages = length s.outages;
  windows = length s.windows;
  cool_down = first_of s.cool_downs;
  tickets = length s.tickets;
}

abbrev pub too_short : List Outage → List Window → List Ticket → Bool
too_short o w t = nat_lt (length o) 64 || (nat_lt (length w) 8 || nat_lt (length t) 64)

-- the sheet, or why it is not read: first the text's length, then the tables', then the text
abbrev pub judged_sheet : Result Sheet TextFault → Result Sheet Refused
judged_sheet (Ok s) = Ok s
judged_sheet (Err fault) = Err (refused_by (At fault))

abbrev pub reading : List ℕ → List Outage → List Window → List Ticket → Result Sheet Refused
reading text o w t =
    if nat_lt 16384 (length text)
    then Err (record { number = 14; place = None })
    else (if too_short o w t then Err (record { number = 8; place = None }) else judged_sheet (sheet text))

-- what a result of the reading leaves
abbrev pub Leaves : List Outage → List Window → List Ticket → List Outage → List Window → List Ticket → Result SheetHead ReadFault → Result Sheet Refused → Type 0
Leaves o w t o' w' t' r (Ok s) = (r ≡ Ok (head_of s)) × (o' ≡ onto s.outages o) × (w' ≡ onto s.windows w) × (t' ≡ onto s.tickets t)
Leaves o w t o' w' t' r (Err why) = (read_refusal r ≡ Some why) × (o' ≡ o) × (w' ≡ w) × (t' ≡ t)

abbrev pub Answered : List ℕ → List Outage → List Window → List Ticket → List Outage → List Window → List Ticket → Result SheetHead ReadFault → Type 0
Answered text o w t o' w' t' r = Leaves o w t o' w' t' r (reading text o w t)
