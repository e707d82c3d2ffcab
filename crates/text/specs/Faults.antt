-- The faults of a text, by number and place.
use Rattle.std.specs.Prelude.{ℕ, Some, None, Ok, Err, Option, Result}
use Rattle.bank.specs.Refusals.{refusal_number}
use Rattle.text.specs.declared.FaultPlace.{FaultPlace}
use Rattle.bank.specs.declared.refusal.Refusal.TheVariants.{NotInFormat}
use Rattle.text.specs.declared.NumberFault.{NumberFault}
use Rattle.text.specs.declared.ReadFault.{ReadFault}
use Rattle.text.specs.declared.Section.{Section}
use Rattle.text.specs.declared.Section.TheVariants.{Head, Outages, Windows, CoolDown, Tickets, Script}
use Rattle.text.specs.declared.ReadFault.TheVariants.{TextTooLong, ListTooShort, At}

-- a field that begins at this byte of its line is not in the format
abbrev pub not_in_format : ℕ → NumberFault
not_in_format byte = record { refusal = NotInFormat; byte = byte }

abbrev pub section_number : Section → ℕ
section_number Head = 0
section_number Outages = 1
section_number Windows = 2
section_number CoolDown = 3
section_number Tickets = 4
section_number Script = 9

abbrev pub fault_number : ReadFault → ℕ
fault_number TextTooLong = 14
fault_number ListTooShort = 8
fault_number (At f) = refusal_number f.line.number.refusal

abbrev pub fault_place : ReadFault → Option FaultPlace
fault_place TextTooLong = None
fault_place ListTooShort = None
fault_place (At f) = Some (record { section = f.section; line = f.line.line; byte = f.line.number.byte })

-- a refusal's number, and the place where the text has one
pub record Refused : Type 0 where
  pub number : ℕ
  pub place : Option FaultPlace

abbrev pub refused_by : ReadFault → Refused
refused_by f = record { number = fault_number f; place = fault_place f }

-- how an answer refuses, if it does
abbrev pub read_refusal : {X : Type 0} → Result X ReadFault → Option Refused
read_refusal (Ok x) = None
read_refusal (Err f) = Some (refused_by f)

-- a result with a place beside its fault
abbrev pub tagged : {T P F : Type 0} → P → Result T F → Result T (P × F)
tagged place (Ok x) = Ok x
tagged place (Err fault) = Err (place, fault)
