-- The numbers of the refusals.
use Rattle.std.specs.Prelude.{ℕ, Some, None, Ok, Err, Option, Result}
use Rattle.bank.specs.declared.refusal.Refusal.{Refusal}
use Rattle.bank.specs.declared.refusal.Refusal.TheVariants.{SlotOpen, TicketOutOfLimits, BadDeadline, NumberInUse, TooManyJobs, TooManySpans, NoPlan, ListTooShort, TooFewCores, NoSuchJob, PastLastSlot, WrongSlip, NoSuchTicket, TextTooLong, NotInFormat, OutOfLimits, CountAboveLimit, OutputTooShort}

abbrev pub refusal_number : Refusal → ℕ
refusal_number SlotOpen = 1
refusal_number TicketOutOfLimits = 2
refusal_number BadDeadline = 3
refusal_number NumberInUse = 4
refusal_number TooManyJobs = 5
refusal_number TooManySpans = 6
refusal_number NoPlan = 7
refusal_number ListTooShort = 8
refusal_number TooFewCores = 9
refusal_number NoSuchJob = 10
refusal_number PastLastSlot = 11
refusal_number WrongSlip = 12
refusal_number NoSuchTicket = 13
refusal_number TextTooLong = 14
refusal_number NotInFormat = 15
refusal_number OutOfLimits = 16
refusal_number CountAboveLimit = 17
refusal_number OutputTooShort = 18

-- the number with which an answer refuses, if it does
abbrev pub refusal_of : {X : Type 0} → Result X Refusal → Option ℕ
refusal_of (Ok x) = None
refusal_of (Err e) = Some (refusal_number e)
