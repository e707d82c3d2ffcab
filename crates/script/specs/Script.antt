-- Scripts: a text of commands, one a line.
use Rattle.std.specs.Prelude.{ℕ, zero, suc, ◌+◌, List, [], ◌∷◌, length, drop, Some, None, Ok, Err, Option, Result, ◌==◌, if◌then◌else◌, nat_lt}
use Rattle.bank.specs.declared.refusal.Refusal.TheVariants.{NoSuchTicket, NotInFormat}
use Rattle.text.specs.Faults.{Refused, refused_by, not_in_format, section_number}
use Rattle.text.specs.Field.{field, and_then, on_line}
use Rattle.text.specs.Number.{closes}
use Rattle.text.specs.declared.LineFault.{LineFault}
use Rattle.text.specs.declared.NumberFault.{NumberFault}
use Rattle.text.specs.declared.ReadFault.TheVariants.{At}
use Rattle.text.specs.declared.Section.TheVariants.{Script}
use Rattle.text.specs.declared.limits.Limits.{Limits}
use Rattle.text.specs.declared.number.Field.{Field}
use Rattle.script.specs.declared.Command.{Command}
use Rattle.script.specs.declared.Command.TheVariants.{Admit, Withdraw, Serve, TakeBack}

-- one of the sheet's tickets, counted from 1
abbrev pub ticket_of : ℕ → Limits
ticket_of tickets = record { low = 1; high = tickets; refusal = NoSuchTicket }

-- any number in the format
abbrev pub any_number : Limits
any_number = record { low = 0; high = 999999; refusal = NotInFormat }

-- the number after a letter that a space closes; where byte 10 does, it is missing
abbrev pub number_after : Limits → ℕ → List ℕ → Result Field NumberFault
number_after limits close rest = if close == 32 then field limits 10 2 rest else Err (not_in_format 2)

-- a line that was read: its command, and how many bytes it takes with its byte 10
pub record Step : Type 0 where
  pub command : Command
  pub len : ℕ

abbrev pub numbered : (ℕ → Command) → Result Field NumberFault → Result Step NumberFault
numbered make (Ok f) = Ok (record { command = make f.number; len = f.len + 2 })
numbered make (Err fault) = Err fault

-- a letter that byte 10 closes; where a space does, a field is surplus
abbrev pub alone : Command → ℕ → Result Step NumberFault
alone command close = if close == 10 then Ok (record { command = command; len = 2 }) else Err (not_in_format 2)

-- a line by its letter, the letter's close, and what follows: A, W, S or T
abbrev pub by_letter : ℕ → ℕ → ℕ → List ℕ → Result Step NumberFault
by_letter tickets letter close rest =
    if letter == 65 then numbered Admit (number_after (ticket_of tickets) close rest)
    else if letter == 87 then numbered Withdraw (number_after any_number close rest)
    else if letter == 83 then alone Serve close
    else if letter == 84 then alone TakeBack close
    else Err (not_in_format 0)

-- the line at the front of the bytes: its first field is one byte and a close
abbrev pub command_line : ℕ → List ℕ → Result Step NumberFault
command_line tickets [] = Err (not_in_format 0)
command_line tickets (letter ∷ []) = Err (not_in_format 0)
command_line tickets (letter ∷ (close ∷ rest)) = if closes close then by_letter tickets letter close rest else Err (not_in_format 0)

-- puts a command before those that were read
abbrev pub before : Command → Result (List Command) LineFault → Result (List Command) LineFault
before c (Ok cs) = Ok (c ∷ cs)
before c (Err fault) = Err fault

-- the commands from `line` on, of at most k lines
abbrev pub commands : ℕ → ℕ → ℕ → List ℕ → Result (List Command) LineFault
commands tickets zero line bs = Ok []
commands tickets (suc k) line [] = Ok []
commands tickets (suc k) line (b ∷ bs) =
    and_then (on_line line (command_line tickets (b ∷ bs))) (λ s. before s.command (commands tickets k (line + 1) (drop s.len (b ∷ bs))))

-- a line takes a byte at least, so there are no more lines than bytes
abbrev pub script : ℕ → List ℕ → Result (List Command) LineFault
script tickets text = commands tickets (length text) 1 text

-- the commands of a script that is accepted
abbrev pub accepted_commands : Result (List Command) LineFault → List Command
accepted_commands (Ok cs) = cs
accepted_commands (Err fault) = []

abbrev pub left_of : ℕ → List ℕ → List Command
left_of tickets text = accepted_commands (script tickets text)

-- how a script is refused, if it is: it is too long, or a field is at fault
abbrev pub fault_in : Result (List Command) LineFault → Option Refused
fault_in (Ok cs) = None
fault_in (Err fault) = Some (refused_by (At (record { section = section_number Script; line = fault })))

abbrev pub script_refusal : ℕ → List ℕ → Option Refused
script_refusal tickets text = if nat_lt 16384 (length text) then Some (record { number = 14; place = None }) else fault_in (script tickets text)
