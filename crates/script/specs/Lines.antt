-- A line that the code reads, beside the line that the text has.
use Rattle.std.specs.Prelude.{◌≡◌, ℕ, List, drop, Ok, Err, Result}
use Rattle.text.specs.declared.NumberFault.{NumberFault}
use Rattle.text.specs.declared.number.Field.{Field}
use Rattle.script.specs.Script.{Step}
use Rattle.script.specs.declared.Command.{Command}
use Rattle.script.specs.declared.line.Line.{Line}

-- a line's command and the text after it, or the fault
abbrev pub line_read : Result Line NumberFault → Result (Command × List ℕ) NumberFault
line_read (Ok line) = Ok (line.command, line.rest.now)
line_read (Err fault) = Err fault

-- the same, of the line at the front of a text
abbrev pub after_line : List ℕ → Result Step NumberFault → Result (Command × List ℕ) NumberFault
after_line text (Ok s) = Ok (s.command, drop s.len text)
after_line text (Err fault) = Err fault

-- the line that a field of the number makes, with what follows the field
abbrev pub NumberedAt : (ℕ → Command → Type 0) → List ℕ → Result Field NumberFault → Result Line NumberFault → Type 0
NumberedAt Made rest (Ok f) (Ok line) = (Made f.number line.command) × (line.rest.now ≡ drop f.len rest)
NumberedAt Made rest (Err fault) (Err fault') = fault ≡ fault'
NumberedAt Made rest f r = ⊥
