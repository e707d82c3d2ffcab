-- A field under its limits, and its fault in its line.
use Rattle.std.specs.Prelude.{ℕ, ◌+◌, Bool, ◌&&◌, List, Some, None, Ok, Err, Option, Result, ◌==◌, if◌then◌else◌, nat_le}
use Rattle.text.specs.declared.LineFault.{LineFault}
use Rattle.text.specs.declared.NumberFault.{NumberFault}
use Rattle.text.specs.declared.limits.Limits.{Limits}
use Rattle.text.specs.declared.number.Field.{Field}
use Rattle.text.specs.Faults.{not_in_format}
use Rattle.text.specs.Number.{numeral}

abbrev pub within : Limits → ℕ → Bool
within l n = nat_le l.low n && nat_le n l.high

-- a field that was read: its number has to lie within the limits, and then its close has to be the one due,
-- or else the next field, at fault, is missing or surplus
abbrev pub judged : Limits → ℕ → ℕ → Option Field → Result Field NumberFault
judged l close byte None = Err (not_in_format byte)
judged l close byte (Some f) =
    if within l f.number then (if f.close == close then Ok f else Err (not_in_format (byte + f.len)))
    else Err (record { refusal = l.refusal; byte = byte })

-- the field at the front of the bytes, which begins at `byte` of its line
abbrev pub field : Limits → ℕ → ℕ → List ℕ → Result Field NumberFault
field l close byte bs = judged l close byte (numeral 0 0 bs)

-- goes on with what was read, or ends with the fault
abbrev pub and_then : {X Y F : Type 0} → Result X F → (X → Result Y F) → Result Y F
and_then (Ok x) next = next x
and_then (Err fault) next = Err fault

-- a number's fault in its line
abbrev pub on_line : {X : Type 0} → ℕ → Result X NumberFault → Result X LineFault
on_line line (Ok x) = Ok x
on_line line (Err fault) = Err (record { line = line; number = fault })
