-- One number in the text.
use Rattle.std.specs.Prelude.{ℕ, ◌+◌, ◌-◌, ◌*◌, Bool, ◌&&◌, ◌||◌, List, [], ◌∷◌, Some, None, Option, ◌==◌, if◌then◌else◌, nat_le, nat_lt}
use Rattle.text.specs.declared.number.Field.{Field}

-- a space or a line's end closes a field
abbrev pub closes : ℕ → Bool
closes b = b == 32 || b == 10

-- byte b is one more digit after k digits of value v: there are at most six, and none follows a leading zero
abbrev pub continues : ℕ → ℕ → ℕ → Bool
continues k v b = nat_le 48 b && (nat_le b 57 && (nat_lt k 6 && (k == 0 || nat_lt 0 v)))

-- the field that k digits of value v begin and the bytes go on with; none where it is at fault
abbrev pub numeral : ℕ → ℕ → List ℕ → Option Field
numeral k v [] = None
numeral k v (b ∷ bs) =
    if closes b then (if k == 0 then None else Some (record { number = v; len = k + 1; close = b }))
    else if continues k v b then numeral (k + 1) (v * 10 + (b - 48)) bs
    else None
