-- The cores that are not out of service.
use Rattle.std.specs.Prelude.{ℕ, zero, suc, ◌/◌, ◌%◌, ◌^◌, Bool, cond, List, [], ◌∷◌, ◌++◌, ◌==◌}

-- the cores below k that are not out, in rising order
abbrev pub usable : (ℕ → Bool) → ℕ → List ℕ
usable out zero = []
usable out (suc k) = usable out k ++ cond (out k) [] (k ∷ [])

-- bit c of a word is set
abbrev pub bit : ℕ → ℕ → Bool
bit w c = w / 2 ^ c % 2 == 1
