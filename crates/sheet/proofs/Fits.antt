-- Numbers beside their limits.
use Rattle.std.proofs.Common.{◌≡◌, List, [], ◌∷◌, ◌&&◌, ℕ, length, refl, ap, arith}
use Rattle.std.specs.List.{list_all, zip}
use Rattle.text.specs.declared.limits.Limits.{Limits}
use Rattle.text.specs.Field.{within}
use Rattle.sheet.specs.Fields.{fits}

-- each number stands within the limits beside it
pub fits_beside : (ls : List Limits) (ns : List ℕ) → length ns ≡ length ls → list_all (λ p. within p.0 p.1) (zip ls ns) ≡ fits ls ns
fits_beside [] [] e = refl
fits_beside [] (n ∷ ns) e = absurd (omega arith)
fits_beside (l ∷ ls) [] e = absurd (omega arith)
fits_beside (l ∷ ls) (n ∷ ns) e = ap (λ b. within l n && b) (fits_beside ls ns (omega arith))
