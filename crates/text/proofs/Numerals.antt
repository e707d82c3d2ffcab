-- One byte more of a number.
use Rattle.std.proofs.Common.{◌≡◌, ℕ, ◌+◌, ◌-◌, ◌*◌, ◌^◌, ◌<◌, ◌≤◌, true, false, eqb, List, ◌∷◌, drop, Some, ◌∙◌}
use Rattle.std.proofs.lemmas.Bool.{cond-true, cond-false, ne_eqb, and_parts, leb-true, ltb-true}
use Rattle.text.specs.Number.{closes, continues, numeral}

pub numeral_closed : (k v b : ℕ) (bs : List ℕ) → closes b ≡ true → (k ≡ 0 → ⊥) → numeral k v (b ∷ bs) ≡ Some (record { number = v; len = k + 1; close = b })
numeral_closed k v b bs h e = cond-true (closes b) _ _ h ∙ cond-false (eqb k 0) _ _ (ne_eqb k 0 e)

pub numeral_more : (k v b : ℕ) (bs : List ℕ) → closes b ≡ false → continues k v b ≡ true → numeral k v (b ∷ bs) ≡ numeral (k + 1) (v * 10 + (b - 48)) bs
numeral_more k v b bs h e = cond-false (closes b) _ _ h ∙ cond-true (continues k v b) _ _ e

-- what a further digit says
pub record Digit (k b : ℕ) : Type 0 where
  pub low : 48 ≤ b
  pub high : b ≤ 57
  pub few : k < 6

pub digit_from : (k v b : ℕ) → continues k v b ≡ true → Digit k b
digit_from k v b e =
    let p = and_parts _ _ e in
    let q = and_parts _ _ p.1 in
    let r = and_parts _ _ q.1 in
    record { low = leb-true 48 b p.0; high = leb-true b 57 q.0; few = ltb-true k 6 r.0 }

-- after k bytes of xs, digits of value v
pub record Sofar (xs : List ℕ) (k v : ℕ) : Type 0 where
  pub few : k ≤ 6
  pub small : v < 10 ^ k
  pub same : numeral k v (drop k xs) ≡ numeral 0 0 xs
