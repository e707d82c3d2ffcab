-- Slots by their remainder in a period.
use Rattle.std.proofs.Common.{◌≡◌, ℕ, ◌+◌, ◌-◌, ◌*◌, ◌/◌, ◌%◌, ◌<◌, ◌≤◌, min, ◌||◌, eqb, sym, ◌∙◌, ⊎_elim, mul-le-mul_right, mod-lt, add-mul, div-add-mod', arith}
use native.Mathlib.Nat.{add-mod_right}
use lib.Arith.{digits_mod}
use Rattle.std.proofs.lemmas.Bool.{cases_lt, eq-eqb, ne_eqb, lt-ltb}
use Rattle.std.proofs.lemmas.Bool.Decides.{nat_tests}
use Rattle.cooldown.specs.Cooldown.{rest_edge}
use Rattle.bank.specs.First.{first_above}
use Rattle.bank.proofs.Firsts.{first_is, first_none, first_or, first_same}

-- two numbers less than a period apart have different remainders
apart : (a b p : ℕ) → a < b → b < a + p → a % p ≡ b % p → ⊥
apart a b p low high e = ⊎_elim
    (λ l. let m : (a / p + 1) * p ≤ b / p * p = mul-le-mul_right p (omega arith) in
    omega (arith, div-add-mod' a p, div-add-mod' b p, add-mul (a / p) 1 p))
    (λ l. let m : b / p * p ≤ a / p * p = mul-le-mul_right p l in
    omega (arith, div-add-mod' a p, div-add-mod' b p))
    (cases_lt (a / p) (b / p))

-- the first number above t with a remainder comes within a period
first_remainder : (t p r end next : ℕ) → t < next → next ≤ t + p → next % p ≡ r →
    min next end ≡ first_above (λ s. eqb (s % p) r) end t
first_remainder t p r end next low high e =
    first_is (λ s. eqb (s % p) r) end t (min next end) (record {
      bounded = omega arith;
      passes = λ h. let n : min next end ≡ next = omega arith in rw n (eq-eqb (next % p) r e);
      least = λ h. omega arith;
      between = λ s h k. ne_eqb (s % p) r (λ q. apart s next p (omega arith) (omega arith) (q ∙ sym e));
    })

-- in the period of t, else in the next one
pub remainder_here : (t p r end : ℕ) → r < p → t < t / p * p + r →
    min (t / p * p + r) end ≡ first_above (λ s. eqb (s % p) r) end t
remainder_here t p r end h low =
    first_remainder t p r end (t / p * p + r) low (omega (arith, div-add-mod' t p)) (digits_mod (t / p) h)

pub remainder_next : (t p r end : ℕ) → r < p → t / p * p + r ≤ t →
    min (t / p * p + r + p) end ≡ first_above (λ s. eqb (s % p) r) end t
remainder_next t p r end h low =
    let d = div-add-mod' t p in
    let l = mod-lt t (pos h) in
    first_remainder t p r end (t / p * p + r + p) (omega arith) (omega arith)
    (add-mod_right (t / p * p + r) p ∙ digits_mod (t / p) h)
  where
    pos : r < p → 0 < p
    pos h = omega arith

-- where no rest begins or ends
pub rest_none : (p q end t : ℕ) → (0 < q → q < p → t < end → ⊥) → end ≡ first_above (rest_edge p q) end t
rest_none p q end t none = first_none (rest_edge p q) end t (λ s h k. grind (arith, nat_tests, none))

-- the first begin or end of a rest
pub rest_first : (p q end t a b r : ℕ) → 0 < q → q < p → a ≡ first_above (λ s. eqb (s % p) 0) end t →
    b ≡ first_above (λ s. eqb (s % p) (p - q)) end t → r ≡ min a b → r ≡ first_above (rest_edge p q) end t
rest_first p q end t a b r low high ea eb e =
    let both = first_or (λ s. eqb (s % p) 0) (λ s. eqb (s % p) (p - q)) end t in
    let same = first_same (λ s. eqb (s % p) 0 || eqb (s % p) (p - q)) (rest_edge p q) end t
    (λ s h k. rw (lt-ltb 0 q low, lt-ltb q p high)) in
    e ∙ rw (ea, eb) both ∙ same
