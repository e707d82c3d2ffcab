-- The cool-down keeps the bank rules.
use Rattle.std.specs.Prelude.{◌≡◌, ℕ, suc, ◌+◌, ◌-◌, ◌%◌, ◌<◌, ◌≤◌, min, Bool, true, false, cond, ◌⊎◌, ◌==◌}
use Rattle.std.proofs.Common.{sym, ap, ◌∙◌, inl, inr, ⊎_elim, mod-eq_of_lt, mod-lt, add-one, arith}
use Rattle.std.proofs.Math.Nat.{suc-mod, mod_self}
use Rattle.std.proofs.lemmas.Bool.{cases_lt, lt-ltb, or_parts, eqb-false}
use Rattle.cooldown.specs.Cooldown.{resting, rest_edge, cool_down, left_of}
use Rattle.bank.specs.Laws.Layers.{layered}
use Rattle.bank.specs.Laws.Tests.{leb_same}
use Rattle.bank.specs.Meaning.{Meaning, Rules}

-- the remainder starts anew or grows by one
next_remainder : (t p : ℕ) → 0 < p → ((t + 1) % p ≡ 0) ⊎ ((t + 1) % p ≡ t % p + 1)
next_remainder t p h = ⊎_elim
    (λ l. inr (step ∙ mod-eq_of_lt l ∙ sym (add-one (t % p))))
    (λ l. inl (step ∙ ap (λ x. x % p) (full l) ∙ mod_self p))
    (cases_lt (suc (t % p)) p)
  where
    step : (t + 1) % p ≡ suc (t % p) % p
    step = ap (λ x. x % p) (add-one t) ∙ suc-mod t p

    full : p ≤ suc (t % p) → suc (t % p) ≡ p
    full l = omega (arith, mod-lt t h)

-- no rest begins or ends at the next slot, so both slots are for rest or neither
resting_stays : (t p q : ℕ) → 0 < p → rest_edge p q (t + 1) ≡ false → resting p q (t + 1) ≡ resting p q t
resting_stays t p q h e = leb_same (p - q) ((t + 1) % p) (p - q) (t % p) (λ l. (split (cases_lt 0 q) (cases_lt q p) (next_remainder t p h)).0 l) (λ l. (split (cases_lt 0 q) (cases_lt q p) (next_remainder t p h)).1 l)
  where
    a : t % p < p
    a = mod-lt t h

    b : (t + 1) % p < p
    b = mod-lt (t + 1) h

    split : (0 < q) ⊎ (q ≤ 0) → (q < p) ⊎ (p ≤ q) → ((t + 1) % p ≡ 0) ⊎ ((t + 1) % p ≡ t % p + 1) →
        (p - q ≤ (t + 1) % p → p - q ≤ t % p) × (p - q ≤ t % p → p - q ≤ (t + 1) % p)
    split (inr x) y n = (λ l. absurd (omega (arith, a, b)), λ l. absurd (omega (arith, a, b)))
    split (inl x) (inr y) n = (λ l. omega arith, λ l. omega arith)
    split (inl x) (inl y) n =
        let (u, v) = or_parts ((t + 1) % p == 0) ((t + 1) % p == p - q) (rw (lt-ltb 0 q x, lt-ltb q p y) at e) in
        let nz = eqb-false ((t + 1) % p) 0 u in
        let ne = eqb-false ((t + 1) % p) (p - q) v in
        ⊎_elim (λ z. absurd (nz z)) (λ z. (λ l. ⊎_elim (λ m. omega arith) (λ m. absurd (ne (omega arith))) (cases_lt (p - q) ((t + 1) % p)), λ l. omega arith)) n

cut_below : (b : Bool) (n limit : ℕ) → cond b (min n limit) n ≤ n
cut_below true n limit = omega arith
cut_below false n limit = omega arith

cut_raises : (b : Bool) (n m limit : ℕ) → n ≤ m → cond b (min n limit) n ≤ cond b (min m limit) m
cut_raises true n m limit h = omega arith
cut_raises false n m limit h = h

pub left_below : (p q limit t n : ℕ) → left_of p q limit t n ≤ n
left_below p q limit t n = cut_below (resting p q t) n limit

pub left_rises : (p q limit t n m : ℕ) → n ≤ m → left_of p q limit t n ≤ left_of p q limit t m
left_rises p q limit t n m h = cut_raises (resting p q t) n m limit h

pub left_stays : (p q limit : ℕ) → 0 < p → (t n : ℕ) → rest_edge p q (t + 1) ≡ false → left_of p q limit (t + 1) n ≡ left_of p q limit t n
left_stays p q limit h t n e = ap (λ b. cond b (min n limit) n) (resting_stays t p q h e)

pub cool_down_rules : (p q limit : ℕ) (m : Meaning) → 0 < p → Rules m → Rules (cool_down p q limit m)
cool_down_rules p q limit m h r = layered m (left_of p q limit) (rest_edge p q) r (left_below p q limit) (left_rises p q limit) (left_stays p q limit h)
