-- Tests of order that say the same, and tests of slots.
use Rattle.std.specs.Prelude.{◌≡◌, ℕ, suc, ◌+◌, ◌<◌, ◌≤◌, Bool, false, ◌&&◌, leb, ◌==◌, nat_le, nat_lt}
use Rattle.std.proofs.Common.{sym, ◌∙◌, ⊎_elim, arith}
use Rattle.std.proofs.lemmas.Bool.{cases_lt, cases_order, le-leb, lt-leb, lt-ltb, or_parts, eqb-false}
use Rattle.bank.specs.Interval.{within, edge_of}

pub leb_same : (a b c d : ℕ) → (a ≤ b → c ≤ d) → (c ≤ d → a ≤ b) → nat_le a b ≡ nat_le c d
leb_same a b c d f g = ⊎_elim
    (λ h. lt-leb a b h ∙ sym (lt-leb c d (⊎_elim (λ x. x) (λ x. let y = g x in absurd (omega arith)) (cases_lt d c))))
    (λ h. le-leb a b h ∙ sym (le-leb c d (f h)))
    (cases_lt b a)

-- one slot on, away from the ends of an interval
pub within_stays : (from to t : ℕ) → edge_of from to (t + 1) ≡ false → within from to (t + 1) ≡ within from to t
within_stays from to t h =
    let (a, b) = or_parts (t + 1 == from) (t + 1 == to) h in
    let x = eqb-false (t + 1) from a in
    let y = eqb-false (t + 1) to b in
    let begun : leb from (t + 1) ≡ leb from t = leb_same from (t + 1) from t
    (λ l. ⊎_elim (λ q. absurd (x q)) (⊎_elim (λ q. absurd (omega arith)) (λ q. omega arith)) (cases_order (t + 1) from)) (λ l. omega arith) in
    let ended : leb (suc (t + 1)) to ≡ leb (suc t) to = leb_same (suc (t + 1)) to (suc t) to
    (λ l. omega arith) (λ l. ⊎_elim (λ q. absurd (y q)) (⊎_elim (λ q. omega arith) (λ q. absurd (omega arith))) (cases_order (t + 1) to)) in
    rw (begun, ended)

-- a slot from 1 to n - 1
pub inner : (t n : ℕ) (e : Bool) → 0 < t → t < n → ((nat_lt 0 t && nat_lt t n) && e) ≡ e
inner t n e low high = rw (lt-ltb 0 t low, lt-ltb t n high)
