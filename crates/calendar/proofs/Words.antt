-- Words of bits: what `|` and `1 <<` make of the bits, and how many of the lowest are clear.
use Rattle.std.proofs.Common.{◌≡◌, ℕ, zero, suc, ◌+◌, ◌-◌, ◌*◌, ◌/◌, ◌%◌, ◌^◌, ◌<◌, max, ◌||◌, eqb, length, sym, refl, ap, ◌∙◌, ⊎_elim, add-zero, pow-suc, add-one, one-add, arith}
use native.Mathlib.Nat.{div-eq_of_lt, div_self}
use lib.Bits.{bit_or, or_step, or_shr}
use lib.Count.{ones, ones_cat, ones-ones}
use Rattle.std.proofs.lemmas.Nat.{pow_pos, pow-add, pow_below, shl-shr, mod-pow-add, mod-mul-add, mod_below}
use Rattle.std.proofs.lemmas.Bool.{cases_Bool, cases_order, eq-eqb, ne_eqb, eqb-true, eqb-false}
use Rattle.std.proofs.lemmas.Bool.Decides.{nat_tests}
use Rattle.calendar.specs.Cores.{bit, usable}
use Rattle.calendar.specs.Laws.Usable.{length_in, length_out}

-- the lowest bit of a disjunction
or_odd : (a b : ℕ) → bit_or a b % 2 ≡ max (a % 2) (b % 2)
or_odd a b =
    let p = mod_below a 2 (omega arith) in
    let q = mod_below b 2 (omega arith) in
    ap (λ n. n % 2) (or_step a b) ∙ mod-mul-add (bit_or (a / 2) (b / 2)) 2 (max (a % 2) (b % 2)) (omega arith)

max_set : (p q : ℕ) → p < 2 → q < 2 → eqb (max p q) 1 ≡ (eqb p 1 || eqb q 1)
max_set p q h k = grind (arith, nat_tests)

pub bit_of_or : (a b c : ℕ) → bit (bit_or a b) c ≡ (bit a c || bit b c)
bit_of_or a b c =
    ap (λ n. eqb (n % 2) 1) (or_shr a b c) ∙ ap (λ n. eqb n 1) (or_odd (a / 2 ^ c) (b / 2 ^ c)) ∙
    max_set (a / 2 ^ c % 2) (b / 2 ^ c % 2) (mod_below (a / 2 ^ c) 2 (omega arith)) (mod_below (b / 2 ^ c) 2 (omega arith))

-- a power of two has one bit
pub bit_power : (j c : ℕ) → bit (2 ^ j) c ≡ eqb j c
bit_power j c = ⊎_elim (λ e. rw e same) (⊎_elim low high) (cases_order j c)
  where
    same : bit (2 ^ c) c ≡ eqb c c
    same = ap (λ n. eqb (n % 2) 1) (div_self (pow_pos c)) ∙ sym (eq-eqb c c refl)

    low : j < c → bit (2 ^ j) c ≡ eqb j c
    low h = ap (λ n. eqb (n % 2) 1) (div-eq_of_lt (pow_below j c h)) ∙ sym (ne_eqb j c (λ e. omega arith))

    high : c < j → bit (2 ^ j) c ≡ eqb j c
    high h =
        let d = j - c - 1 in
        let far : j ≡ suc d + c = omega arith in
        let shifted : 2 ^ j / 2 ^ c ≡ 2 ^ d * 2 + 0 =
        ap (λ n. 2 ^ n / 2 ^ c) far ∙ ap (λ n. n / 2 ^ c) (pow-add 2 (suc d) c) ∙ shl-shr (2 ^ suc d) c ∙ pow-suc 2 d ∙ sym (add-zero (2 ^ d * 2)) in
        ap (λ n. eqb (n % 2) 1) shifted ∙ ap (λ n. eqb n 1) (mod-mul-add (2 ^ d) 2 0 (omega arith)) ∙ sym (ne_eqb j c (λ e. omega arith))

-- one bit more, counted
ones_more : (w k : ℕ) → ones (w % 2 ^ suc k) ≡ ones (w / 2 ^ k % 2) + ones (w % 2 ^ k)
ones_more w k =
    ap (λ n. ones (w % 2 ^ n)) (sym (one-add k)) ∙ ap ones (mod-pow-add w 1 k) ∙
    ones_cat k (w / 2 ^ k % 2) (w % 2 ^ k) (mod_below w (2 ^ k) (pow_pos k))

-- of the lowest k bits of a word, those set and those clear make k
pub ones_and_clear : (w k : ℕ) → ones (w % 2 ^ k) + length (usable (bit w) k) ≡ k
ones_and_clear w zero =
    let e : w % 1 ≡ 0 = omega (arith, mod_below w 1 (omega arith)) in
    ap (λ n. ones n + 0) e ∙ omega (arith, ones-ones 0)
ones_and_clear w (suc k) =
    let so_far = ones_and_clear w k in
    let more = ones_more w k in
    let small = mod_below (w / 2 ^ k) 2 (omega arith) in
    let level = ap (λ n. length (usable (bit w) n)) (add-one k) in
    ⊎_elim
    (λ e. let is = ap ones (eqb-true (w / 2 ^ k % 2) 1 e) in omega (arith, ones-ones 1, length_out (bit w) k e))
    (λ e. let clear = eqb-false (w / 2 ^ k % 2) 1 e in
    let none : w / 2 ^ k % 2 ≡ 0 = grind arith in
    let is = ap ones none in omega (arith, ones-ones 0, length_in (bit w) k e))
    (cases_Bool (bit w k))
