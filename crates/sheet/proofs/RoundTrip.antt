-- What is written is read back, and what is read is written back.
use Rattle.std.proofs.Common.{◌≡◌, ℕ, zero, suc, ◌+◌, ◌-◌, ◌*◌, ◌^◌, ◌<◌, ◌≤◌, true, false, ◌&&◌, ◌||◌, eqb, ltb, leb, List, [], ◌∷◌, ◌++◌, length, get_or, drop, Some, None, decimal, sym, refl, ap, ◌∙◌, subst, ⊎_elim, append_assoc, arith, length-append, rules}
use Rattle.std.proofs.lemmas.Fmt.{decimal_digit, decimal_nonempty, first_decimal, digits_decimal, digits_value-decimal, decimal-digits_value}
use Rattle.std.proofs.lemmas.List.{drop_at}
use Rattle.std.proofs.lemmas.Option.{none-some}
use Rattle.std.proofs.lemmas.Str.Parse.{IsNumeralModel, numerals_by_fold, digits_value_short}
use Rattle.std.proofs.lemmas.Bool.{cond-true, cond-false, ne_eqb, eqb-true, le-leb, leb-true, lt-ltb, ltb-true, and_from, and_parts, or_from, or_right, or_cases, cases_Bool, both_ways}
use Rattle.std.specs.Char.{is_ascii_digit}
use Rattle.std.specs.Str.{all_ascii_digits}
use Rattle.text.specs.declared.number.Field.{Field}
use Rattle.text.specs.Number.{closes, continues, numeral}
use Rattle.text.proofs.Numerals.{numeral_closed, numeral_more, digit_from}
use Rattle.sheet.proofs.Digits.{six_digits}

abbrev pub read_on : ℕ → List ℕ → ℕ
read_on n [] = n
read_on n (c ∷ cs) = read_on (n * 10 + (c - 48)) cs

pub own : IsNumeralModel (λ ds. all_ascii_digits ds ≡ true) (read_on 0)
own = numerals_by_fold _ (search rules) read_on (search rules)

digit_range : (b : ℕ) → is_ascii_digit b ≡ true → (48 ≤ b) × (b ≤ 57)
digit_range b e = let p = and_parts _ _ e in (leb-true 48 b p.0, leb-true b 57 p.1)

digit_open : (b : ℕ) → 48 ≤ b → closes b ≡ false
digit_open b h = or_from (eqb b 32) (eqb b 10) (ne_eqb b 32 (omega arith)) (ne_eqb b 10 (omega arith))

continues_by : (k v b : ℕ) → 48 ≤ b → b ≤ 57 → k < 6 → (eqb k 0 || ltb 0 v) ≡ true → continues k v b ≡ true
continues_by k v b l h f z = and_from _ _ (le-leb 48 b l) (and_from _ _ (le-leb b 57 h) (and_from _ _ (lt-ltb k 6 f) z))

-- digits after a number that is not 0 are read whole
reads_on : (k v c : ℕ) (ds rest : List ℕ) → closes c ≡ true → 0 < k → 0 < v → k + length ds ≤ 6 → all_ascii_digits ds ≡ true → numeral k v (ds ++ c ∷ rest) ≡ Some (record { number = read_on v ds; len = k + length ds + 1; close = c })
reads_on k v c [] rest close some pos few all =
    numeral_closed k v c rest close (omega arith) ∙ ap (λ n. Some (record { number = v; len = n; close = c })) (omega arith)
reads_on k v c (d ∷ ds) rest close some pos few all =
    let p = and_parts _ _ all in
    let q = digit_range d p.0 in
    numeral_more k v d (ds ++ c ∷ rest) (digit_open d q.0) (continues_by k v d q.0 q.1 (omega arith) (or_right (eqb k 0) (ltb 0 v) (lt-ltb 0 v pos)))
    ∙ reads_on (k + 1) (v * 10 + (d - 48)) c ds rest close (omega arith) (omega arith) (omega arith) p.1
    ∙ ap (λ n. Some (record { number = read_on (v * 10 + (d - 48)) ds; len = n; close = c })) (omega arith)

reads_all : (c : ℕ) (ds rest : List ℕ) → closes c ≡ true → 0 < length ds → length ds ≤ 6 → 48 < get_or ds 0 0 → all_ascii_digits ds ≡ true → numeral 0 0 (ds ++ c ∷ rest) ≡ Some (record { number = read_on 0 ds; len = length ds + 1; close = c })
reads_all c [] rest close some few lead all = absurd (omega arith)
reads_all c (d ∷ ds) rest close some few lead all =
    let p = and_parts _ _ all in
    let q = digit_range d p.0 in
    numeral_more 0 0 d (ds ++ c ∷ rest) (digit_open d q.0) (continues_by 0 0 d q.0 q.1 (omega arith) refl)
    ∙ reads_on 1 (0 * 10 + (d - 48)) c ds rest close (omega arith) (omega arith) (omega arith) p.1
    ∙ ap (λ n. Some (record { number = read_on (0 * 10 + (d - 48)) ds; len = n; close = c })) (omega arith)

-- a number that was written is read back
pub number_read : (n c : ℕ) (rest : List ℕ) → n < 10 ^ 6 → closes c ≡ true → numeral 0 0 (decimal n ++ c ∷ rest) ≡ Some (record { number = n; len = length (decimal n) + 1; close = c })
number_read zero c rest small close =
    subst (λ ds. numeral 0 0 (ds ++ c ∷ rest) ≡ Some (record { number = 0; len = length ds + 1; close = c })) (sym (decimal_digit 0 (omega arith)))
    (numeral_more 0 0 48 (c ∷ rest) refl refl ∙ numeral_closed 1 0 c rest close (omega arith))
number_read (suc n) c rest small close =
    reads_all c (decimal (suc n)) rest close (decimal_nonempty (suc n) (omega arith)) (six_digits (suc n) small) (first_decimal (suc n) (omega arith) (omega arith)) (digits_decimal own (suc n) (omega arith))
    ∙ ap (λ m. Some (record { number = m; len = length (decimal (suc n)) + 1; close = c })) (digits_value-decimal own (suc n) (omega arith))

-- what a field that was read says of its bytes
record Spelt (k v : ℕ) (bs : List ℕ) (f : Field) : Type 0 where
  pub ds : List ℕ
  pub rest : List ℕ
  pub split : bs ≡ ds ++ f.close ∷ rest
  pub digits : all_ascii_digits ds ≡ true
  pub value : f.number ≡ read_on v ds
  pub long : f.len ≡ k + length ds + 1
  pub closed : closes f.close ≡ true
  pub few : 0 < length ds → k + length ds ≤ 6
  pub zeros : 0 < k → v ≡ 0 → length ds ≡ 0
  pub lead : k ≡ 0 → v ≡ 0 → get_or ds 0 0 ≡ 48 → length ds ≡ 1
  pub some : 0 < k + length ds

not_some : {X : Type 0} (f : X) → None ≡ Some f → ⊥
not_some f e = none-some f e

spelt_closed : (k v b : ℕ) (bs : List ℕ) (f : Field) → closes b ≡ true → 0 < k → Some (record { number = v; len = k + 1; close = b }) ≡ Some f → Spelt k v (b ∷ bs) f
spelt_closed k v b bs f h s e =
    let same : f ≡ record { number = v; len = k + 1; close = b } = cc in
    subst (Spelt k v (b ∷ bs)) (sym same) (record {
      ds = [];
      rest = bs;
      split = refl;
      digits = refl;
      value = refl;
      long = omega arith;
      closed = h;
      few = λ z. absurd (omega arith);
      zeros = λ _ _. refl;
      lead = λ z. absurd (omega arith);
      some = omega arith;
    })

-- no digit follows a leading zero
leads : (k v b : ℕ) → continues k v b ≡ true → 0 < k → v ≡ 0 → ⊥
leads k v b e s z =
    let p = (and_parts (leb 48 b) (leb b 57 && (ltb k 6 && (eqb k 0 || ltb 0 v))) e).1 in
    let q = (and_parts (leb b 57) (ltb k 6 && (eqb k 0 || ltb 0 v)) p).1 in
    let r = (and_parts (ltb k 6) (eqb k 0 || ltb 0 v) q).1 in
    ⊎_elim (λ h. omega (arith, eqb-true k 0 h)) (λ h. omega (arith, ltb-true 0 v h)) (or_cases (eqb k 0) (ltb 0 v) r)

spelt_more : (k v b : ℕ) (bs : List ℕ) (f : Field) → continues k v b ≡ true → Spelt (k + 1) (v * 10 + (b - 48)) bs f → Spelt k v (b ∷ bs) f
spelt_more k v b bs f e r =
    let d = digit_from k v b e in
    record {
      ds = b ∷ r.ds;
      rest = r.rest;
      split = ap (λ t. b ∷ t) r.split;
      digits = and_from _ _ (and_from _ _ (le-leb 48 b d.low) (le-leb b 57 d.high)) r.digits;
      value = r.value;
      long = r.long ∙ (omega arith);
      closed = r.closed;
      few = λ _. fits r.ds d.few r.few;
      zeros = λ s z. absurd (leads k v b e s z);
      lead = λ z w h. ap suc (r.zeros (omega arith) (omega arith));
      some = omega arith;
    }
  where
    fits : (ds : List ℕ) → k < 6 → (0 < length ds → k + 1 + length ds ≤ 6) → k + suc (length ds) ≤ 6
    fits [] h g = omega arith
    fits (x ∷ xs) h g = omega (arith, g (omega arith))

spelt : (k v : ℕ) (bs : List ℕ) (f : Field) → numeral k v bs ≡ Some f → Spelt k v bs f
spelt k v [] f e = absurd (not_some f e)
spelt k v (b ∷ bs) f e =
    let more = spelt (k + 1) (v * 10 + (b - 48)) bs f in
    ⊎_elim
    (λ h. let inner = sym (cond-true (closes b) _ _ h) ∙ e in
    ⊎_elim
    (λ z. absurd (not_some f (sym (cond-true (eqb k 0) _ _ z) ∙ inner)))
    (λ z. spelt_closed k v b bs f h (positive k z) (sym (cond-false (eqb k 0) _ _ z) ∙ inner))
    (cases_Bool (eqb k 0)))
    (λ h. let inner = sym (cond-false (closes b) _ _ h) ∙ e in
    ⊎_elim
    (λ z. spelt_more k v b bs f z (more (sym (cond-true (continues k v b) _ _ z) ∙ inner)))
    (λ z. absurd (not_some f (sym (cond-false (continues k v b) _ _ z) ∙ inner)))
    (cases_Bool (continues k v b)))
    (cases_Bool (closes b))
  where
    positive : (k : ℕ) → eqb k 0 ≡ false → 0 < k
    positive zero e = absurd (both_ways true e refl)
    positive (suc k) e = omega arith

-- a field that was read is the number as it is written, and its close
pub record Written (bs : List ℕ) (f : Field) : Type 0 where
  pub small : f.number < 10 ^ 6
  pub closed : closes f.close ≡ true
  pub long : f.len ≡ length (decimal f.number) + 1
  pub split : bs ≡ decimal f.number ++ f.close ∷ drop f.len bs

pub number_written : (bs : List ℕ) (f : Field) → numeral 0 0 bs ≡ Some f → Written bs f
number_written bs f e =
    let r = spelt 0 0 bs f e in
    let below = digits_value_short own r.ds 6 r.digits (omega (arith, r.few (omega arith))) in
    let text : decimal f.number ≡ r.ds = ap decimal r.value ∙ decimal-digits_value own r.ds r.digits (omega (arith, r.some)) (r.lead refl refl) (omega arith) in
    let long : f.len ≡ length r.ds + 1 = r.long ∙ (omega arith) in
    let after : drop f.len bs ≡ r.rest = ap (λ n. drop n bs) long ∙ ap (drop (length r.ds + 1)) (r.split ∙ sym (append_assoc r.ds (f.close ∷ []) r.rest)) ∙ drop_at (r.ds ++ f.close ∷ []) r.rest (length r.ds + 1) (length-append r.ds (f.close ∷ [])) in
    record {
      small = omega (arith, below, r.value);
      closed = r.closed;
      long = long ∙ ap (λ t. length t + 1) (sym text);
      split = r.split ∙ (λ i. sym text i ++ f.close ∷ sym after i);
    }
