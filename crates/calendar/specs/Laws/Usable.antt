-- The list of usable cores: its length, its places, and how it grows with the level.
use Rattle.std.specs.Prelude.{◌≡◌, ℕ, zero, suc, ◌+◌, ◌-◌, ◌<◌, ◌≤◌, Bool, true, false, cond, ◌⊎◌, List, [], ◌∷◌, ◌++◌, length, is_some, Some, None, ◌≢◌, nat_lt, refl}
use Rattle.std.proofs.Common.{sym, ap, subst, ◌∙◌, inl, inr, ⊎_elim, append-nil, arith, add-zero, add-suc, add-one, length-append}
use Rattle.std.specs.List.{slice_get}
use Rattle.std.proofs.lemmas.Bool.{cases_Bool, cond-true, cond-false, le-ltb, lt-ltb}
use Rattle.calendar.specs.Cores.{usable}
use Rattle.bank.specs.Laws.Tests.{leb_same}

-- what stands at a place of a list

same_test : (i n : ℕ) → nat_lt i n ≡ nat_lt (suc i) (suc n)
same_test i n = leb_same (suc i) n (suc (suc i)) (suc n) (λ h. omega arith) (λ h. omega arith)

pub nth_has : {X : Type 0} (xs : List X) (i : ℕ) → is_some (slice_get xs i) ≡ nat_lt i (length xs)
nth_has [] i = sym (le-ltb i 0 (omega arith))
nth_has (x ∷ xs) zero = sym (lt-ltb 0 (length (x ∷ xs)) (omega arith))
nth_has (x ∷ xs) (suc i) = nth_has xs i ∙ same_test i (length xs)

pub none_some : {X : Type 0} (x : X) → None ≢ Some x
none_some x e = let z : ◌≡◌ {A = ℕ} 0 1 = cc in omega arith

nth_front : {X : Type 0} (xs ys : List X) (i : ℕ) (c : X) → slice_get xs i ≡ Some c → slice_get (xs ++ ys) i ≡ Some c
nth_front [] ys i c e = absurd (none_some c e)
nth_front (x ∷ xs) ys zero c e = e
nth_front (x ∷ xs) ys (suc i) c e = nth_front xs ys i c e

nth_end : {X : Type 0} (xs : List X) (x : X) → slice_get (xs ++ x ∷ []) (length xs) ≡ Some x
nth_end [] x = refl
nth_end (y ∷ ys) x = nth_end ys x

nth_push : {X : Type 0} (xs : List X) (x : X) (i : ℕ) (c : X) → slice_get (xs ++ x ∷ []) i ≡ Some c → (slice_get xs i ≡ Some c) ⊎ ((i ≡ length xs) × (c ≡ x))
nth_push [] x zero c e = inr (refl, cc)
nth_push [] x (suc i) c e = absurd (none_some c e)
nth_push (y ∷ ys) x zero c e = inl e
nth_push (y ∷ ys) x (suc i) c e = ⊎_elim inl (λ h. inr (ap suc h.0, h.1)) (nth_push ys x i c e)

-- cores that are out by two tests that agree
pub usable_same : (p q : ℕ → Bool) (k : ℕ) → ((c : ℕ) → c < k → p c ≡ q c) → usable p k ≡ usable q k
usable_same p q zero same = refl
usable_same p q (suc k) same = rw (usable_same p q k (λ c h. same c (omega arith)), same k (omega arith))

module _ (out : ℕ → Bool) where
  -- one core more
  pub usable_out : (k : ℕ) → out k ≡ true → usable out (k + 1) ≡ usable out k
  usable_out k h = ap (usable out) (add-one k) ∙ ap (λ xs. usable out k ++ xs) (cond-true (out k) [] (k ∷ []) h) ∙ append-nil (usable out k)

  pub usable_in : (k : ℕ) → out k ≡ false → usable out (k + 1) ≡ usable out k ++ k ∷ []
  usable_in k h = ap (usable out) (add-one k) ∙ ap (λ xs. usable out k ++ xs) (cond-false (out k) [] (k ∷ []) h)

  -- what holds of no core, and still holds with one core more, holds at every level
  by_cores : (P : ℕ → List ℕ → Type 0) → P 0 [] → ((k : ℕ) (xs : List ℕ) → P k xs → P (k + 1) xs) →
      ((k : ℕ) (xs : List ℕ) → P k xs → P (k + 1) (xs ++ k ∷ [])) → (k : ℕ) → P k (usable out k)
  by_cores P start skip push zero = start
  by_cores P start skip push (suc k) = more (by_cores P start skip push k) (cases_Bool (out k))
    where
      more : P k (usable out k) → (out k ≡ true) ⊎ (out k ≡ false) → P (suc k) (usable out (suc k))
      more h (inl e) = subst (λ (n : ℕ). P n (usable out n)) (add-one k) (rw (usable_out k e) (skip k (usable out k) h))
      more h (inr e) = subst (λ (n : ℕ). P n (usable out n)) (add-one k) (rw (usable_in k e) (push k (usable out k) h))

  pub usable_length : (k : ℕ) → length (usable out k) ≤ k
  usable_length = by_cores (λ k xs. length xs ≤ k) (omega arith) (λ k xs h. omega arith)
      (λ k xs h. omega (arith, length-append xs (k ∷ [])))

  pub usable_below : (k i c : ℕ) → slice_get (usable out k) i ≡ Some c → c < k
  usable_below = by_cores (λ k xs. (i c : ℕ) → slice_get xs i ≡ Some c → c < k)
      (λ i c e. absurd (none_some c e))
      (λ k xs h i c e. let l = h i c e in omega arith)
      (λ k xs h i c e. ⊎_elim (λ a. let l = h i c a in omega arith) (λ a. let q = a.1 in omega arith) (nth_push xs k i c e))

  pub usable_distinct : (k : ℕ) → ((i c : ℕ) → slice_get (usable out k) i ≡ Some c → c < k) × ((i j c : ℕ) → slice_get (usable out k) i ≡ Some c → slice_get (usable out k) j ≡ Some c → i ≡ j)
  usable_distinct = by_cores
      (λ k xs. ((i c : ℕ) → slice_get xs i ≡ Some c → c < k) × ((i j c : ℕ) → slice_get xs i ≡ Some c → slice_get xs j ≡ Some c → i ≡ j))
      (λ i c e. absurd (none_some c e), λ i j c e. absurd (none_some c e))
      (λ k xs h. (λ i c e. let l = h.0 i c e in omega arith, h.1))
      (λ k xs h. (
        λ i c e. ⊎_elim (λ a. let l = h.0 i c a in omega arith) (λ a. let q = a.1 in omega arith) (nth_push xs k i c e),
        λ i j c e f. ⊎_elim
            (λ a. ⊎_elim (λ b. h.1 i j c a b) (λ b. let l = h.0 i c a in let q = b.1 in absurd (omega arith)) (nth_push xs k j c f))
            (λ a. ⊎_elim (λ b. let l = h.0 j c b in let q = a.1 in absurd (omega arith)) (λ b. a.0 ∙ sym b.0) (nth_push xs k j c f))
            (nth_push xs k i c e),
      ))

  pub length_in : (k : ℕ) → out k ≡ false → length (usable out (k + 1)) ≡ length (usable out k) + 1
  length_in k h = ap length (usable_in k h) ∙ length-append (usable out k) (k ∷ [])

  pub length_out : (k : ℕ) → out k ≡ true → length (usable out (k + 1)) ≡ length (usable out k)
  length_out k h = ap length (usable_out k h)

  -- a core keeps its lane as more cores come
  usable_keeps : (k d i c : ℕ) → slice_get (usable out k) i ≡ Some c → slice_get (usable out (k + d)) i ≡ Some c
  usable_keeps k zero i c e = rw (add-zero k) e
  usable_keeps k (suc d) i c e = rw (add-suc k d) (nth_front (usable out (k + d)) _ i c (usable_keeps k d i c e))

  pub usable_raises : (k : ℕ) → length (usable out k) ≤ length (usable out (k + 1))
  usable_raises k = rw (add-one k) (omega (arith, length-append (usable out k) (cond (out k) [] (k ∷ []))))

  -- the core that the next lane has
  usable_next : (k n : ℕ) → k < n → out k ≡ false → slice_get (usable out n) (length (usable out k)) ≡ Some k
  usable_next k n h e =
      let m : k + 1 + (n - (k + 1)) ≡ n = omega arith in
      let here : slice_get (usable out (k + 1)) (length (usable out k)) ≡ Some k = rw (usable_in k e) (nth_end (usable out k) k) in
      rw m at (usable_keeps (k + 1) (n - (k + 1)) (length (usable out k)) k here)

  -- a lane has the core with which the count of usable cores passes it
  pub lane_core : (k n lane : ℕ) → k < n → length (usable out k) ≤ lane → lane < length (usable out (k + 1)) → slice_get (usable out n) lane ≡ Some k
  lane_core k n lane h low high = ⊎_elim
      (λ e. absurd (omega (arith, length_out k e)))
      (λ e. let at : lane ≡ length (usable out k) = omega (arith, length_in k e) in rw at (usable_next k n h e))
      (cases_Bool (out k))
