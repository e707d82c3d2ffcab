-- A list whose front a loop fills.
use Rattle.std.proofs.Common.{◌≡◌, ℕ, ◌+◌, ◌-◌, ◌<◌, ◌≤◌, min, cond, ltb, List, ◌++◌, length, drop, get_or, set, subst, sym, ap, ◌∙◌, ⊎_elim, arith, length-append, length-drop}
use Rattle.std.proofs.lemmas.List.{get_or_append_left, get_or-append_right, get_or-drop, get_or-set_same, get_or-set_other}
use Rattle.std.proofs.lemmas.Bool.{cases_eq, cases_lt, cond-true, cond-false, lt-ltb, le-ltb}
use Rattle.bench_banks.specs.Bench.{Answers}

module _ (P : ℕ → ℕ → Type 0) where
  -- the first n places hold answers to their numbers
  abbrev pub Filled : ℕ → List ℕ → Type 0
  Filled n xs = (k : ℕ) → k < n → P k (get_or xs k 0)

  pub filled_more : (n v : ℕ) (xs : List ℕ) → n < length xs → P n v → Filled n xs → Filled (n + 1) (set xs n v)
  filled_more n v xs inside is so_far k h = ⊎_elim here apart (cases_eq k n)
    where
      here : k ≡ n → P k (get_or (set xs n v) k 0)
      here e = rw e (subst (P n) (sym (get_or-set_same xs n v 0 inside)) is)

      apart : (k ≡ n → ⊥) → P k (get_or (set xs n v) k 0)
      apart ne = subst (P k) (sym (get_or-set_other xs n k v 0 ne)) (so_far k (grind arith))

-- the front is filled as far as the list goes, and an answer to a number is the value of f there
pub answers_all : (P : ℕ → ℕ → Type 0) (f : ℕ → ℕ) (count n : ℕ) (before front : List ℕ) → n ≡ min (length before) count → length front ≡ n → Filled P n front →
    ((k r : ℕ) → k < count → P k r → r ≡ f k) → Answers f count before (front ++ drop n before)
answers_all P f count n before front is long filled value = record {
  long = length-append front (drop n before) ∙ omega (arith, length-drop n before);
  holds = λ k h. ⊎_elim (asked k h) (rest k h) (cases_lt k count);
}
  where
    asked : (k : ℕ) → k < length before → k < count → get_or (front ++ drop n before) k 0 ≡ cond (ltb k count) (f k) (get_or before k 0)
    asked k h few =
        get_or_append_left front (drop n before) 0 k (omega arith) ∙ value k _ few (filled k (omega arith)) ∙
        sym (cond-true (ltb k count) (f k) (get_or before k 0) (lt-ltb k count few))

    rest : (k : ℕ) → k < length before → count ≤ k → get_or (front ++ drop n before) k 0 ≡ cond (ltb k count) (f k) (get_or before k 0)
    rest k h many =
        get_or-append_right front (drop n before) n k 0 long (omega arith) ∙ get_or-drop n before (k - n) 0 ∙
        ap (λ i. get_or before i 0) (omega arith) ∙ sym (cond-false (ltb k count) (f k) (get_or before k 0) (le-ltb k count many))
