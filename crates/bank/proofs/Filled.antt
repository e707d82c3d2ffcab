-- Lists of the values of a function, and a loop that changes a list in place.
use Rattle.std.proofs.Common.{◌≡◌, ℕ, zero, suc, ◌+◌, ◌<◌, ◌≤◌, List, ◌++◌, map, length, get_or, take, drop, set, replicate, refl, ap, ◌∙◌, append-nil, arith, take_all}
use Rattle.std.specs.List.{range_with_len}
use Rattle.std.proofs.lemmas.List.{drop_all, length-set, get_or_default}
use Rattle.std.proofs.lemmas.List.Edits.{map_over_more}

-- two functions that agree have the same values
pub counted_same : {X : Type 0} (f g : ℕ → X) (a n : ℕ) → ((k : ℕ) → k < a + n → f k ≡ g k) → map f (range_with_len a n) ≡ map g (range_with_len a n)
counted_same f g a zero same = refl
counted_same f g a (suc n) same = rw (same a (omega arith), counted_same f g (a + 1) n (λ k h. same k (omega arith)))

-- a function that is 0 throughout
pub counted_none : (f : ℕ → ℕ) (a n : ℕ) → ((k : ℕ) → f k ≡ 0) → replicate n 0 ≡ map f (range_with_len a n)
counted_none f a zero none = refl
counted_none f a (suc n) none = rw (none a, ← counted_none f (a + 1) n none)

-- a step of a loop that maps in place
pub map_over_step : {X : Type 0} (f : X → X) (n : ℕ) (xs ys : List X) (i : ℕ) (d v : X) → length ys ≡ n → i < length xs → i < n →
    ys ≡ map f (take i xs) ++ drop i xs → v ≡ f (get_or ys i d) → (length (set ys i v) ≡ n) × (set ys i v ≡ map f (take (i + 1) xs) ++ drop (i + 1) xs)
map_over_step f n xs ys i d v long h k so_far is = (
  length-set ys i v ∙ long,
  ap (λ z. set ys i z) is ∙ map_over_more f xs ys i (get_or ys i d) h so_far (get_or_default ys i d (get_or ys i d) (omega arith)),
)

-- the end of a loop that maps in place
pub map_over_end : {X : Type 0} (f : X → X) (xs ys : List X) (i : ℕ) → length xs ≤ i → ys ≡ map f (take i xs) ++ drop i xs → ys ≡ map f xs
map_over_end f xs ys i h e = e ∙ rw (take_all i xs h, drop_all i xs h) (append-nil (map f xs))
