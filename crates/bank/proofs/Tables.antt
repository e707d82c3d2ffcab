-- Lists: what some or all elements pass.
use Rattle.std.proofs.Common.{◌≡◌, ℕ, ◌-◌, ◌<◌, min, Bool, true, false, ◌||◌, List, [], ◌∷◌, map, length, get_or, take, set, sym, refl, ap, ◌∙◌, arith}
use Rattle.std.proofs.lemmas.List.{take_min}
use Rattle.std.proofs.lemmas.List.Recursion.{and_at, and_set}
use Rattle.std.proofs.Math.Bool.{or_assoc, or-false}
use Rattle.std.proofs.lemmas.Bool.{and_from}
use Rattle.std.specs.List.{fold, list_any, list_all}
use Rattle.bank.specs.First.{first_above}
use Rattle.bank.specs.Interval.{any_edge, edge_of}
use Rattle.bank.specs.declared.interval.Interval.{Interval}
use Rattle.bank.proofs.Firsts.{first_or, first_same, first_never}

-- an element of a list whose elements all pass, and the list with another one that passes
pub passes_at : {X : Type 0} (p : X → Bool) (xs : List X) (i : ℕ) (d : X) → list_all p xs ≡ true → i < length xs → p (get_or xs i d) ≡ true
passes_at p xs i d h k = and_at (list_all p) p refl (λ x xs. refl) xs i d k h

pub all_set : {X : Type 0} (p : X → Bool) (xs : List X) (i : ℕ) (x : X) → list_all p xs ≡ true → p x ≡ true → list_all p (set xs i x) ≡ true
all_set p xs i x h k = and_set (list_all p) p refl (λ x xs. refl) xs i x k h

pub all_map : {X : Type 0} (p : X → Bool) (f : X → X) → ((x : X) → p (f x) ≡ true) → (xs : List X) → list_all p (map f xs) ≡ true
all_map p f h [] = refl
all_map p f h (x ∷ xs) = and_from (p (f x)) (list_all p (map f xs)) (h x) (all_map p f h xs)

folded : {X : Type 0} (p : X → ℕ → Bool) (xs : List X) (end t : ℕ) (q : ℕ → Bool) (a : ℕ) → a ≡ first_above q end t →
    fold min a (map (λ x. first_above (p x) end t) xs) ≡ first_above (λ s. q s || list_any (λ x. p x s) xs) end t
folded p [] end t q a is = is ∙ first_same q (λ s. q s || false) end t (λ s h k. sym (or-false (q s)))
folded p (x ∷ xs) end t q a is =
    folded p xs end t (λ s. q s || p x s) (min a (first_above (p x) end t)) (ap (λ n. min n (first_above (p x) end t)) is ∙ first_or q (p x) end t)
    ∙ first_same (λ s. (q s || p x s) || list_any (λ y. p y s) xs) (λ s. q s || (p x s || list_any (λ y. p y s) xs)) end t (λ s h k. or_assoc (q s) (p x s) (list_any (λ y. p y s) xs))

-- the least of a limit and each element's first end is the first end of all
pub first_folded : {X : Type 0} (interval : X → Interval) (xs : List X) (end t r : ℕ) →
    r ≡ fold min end (map (λ x. first_above (edge_of (interval x).from (interval x).to) end t) xs) → r ≡ first_above (any_edge interval xs) end t
first_folded interval xs end t r is = is ∙ folded (λ x. edge_of (interval x).from (interval x).to) xs end t (λ s. false) end (first_never end t)

-- a list cut to at most n elements, by its length
pub take_least : {X : Type 0} (n m : ℕ) (xs : List X) → m ≡ min (length xs) n → take (m - 0) xs ≡ take n xs
take_least n m xs e = let a : m - 0 ≡ min n (length xs) = omega arith in rw a (take_min n xs)
