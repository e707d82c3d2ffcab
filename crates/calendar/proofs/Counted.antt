-- A list of counts that one loop fills, from level 1 up to the top.
use Rattle.std.proofs.Common.{◌≡◌, ℕ, zero, suc, ◌+◌, ◌-◌, ◌<◌, ◌≤◌, min, cond, leb, List, ◌∷◌, ◌++◌, map, length, get_or, drop, replicate, sym, refl, ap, ◌∙◌, ⊎_elim, arith, length-append, length-drop}
use Rattle.std.specs.List.{range_with_len}
use Rattle.std.proofs.lemmas.List.{length-replicate, get_or-replicate, get_or_append_left, get_or-append_right, get_or-drop}
use Rattle.std.proofs.lemmas.List.FromFn.{fill_by_all}
use Rattle.std.proofs.lemmas.Bool.{cases_lt, cond-true, cond-false, le-leb, lt-leb}

-- the counts above level 0 stand in the front part, and the list was all 0
pub counted_up : (f : ℕ → ℕ) (top n m : ℕ) (front : List ℕ) → f 0 ≡ 0 → n ≡ min top 64 → m ≡ n → length front ≡ n → ((k : ℕ) → k < n → get_or front k 0 ≡ f (k + 1)) →
    0 ∷ (front ++ drop m (replicate 64 0)) ≡ map (λ k. cond (leb k top) (f k) 0) (range_with_len 0 65)
counted_up f top n m front start few same long filled = fill_by_all (λ k. cond (leb k top) (f k) 0) (0 ∷ (front ++ drop m zeros)) 65 0 full place
  where
    zeros : List ℕ
    zeros = replicate 64 0

    rest : List ℕ
    rest = drop m zeros

    full : length (0 ∷ (front ++ rest)) ≡ 65
    full = ap suc (length-append front rest) ∙ omega (arith, length-drop m zeros, length-replicate {A = ℕ} 64 0)

    counted : (k : ℕ) → k < n → get_or (front ++ rest) k 0 ≡ cond (leb (suc k) top) (f (suc k)) 0
    counted k l = get_or_append_left front rest 0 k (omega arith) ∙ filled k l ∙ ap f (omega arith) ∙ sym (cond-true (leb (suc k) top) (f (suc k)) 0 (le-leb (suc k) top (omega arith)))

    above : (k : ℕ) → k < 64 → n ≤ k → get_or (front ++ rest) k 0 ≡ cond (leb (suc k) top) (f (suc k)) 0
    above k h l =
        get_or-append_right front rest n k 0 long l ∙ get_or-drop m zeros (k - n) 0 ∙ get_or-replicate {A = ℕ} 64 (m + (k - n)) 0 0 (omega arith) ∙
        sym (cond-false (leb (suc k) top) (f (suc k)) 0 (lt-leb (suc k) top (omega arith)))

    place : (k : ℕ) → k < 65 → get_or (0 ∷ (front ++ rest)) k 0 ≡ cond (leb k top) (f k) 0
    place zero h = sym (cond-true (leb 0 top) (f 0) 0 (le-leb 0 top (omega arith)) ∙ start)
    place (suc k) h = ⊎_elim (counted k) (above k (omega arith)) (cases_lt k n)
