-- Arrays that a closure fills, place by place.
use Rattle.std.proofs.Common.{◌≡◌, ℕ, zero, suc, ◌+◌, ◌<◌, ◌≤◌, List, map, length, get_or, sym, subst, ap, ◌∙◌, ⊎_elim, arith}
use Rattle.std.specs.Array.{IsFromFnResult, IsFromFnResultFrom, IsMapOf, MapsFrom}
use Rattle.std.specs.Fn.{Called}
use Rattle.std.specs.List.{range_with_len}
use Rattle.std.proofs.lemmas.List.{ext_get_or, length-map, get_or-map}
use Rattle.std.proofs.lemmas.List.FromFn.{fill_by_all}
use Rattle.std.proofs.lemmas.Bool.{cases_eq}
use denote.Param.Members.{Mut}

module _ {F : Type 0} (g : Mut F (ℕ × Unit {0}) ℕ) (f : F) (v : ℕ → ℕ) (same : (i y : ℕ) (q : F) → Called g f (i, tt) y q → (y ≡ v i) × (q ≡ f)) where
  filled : (ys : List ℕ) (n i : ℕ) → IsFromFnResultFrom g f ys i n → (k : ℕ) → i ≤ k → k < i + n → get_or ys k 0 ≡ v k
  filled ys zero i h k low high = absurd (omega arith)
  filled ys (suc n) i (q, y, at, call, rest) k low high =
      let (is, stays) = same i y q call in
      ⊎_elim
      (λ (e : i ≡ k). subst (λ j. get_or ys j 0 ≡ v j) e (at.1 0 ∙ is))
      (λ ne. filled ys n (i + 1) (subst (λ p. IsFromFnResultFrom g p ys (i + 1) n) stays rest) k (omega arith) (omega arith))
      (cases_eq i k)

  -- an array whose elements a function gives by their places
  pub from_fn_is : (ys : List ℕ) (n : ℕ) → IsFromFnResult g f ys n → ys ≡ map v (range_with_len 0 n)
  from_fn_is ys n made = fill_by_all v ys n 0 made.long (λ k h. filled ys n 0 made.each k (omega arith) (omega arith))

module _ {F A B : Type 0} (g : Mut F (A × Unit {0}) B) (f : F) (v : A → B) (same : (x : A) (y : B) (q : F) → Called g f (x, tt) y q → (y ≡ v x) × (q ≡ f)) where
  mapped : (d : A) (e : B) (xs : List A) (ys : List B) (n i : ℕ) → MapsFrom g f xs ys i n → (k : ℕ) → i ≤ k → k < i + n → get_or ys k e ≡ v (get_or xs k d)
  mapped d e xs ys zero i h k low high = absurd (omega arith)
  mapped d e xs ys (suc n) i (q, x, y, from, to, call, rest) k low high =
      let (is, stays) = same x y q call in
      ⊎_elim
      (λ (here : i ≡ k). subst (λ j. get_or ys j e ≡ v (get_or xs j d)) here (to.1 e ∙ is ∙ ap v (sym (from.1 d))))
      (λ ne. mapped d e xs ys n (i + 1) (subst (λ p. MapsFrom g p xs ys (i + 1) n) stays rest) k (omega arith) (omega arith))
      (cases_eq i k)

  -- an array that a function makes of another, element by element
  pub map_is : (d : A) (xs : List A) (ys : List B) (n : ℕ) → length xs ≡ n → IsMapOf g f xs ys n → ys ≡ map v xs
  map_is d xs ys n long made =
      let same_length : length ys ≡ length (map v xs) = made.long ∙ sym long ∙ sym (length-map xs v) in
      ext_get_or (v d) ys (map v xs) same_length
      (λ k h. mapped d (v d) xs ys n 0 made.each k (omega arith) (omega (arith, made.long)) ∙ sym (get_or-map v xs k d (v d) (omega (arith, made.long))))
