-- A list written out by its elements.
use Rattle.std.specs.Prelude.{◌≡◌, ℕ, zero, suc, ◌+◌, List, [], ◌∷◌, length, drop, slice_index}
use Rattle.std.proofs.Common.{sym, ap, ◌∙◌, arith}
use Rattle.std.proofs.lemmas.List.{drop_more, drop_all}

-- the n elements from place i on
abbrev pub spelled : ℕ → ℕ → List ℕ → List ℕ
spelled zero i ns = []
spelled (suc n) i ns = slice_index ns i ∷ spelled n (i + 1) ns

spelled_drop : (n i : ℕ) (ns : List ℕ) → length ns ≡ i + n → spelled n i ns ≡ drop i ns
spelled_drop zero i ns h = sym (drop_all i ns (omega arith))
spelled_drop (suc n) i ns h = ap (λ t. slice_index ns i ∷ t) (spelled_drop n (i + 1) ns (omega arith)) ∙ sym (drop_more ns i 0 (omega arith))

pub spelled_all : (n : ℕ) (ns : List ℕ) → length ns ≡ n → spelled n 0 ns ≡ ns
spelled_all n ns h = spelled_drop n 0 ns (omega arith)
