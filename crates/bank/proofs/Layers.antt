-- The first mark of a layer.
use Rattle.std.proofs.Common.{◌≡◌, ℕ, min, Bool, ◌&&◌, ◌||◌, nat_lt, List, map, sym, ap, ◌∙◌, arith}
use Rattle.std.specs.List.{range_with_len}
use Rattle.std.proofs.lemmas.Simd.{map-map}
use Rattle.bank.specs.First.{first_above}
use Rattle.bank.specs.Layer.{layer, left_by}
use Rattle.bank.specs.Laws.Tests.{inner}
use Rattle.bank.specs.Meaning.{Meaning, mark_after, capacities_at}
use Rattle.bank.proofs.Filled.{counted_same}
use Rattle.bank.proofs.Firsts.{first_or, first_same}

pub layer_mark : (m : Meaning) (capacity : ℕ → ℕ → ℕ) (edge : ℕ → Bool) (t : ℕ) →
    min (mark_after m t) (first_above edge m.slots t) ≡ mark_after (layer m capacity edge) t
layer_mark m capacity edge t =
    first_or m.marked edge m.slots t ∙
    first_same (λ s. m.marked s || edge s) (layer m capacity edge).marked m.slots t (λ s h k. ap (λ b. m.marked s || b) (sym (inner s m.slots (edge s) (omega arith) k)))

-- the same, as a layer's question has it
pub layer_first : (m n : Meaning) (edge : ℕ → Bool) (t a b end r : ℕ) →
    n ≡ m → a ≡ mark_after n t → b ≡ first_above edge end t → end ≡ m.slots → r ≡ min a b →
    r ≡ first_above (λ s. m.marked s || ((nat_lt 0 s && nat_lt s m.slots) && edge s)) m.slots t
layer_first m n edge t a b end r same below own last is = is ∙ rw (below, own, last, same) (layer_mark m m.capacity edge t)

-- the capacities of a layer at once: of each below, what is left of it
pub layer_capacities : (m n : Meaning) (cut : ℕ → ℕ) (left : ℕ → ℕ → ℕ) (edge : ℕ → Bool) (t : ℕ) (below r : List ℕ) →
    n ≡ m → below ≡ capacities_at n t → ((a : ℕ) → cut a ≡ left t a) → r ≡ map cut below → r ≡ capacities_at (layer m (left_by m left) edge) t
layer_capacities m n cut left edge t below r same all by is =
    is ∙ ap (map cut) (all ∙ ap (λ x. capacities_at x t) same) ∙ map-map cut (λ k. m.capacity k t) (range_with_len 0 65)
    ∙ counted_same (λ k. cut (m.capacity k t)) (λ k. left t (m.capacity k t)) 0 65 (λ k h. by (m.capacity k t))
