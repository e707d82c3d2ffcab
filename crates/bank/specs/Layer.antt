-- A layer over a bank: it has the slots and levels of the bank below, its lanes keep their cores, and it adds marks.
use Rattle.std.specs.Prelude.{◌≡◌, ℕ, ◌+◌, ◌<◌, ◌≤◌, Bool, false, cond, ◌&&◌, ◌||◌, None, nat_lt}
use Rattle.bank.specs.Meaning.{Meaning}

-- the bank m with the capacities given; the slots in 1 to H - 1 that pass are marked too
abbrev pub layer : Meaning → (ℕ → ℕ → ℕ) → (ℕ → Bool) → Meaning
layer m capacity edge = record {
  slots = m.slots;
  top = m.top;
  capacity = capacity;
  core = λ k t i. cond (nat_lt i (capacity k t)) (m.core k t i) None;
  marked = λ t. m.marked t || ((nat_lt 0 t && nat_lt t m.slots) && edge t);
}

-- what a layer owes, so that it keeps the rules of the bank below
pub record Cut (m : Meaning) (capacity : ℕ → ℕ → ℕ) (edge : ℕ → Bool) : Type 0 where
  -- it only takes cores away
  pub below : (k t : ℕ) → capacity k t ≤ m.capacity k t
  -- it does not fall as the level rises
  pub raises : (k t : ℕ) → k < m.top → capacity k t ≤ capacity (k + 1) t
  -- where it adds no mark and the capacity below stays, it stays
  pub stays : (k t : ℕ) → edge (t + 1) ≡ false → m.capacity k (t + 1) ≡ m.capacity k t → capacity k (t + 1) ≡ capacity k t

-- the capacities of m, of each what is left in its slot
abbrev pub left_by : Meaning → (ℕ → ℕ → ℕ) → ℕ → ℕ → ℕ
left_by m left k t = left t (m.capacity k t)
