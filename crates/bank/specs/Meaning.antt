-- What a bank of parity cores means, and the rules that every kind of bank keeps.
-- A slot is the unit of time, counted from 0. At level k the cores 0 to k - 1 are powered. A lane is a place among the
-- usable cores, counted from 0.
use Rattle.std.specs.Prelude.{◌≡◌, ℕ, ◌+◌, ◌<◌, ◌≤◌, Bool, false, List, map, is_some, Some, Option, nat_lt}
use Rattle.std.specs.List.{range_with_len}
use Rattle.bank.specs.First.{first_above}

pub record Meaning : Type 0 where
  -- how many slots there are
  pub slots : ℕ
  -- the highest level
  pub top : ℕ
  -- the number of usable cores, by level and slot
  pub capacity : ℕ → ℕ → ℕ
  -- the core, by level, slot and lane
  pub core : ℕ → ℕ → ℕ → Option ℕ
  -- the slots at which a capacity or a core may differ from the slot before
  pub marked : ℕ → Bool

pub record Rules (m : Meaning) : Type 0 where
  pub slots_least : 1 ≤ m.slots
  pub slots_most : m.slots ≤ 4096
  pub top_least : 1 ≤ m.top
  pub top_most : m.top ≤ 64
  -- no core is usable above the top level, or after the last slot
  pub above_top : (k t : ℕ) → m.top < k → m.capacity k t ≡ 0
  pub past_slots : (k t : ℕ) → m.slots ≤ t → m.capacity k t ≡ 0
  -- a level has no more usable cores than powered ones, and no more than the next level
  pub level_bounds : (k t : ℕ) → m.capacity k t ≤ k
  pub level_raises : (k t : ℕ) → k < m.top → m.capacity k t ≤ m.capacity (k + 1) t
  -- a lane has a core just where it lies below the capacity
  pub lanes : (k t i : ℕ) → is_some (m.core k t i) ≡ nat_lt i (m.capacity k t)
  -- different lanes have different cores, and each is powered
  pub distinct : (k t i j c : ℕ) → m.core k t i ≡ Some c → m.core k t j ≡ Some c → i ≡ j
  pub powered : (k t i c : ℕ) → m.core k t i ≡ Some c → c < k
  -- marks lie in 1 to slots - 1
  pub marks_least : m.marked 0 ≡ false
  pub marks_most : (t : ℕ) → m.slots ≤ t → m.marked t ≡ false
  -- at an unmarked slot everything is as in the slot before
  pub capacity_stays : (k t : ℕ) → t + 1 < m.slots → m.marked (t + 1) ≡ false → m.capacity k (t + 1) ≡ m.capacity k t
  pub core_stays : (k t i : ℕ) → t + 1 < m.slots → m.marked (t + 1) ≡ false → m.core k (t + 1) i ≡ m.core k t i

-- the capacities at the levels 0 to 64 in slot t
abbrev pub capacities_at : Meaning → ℕ → List ℕ
capacities_at m t = map (λ k. m.capacity k t) (range_with_len 0 65)

-- the first marked slot above t, else the number of slots
abbrev pub mark_after : Meaning → ℕ → ℕ
mark_after m t = first_above m.marked m.slots t

-- from slot t up to before slot end, every capacity and core is that of slot t
pub record Steady (m : Meaning) (t end : ℕ) : Type 0 where
  pub capacities : (k s : ℕ) → t ≤ s → s < end → m.capacity k s ≡ m.capacity k t
  pub cores : (k s i : ℕ) → t ≤ s → s < end → m.core k s i ≡ m.core k t i
