-- Worked examples of each kind of bank.
use Rattle.std.specs.Prelude.{◌≡◌, ℕ, ◌<◌, ◌||◌, List, [], ◌∷◌, map, Some, None, ◌==◌}
use Rattle.calendar.specs.Calendar.{calendar}
use Rattle.cooldown.specs.Cooldown.{cool_down}
use Rattle.bank.specs.Even.{even}
use Rattle.bank.specs.Meaning.{Meaning, mark_after}
use Rattle.reserve.specs.Reserve.{reserve, window_row}
use Rattle.calendar.specs.declared.Outage.{Outage}
use Rattle.reserve.specs.declared.Window.{Window}

abbrev pub outage_row : ℕ → ℕ → ℕ → Outage
outage_row core from to = record { core = core; from = from; to = to }

-- the marks are just these two, and each comes first after the one before
abbrev pub MarksAre : Meaning → ℕ → ℕ → Type 0
MarksAre m a b = ((t : ℕ) → m.marked t ≡ (t == a || t == b)) × (mark_after m 0 ≡ a) × (mark_after m a ≡ b) × (mark_after m b ≡ m.slots)

-- six slots and three cores, core 0 out in slots 2 and 3
abbrev pub one_outage : Meaning
one_outage = calendar (outage_row 0 2 4 ∷ []) 6 3

-- two windows in use, and six that are not
abbrev pub two_window_rows : List Window
two_window_rows = let unused = window_row 0 0 0 in window_row 0 4 1 ∷ window_row 2 6 2 ∷ unused ∷ unused ∷ unused ∷ unused ∷ unused ∷ unused ∷ []

-- six slots and four cores: one withheld in slots 0 to 3, two in slots 2 to 5
abbrev pub two_windows : Meaning
two_windows = reserve two_window_rows (even 6 4)

-- six slots and two cores, but one in the last of every four slots
abbrev pub every_fourth_slot : Meaning
every_fourth_slot = cool_down 4 1 1 (even 6 2)

-- at one level, in each of the slots
abbrev pub capacities_in : Meaning → ℕ → List ℕ → List ℕ
capacities_in m level slots = map (m.capacity level) slots

pub record BankExamples : Type 0 where
  -- an even bank of three cores, of any length: level 2 has two cores in every slot
  pub even_bank_of_three : (slots t : ℕ) → t < slots → let m = even slots 3 in
      (m.capacity 2 t ≡ 2) × (m.core 2 t 1 ≡ Some 1) × (m.core 2 t 2 ≡ None)
  pub outage_takes_a_core_out : let m = one_outage in
      (m.capacity 1 1 ≡ 1) × (m.capacity 1 2 ≡ 0) × (m.capacity 1 4 ≡ 1) × (m.capacity 3 2 ≡ 2) × (m.core 3 2 0 ≡ Some 1) × MarksAre m 2 4
  pub overlapping_windows_add_up : let m = two_windows in
      (m.capacity 4 1 ≡ 3) × (m.capacity 4 2 ≡ 1) × (m.capacity 4 4 ≡ 2) × MarksAre m 2 4
  pub cool_down_limits_every_fourth_slot : let m = every_fourth_slot in
      (m.capacity 2 0 ≡ 2) × (m.capacity 2 1 ≡ 2) × (m.capacity 2 2 ≡ 2) × (m.capacity 2 3 ≡ 1) × (m.capacity 2 4 ≡ 2) × (m.capacity 2 5 ≡ 2) × MarksAre m 3 4
