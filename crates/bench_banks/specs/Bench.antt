-- The pile of layers that the benchmark asks, and what it writes.
use Rattle.std.specs.Prelude.{◌≡◌, ℕ, ◌<◌, cond, List, [], ◌∷◌, length, take, nat_lt, slice_index}
use Rattle.std.specs.Option.{unwrap_or}
use Rattle.bank.specs.Meaning.{Meaning}
use Rattle.calendar.specs.Calendar.{calendar}
use Rattle.calendar.specs.declared.Outage.{Outage}
use Rattle.cooldown.specs.Cooldown.{cool_down}
use Rattle.reserve.specs.Reserve.{reserve, window_row}
use Rattle.reserve.specs.declared.Window.{Window}

abbrev pub eight_windows : List Window
eight_windows =
    window_row 0 512 1 ∷ window_row 256 1024 2 ∷ window_row 900 1800 3 ∷ window_row 1500 1600 8
    ∷ window_row 2000 2500 5 ∷ window_row 2400 3000 4 ∷ window_row 3100 3900 2 ∷ window_row 3500 4096 1 ∷ []

-- 4,096 slots and 64 cores, the caller's outages, eight windows, and at most 40 cores in the last 4 of every 16 slots
abbrev pub full_pile : List Outage → Meaning
full_pile rows = cool_down 16 4 40 (reserve eight_windows (calendar (take 64 rows) 4096 64))

-- the list is as long as it was, its first n places hold the values of f, and the others what they held
pub record Answers (f : ℕ → ℕ) (n : ℕ) (before after : List ℕ) : Type 0 where
  pub long : length after ≡ length before
  pub holds : (k : ℕ) → k < length before → slice_index after k ≡ cond (nat_lt k n) (f k) (slice_index before k)

-- a lane's core at the top level, and 64 where it has none
abbrev pub core_or_none : Meaning → ℕ → ℕ → ℕ
core_or_none m t lane = unwrap_or (m.core 64 t lane) 64
