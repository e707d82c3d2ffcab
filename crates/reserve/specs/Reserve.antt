-- The host reserve: a layer whose windows each withhold some cores for a while.
use Rattle.std.specs.Prelude.{ℕ, ◌-◌, min, Bool, cond, ◌&&◌, List, sum_by, nat_le, nat_lt, slice_set}
use Rattle.bank.specs.Interval.{within, edge_of}
use Rattle.std.specs.List.{list_any, list_all}
use Rattle.bank.specs.Layer.{layer, left_by}
use Rattle.bank.specs.Meaning.{Meaning, Rules}
use Rattle.reserve.specs.declared.Window.{Window}

-- a window by its numbers
abbrev pub window_row : ℕ → ℕ → ℕ → Window
window_row from to count = record { from = from; to = to; count = count }

-- a window's numbers are in their limits
abbrev pub window_fits : Window → Bool
window_fits w = (nat_le w.from 4096 && nat_le w.to 4096) && nat_le w.count 64

abbrev pub table_fits : List Window → Bool
table_fits ws = list_all window_fits ws

-- each number at its nearest limit
abbrev pub clamped : Window → Window
clamped w = record { from = min w.from 4096; to = min w.to 4096; count = min w.count 64 }

-- the place is one of the eight, and the window's numbers are in their limits
abbrev pub settable : ℕ → Window → Bool
settable place w = nat_lt place 8 && window_fits w

-- the table after a change at a place, the same where it is refused
abbrev pub with_window : List Window → ℕ → Window → List Window
with_window ws place w = cond (settable place w) (slice_set ws place w) ws

-- what one window withholds in slot t
abbrev pub held : ℕ → Window → ℕ
held t w = cond (within w.from w.to t) w.count 0

abbrev pub withheld : List Window → ℕ → ℕ
withheld ws t = sum_by (held t) ws

abbrev pub window_edge : ℕ → Window → Bool
window_edge t w = edge_of w.from w.to t

-- what is left in slot t of n usable cores
abbrev pub left_of : List Window → ℕ → ℕ → ℕ
left_of ws t n = n - withheld ws t

abbrev pub reserve : List Window → Meaning → Meaning
reserve ws m = layer m (left_by m (left_of ws)) (λ t. list_any (window_edge t) ws)

-- over any bank that keeps the rules, a reserve with any windows keeps them
abbrev pub ReserveRules : Type 0
ReserveRules = (ws : List Window) (m : Meaning) → Rules m → Rules (reserve ws m)
