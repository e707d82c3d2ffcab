-- Intervals of slots, from ≤ t < to, and their ends.
use Rattle.std.specs.Prelude.{ℕ, Bool, ◌&&◌, ◌||◌, List, ◌==◌, nat_le, nat_lt}
use Rattle.std.specs.List.{list_any}
use Rattle.bank.specs.declared.interval.Interval.{Interval}

abbrev pub within : ℕ → ℕ → ℕ → Bool
within from to t = nat_le from t && nat_lt t to

-- t is one of the two ends
abbrev pub edge_of : ℕ → ℕ → ℕ → Bool
edge_of from to t = t == from || t == to

-- t is an end of some element's interval
abbrev pub any_edge : {X : Type 0} → (X → Interval) → List X → ℕ → Bool
any_edge interval xs t = list_any (λ x. edge_of (interval x).from (interval x).to t) xs
