-- The cool-down: a layer that limits the usable cores at the end of each period.
use Rattle.std.specs.Prelude.{ℕ, ◌-◌, ◌%◌, ◌<◌, min, Bool, cond, ◌&&◌, ◌||◌, ◌==◌, nat_le, nat_lt}
use Rattle.bank.specs.Layer.{layer, left_by}
use Rattle.bank.specs.Meaning.{Meaning, Rules}

-- slot t lies among the last slots of its period, as many as the rest
abbrev pub resting : ℕ → ℕ → ℕ → Bool
resting period rest t = nat_le (period - rest) (t % period)

-- a rest begins or ends in slot t
abbrev pub rest_edge : ℕ → ℕ → ℕ → Bool
rest_edge period rest t = (nat_lt 0 rest && nat_lt rest period) && (t % period == 0 || t % period == period - rest)

-- what is left in slot t of n usable cores
abbrev pub left_of : ℕ → ℕ → ℕ → ℕ → ℕ → ℕ
left_of period rest limit t n = cond (resting period rest t) (min n limit) n

abbrev pub rested : ℕ → ℕ → ℕ → Meaning → ℕ → ℕ → ℕ
rested period rest limit m = left_by m (left_of period rest limit)

abbrev pub cool_down : ℕ → ℕ → ℕ → Meaning → Meaning
cool_down period rest limit m = layer m (rested period rest limit m) (rest_edge period rest)

-- over any bank that keeps the rules, a cool-down with any rest and limit, and a period above 0, keeps them
abbrev pub CoolDownRules : Type 0
CoolDownRules = (period rest limit : ℕ) (m : Meaning) → 0 < period → Rules m → Rules (cool_down period rest limit m)
