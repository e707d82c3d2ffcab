-- What the map of a site's cores tells of one span of slots.
use Rattle.std.specs.Prelude.{◌≡◌, ℕ, zero, suc, ◌<◌, ◌≤◌, Bool, false, cond, ◌||◌, List, map, Some, None, Option, ◌==◌, slice_index_or}
use Rattle.std.specs.List.{range_with_len}
use Rattle.bank.specs.Meaning.{Meaning}
use Rattle.bankmap.specs.declared.survey.CoreState.{CoreState}
use Rattle.bankmap.specs.declared.survey.CoreState.TheVariants.{Usable, Withheld, Out}

-- in slot t level r has as many usable cores as the top level, and every lower level has fewer
pub record FewestLevel (m : Meaning) (t r : ℕ) : Type 0 where
  pub at_most_top : r ≤ m.top
  pub as_many : m.capacity r t ≡ m.capacity m.top t
  pub no_lower : (k : ℕ) → k < r → m.capacity k t < m.capacity m.top t

-- the lane has core c
abbrev pub is_core : Option ℕ → ℕ → Bool
is_core None c = false
is_core (Some d) c = d == c

-- at the top level in slot t, one of the first n lanes has core c
abbrev pub lanes_have : Meaning → ℕ → ℕ → ℕ → Bool
lanes_have m t c zero = false
lanes_have m t c (suc n) = lanes_have m t c n || is_core (m.core m.top t n) c

-- core c is usable at the top level in slot t
abbrev pub serves : Meaning → ℕ → ℕ → Bool
serves m t c = lanes_have m t c (m.capacity m.top t)

-- how core c stands in slot t, in a pile of layers over a bank
abbrev pub core_state : Meaning → Meaning → ℕ → ℕ → CoreState
core_state bottom pile t c = cond (serves pile t c) Usable (cond (serves bottom t c) Withheld Out)

-- the states, with a new one for each core that a bank has in slot t
abbrev pub with_state : Meaning → ℕ → CoreState → List CoreState → List CoreState
with_state m t state states = map (λ c. cond (serves m t c) state (slice_index_or states c Out)) (range_with_len 0 64)

abbrev pub core_states : Meaning → Meaning → ℕ → List CoreState
core_states bottom pile t = map (core_state bottom pile t) (range_with_len 0 64)
