-- The spans of a pile of layers over a bank, from mark to mark.
use Rattle.std.specs.Prelude.{◌≡◌, ℕ, ◌<◌, ◌≤◌, Option}
use Rattle.std.specs.Option.{MatchOption}
use Rattle.bank.specs.Meaning.{Meaning, mark_after, Steady}
use Rattle.bankmap.specs.Survey.{core_states, FewestLevel}
use Rattle.bankmap.specs.declared.survey.Span.{Span}

-- the span that begins in a slot, in which nothing changes
pub record IsSpan (bottom pile : Meaning) (slot : ℕ) (span : Span) : Type 0 where
  pub from : span.from ≡ slot
  pub to : span.to ≡ mark_after pile slot
  pub steady : Steady pile slot span.to
  pub capacity : span.capacity ≡ pile.capacity pile.top slot
  pub level : FewestLevel pile slot span.level
  pub top : span.top ≡ pile.top
  pub cores : span.cores ≡ core_states bottom pile slot

-- the next span, from a slot to the slot where the one after it begins; none from the last slot's end on
abbrev pub NextSpan : Meaning → Meaning → ℕ → Option Span → ℕ → Type 0
NextSpan bottom pile from next to = MatchOption next ((pile.slots ≤ from) × (to ≡ from)) (λ span. (from < pile.slots) × IsSpan bottom pile from span × (to ≡ span.to))
