-- The calendar bank: cores that are out of service for some intervals of slots.
use Rattle.std.specs.Prelude.{ℕ, Bool, cond, ◌&&◌, List, [], length, ◌==◌, nat_lt}
use Rattle.std.specs.List.{slice_get, list_any}
use Rattle.calendar.specs.Cores.{usable}
use Rattle.bank.specs.Interval.{within, edge_of}
use Rattle.bank.specs.Limits.{in_bank}
use Rattle.bank.specs.Meaning.{Meaning}
use Rattle.calendar.specs.declared.Outage.{Outage}

-- the row takes core c out in slot t
abbrev pub takes_out : ℕ → ℕ → Outage → Bool
takes_out t c o = o.core == c && within o.from o.to t

-- core c is out in slot t
abbrev pub out : List Outage → ℕ → ℕ → Bool
out rows t c = list_any (takes_out t c) rows

-- the usable cores at a level and slot of the bank, none elsewhere
abbrev pub usable_at : List Outage → ℕ → ℕ → ℕ → ℕ → List ℕ
usable_at rows slots top k t = cond (in_bank slots top k t) (usable (out rows t) k) []

-- slot t is an end of the row's interval
abbrev pub outage_edge : ℕ → Outage → Bool
outage_edge t o = edge_of o.from o.to t

abbrev pub calendar : List Outage → ℕ → ℕ → Meaning
calendar rows slots top = record {
  slots = slots;
  top = top;
  capacity = λ k t. length (usable_at rows slots top k t);
  core = λ k t i. slice_get (usable_at rows slots top k t) i;
  marked = λ t. (nat_lt 0 t && nat_lt t slots) && list_any (outage_edge t) rows;
}
