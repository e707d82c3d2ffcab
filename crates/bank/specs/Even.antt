-- The even bank: at level k every slot has the cores 0 to k - 1, lane i is core i, and no slot is marked.
use Rattle.std.specs.Prelude.{ℕ, false, cond, Some, None, nat_lt}
use Rattle.bank.specs.Limits.{in_bank}
use Rattle.bank.specs.Meaning.{Meaning}

-- n at a level and slot of the bank, 0 elsewhere
abbrev pub inside : ℕ → ℕ → ℕ → ℕ → ℕ → ℕ
inside slots top k t n = cond (in_bank slots top k t) n 0

abbrev pub even : ℕ → ℕ → Meaning
even slots top = record {
  slots = slots;
  top = top;
  capacity = λ k t. inside slots top k t k;
  core = λ k t i. cond (nat_lt i (inside slots top k t k)) (Some i) None;
  marked = λ t. false;
}
