-- From a slot up to the next mark every capacity and core stays.
use Rattle.std.proofs.Common.{◌≡◌, ℕ, zero, suc, ◌+◌, ◌-◌, ◌<◌, sym, ap, ◌∙◌, arith}
use Rattle.bank.specs.Meaning.{Meaning, Rules, mark_after, Steady}
use Rattle.bank.proofs.Firsts.{First, above_first}

-- the next mark lies ahead, and not past the last slot
pub mark_ahead : (m : Meaning) (t : ℕ) → t < m.slots → t < mark_after m t
mark_ahead m t h =
    let f = above_first m.marked m.slots t in
    ahead (mark_after m t) f
  where
    ahead : (r : ℕ) → First m.marked m.slots (t + 1) r → t < r
    ahead r f = grind (arith, f.least, f.bounded)

module _ (m : Meaning) (rules : Rules m) (t end : ℕ) (is : end ≡ mark_after m t) where
  first : First m.marked m.slots (t + 1) (mark_after m t)
  first = above_first m.marked m.slots t

  span_capacity : (k d : ℕ) → t + d < end → m.capacity k (t + d) ≡ m.capacity k t
  span_capacity k zero h = ap (m.capacity k) (omega arith)
  span_capacity k (suc d) h =
      let a : t + suc d ≡ t + d + 1 = omega arith in
      let quiet = first.between (t + d + 1) (omega arith) (omega arith) in
      ap (m.capacity k) a ∙ rules.capacity_stays k (t + d) (omega (arith, first.bounded)) quiet ∙ span_capacity k d (omega arith)

  span_core : (k d i : ℕ) → t + d < end → m.core k (t + d) i ≡ m.core k t i
  span_core k zero i h = ap (λ s. m.core k s i) (omega arith)
  span_core k (suc d) i h =
      let a : t + suc d ≡ t + d + 1 = omega arith in
      let quiet = first.between (t + d + 1) (omega arith) (omega arith) in
      ap (λ s. m.core k s i) a ∙ rules.core_stays k (t + d) i (omega (arith, first.bounded)) quiet ∙ span_core k d i (omega arith)

  pub steady_to_mark : Steady m t end
  steady_to_mark = record {
    capacities = λ k s low high.
        let there : t + (s - t) ≡ s = omega arith in
        ap (m.capacity k) (sym there) ∙ span_capacity k (s - t) (omega arith);
    cores = λ k s i low high.
        let there : t + (s - t) ≡ s = omega arith in
        ap (λ x. m.core k x i) (sym there) ∙ span_core k (s - t) i (omega arith);
  }
