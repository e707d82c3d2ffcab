-- Capacities rise with the level.
use Rattle.std.proofs.Common.{◌≡◌, ℕ, zero, suc, ◌+◌, ◌-◌, ◌≤◌, ap, add-zero, arith}
use Rattle.bank.specs.Meaning.{Meaning, Rules}

rises_by : (m : Meaning) → Rules m → (t k d : ℕ) → k + d ≤ m.top → m.capacity k t ≤ m.capacity (k + d) t
rises_by m rules t k zero h = let e = ap (λ n. m.capacity n t) (add-zero k) in omega arith
rises_by m rules t k (suc d) h =
    let so_far = rises_by m rules t k d (omega arith) in
    let step = rules.level_raises (k + d) t (omega arith) in
    let next : k + d + 1 ≡ k + suc d = omega arith in
    let e = ap (λ n. m.capacity n t) next in
    omega arith

pub capacity_rises : (m : Meaning) → Rules m → (t k n : ℕ) → k ≤ n → n ≤ m.top → m.capacity k t ≤ m.capacity n t
capacity_rises m rules t k n low high =
    let there : k + (n - k) ≡ n = omega arith in
    rw there at (rises_by m rules t k (n - k) (omega arith))
