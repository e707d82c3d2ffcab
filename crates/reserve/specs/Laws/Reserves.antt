-- The host reserve keeps the bank rules.
use Rattle.std.specs.Prelude.{◌≡◌, ℕ, ◌+◌, ◌-◌, ◌≤◌, false, cond, List, [], ◌∷◌, refl}
use Rattle.std.proofs.Common.{ap, arith}
use Rattle.std.proofs.lemmas.List.Sums.{sum_by-cons}
use Rattle.std.proofs.lemmas.Bool.{or_parts}
use Rattle.std.specs.List.{list_any}
use Rattle.bank.specs.Laws.Layers.{layered}
use Rattle.bank.specs.Laws.Tests.{within_stays}
use Rattle.bank.specs.Meaning.{Meaning, Rules}
use Rattle.reserve.specs.Reserve.{reserve, held, left_of, withheld, window_edge}
use Rattle.reserve.specs.declared.Window.{Window}

-- between its edges a window withholds the same
held_stays : (t : ℕ) (w : Window) → window_edge (t + 1) w ≡ false → held (t + 1) w ≡ held t w
held_stays t w h = ap (λ b. cond b w.count 0) (within_stays w.from w.to t h)

withheld_stays : (t : ℕ) (ws : List Window) → list_any (window_edge (t + 1)) ws ≡ false → withheld ws (t + 1) ≡ withheld ws t
withheld_stays t [] h = refl
withheld_stays t (w ∷ ws) h =
    let (a, b) = or_parts (window_edge (t + 1) w) (list_any (window_edge (t + 1)) ws) h in
    let x = held_stays t w a in
    let y = withheld_stays t ws b in
    omega (arith, sum_by-cons (held (t + 1)) w ws, sum_by-cons (held t) w ws)

pub left_below : (ws : List Window) (t n : ℕ) → left_of ws t n ≤ n
left_below ws t n = omega arith

pub left_rises : (ws : List Window) (t n m : ℕ) → n ≤ m → left_of ws t n ≤ left_of ws t m
left_rises ws t n m h = omega arith

pub left_stays : (ws : List Window) (t n : ℕ) → list_any (window_edge (t + 1)) ws ≡ false → left_of ws (t + 1) n ≡ left_of ws t n
left_stays ws t n h = ap (λ k. n - k) (withheld_stays t ws h)

pub reserve_rules : (ws : List Window) (m : Meaning) → Rules m → Rules (reserve ws m)
reserve_rules ws m r = layered m (left_of ws) (λ t. list_any (window_edge t) ws) r (left_below ws) (left_rises ws) (left_stays ws)
