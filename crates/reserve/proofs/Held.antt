-- Windows within their limits, and what they withhold.
use Rattle.std.proofs.Common.{◌≡◌, ℕ, ◌<◌, ◌≤◌, true, ◌&&◌, leb, List, length, get_or, arith}
use Rattle.std.proofs.lemmas.Bool.{and_parts, leb-true, cond_both}
use Rattle.std.proofs.lemmas.Bool.Decides.{nat_tests}
use Rattle.bank.specs.Interval.{within}
use Rattle.bank.proofs.Tables.{passes_at}
use Rattle.reserve.specs.Reserve.{held, window_fits, table_fits, clamped}
use Rattle.reserve.specs.declared.Window.{Window}

pub clamped_fits : (w : Window) → window_fits (clamped w) ≡ true
clamped_fits w = grind (arith, nat_tests)

-- each window of a table withholds at most 64 cores
pub count_fits : (ws : List Window) (i : ℕ) (d : Window) → table_fits ws ≡ true → i < length ws → (get_or ws i d).count ≤ 64
count_fits ws i d h k =
    let w = get_or ws i d in
    leb-true w.count 64 (and_parts (leb w.from 4096 && leb w.to 4096) (leb w.count 64) (passes_at window_fits ws i d h k)).1

pub held_fits : (ws : List Window) (i : ℕ) (d : Window) (t : ℕ) → table_fits ws ≡ true → i < length ws → held t (get_or ws i d) ≤ 64
held_fits ws i d t h k =
    let w = get_or ws i d in
    cond_both (within w.from w.to t) w.count 0 (λ x. x ≤ 64) (λ e. count_fits ws i d h k) (λ e. omega arith)
