-- The calendar keeps the bank rules.
use Rattle.std.specs.Prelude.{◌≡◌, ℕ, ◌+◌, ◌<◌, ◌≤◌, false, ◌&&◌, List, [], ◌∷◌, length, Some, ◌==◌, nat_le, nat_lt, refl}
use Rattle.std.proofs.Common.{ap, ⊎_elim, arith}
use Rattle.std.specs.List.{slice_get, list_any}
use Rattle.std.proofs.lemmas.Bool.{cases_Bool, cond-false, or_parts, and_left, and_right, le-ltb, lt-ltb, le-leb, lt-leb, cond_both}
use Rattle.calendar.specs.Calendar.{takes_out, out, usable_at, outage_edge, calendar}
use Rattle.calendar.specs.Cores.{usable}
use Rattle.bank.specs.Meaning.{Rules}
use Rattle.bank.specs.Laws.Tests.{within_stays}
use Rattle.calendar.specs.Laws.Usable.{nth_has, none_some, usable_same, usable_length, usable_below, usable_distinct, usable_raises}
use Rattle.calendar.specs.declared.Outage.{Outage}

-- between the ends of its rows the cores of a calendar stay

takes_stays : (t c : ℕ) (o : Outage) → outage_edge (t + 1) o ≡ false → takes_out (t + 1) c o ≡ takes_out t c o
takes_stays t c o h = ap (λ b. (o.core == c) && b) (within_stays o.from o.to t h)

out_stays : (t c : ℕ) (rows : List Outage) → list_any (outage_edge (t + 1)) rows ≡ false → out rows (t + 1) c ≡ out rows t c
out_stays t c [] h = refl
out_stays t c (o ∷ rows) h =
    let (a, b) = or_parts (outage_edge (t + 1) o) (list_any (outage_edge (t + 1)) rows) h in
    rw (takes_stays t c o a, out_stays t c rows b)

cores_stays : (rows : List Outage) (slots top k t : ℕ) → t + 1 < slots → ((nat_lt 0 (t + 1) && nat_lt (t + 1) slots) && list_any (outage_edge (t + 1)) rows) ≡ false →
    usable_at rows slots top k (t + 1) ≡ usable_at rows slots top k t
cores_stays rows slots top k t h e =
    let low : t < slots = omega arith in
    let quiet : list_any (outage_edge (t + 1)) rows ≡ false = rw (lt-ltb 0 (t + 1) (omega arith), lt-ltb (t + 1) slots h) at e in
    rw (lt-ltb (t + 1) slots h, lt-ltb t slots low, usable_same (out rows (t + 1)) (out rows t) k (λ c l. out_stays t c rows quiet))

pub calendar_rules : (rows : List Outage) (slots top : ℕ) → (1 ≤ slots) × (slots ≤ 4096) → (1 ≤ top) × (top ≤ 64) → Rules (calendar rows slots top)
calendar_rules rows slots top s n = record {
  slots_least = s.0;
  slots_most = s.1;
  top_least = n.0;
  top_most = n.1;
  above_top = λ k t h. ap length (cond-false (nat_le k top && nat_lt t slots) (usable (out rows t) k) [] (and_left (nat_le k top) (nat_lt t slots) (lt-leb k top h)));
  past_slots = λ k t h. ap length (cond-false (nat_le k top && nat_lt t slots) (usable (out rows t) k) [] (and_right (nat_le k top) (nat_lt t slots) (le-ltb t slots h)));
  level_bounds = λ k t. cond_both (nat_le k top && nat_lt t slots) (usable (out rows t) k) [] (λ xs. length xs ≤ k) (λ e. usable_length (out rows t) k) (λ e. omega arith);
  level_raises = raises;
  lanes = λ k t i. nth_has (usable_at rows slots top k t) i;
  distinct = λ k t. cond_both (nat_le k top && nat_lt t slots) (usable (out rows t) k) [] (λ xs. (i j c : ℕ) → slice_get xs i ≡ Some c → slice_get xs j ≡ Some c → i ≡ j)
      (λ e. (usable_distinct (out rows t) k).1) (λ e i j c a. absurd (none_some c a));
  powered = λ k t. cond_both (nat_le k top && nat_lt t slots) (usable (out rows t) k) [] (λ xs. (i c : ℕ) → slice_get xs i ≡ Some c → c < k)
      (λ e. usable_below (out rows t) k) (λ e i c a. absurd (none_some c a));
  marks_least = refl;
  marks_most = λ t h. and_left (nat_lt 0 t && nat_lt t slots) _ (and_right (nat_lt 0 t) (nat_lt t slots) (le-ltb t slots h));
  capacity_stays = λ k t h e. ap length (cores_stays rows slots top k t h e);
  core_stays = λ k t i h e. ap (λ xs. slice_get xs i) (cores_stays rows slots top k t h e);
}
  where
    raises : (k t : ℕ) → k < top → length (usable_at rows slots top k t) ≤ length (usable_at rows slots top (k + 1) t)
    raises k t h =
        let a : k ≤ top = omega arith in
        let b : k + 1 ≤ top = omega arith in
        let u = usable_raises (out rows t) k in
        rw (le-leb k top a, le-leb (k + 1) top b) (⊎_elim (λ e. rw e u) (λ e. rw e (omega arith)) (cases_Bool (nat_lt t slots)))
