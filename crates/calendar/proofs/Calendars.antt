-- A calendar's cores from one word a slot, and its first mark.
use Rattle.std.proofs.Common.{◌≡◌, ℕ, ◌+◌, ◌*◌, ◌%◌, ◌^◌, ◌<◌, ◌≤◌, Bool, true, false, ◌&&◌, ◌||◌, eqb, ltb, leb, nat_lt, cond, List, [], map, length, get_or, take, replicate, sym, refl, ap, ◌∙◌, ⊎_elim, arith}
use lib.Bits.{bit_or}
use Rattle.std.specs.List.{range_with_len, list_any}
use Rattle.std.proofs.lemmas.Nat.{one_shl}
use Rattle.std.proofs.lemmas.Bool.{cases_Bool, cond-true, cond-false, and_parts, and_from, and_right, leb-true, le-leb, lt-ltb}
use Rattle.calendar.specs.Calendar.{takes_out, out, usable_at, outage_edge, calendar}
use Rattle.calendar.specs.Cores.{bit, usable}
use Rattle.bank.specs.First.{first_above}
use Rattle.bank.specs.Limits.{in_bank}
use Rattle.bank.specs.Laws.Tests.{inner}
use Rattle.calendar.specs.Laws.Usable.{usable_same}
use Rattle.bank.specs.Meaning.{capacities_at}
use Rattle.calendar.specs.declared.Outage.{Outage}
use Rattle.bank.proofs.Filled.{counted_same, counted_none}
use Rattle.bank.proofs.Firsts.{first_same}
use Rattle.std.proofs.lemmas.List.Folds.{list_any_more}
use Rattle.calendar.proofs.Words.{bit_of_or, bit_power}

and_true : (x y : Bool) → true ≡ y → x ≡ (x && y)
and_true true y h = h
and_true false y h = refl

-- the bit of one row
pub row_bit : (core c : ℕ) (b : Bool) → core < 64 → true ≡ b → bit ((1 * 2 ^ core) % 2 ^ 64) c ≡ (eqb core c && b)
row_bit core c b h is = ap (λ w. bit w c) (one_shl core 64 h) ∙ bit_power core c ∙ and_true (eqb core c) b is

-- the word of the rows so far, and of one more
pub word_more : (rows : List Outage) (i : ℕ) (d : Outage) (t a b : ℕ) → i < length rows →
    ((c : ℕ) → c < 64 → bit a c ≡ out (take i rows) t c) → ((c : ℕ) → c < 64 → bit b c ≡ takes_out t c (get_or rows i d)) →
    (c : ℕ) → c < 64 → bit (bit_or a b) c ≡ out (take (i + 1) rows) t c
word_more rows i d t a b h so_far row c l =
    bit_of_or a b c ∙ ap (λ x. x || bit b c) (so_far c l) ∙ ap (λ x. out (take i rows) t c || x) (row c l) ∙ sym (list_any_more (takes_out t c) rows i d h)

-- the bits of a word that says of each core whether it is out
word_usable : (rows : List Outage) (top t w : ℕ) → top ≤ 64 → ((c : ℕ) → c < 64 → bit w c ≡ out rows t c) → (k : ℕ) → k ≤ top → usable (bit w) k ≡ usable (out rows t) k
word_usable rows top t w few same k h = usable_same (bit w) (out rows t) k (λ c l. same c (omega arith))

-- where the bank has the level and the slot
pub word_cores : (rows : List Outage) (slots top t w : ℕ) → top ≤ 64 → ((c : ℕ) → c < 64 → bit w c ≡ out rows t c) →
    (k : ℕ) → true ≡ (leb k top && ltb t slots) → usable (bit w) k ≡ usable_at rows slots top k t
word_cores rows slots top t w few same k inside =
    let (a, b) = and_parts (leb k top) (ltb t slots) (sym inside) in
    word_usable rows top t w few same k (leb-true k top a) ∙ sym (cond-true (in_bank slots top k t) (usable (out rows t) k) [] (sym inside))

-- at each level, in a slot of the bank
pub word_levels : (rows : List Outage) (slots top t w : ℕ) → top ≤ 64 → ((c : ℕ) → c < 64 → bit w c ≡ out rows t c) → t < slots →
    (k : ℕ) → k ≤ top → usable (bit w) k ≡ usable_at rows slots top k t
word_levels rows slots top t w few same last k h = word_cores rows slots top t w few same k (sym (and_from (leb k top) (ltb t slots) (le-leb k top h) (lt-ltb t slots last)))

-- the counts at every level, in a slot of the bank
pub counts_at : (rows : List Outage) (slots top t w : ℕ) (r : List ℕ) → r ≡ map (λ k. cond (leb k top) (length (usable (bit w) k)) 0) (range_with_len 0 65) →
    ((k : ℕ) → k ≤ top → usable (bit w) k ≡ usable_at rows slots top k t) → r ≡ capacities_at (calendar rows slots top) t
counts_at rows slots top t w r is known =
    is ∙ counted_same (λ k. cond (leb k top) (length (usable (bit w) k)) 0) (λ k. length (usable_at rows slots top k t)) 0 65 (λ k l. ⊎_elim (level k) (above k) (cases_Bool (leb k top)))
  where
    level : (k : ℕ) → leb k top ≡ true → cond (leb k top) (length (usable (bit w) k)) 0 ≡ length (usable_at rows slots top k t)
    level k e = cond-true (leb k top) (length (usable (bit w) k)) 0 e ∙ ap length (known k (leb-true k top e))

    above : (k : ℕ) → leb k top ≡ false → cond (leb k top) (length (usable (bit w) k)) 0 ≡ length (usable_at rows slots top k t)
    above k e = rw e

-- past the last slot
pub no_counts : (rows : List Outage) (slots top t : ℕ) → in_bank slots top 0 t ≡ false → replicate 65 0 ≡ capacities_at (calendar rows slots top) t
no_counts rows slots top t past =
    let last : ltb t slots ≡ false = rw (le-leb 0 top (omega arith)) at past in
    counted_none (λ k. length (usable_at rows slots top k t)) 0 65 (λ k. ap length (cond-false (in_bank slots top k t) (usable (out rows t) k) [] (and_right (leb k top) (ltb t slots) last)))

-- the first end of an outage is the calendar's first mark
pub first_mark : (rows : List Outage) (slots t r : ℕ) →
    r ≡ first_above (λ s. list_any (outage_edge s) rows) slots t → r ≡ first_above (λ s. (nat_lt 0 s && nat_lt s slots) && list_any (outage_edge s) rows) slots t
first_mark rows slots t r is =
    is ∙ first_same (λ s. list_any (outage_edge s) rows) (λ s. (nat_lt 0 s && nat_lt s slots) && list_any (outage_edge s) rows) slots t
    (λ s h k. sym (inner s slots (list_any (outage_edge s) rows) (omega arith) k))
