-- One field more of a line, and one line more of a section.
use Rattle.std.proofs.Common.{◌≡◌, ℕ, suc, ◌+◌, ◌-◌, ◌*◌, ◌<◌, ◌≤◌, ltb, List, [], ◌∷◌, ◌++◌, length, get_or, take, drop, set, Ok, Err, Result, sym, ap, ◌∙◌, subst, refl, arith, length-append, length-drop, length-set}
use Rattle.std.proofs.lemmas.Bool.{cond-true, cond-false, le-ltb, lt-ltb}
use Rattle.std.proofs.lemmas.List.{at_drop_more, at_drop_all, take_all, take_more_set, take_rest}
use Rattle.bank.specs.declared.refusal.Refusal.TheVariants.{SlotOpen}
use Rattle.text.specs.declared.NumberFault.{NumberFault}
use Rattle.text.specs.declared.limits.Limits.{Limits}
use Rattle.text.specs.declared.number.Field.{Field}
use Rattle.text.specs.Field.{field, and_then, on_line}
use Rattle.text.specs.Number.{numeral}
use Rattle.sheet.specs.Fields.{close_at, close_before, Line, fields, lines}
use Rattle.sheet.proofs.LineTrip.{judged_ok}
use Rattle.sheet.proofs.RoundTrip.{number_written}

-- what closes a field says whether more elements follow
pub close_follows : {X : Type 0} (close : List X → ℕ) → ((x : X) (xs : List X) → close (x ∷ xs) ≡ 32) → close [] ≡ 10 → (xs : List X) (j : ℕ) → close_at (length xs) j ≡ close (drop (j + 1) xs)
close_follows close more none xs j = after (drop (j + 1) xs) (length-drop (j + 1) xs)
  where
    after : (ys : List _) → length ys ≡ length xs - (j + 1) → close_at (length xs) j ≡ close ys
    after [] e = cond-false (ltb (j + 1) (length xs)) 32 10 (le-ltb (j + 1) (length xs) (omega arith)) ∙ sym none
    after (y ∷ ys) e = cond-true (ltb (j + 1) (length xs)) 32 10 (lt-ltb (j + 1) (length xs) (omega arith)) ∙ sym (more y ys)

-- a field takes a byte at least
pub field_takes : (l : Limits) (close byte : ℕ) (bs : List ℕ) (f : Field) → field l close byte bs ≡ Ok f → 0 < f.len
field_takes l close byte bs f e = let w = number_written bs f (judged_ok l close byte (numeral 0 0 bs) f e).0 in omega (arith, w.long)

-- what an element past a table's end reads as
abbrev pub unlisted : Limits
unlisted = record { low = 0; high = 0; refusal = SlotOpen }

-- a line that begins the bytes `start`, after j of its n fields
pub record InLine (ls : List Limits) (n : ℕ) (start : List ℕ) (j byte : ℕ) (rest numbers : List ℕ) : Type 0 where
  pub listed : length ls ≡ n
  pub few : byte ≤ 7 * j
  pub room : length numbers ≡ n
  pub taken : length rest + j ≤ length start
  pub same : fields (drop j ls) byte rest (take j numbers) ≡ fields ls 0 start []

module _ (ls : List Limits) (n : ℕ) (start : List ℕ) (j byte : ℕ) (rest numbers : List ℕ) (so : InLine ls n start j byte rest numbers) where
  pub line_all : n ≤ j → fields ls 0 start [] ≡ Ok (record { numbers = numbers; rest = rest })
  line_all h =
      sym so.same
      ∙ at_drop_all (λ left. fields left byte rest (take j numbers)) ls j (omega (arith, so.listed))
      ∙ ap (λ ns. Ok (record { numbers = ns; rest = rest })) (take_all j numbers (omega (arith, so.room)))

  -- the field that was read, up to the close that is due
  module _ (h : j < n) (close : ℕ) (due : close ≡ close_at n j) (r : Result Field NumberFault) (read : r ≡ field (get_or ls j unlisted) close byte rest) where
    is_due : field (get_or ls j unlisted) (close_before (drop (j + 1) ls)) byte rest ≡ r
    is_due = sym (read ∙ ap (λ k. field (get_or ls j unlisted) k byte rest) (due ∙ ap (λ k. close_at k j) (sym so.listed) ∙ close_follows close_before (λ l ls. refl) refl ls j))

    follows : and_then r (λ f. fields (drop (j + 1) ls) (byte + f.len) (drop f.len rest) (take j numbers ++ f.number ∷ [])) ≡ fields ls 0 start []
    follows =
        ap (λ r. and_then r (λ f. fields (drop (j + 1) ls) (byte + f.len) (drop f.len rest) (take j numbers ++ f.number ∷ []))) (sym is_due)
        ∙ sym (at_drop_more (λ left. fields left byte rest (take j numbers)) ls j unlisted (omega (arith, so.listed)))
        ∙ so.same

  pub line_fault : j < n → (close : ℕ) → close ≡ close_at n j → (fault : NumberFault) → Err fault ≡ field (get_or ls j unlisted) close byte rest → fields ls 0 start [] ≡ Err fault
  line_fault h close due fault read = sym (follows h close due (Err fault) read)

  pub line_more : j < n → (close : ℕ) → close ≡ close_at n j → (f : Field) → Ok f ≡ field (get_or ls j unlisted) close byte rest → f.len ≤ length rest → f.len ≤ 7 → InLine ls n start (j + 1) (byte + f.len) (take (length rest - f.len) (drop f.len rest)) (set numbers j f.number)
  line_more h close due f read fits few =
      let inside : j < length numbers = omega (arith, so.room) in
      let takes = field_takes (get_or ls j unlisted) close byte rest f (sym read) in
      subst (λ left. InLine ls n start (j + 1) (byte + f.len) left (set numbers j f.number)) (sym (take_rest rest f.len)) (record {
        listed = so.listed;
        few = omega (arith, so.few);
        room = length-set numbers j f.number ∙ so.room;
        taken = omega (arith, takes, so.taken, length-drop f.len rest);
        same = ap (fields (drop (j + 1) ls) (byte + f.len) (drop f.len rest)) (take_more_set numbers j f.number inside) ∙ follows h close due (Ok f) read;
      })

-- a section of `count` lines that begins the bytes `start` at line `first`, after i of its lines
pub record InRows {R : Type 0} (ls : List Limits) (make : List ℕ → R) (count first : ℕ) (start : List ℕ) (old : List R) (i line : ℕ) (rest : List ℕ) (rows : List R) : Type 0 where
  pub taken : line + length rest ≤ first + length start
  pub added : length rows ≡ length old + i
  pub same : lines ls make (count - i) line rest rows ≡ lines ls make count first start old

module _ {R : Type 0} (ls : List Limits) (make : List ℕ → R) (count first : ℕ) (start : List ℕ) (old : List R) (i line : ℕ) (rest : List ℕ) (rows : List R) (so : InRows ls make count first start old i line rest rows) (h : i < count) where
  -- the line that was read
  then_more : (r : Result Line NumberFault) → fields ls 0 rest [] ≡ r → and_then (on_line line r) (λ t. lines ls make (count - (i + 1)) (line + 1) t.rest (rows ++ make t.numbers ∷ [])) ≡ lines ls make count first start old
  then_more r e =
      ap (λ r. and_then (on_line line r) (λ t. lines ls make (count - (i + 1)) (line + 1) t.rest (rows ++ make t.numbers ∷ []))) (sym e)
      ∙ ap (λ k. lines ls make k line rest rows) one
      ∙ so.same
    where
      one : suc (count - (i + 1)) ≡ count - i
      one = omega arith

  pub rows_fault : (fault : NumberFault) → fields ls 0 rest [] ≡ Err fault → lines ls make count first start old ≡ Err (record { line = line; number = fault })
  rows_fault fault e = sym (then_more (Err fault) e)

  pub rows_more : (numbers to : List ℕ) (made : R) (more : List R) → fields ls 0 rest [] ≡ Ok (record { numbers = numbers; rest = to }) → length to < length rest → made ≡ make numbers → more ≡ rows ++ made ∷ [] → InRows ls make count first start old (i + 1) (line + 1) to more
  rows_more numbers to made more e takes m a = record {
    taken = omega (arith, so.taken, takes);
    added = omega (arith, so.added, ap length a, length-append rows (made ∷ []));
    same = ap (lines ls make (count - (i + 1)) (line + 1) to) (a ∙ ap (λ x. rows ++ x ∷ []) m) ∙ then_more (Ok (record { numbers = numbers; rest = to })) e;
  }
