-- Lines and sections that are written are read back, and those that are read are written back.
use Rattle.std.proofs.Common.{◌≡◌, ℕ, zero, suc, ◌+◌, ◌^◌, ◌<◌, ◌≤◌, true, eqb, leb, List, [], ◌∷◌, ◌++◌, length, get_or, drop, Some, None, Ok, Err, decimal, Option, Result, sym, refl, ap, ◌∙◌, subst, ⊎_elim, append_assoc, append-nil, arith, length-append}
use Rattle.std.proofs.lemmas.List.{drop_at}
use Rattle.std.proofs.lemmas.Bool.{cond-true, cond-false, eq-eqb, eqb-true, le-leb, leb-true, and_from, and_parts, cases_Bool}
use Rattle.std.proofs.lemmas.Result.{IfOk-at_ok}
use Rattle.std.specs.List.{AllByRecursion}
use Rattle.text.specs.declared.LineFault.{LineFault}
use Rattle.text.specs.declared.NumberFault.{NumberFault}
use Rattle.text.specs.declared.limits.Limits.{Limits}
use Rattle.text.specs.declared.number.Field.{Field}
use Rattle.text.specs.Number.{closes, numeral}
use Rattle.sheet.specs.Fields.{Line, close_before, fields, Rows, lines, count_to, section, Fitting, Short}
use Rattle.text.specs.Field.{within, judged, field, and_then, on_line}
use Rattle.sheet.specs.Trips.{FitRows}
use Rattle.sheet.specs.Writing.{close_for, write_line, write_lines, write_section}
use Rattle.sheet.specs.Format.{Format}
use Rattle.sheet.proofs.RoundTrip.{number_read, number_written}

pub not_ok : {X F : Type 0} (f : F) (x : X) → ◌≡◌ {A = Result X F} (Err f) (Ok x) → ⊥
not_ok f x e = IfOk-at_ok (λ _. ⊥) e tt

pub below_high : (l : Limits) (n : ℕ) → within l n ≡ true → n ≤ l.high
below_high l n e = leb-true n l.high (and_parts (leb l.low n) (leb n l.high) e).1

closes_for : (ns : List ℕ) → closes (close_for ns) ≡ true
closes_for [] = refl
closes_for (n ∷ ns) = refl

same_close : (ls : List Limits) (ns : List ℕ) → Fitting ls ns → close_for ns ≡ close_before ls
same_close [] [] h = refl
same_close [] (n ∷ ns) h = absurd h
same_close (l ∷ ls) [] h = absurd h
same_close (l ∷ ls) (n ∷ ns) h = refl

pub fitting_length : (ls : List Limits) (ns : List ℕ) → Fitting ls ns → length ns ≡ length ls
fitting_length [] [] h = refl
fitting_length [] (n ∷ ns) h = absurd h
fitting_length (l ∷ ls) [] h = absurd h
fitting_length (l ∷ ls) (n ∷ ns) h = ap suc (fitting_length ls ns h.1)

field_read : (l : Limits) (n close byte : ℕ) (rest : List ℕ) → within l n ≡ true → n < 10 ^ 6 → closes close ≡ true → field l close byte (decimal n ++ close ∷ rest) ≡ Ok (record { number = n; len = length (decimal n) + 1; close = close })
field_read l n close byte rest fit small h =
    ap (judged l close byte) (number_read n close rest small h)
    ∙ cond-true (within l n) _ _ fit
    ∙ cond-true (eqb close close) _ _ (eq-eqb close close refl)

after_number : (n c : ℕ) (rest : List ℕ) → drop (length (decimal n) + 1) (decimal n ++ c ∷ rest) ≡ rest
after_number n c rest = ap (drop (length (decimal n) + 1)) (sym (append_assoc (decimal n) (c ∷ []) rest)) ∙ drop_at (decimal n ++ c ∷ []) rest (length (decimal n) + 1) (length-append (decimal n) (c ∷ []))

-- a line that was written is read back
pub line_read : (ls : List Limits) (ns : List ℕ) (byte : ℕ) (rest before : List ℕ) → Short ls → Fitting ls ns → fields ls byte (write_line ns ++ rest) before ≡ Ok (record { numbers = before ++ ns; rest = rest })
line_read [] [] byte rest before s h = ap (λ l. Ok (record { numbers = l; rest = rest })) (sym (append-nil before))
line_read [] (n ∷ ns) byte rest before s h = absurd h
line_read (l ∷ ls) [] byte rest before s h = absurd h
line_read (l ∷ ls) (n ∷ ns) byte rest before s h =
    let c = close_for ns in
    let tail = write_line ns ++ rest in
    let f : Field = record { number = n; len = length (decimal n) + 1; close = c } in
    let read = field_read l n c byte tail h.0 (omega (arith, below_high l n h.0, s.0)) (closes_for ns) in
    ap (λ bs. fields (l ∷ ls) byte bs before) (append_assoc (decimal n) (c ∷ write_line ns) rest)
    ∙ ap (λ k. and_then (field l k byte (decimal n ++ c ∷ tail)) (λ g. fields ls (byte + g.len) (drop g.len (decimal n ++ c ∷ tail)) (before ++ g.number ∷ []))) (sym (same_close ls ns h.1))
    ∙ ap (λ r. and_then r (λ g. fields ls (byte + g.len) (drop g.len (decimal n ++ c ∷ tail)) (before ++ g.number ∷ []))) read
    ∙ ap (λ bs. fields ls (byte + (length (decimal n) + 1)) bs (before ++ n ∷ [])) (after_number n c tail)
    ∙ line_read ls ns (byte + (length (decimal n) + 1)) rest (before ++ n ∷ []) s.1 h.1
    ∙ ap (λ l. Ok (record { numbers = l; rest = rest })) (append_assoc before (n ∷ []) ns)

-- what a field that is accepted says
record Accepted (l : Limits) (close : ℕ) (bs : List ℕ) (f : Field) : Type 0 where
  pub fit : within l f.number ≡ true
  pub due : f.close ≡ close
  pub split : bs ≡ decimal f.number ++ close ∷ drop f.len bs

pub judged_ok : (l : Limits) (close byte : ℕ) (o : Option Field) (f : Field) → judged l close byte o ≡ Ok f → (o ≡ Some f) × (within l f.number ≡ true) × (f.close ≡ close)
judged_ok l close byte None f e = absurd (not_ok _ f e)
judged_ok l close byte (Some g) f e =
    ⊎_elim
    (λ w. let inner = sym (cond-true (within l g.number) _ _ w) ∙ e in
    ⊎_elim
    (λ d. let same : g ≡ f = cc (sym (cond-true (eqb g.close close) (Ok g) _ d) ∙ inner) in
    (ap Some same, subst (λ x. within l x.number ≡ true) same w, subst (λ x. x.close ≡ close) same (eqb-true g.close close d)))
    (λ d. absurd (not_ok _ f (sym (cond-false (eqb g.close close) _ _ d) ∙ inner)))
    (cases_Bool (eqb g.close close)))
    (λ w. absurd (not_ok _ f (sym (cond-false (within l g.number) _ _ w) ∙ e)))
    (cases_Bool (within l g.number))

accepted : (l : Limits) (close byte : ℕ) (bs : List ℕ) (f : Field) → field l close byte bs ≡ Ok f → Accepted l close bs f
accepted l close byte bs f e =
    let p = judged_ok l close byte (numeral 0 0 bs) f e in
    let w = number_written bs f p.0 in
    record { fit = p.1; due = p.2; split = subst (λ c. bs ≡ decimal f.number ++ c ∷ drop f.len bs) p.2 w.split }

-- what a line that was read says of its bytes
pub record LineWritten (ls : List Limits) (bs before : List ℕ) (t : Line) : Type 0 where
  pub ns : List ℕ
  pub numbers : t.numbers ≡ before ++ ns
  pub fit : Fitting ls ns
  pub split : bs ≡ write_line ns ++ t.rest

-- one field more, given the rest of the line
field_written : (l : Limits) (ls : List Limits) (byte : ℕ) (bs before : List ℕ) (t : Line) (more : (f : Field) → fields ls (byte + f.len) (drop f.len bs) (before ++ f.number ∷ []) ≡ Ok t → LineWritten ls (drop f.len bs) (before ++ f.number ∷ []) t) (r : Result Field NumberFault) → field l (close_before ls) byte bs ≡ r → and_then r (λ f. fields ls (byte + f.len) (drop f.len bs) (before ++ f.number ∷ [])) ≡ Ok t → LineWritten (l ∷ ls) bs before t
field_written l ls byte bs before t more (Ok f) q g =
    let a = accepted l (close_before ls) byte bs f q in
    let m = more f g in
    record {
      ns = f.number ∷ m.ns;
      numbers = m.numbers ∙ append_assoc before (f.number ∷ []) m.ns;
      fit = (a.fit, m.fit);
      split = a.split ∙ (λ i. decimal f.number ++ sym (same_close ls m.ns m.fit) i ∷ m.split i) ∙ sym (append_assoc (decimal f.number) (close_for m.ns ∷ write_line m.ns) t.rest);
    }
field_written l ls byte bs before t more (Err fault) q g = absurd (not_ok fault t g)

pub line_written : (ls : List Limits) (byte : ℕ) (bs before : List ℕ) (t : Line) → fields ls byte bs before ≡ Ok t → LineWritten ls bs before t
line_written [] byte bs before t e =
    let same : record { numbers = before; rest = bs } ≡ t = cc in
    record { ns = []; numbers = ap (λ x. x.numbers) (sym same) ∙ sym (append-nil before); fit = tt; split = ap (λ x. x.rest) same }
line_written (l ∷ ls) byte bs before t e =
    field_written l ls byte bs before t (λ f. line_written ls (byte + f.len) (drop f.len bs) (before ++ f.number ∷ []) t) (field l (close_before ls) byte bs) refl e

-- what lines that were read say of their bytes
pub record LinesWritten {R : Type 0} (ls : List Limits) (numbers : R → List ℕ) (k line : ℕ) (bs : List ℕ) (before : List R) (t : Rows R) : Type 0 where
  pub new : List R
  pub rows : t.rows ≡ before ++ new
  pub count : length new ≡ k
  pub next : t.next ≡ line + k
  pub fit : AllByRecursion (λ x. Fitting ls (numbers x)) new
  pub split : bs ≡ write_lines numbers new ++ t.rest

on_line_ok : {X : Type 0} (line : ℕ) (r : Result X NumberFault) (x : X) → on_line line r ≡ Ok x → r ≡ Ok x
on_line_ok line (Ok y) x e = cc
on_line_ok line (Err f) x e = absurd (not_ok _ x e)

-- a list of one element
pub one_row : {X : Type 0} (xs : List X) (d : X) → length xs ≡ 1 → xs ≡ get_or xs 0 d ∷ []
one_row [] d h = absurd (omega arith)
one_row (x ∷ []) d h = refl
one_row (x ∷ (y ∷ ys)) d h = absurd (omega arith)

spelled_one : (ns : List ℕ) → length ns ≡ 1 → get_or ns 0 0 ∷ [] ≡ ns
spelled_one ns h = sym (one_row ns 0 h)

module _ {R : Type 0} (ls : List Limits) (make : List ℕ → R) (numbers : R → List ℕ) (format : Format ls make numbers) where
  -- lines that were written are read back
  pub lines_read : (new : List R) (line : ℕ) (rest : List ℕ) (before : List R) → AllByRecursion (λ x. Fitting ls (numbers x)) new → lines ls make (length new) line (write_lines numbers new ++ rest) before ≡ Ok (record { rows = before ++ new; next = line + length new; rest = rest })
  lines_read [] line rest before h = λ i. Ok (record { rows = sym (append-nil before) i; next = stay i; rest = rest })
    where
      stay : line ≡ line + 0
      stay = omega arith
  lines_read (x ∷ new) line rest before h =
      ap (λ bs. lines ls make (suc (length new)) line bs before) (append_assoc (write_line (numbers x)) (write_lines numbers new) rest)
      ∙ ap (λ r. and_then (on_line line r) (λ t. lines ls make (length new) (line + 1) t.rest (before ++ make t.numbers ∷ []))) (line_read ls (numbers x) 0 (write_lines numbers new ++ rest) [] format.short h.0)
      ∙ ap (λ y. lines ls make (length new) (line + 1) (write_lines numbers new ++ rest) (before ++ y ∷ [])) (format.unmade x)
      ∙ lines_read new (line + 1) rest (before ++ x ∷ []) h.1
      ∙ (λ i. Ok (record { rows = append_assoc before (x ∷ []) new i; next = on i; rest = rest }))
    where
      on : line + 1 + length new ≡ line + suc (length new)
      on = omega arith

  row_written : (k line : ℕ) (bs : List ℕ) (before : List R) (t : Rows R) (more : (u : Line) → lines ls make k (line + 1) u.rest (before ++ make u.numbers ∷ []) ≡ Ok t → LinesWritten ls numbers k (line + 1) u.rest (before ++ make u.numbers ∷ []) t) (r : Result Line LineFault) → on_line line (fields ls 0 bs []) ≡ r → and_then r (λ u. lines ls make k (line + 1) u.rest (before ++ make u.numbers ∷ [])) ≡ Ok t → LinesWritten ls numbers (suc k) line bs before t
  row_written k line bs before t more (Ok u) q g =
      let w = line_written ls 0 bs [] u (on_line_ok line (fields ls 0 bs []) u q) in
      let m = more u g in
      let back : numbers (make u.numbers) ≡ w.ns = ap (λ l. numbers (make l)) w.numbers ∙ format.remade w.ns (fitting_length ls w.ns w.fit) in
      record {
        new = make u.numbers ∷ m.new;
        rows = m.rows ∙ append_assoc before (make u.numbers ∷ []) m.new;
        count = ap suc m.count;
        next = m.next ∙ (omega arith);
        fit = (subst (Fitting ls) (sym back) w.fit, m.fit);
        split = w.split ∙ (λ i. write_line (sym back i) ++ m.split i) ∙ sym (append_assoc (write_line (numbers (make u.numbers))) (write_lines numbers m.new) t.rest);
      }
  row_written k line bs before t more (Err fault) q g = absurd (not_ok fault t g)

  -- lines that are read are written back
  pub lines_written : (k line : ℕ) (bs : List ℕ) (before : List R) (t : Rows R) → lines ls make k line bs before ≡ Ok t → LinesWritten ls numbers k line bs before t
  lines_written zero line bs before t e =
      let same : record { rows = before; next = line; rest = bs } ≡ t = cc in
      record { new = []; rows = ap (λ x. x.rows) (sym same) ∙ sym (append-nil before); count = refl; next = ap (λ x. x.next) (sym same) ∙ (omega arith); fit = tt; split = ap (λ x. x.rest) same }
  lines_written (suc k) line bs before t e =
      row_written k line bs before t (λ u. lines_written k (line + 1) u.rest (before ++ make u.numbers ∷ []) t) (on_line line (fields ls 0 bs [])) refl e

  -- a section that was written is read back
  pub section_read : (most line : ℕ) (rows : List R) (rest : List ℕ) → most < 10 ^ 6 → FitRows most ls numbers rows → section most ls make line (write_section numbers rows ++ rest) ≡ Ok (record { rows = rows; next = line + 1 + length rows; rest = rest })
  section_read most line rows rest small h =
      ap (λ bs. section most ls make line bs) (append_assoc (write_line (length rows ∷ [])) (write_lines numbers rows) rest)
      ∙ ap (λ r. and_then (on_line line r) (λ c. lines ls make (get_or c.numbers 0 0) (line + 1) c.rest [])) (line_read (count_to most ∷ []) (length rows ∷ []) 0 (write_lines numbers rows ++ rest) [] (small, tt) (counted, tt))
      ∙ lines_read rows (line + 1) rest [] h.1
    where
      counted : within (count_to most) (length rows) ≡ true
      counted = and_from (leb 0 (length rows)) (leb (length rows) most) (le-leb 0 (length rows) (omega arith)) (le-leb (length rows) most h.0)

  count_written : (most line : ℕ) (bs : List ℕ) (t : Rows R) (r : Result Line LineFault) → on_line line (fields (count_to most ∷ []) 0 bs []) ≡ r → and_then r (λ c. lines ls make (get_or c.numbers 0 0) (line + 1) c.rest []) ≡ Ok t → FitRows most ls numbers t.rows × (bs ≡ write_section numbers t.rows ++ t.rest)
  count_written most line bs t (Err fault) q g = absurd (not_ok fault t g)
  count_written most line bs t (Ok c) q g =
      let w = line_written (count_to most ∷ []) 0 bs [] c (on_line_ok line (fields (count_to most ∷ []) 0 bs []) c q) in
      let m = lines_written (get_or c.numbers 0 0) (line + 1) c.rest [] t g in
      let one = spelled_one w.ns (fitting_length (count_to most ∷ []) w.ns w.fit) in
      let count : get_or w.ns 0 0 ≡ length t.rows = ap (λ l. get_or l 0 0) (sym w.numbers) ∙ sym m.count ∙ ap length (sym m.rows) in
      let line : w.ns ≡ length t.rows ∷ [] = sym one ∙ ap (λ n. n ∷ []) count in
      let fit = (subst (Fitting (count_to most ∷ [])) line w.fit).0 in (
        (below_high (count_to most) (length t.rows) fit, subst (AllByRecursion (λ x. Fitting ls (numbers x))) (sym m.rows) m.fit),
        w.split ∙ (λ i. write_line (line i) ++ (m.split ∙ ap (λ l. write_lines numbers l ++ t.rest) (sym m.rows)) i) ∙ sym (append_assoc (write_line (length t.rows ∷ [])) (write_lines numbers t.rows) t.rest),
      )

  -- a section that is read is written back
  pub section_written : (most line : ℕ) (bs : List ℕ) (t : Rows R) → section most ls make line bs ≡ Ok t → FitRows most ls numbers t.rows × (bs ≡ write_section numbers t.rows ++ t.rest)
  section_written most line bs t e = count_written most line bs t (on_line line (fields (count_to most ∷ []) 0 bs [])) refl e
