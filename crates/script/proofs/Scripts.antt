-- Scripts, line by line.
use Rattle.std.proofs.Common.{◌≡◌, ℕ, zero, suc, ◌+◌, ◌-◌, ◌<◌, ◌≤◌, true, false, eqb, List, [], ◌∷◌, length, get_or, take, drop, is_ok, IfOk, IfSome, IfNone, Ok, Err, Result, MatchResult, sym, refl, ap, ◌∙◌, subst, arith, length-drop}
use Rattle.std.proofs.lemmas.List.{take_rest, drop-drop}
use Rattle.std.specs.Result.{result_ok}
use Rattle.text.specs.Faults.{tagged}
use Rattle.text.specs.Field.{field, and_then, on_line}
use Rattle.text.specs.declared.LineFault.{LineFault}
use Rattle.text.specs.declared.NumberFault.{NumberFault}
use Rattle.text.specs.declared.number.Field.{Field}
use Rattle.script.specs.Lines.{line_read, after_line, NumberedAt}
use Rattle.script.specs.Script.{Step, any_number, ticket_of, numbered, command_line, before, commands, script, accepted_commands, left_of}
use Rattle.script.specs.declared.Command.{Command}
use Rattle.script.specs.declared.Command.TheVariants.{Admit, Withdraw}
use Rattle.script.specs.declared.line.Line.{Line}

-- a line with a number that was read after its letter and a space
pub shown_numbered : (Made : ℕ → Command → Type 0) (make : ℕ → Command) → ((n : ℕ) (c : Command) → Made n c → c ≡ make n) → (bs : List ℕ) (f : Result Field NumberFault) (r : Result Line NumberFault) →
    NumberedAt Made (take (length bs - 2) (drop 2 bs)) f r → line_read r ≡ after_line bs (numbered make f)
shown_numbered Made make made bs (Ok f) (Ok line) h =
    let c = made f.number line.command h.0 in
    let rest : line.rest.now ≡ drop (f.len + 2) bs = h.1 ∙ ap (drop f.len) (take_rest bs 2) ∙ drop-drop f.len 2 bs ∙ ap (λ n. drop n bs) (omega arith) in
    ap Ok (rw (c, rest) refl)
shown_numbered Made make made bs (Ok f) (Err e) h = absurd h
shown_numbered Made make made bs (Err e) (Ok line) h = absurd h
shown_numbered Made make made bs (Err e) (Err f) h = ap Err (sym h)

-- a line begins with two bytes: A or W, and a space
module _ (t : ℕ) where
  pub admit_line : (bs : List ℕ) → 2 ≤ length bs → get_or bs 0 0 ≡ 65 → get_or bs 1 0 ≡ 32 → command_line t bs ≡ numbered Admit (field (ticket_of t) 10 2 (take (length bs - 2) (drop 2 bs)))
  admit_line [] two letter close = grind arith
  admit_line (b ∷ []) two letter close = grind arith
  admit_line (b ∷ (c ∷ rest)) two letter close = rw (letter, close, take_rest (b ∷ (c ∷ rest)) 2) refl

  pub withdraw_line : (bs : List ℕ) → 2 ≤ length bs → get_or bs 0 0 ≡ 87 → get_or bs 1 0 ≡ 32 → command_line t bs ≡ numbered Withdraw (field any_number 10 2 (take (length bs - 2) (drop 2 bs)))
  withdraw_line [] two letter close = grind arith
  withdraw_line (b ∷ []) two letter close = grind arith
  withdraw_line (b ∷ (c ∷ rest)) two letter close = rw (letter, close, take_rest (b ∷ (c ∷ rest)) 2) refl

-- a line takes two bytes at least
line_len : (t : ℕ) (bs : List ℕ) → IfOk (command_line t bs) (λ s. 2 ≤ s.len)
line_len t [] = tt
line_len t (b ∷ []) = tt
line_len t (b ∷ (c ∷ rest)) = grind arith

at_ok : {X Y : Type 0} (r : Result X Y) (P : X → Type 0) (x : X) → r ≡ Ok x → IfOk r P → P x
at_ok r P x e h = subst (λ (q : Result _ _). IfOk q P) e h

-- two ways to go on that agree where the line was read
same_after : {X : Type 0} (line : ℕ) (r : Result Step NumberFault) (f g : Step → Result X LineFault) → ((s : Step) → r ≡ Ok s → f s ≡ g s) → and_then (on_line line r) f ≡ and_then (on_line line r) g
same_after line (Ok s) f g same = same s refl
same_after line (Err e) f g same = refl

-- any number of lines that is large enough serves
enough : (n t k line : ℕ) (bs : List ℕ) → k ≤ n → length bs ≤ k → commands t k line bs ≡ commands t (length bs) line bs
enough zero t zero line [] h l = refl
enough zero t zero line (b ∷ bs) h l = grind arith
enough zero t (suc k) line bs h l = grind arith
enough (suc n) t zero line [] h l = refl
enough (suc n) t zero line (b ∷ bs) h l = grind arith
enough (suc n) t (suc k) line [] h l = refl
enough (suc n) t (suc k) line (b ∷ bs) h l =
    same_after line (command_line t (b ∷ bs)) _ _ (λ s e.
    let two = at_ok (command_line t (b ∷ bs)) (λ x. 2 ≤ x.len) s e (line_len t (b ∷ bs)) in
    let shorter = length-drop s.len (b ∷ bs) in
    let rest = drop s.len (b ∷ bs) in
    ap (before s.command) (enough n t k (line + 1) rest (omega arith) (omega arith) ∙ sym (enough n t (length bs) (line + 1) rest (omega arith) (omega arith))))

-- one line more
lines_more : (t line : ℕ) (bs : List ℕ) (s : Step) → 0 < length bs → command_line t bs ≡ Ok s →
    commands t (length bs) line bs ≡ before s.command (commands t (length (drop s.len bs)) (line + 1) (drop s.len bs))
lines_more t line [] s some e = grind arith
lines_more t line (b ∷ bs) s some e =
    let two = at_ok (command_line t (b ∷ bs)) (λ x. 2 ≤ x.len) s e (line_len t (b ∷ bs)) in
    let shorter = length-drop s.len (b ∷ bs) in
    ap (λ r. and_then (on_line line r) (λ x. before x.command (commands t (length bs) (line + 1) (drop x.len (b ∷ bs))))) e ∙
    ap (before s.command) (enough (length bs) t (length bs) (line + 1) (drop s.len (b ∷ bs)) (omega arith) (omega arith))

lines_fault : (t line : ℕ) (bs : List ℕ) (f : NumberFault) → 0 < length bs → command_line t bs ≡ Err f →
    commands t (length bs) line bs ≡ Err (record { line = line; number = f })
lines_fault t line [] f some e = grind arith
lines_fault t line (b ∷ bs) f some e =
    ap (λ r. and_then (on_line line r) (λ x. before x.command (commands t (length bs) (line + 1) (drop x.len (b ∷ bs))))) e

-- what was read, beside the line that the text has
pub record Read (bs : List ℕ) (l : Result Step NumberFault) (line : Line) : Type 0 where
  pub step : Step
  pub is : l ≡ Ok step
  pub command : line.command ≡ step.command
  pub rest : line.rest.now ≡ drop step.len bs

read_as : (bs : List ℕ) (l : Result Step NumberFault) (r : Result Line NumberFault) → line_read r ≡ after_line bs l → MatchResult r (Read bs l) (λ f. l ≡ Err f)
read_as bs (Ok s) (Ok line) e = record { step = s; is = refl; command = grind arith; rest = grind arith }
read_as bs (Ok s) (Err f) e = grind arith
read_as bs (Err f) (Ok line) e = grind arith
read_as bs (Err f) (Err g) e = grind arith

untagged : {P : Type 0} (place : P) (r : Result Line NumberFault) (q : Result Line (P × NumberFault)) (line : Line) → q ≡ tagged place r → q ≡ Ok line → r ≡ Ok line
untagged place (Ok x) q line placed is = grind arith
untagged place (Err f) q line placed is = grind arith

untagged_fault : {P : Type 0} (place : P) (r : Result Line NumberFault) (q : Result Line (P × NumberFault)) (fault : P × NumberFault) → q ≡ tagged place r → q ≡ Err fault → (fault.0 ≡ place) × (r ≡ Err fault.1)
untagged_fault place (Ok x) q fault placed is = grind arith
untagged_fault place (Err f) q fault placed is = grind arith

-- a script ends as what is left of it ends
pub record Ends (whole part : Result (List Command) LineFault) : Type 0 where
  pub fault : (f : LineFault) → part ≡ Err f → whole ≡ Err f
  pub passes : is_ok part ≡ true → is_ok whole ≡ true

before_ok : (c : Command) (q : Result (List Command) LineFault) → is_ok q ≡ is_ok (before c q)
before_ok c (Ok cs) = refl
before_ok c (Err f) = refl

pub ends_more : (whole part rest : Result (List Command) LineFault) (c : Command) → part ≡ before c rest → Ends whole part → Ends whole rest
ends_more whole part rest c e so_far = record {
  fault = λ f is. so_far.fault f (e ∙ ap (before c) is);
  passes = λ is. so_far.passes (ap (λ r. is_ok r) e ∙ sym (before_ok c rest) ∙ is);
}

-- the lines that are read so far leave `rest`, whose first line has this number
pub record Reading (t : ℕ) (text rest : List ℕ) (number : ℕ) : Type 0 where
  pub few : number + length rest ≤ length text + 1
  pub ends : Ends (script t text) (commands t (length rest) number rest)

-- the next line, read with its number beside its fault
module _ (t : ℕ) (text rest : List ℕ) (number : ℕ) (r : Result Line NumberFault) (q : Result Line (ℕ × NumberFault)) where
  next_line : (line : Line) → line_read r ≡ after_line rest (command_line t rest) → q ≡ tagged number r → q ≡ Ok line → Read rest (command_line t rest) line
  next_line line read placed is =
      let same : r ≡ Ok line = untagged number r q line placed is in
      subst (λ o. MatchResult o (Read rest (command_line t rest)) (λ f. command_line t rest ≡ Err f)) same (read_as rest (command_line t rest) r read)

  pub line_shorter : (line : Line) → false ≡ eqb (length rest) 0 → line_read r ≡ after_line rest (command_line t rest) → q ≡ tagged number r → q ≡ Ok line → length line.rest.now < length rest
  line_shorter line some read placed is =
      let next = next_line line read placed is in
      let two = at_ok (command_line t rest) (λ x. 2 ≤ x.len) next.step next.is (line_len t rest) in
      grind (arith, ap length next.rest, length-drop next.step.len rest)

  pub reading_more : (line : Line) → Reading t text rest number → false ≡ eqb (length rest) 0 → line_read r ≡ after_line rest (command_line t rest) → q ≡ tagged number r → q ≡ Ok line → Reading t text line.rest.now (number + 1)
  reading_more line so_far some read placed is =
      let next = next_line line read placed is in
      let shorter = line_shorter line some read placed is in
      let inside : 0 < length rest = omega arith in
      record {
        few = omega (arith, so_far.few);
        ends = rw next.rest (ends_more (script t text) _ _ next.step.command (lines_more t number rest next.step inside next.is) so_far.ends);
      }

  pub reading_fault : (fault : ℕ × NumberFault) → Reading t text rest number → false ≡ eqb (length rest) 0 → line_read r ≡ after_line rest (command_line t rest) → q ≡ tagged number r → q ≡ Err fault →
      script t text ≡ Err (record { line = fault.0; number = fault.1 })
  reading_fault fault so_far some read placed is =
      let here = untagged_fault number r q fault placed is in
      let stop = subst (λ o. MatchResult o (Read rest (command_line t rest)) (λ f. command_line t rest ≡ Err f)) here.1 (read_as rest (command_line t rest) r read) in
      let inside : 0 < length rest = grind arith in
      so_far.ends.fault _ (lines_fault t number rest fault.1 inside stop) ∙ ap (λ line. Err (record { line = line; number = fault.1 })) (sym here.0)

pub reading_all : (t : ℕ) (text rest : List ℕ) (number : ℕ) → true ≡ eqb (length rest) 0 → Reading t text rest number → is_ok (script t text) ≡ true
reading_all t text [] number none so_far = so_far.ends.passes refl
reading_all t text (b ∷ bs) number none so_far = grind arith

-- a line read, or the text's end
pub ruleset reading_steps = (line_shorter, reading_more, reading_fault, reading_all)

-- the commands do not depend on the number of the first line
same_before : (c : Command) (p q : Result (List Command) LineFault) (cs : List Command) → ((ds : List Command) → p ≡ Ok ds → q ≡ Ok ds) → before c p ≡ Ok cs → before c q ≡ Ok cs
same_before c (Ok ds) q cs same e = ap (before c) (same ds refl) ∙ e
same_before c (Err f) q cs same e = grind arith

same_step : (r : Result Step NumberFault) (l m : ℕ) (f g : Step → Result (List Command) LineFault) (cs : List Command) →
    ((s : Step) (ds : List Command) → f s ≡ Ok ds → g s ≡ Ok ds) → and_then (on_line l r) f ≡ Ok cs → and_then (on_line m r) g ≡ Ok cs
same_step (Ok s) l m f g cs same e = same s cs e
same_step (Err x) l m f g cs same e = grind arith

any_line : (t k l m : ℕ) (bs : List ℕ) (cs : List Command) → commands t k l bs ≡ Ok cs → commands t k m bs ≡ Ok cs
any_line t zero l m bs cs e = e
any_line t (suc k) l m [] cs e = e
any_line t (suc k) l m (b ∷ bs) cs e =
    same_step (command_line t (b ∷ bs)) l m _ _ cs
    (λ s ds. same_before s.command _ _ ds (λ xs. any_line t k (l + 1) (m + 1) (drop s.len (b ∷ bs)) xs)) e

was_before : (c : Command) (q : Result (List Command) LineFault) → is_ok (before c q) ≡ true → (ds : List Command) × (q ≡ Ok ds)
was_before c (Ok ds) e = (ds, refl)
was_before c (Err f) e = grind arith

-- a script that is accepted, after its first line is accepted too, and its commands are that line's and then the others
next_of : (t : ℕ) (bs : List ℕ) (s : Step) → command_line t bs ≡ Ok s → is_ok (script t bs) ≡ true →
    (is_ok (script t (drop s.len bs)) ≡ true) × (left_of t bs ≡ s.command ∷ left_of t (drop s.len bs))
next_of t [] s e accepted = grind arith
next_of t (b ∷ tail) s e accepted =
    let bs = b ∷ tail in
    let more = lines_more t 1 bs s (omega arith) e in
    let rest = was_before s.command (commands t (length (drop s.len bs)) 2 (drop s.len bs)) (sym (ap (λ r. is_ok r) more) ∙ accepted) in
    let left = any_line t (length (drop s.len bs)) 2 1 (drop s.len bs) rest.0 rest.1 in (
      ap (λ r. is_ok r) left,
      ap accepted_commands more ∙ ap (λ r. accepted_commands (before s.command r)) rest.1 ∙ sym (ap (λ r. s.command ∷ accepted_commands r) left),
    )

-- only where no line is left, none is read
none_of : (t : ℕ) (bs : List ℕ) (f : NumberFault) → command_line t bs ≡ Err f → is_ok (script t bs) ≡ true → left_of t bs ≡ []
none_of t [] f e accepted = refl
none_of t (b ∷ bs) f e accepted =
    let faulty = lines_fault t 1 (b ∷ bs) f (omega arith) e in
    grind arith

-- what is read of a script that is accepted
module _ (t : ℕ) (bs : List ℕ) where
  pub ended : (r : Result Line NumberFault) → line_read r ≡ after_line bs (command_line t bs) → is_ok (script t bs) ≡ true → IfNone (result_ok r) (left_of t bs ≡ [])
  ended (Ok line) e accepted = tt
  ended (Err f) e accepted = none_of t bs f (read_as bs (command_line t bs) (Err f) e) accepted

  first_read : (line : Line) → Read bs (command_line t bs) line → is_ok (script t bs) ≡ true →
      (is_ok (script t line.rest.now) ≡ true) × (left_of t bs ≡ line.command ∷ left_of t line.rest.now)
  first_read line read accepted =
      let next = next_of t bs read.step read.is accepted in (
        ap (λ xs. is_ok (script t xs)) read.rest ∙ next.0,
        next.1 ∙ sym (ap (λ c. c ∷ left_of t line.rest.now) read.command ∙ ap (λ xs. read.step.command ∷ left_of t xs) read.rest),
      )

  pub accepted_after : (r : Result Line NumberFault) → line_read r ≡ after_line bs (command_line t bs) → is_ok (script t bs) ≡ true → IfSome (result_ok r) (λ line. is_ok (script t line.rest.now) ≡ true)
  accepted_after (Ok line) e accepted = (first_read line (read_as bs (command_line t bs) (Ok line) e) accepted).0
  accepted_after (Err f) e accepted = tt

  pub first : (r : Result Line NumberFault) → line_read r ≡ after_line bs (command_line t bs) → is_ok (script t bs) ≡ true → IfSome (result_ok r) (λ line. left_of t bs ≡ line.command ∷ left_of t line.rest.now)
  first (Ok line) e accepted = (first_read line (read_as bs (command_line t bs) (Ok line) e) accepted).1
  first (Err f) e accepted = tt
