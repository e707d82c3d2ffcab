-- The fields of a line that is written, one after another.
use Rattle.std.proofs.Common.{◌≡◌, ℕ, zero, suc, ◌+◌, ◌^◌, ◌<◌, true, false, List, [], ◌∷◌, ◌++◌, length, get_or, drop, decimal, sym, refl, ap, ◌∙◌, append_assoc, arith}
use Rattle.std.proofs.lemmas.List.{at_drop_more}
use Rattle.std.proofs.lemmas.Bool.{both_ways, and_parts}
use Rattle.text.specs.declared.limits.Limits.{Limits}
use Rattle.sheet.specs.Fields.{close_at, fits, Short}
use Rattle.text.specs.Field.{within}
use Rattle.sheet.specs.Writing.{close_for, write_line}
use Rattle.sheet.proofs.LineTrip.{below_high}
use Rattle.sheet.proofs.Lines.{close_follows}

-- a number within its limits has at most six digits
pub small_at : (ls : List Limits) (ns : List ℕ) (j : ℕ) → Short ls → fits ls ns ≡ true → j < length ls → get_or ns j 0 < 10 ^ 6
small_at [] ns j s h k = absurd (omega arith)
small_at (l ∷ ls) [] j s h k = absurd (both_ways false refl h)
small_at (l ∷ ls) (n ∷ ns) zero s h k = omega (arith, below_high l n (and_parts (within l n) (fits ls ns) h).0, s.0)
small_at (l ∷ ls) (n ∷ ns) (suc j) s h k = small_at ls ns j s.1 (and_parts (within l n) (fits ls ns) h).1 (omega arith)

-- after number j of a line of n numbers, and its close
pub put_more : (old new start ns : List ℕ) (n j close : ℕ) → length ns ≡ n → j < n → old ++ write_line (drop j ns) ≡ start ++ write_line ns → new ≡ old ++ (decimal (get_or ns j 0) ++ close ∷ []) → close ≡ close_at n j → new ++ write_line (drop (j + 1) ns) ≡ start ++ write_line ns
put_more old new start ns n j close long h so wrote q =
    let number = decimal (get_or ns j 0) in
    let left = write_line (drop (j + 1) ns) in
    let due : close ≡ close_for (drop (j + 1) ns) = q ∙ ap (λ k. close_at k j) (sym long) ∙ close_follows close_for (λ n ns. refl) refl ns j in
    ap (λ l. l ++ left) (wrote ∙ ap (λ k. old ++ (number ++ k ∷ [])) due)
    ∙ append_assoc old (number ++ close_for (drop (j + 1) ns) ∷ []) left
    ∙ ap (λ l. old ++ l) (append_assoc number (close_for (drop (j + 1) ns) ∷ []) left ∙ sym (at_drop_more write_line ns j 0 (omega arith)))
    ∙ so
