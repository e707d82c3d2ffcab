-- The lines of a text, as the parts into which its bytes 10 cut it.
use Rattle.std.proofs.Common.{◌≡◌, ℕ, zero, suc, eqb, List, [], ◌∷◌, get_or, sym, refl, arith}
use Rattle.std.specs.List.{slice_split}
use Rattle.std.proofs.lemmas.List.Splits.{length-slice_split}
use Rattle.text.specs.Parts.{line_after}

none_left : (n : ℕ) → line_after n [] ≡ []
none_left zero = refl
none_left (suc n) = none_left n

-- the parts are the lines
pub part_at : (text : List ℕ) (n : ℕ) → get_or (slice_split (λ b. eqb b 10) text) n [] ≡ line_after n text
part_at [] zero = refl
part_at [] (suc n) = sym (none_left n)
part_at (b ∷ bs) zero = let so = part_at bs 0 in let some = length-slice_split (λ c. eqb c 10) bs in grind arith
part_at (b ∷ bs) (suc n) = let so = part_at bs n in let more = part_at bs (suc n) in let some = length-slice_split (λ c. eqb c 10) bs in grind arith
