-- The line of a text that a fault hands out.
use Rattle.std.specs.Prelude.{ℕ, zero, suc, ◌-◌, List, [], ◌∷◌, ◌==◌, if◌then◌else◌}
use Rattle.text.specs.declared.TextFault.{TextFault}

-- the bytes up to before the first byte 10
abbrev pub first_line : List ℕ → List ℕ
first_line [] = []
first_line (b ∷ bs) = if b == 10 then [] else b ∷ first_line bs

-- what follows the first byte 10
abbrev pub later_lines : List ℕ → List ℕ
later_lines [] = []
later_lines (b ∷ bs) = if b == 10 then bs else later_lines bs

-- the line that has n lines before it, without its byte 10; past the end of the text it is empty
abbrev pub line_after : ℕ → List ℕ → List ℕ
line_after zero text = first_line text
line_after (suc n) text = line_after n (later_lines text)

-- the text that holds a fault: the script for section 9, else the sheet
abbrev pub text_with : {X : Type 0} → TextFault → X → X → X
text_with fault sheet script = if fault.section == 9 then script else sheet

-- the line of the field at fault
abbrev pub faulty_line : TextFault → List ℕ → List ℕ → List ℕ
faulty_line fault sheet script = line_after (fault.line.line - 1) (text_with fault sheet script)
