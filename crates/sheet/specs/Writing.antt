-- A sheet as the bytes that it is written with.
use Rattle.std.specs.Prelude.{ℕ, List, [], ◌∷◌, ◌++◌, length, decimal}
use Rattle.std.specs.List.{flat_map}
use Rattle.sheet.specs.Records.{extent_numbers, outage_numbers, window_numbers, cool_down_numbers, ticket_numbers}
use Rattle.sheet.specs.Sheet.{Sheet}

-- what closes a number before these: a space, or the line's end where none follows
abbrev pub close_for : List ℕ → ℕ
close_for [] = 10
close_for (n ∷ ns) = 32

-- a line
abbrev pub write_line : List ℕ → List ℕ
write_line [] = []
write_line (n ∷ ns) = decimal n ++ close_for ns ∷ write_line ns

-- the lines of records, by the numbers of each
abbrev pub write_lines : {R : Type 0} → (R → List ℕ) → List R → List ℕ
write_lines numbers rows = flat_map (λ r. write_line (numbers r)) rows

abbrev pub write_section : {R : Type 0} → (R → List ℕ) → List R → List ℕ
write_section numbers rows = write_line (length rows ∷ []) ++ write_lines numbers rows

abbrev pub write_sheet : Sheet → List ℕ
write_sheet s =
    write_lines extent_numbers (s.extent ∷ [])
    ++ (write_section outage_numbers s.outages
    ++ (write_section window_numbers s.windows
    ++ (write_section cool_down_numbers s.cool_downs
    ++ write_section ticket_numbers s.tickets)))
