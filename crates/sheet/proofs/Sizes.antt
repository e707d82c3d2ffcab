-- How long a sheet's text is.
use Rattle.std.proofs.Common.{ℕ, ◌+◌, ◌*◌, ◌^◌, ◌<◌, ◌≤◌, List, [], ◌∷◌, ◌++◌, length, decimal, arith, length-append}
use Rattle.std.specs.List.{AllByRecursion}
use Rattle.text.specs.declared.limits.Limits.{Limits}
use Rattle.sheet.specs.Fields.{Fitting, Short}
use Rattle.sheet.specs.Records.{extent_limits, outage_limits, window_limits, cool_down_limits, ticket_limits, extent_numbers, outage_numbers, window_numbers, cool_down_numbers, ticket_numbers}
use Rattle.sheet.specs.Sheet.{Sheet}
use Rattle.sheet.specs.Trips.{FitRows, Valid}
use Rattle.sheet.specs.Writing.{close_for, write_line, write_lines, write_section, write_sheet}
use Rattle.sheet.proofs.Digits.{six_digits}
use Rattle.sheet.proofs.LineTrip.{below_high}

-- a number takes at most six digits, and its close
line_length : (ls : List Limits) (ns : List ℕ) → Short ls → Fitting ls ns → length (write_line ns) ≤ 7 * length ls
line_length [] [] short fit = omega arith
line_length [] (n ∷ ns) short fit = absurd fit
line_length (l ∷ ls) [] short fit = absurd fit
line_length (l ∷ ls) (n ∷ ns) short fit =
    let small : n < 10 ^ 6 = omega (arith, below_high l n fit.0, short.0) in
    let digits = six_digits n small in
    let rest = line_length ls ns short.1 fit.1 in
    omega (arith, length-append (decimal n) (close_for ns ∷ write_line ns))

module _ {R : Type 0} (ls : List Limits) (numbers : R → List ℕ) (short : Short ls) (few : length ls ≤ 5) where
  lines_length : (rows : List R) → AllByRecursion (λ x. Fitting ls (numbers x)) rows → length (write_lines numbers rows) ≤ 35 * length rows
  lines_length [] fit = omega arith
  lines_length (x ∷ rows) fit =
      let line = line_length ls (numbers x) short fit.0 in
      let rest = lines_length rows fit.1 in
      omega (arith, length-append (write_line (numbers x)) (write_lines numbers rows))

  section_length : (most : ℕ) (rows : List R) → most < 100 → FitRows most ls numbers rows → length (write_section numbers rows) ≤ 7 + 35 * most
  section_length most rows small fit =
      let digits = six_digits (length rows) (omega arith) in
      let rest = lines_length rows fit.1 in
      omega (arith, length-append (write_line (length rows ∷ [])) (write_lines numbers rows), length-append (decimal (length rows)) (10 ∷ []))

pub sheet_length : (s : Sheet) → Valid s → length (write_sheet s) ≤ 4900
sheet_length s v =
    let e = lines_length extent_limits extent_numbers (omega arith) (omega arith) (s.extent ∷ []) (v.extent, tt) in
    let o = section_length outage_limits outage_numbers (omega arith) (omega arith) 64 s.outages (omega arith) v.outages in
    let w = section_length window_limits window_numbers (omega arith) (omega arith) 8 s.windows (omega arith) v.windows in
    let c = section_length cool_down_limits cool_down_numbers (omega arith) (omega arith) 1 s.cool_downs (omega arith) v.cool_downs in
    let t = section_length ticket_limits ticket_numbers (omega arith) (omega arith) 64 s.tickets (omega arith) v.tickets in
    let te = write_lines extent_numbers (s.extent ∷ []) in
    let to = write_section outage_numbers s.outages in
    let tw = write_section window_numbers s.windows in
    let tc = write_section cool_down_numbers s.cool_downs in
    let tt' = write_section ticket_numbers s.tickets in
    omega (arith, length-append te (to ++ (tw ++ (tc ++ tt'))), length-append to (tw ++ (tc ++ tt')), length-append tw (tc ++ tt'), length-append tc tt')
