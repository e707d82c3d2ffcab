-- Sheets that are written are read back, and those that are read are written back.
use Rattle.std.proofs.Common.{◌≡◌, ℕ, ◌+◌, ◌≤◌, Bool, true, false, cond, ltb, List, [], ◌∷◌, ◌++◌, length, get_or, Ok, Err, Result, sym, refl, ap, ◌∙◌, subst, append-nil, arith}
use Rattle.std.proofs.lemmas.Bool.{both_ways, and_parts, and_from, or_parts, or_from, ltb-false, le-ltb, cond-true, cond-false}
use Rattle.std.specs.List.{AllByRecursion, list_all}
use Rattle.text.specs.declared.limits.Limits.{Limits}
use Rattle.sheet.specs.Output.{sheet_fits, too_many}
use Rattle.sheet.specs.Reading.{too_short, judged_sheet}
use Rattle.text.specs.declared.LineFault.{LineFault}
use Rattle.text.specs.declared.TextFault.{TextFault}
use Rattle.sheet.specs.declared.records.Extent.{Extent}
use Rattle.bank.specs.declared.ticket.Ticket.{Ticket}
use Rattle.sheet.specs.Fields.{Rows, lines, section, fits, Fitting}
use Rattle.text.specs.Field.{within, and_then}
use Rattle.sheet.specs.Format.{extent_format, outage_format, window_format, cool_down_format, ticket_format}
use Rattle.sheet.specs.Records.{extent_limits, make_extent, no_extent, extent_numbers, outage_limits, make_outage, outage_numbers, window_limits, make_window, window_numbers, cool_down_limits, make_cool_down, cool_down_numbers, ticket_limits, make_ticket, ticket_numbers}
use Rattle.sheet.specs.Sheet.{Sheet, in_section, ended, after_cool_downs, after_windows, after_outages, after_extent, sheet}
use Rattle.sheet.specs.Trips.{Valid, ReadsBack, WritesBack, WrittenThenRead, ReadThenWritten}
use Rattle.sheet.specs.Writing.{write_lines, write_section, write_sheet}
use Rattle.sheet.proofs.LineTrip.{not_ok, one_row, lines_read, lines_written, section_read, section_written}
use Rattle.sheet.proofs.Sheets.{sheet_ended}
use Rattle.sheet.proofs.Sizes.{sheet_length}

pub reads_back : ReadsBack
reads_back s v =
    let t4 = write_section ticket_numbers s.tickets in
    let t3 = write_section cool_down_numbers s.cool_downs ++ t4 in
    let t2 = write_section window_numbers s.windows ++ t3 in
    let t1 = write_section outage_numbers s.outages ++ t2 in
    sheet_ended (write_sheet s)
    (record { rows = s.extent ∷ []; next = 1 + 1; rest = t1 })
    (record { rows = s.outages; next = 1 + 1 + 1 + length s.outages; rest = t2 })
    (record { rows = s.windows; next = 1 + 1 + 1 + length s.outages + 1 + length s.windows; rest = t3 })
    (record { rows = s.cool_downs; next = 1 + 1 + 1 + length s.outages + 1 + length s.windows + 1 + length s.cool_downs; rest = t4 })
    (record { rows = s.tickets; next = 1 + 1 + 1 + length s.outages + 1 + length s.windows + 1 + length s.cool_downs + 1 + length s.tickets; rest = [] })
    (lines_read extent_limits make_extent extent_numbers extent_format (s.extent ∷ []) 1 t1 [] (v.extent, tt))
    (section_read outage_limits make_outage outage_numbers outage_format 64 (1 + 1) s.outages t2 (omega arith) v.outages)
    (section_read window_limits make_window window_numbers window_format 8 (1 + 1 + 1 + length s.outages) s.windows t3 (omega arith) v.windows)
    (section_read cool_down_limits make_cool_down cool_down_numbers cool_down_format 1 (1 + 1 + 1 + length s.outages + 1 + length s.windows) s.cool_downs t4 (omega arith) v.cool_downs)
    (ap (λ bs. section 64 ticket_limits make_ticket (1 + 1 + 1 + length s.outages + 1 + length s.windows + 1 + length s.cool_downs) bs) (sym (append-nil t4)) ∙ section_read ticket_limits make_ticket ticket_numbers ticket_format 64 (1 + 1 + 1 + length s.outages + 1 + length s.windows + 1 + length s.cool_downs) s.tickets [] (omega arith) v.tickets)

-- where the reading of a whole text went on, each part was read
went_on : {X Y : Type 0} (n : ℕ) (r : Result X LineFault) (next : X → Result Y TextFault) (y : Y) → and_then (in_section n r) next ≡ Ok y → (x : X) × (r ≡ Ok x) × (next x ≡ Ok y)
went_on n (Ok x) next y e = (x, refl, e)
went_on n (Err f) next y e = absurd (not_ok _ y e)

was_ended : (s s' : Sheet) (next : ℕ) (rest : List ℕ) → ended s next rest ≡ Ok s' → (rest ≡ []) × (s ≡ s')
was_ended s s' next [] e = (refl, cc)
was_ended s s' next (b ∷ bs) e = absurd (not_ok _ s' e)

pub writes_back : WritesBack
writes_back text s e =
    let h = went_on 0 (lines extent_limits make_extent 1 1 text []) after_extent s e in
    let o = went_on 1 (section 64 outage_limits make_outage h.0.next h.0.rest) (after_outages h.0) s h.2 in
    let w = went_on 2 (section 8 window_limits make_window o.0.next o.0.rest) (after_windows h.0 o.0) s o.2 in
    let c = went_on 3 (section 1 cool_down_limits make_cool_down w.0.next w.0.rest) (after_cool_downs h.0 o.0 w.0) s w.2 in
    let read : Rows Ticket → Sheet = λ t. record { extent = get_or h.0.rows 0 no_extent; outages = o.0.rows; windows = w.0.rows; cool_downs = c.0.rows; tickets = t.rows } in
    let t = went_on 4 (section 64 ticket_limits make_ticket c.0.next c.0.rest) (λ u. ended (read u) u.next u.rest) s c.2 in
    let end = was_ended (read t.0) s t.0.next t.0.rest t.2 in
    let hw = lines_written extent_limits make_extent extent_numbers extent_format 1 1 text [] h.0 h.1 in
    let ow = section_written outage_limits make_outage outage_numbers outage_format 64 h.0.next h.0.rest o.0 o.1 in
    let ww = section_written window_limits make_window window_numbers window_format 8 o.0.next o.0.rest w.0 w.1 in
    let cw = section_written cool_down_limits make_cool_down cool_down_numbers cool_down_format 1 w.0.next w.0.rest c.0 c.1 in
    let tw = section_written ticket_limits make_ticket ticket_numbers ticket_format 64 c.0.next c.0.rest t.0 t.1 in
    let last : c.0.rest ≡ write_section ticket_numbers t.0.rows = tw.1 ∙ ap (λ l. write_section ticket_numbers t.0.rows ++ l) end.0 ∙ append-nil (write_section ticket_numbers t.0.rows) in
    let one : length h.0.rows ≡ 1 = ap length hw.rows ∙ hw.count in
    let only : h.0.rows ≡ get_or h.0.rows 0 no_extent ∷ [] = one_row h.0.rows no_extent one in
    let head : text ≡ write_lines extent_numbers (get_or h.0.rows 0 no_extent ∷ []) ++ h.0.rest =
    hw.split ∙ ap (λ l. write_lines extent_numbers l ++ h.0.rest) (sym hw.rows ∙ only) in
    let whole : text ≡ write_sheet (read t.0) =
    head
    ∙ ap (λ l. write_lines extent_numbers (get_or h.0.rows 0 no_extent ∷ []) ++ l) (ow.1
    ∙ ap (λ l. write_section outage_numbers o.0.rows ++ l) (ww.1
    ∙ ap (λ l. write_section window_numbers w.0.rows ++ l) (cw.1
    ∙ ap (λ l. write_section cool_down_numbers c.0.rows ++ l) last))) in (
      ap write_sheet (sym end.1) ∙ sym whole,
      subst Valid end.1 (record {
        extent = (subst (λ (l : List Extent). AllByRecursion (λ x. Fitting extent_limits (extent_numbers x)) l) (sym hw.rows ∙ only) hw.fit).0;
        outages = ow.0;
        windows = ww.0;
        cool_downs = cw.0;
        tickets = tw.0;
      }),
    )

fitting_from : (ls : List Limits) (ns : List ℕ) → fits ls ns ≡ true → Fitting ls ns
fitting_from [] [] h = tt
fitting_from [] (n ∷ ns) h = absurd (both_ways false refl h)
fitting_from (l ∷ ls) [] h = absurd (both_ways false refl h)
fitting_from (l ∷ ls) (n ∷ ns) h = let p = and_parts (within l n) (fits ls ns) h in (p.0, fitting_from ls ns p.1)

all_from : {R : Type 0} (ls : List Limits) (numbers : R → List ℕ) (rows : List R) → list_all (λ x. fits ls (numbers x)) rows ≡ true → AllByRecursion (λ x. Fitting ls (numbers x)) rows
all_from ls numbers [] h = tt
all_from ls numbers (x ∷ rows) h = let p = and_parts (fits ls (numbers x)) (list_all (λ y. fits ls (numbers y)) rows) h in (fitting_from ls (numbers x) p.0, all_from ls numbers rows p.1)

valid_from : (s : Sheet) → sheet_fits s ≡ true → too_many s ≡ false → Valid s
valid_from s fit few =
    let f0 = and_parts (fits extent_limits (extent_numbers s.extent)) _ fit in
    let f1 = and_parts (list_all (λ x. fits outage_limits (outage_numbers x)) s.outages) _ f0.1 in
    let f2 = and_parts (list_all (λ x. fits window_limits (window_numbers x)) s.windows) _ f1.1 in
    let f3 = and_parts (list_all (λ x. fits cool_down_limits (cool_down_numbers x)) s.cool_downs) (list_all (λ x. fits ticket_limits (ticket_numbers x)) s.tickets) f2.1 in
    let n0 = or_parts (ltb 64 (length s.outages)) _ few in
    let n1 = or_parts (ltb 8 (length s.windows)) _ n0.1 in
    let n2 = or_parts (ltb 1 (length s.cool_downs)) (ltb 64 (length s.tickets)) n1.1 in
    record {
      extent = fitting_from extent_limits (extent_numbers s.extent) f0.0;
      outages = (ltb-false 64 (length s.outages) n0.0, all_from outage_limits outage_numbers s.outages f1.0);
      windows = (ltb-false 8 (length s.windows) n1.0, all_from window_limits window_numbers s.windows f2.0);
      cool_downs = (ltb-false 1 (length s.cool_downs) n2.0, all_from cool_down_limits cool_down_numbers s.cool_downs f3.0);
      tickets = (ltb-false 64 (length s.tickets) n2.1, all_from ticket_limits ticket_numbers s.tickets f3.1);
    }

-- what was accepted passed a test that refuses, or one that lets through
passed : {X F : Type 0} (b : Bool) (r : Result X F) (why : F) (x : X) → cond b (Err why) r ≡ Ok x → (b ≡ false) × (r ≡ Ok x)
passed true r why x e = absurd (not_ok why x e)
passed false r why x e = (refl, e)

let_through : {X F : Type 0} (b : Bool) (r : Result X F) (why : F) (x : X) → cond b r (Err why) ≡ Ok x → (b ≡ true) × (r ≡ Ok x)
let_through true r why x e = (refl, e)
let_through false r why x e = absurd (not_ok why x e)

-- valid sheets pass the writer's tests

fits_from : (ls : List Limits) (ns : List ℕ) → Fitting ls ns → fits ls ns ≡ true
fits_from [] [] h = refl
fits_from [] (n ∷ ns) h = absurd h
fits_from (l ∷ ls) [] h = absurd h
fits_from (l ∷ ls) (n ∷ ns) h = and_from (within l n) (fits ls ns) h.0 (fits_from ls ns h.1)

every_from : {R : Type 0} (ls : List Limits) (numbers : R → List ℕ) (rows : List R) → AllByRecursion (λ x. Fitting ls (numbers x)) rows → list_all (λ x. fits ls (numbers x)) rows ≡ true
every_from ls numbers [] h = refl
every_from ls numbers (x ∷ rows) h = and_from (fits ls (numbers x)) (list_all (λ y. fits ls (numbers y)) rows) (fits_from ls (numbers x) h.0) (every_from ls numbers rows h.1)

valid_fits : (s : Sheet) → Valid s → sheet_fits s ≡ true
valid_fits s v =
    and_from _ _ (fits_from extent_limits (extent_numbers s.extent) v.extent)
    (and_from _ _ (every_from outage_limits outage_numbers s.outages v.outages.1)
    (and_from _ _ (every_from window_limits window_numbers s.windows v.windows.1)
    (and_from _ _ (every_from cool_down_limits cool_down_numbers s.cool_downs v.cool_downs.1)
    (every_from ticket_limits ticket_numbers s.tickets v.tickets.1))))

valid_few : (s : Sheet) → Valid s → too_many s ≡ false
valid_few s v =
    or_from _ _ (le-ltb 64 (length s.outages) v.outages.0)
    (or_from _ _ (le-ltb 8 (length s.windows) v.windows.0)
    (or_from _ _ (le-ltb 1 (length s.cool_downs) v.cool_downs.0) (le-ltb 64 (length s.tickets) v.tickets.0)))

-- what is accepted to be read
was_judged : (r : Result Sheet TextFault) (s : Sheet) → judged_sheet r ≡ Ok s → r ≡ Ok s
was_judged (Ok x) s e = cc
was_judged (Err f) s e = absurd (not_ok _ s e)

pub written_then_read : WrittenThenRead
written_then_read s out text o w t e long =
    let a = let_through (sheet_fits s) _ _ text e in
    let b = passed (too_many s) _ _ text a.1 in
    let d = passed (ltb (length out) (length (write_sheet s))) (Ok (write_sheet s)) _ text b.1 in
    let same : write_sheet s ≡ text = cc d.1 in
    let valid = valid_from s a.0 b.0 in
    let short : length text ≤ 16384 = omega (arith, sheet_length s valid, ap length same) in
    cond-false (ltb 16384 (length text)) _ _ (le-ltb 16384 (length text) short)
    ∙ cond-false (too_short o w t) _ _ long
    ∙ ap (λ bs. judged_sheet (sheet bs)) (sym same)
    ∙ ap judged_sheet (reads_back s valid)

pub read_then_written : ReadThenWritten
read_then_written s out text o w t e room =
    let a = passed (ltb 16384 (length text)) _ _ s e in
    let b = passed (too_short o w t) _ _ s a.1 in
    let back = writes_back text s (was_judged (sheet text) s b.1) in
    let fits_out : length (write_sheet s) ≤ length out = omega (arith, ap length back.0) in
    cond-true (sheet_fits s) _ _ (valid_fits s back.1)
    ∙ cond-false (too_many s) _ _ (valid_few s back.1)
    ∙ cond-false (ltb (length out) (length (write_sheet s))) _ _ (le-ltb (length out) (length (write_sheet s)) fits_out)
    ∙ ap Ok back.0
