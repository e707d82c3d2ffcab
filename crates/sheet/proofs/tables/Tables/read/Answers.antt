use Rattle.std.proofs.Common.{◌≡◌, [], length, get_or, Ok, sym, refl, ap, ◌∙◌}
use Rattle.text.specs.declared.Section.TheVariants.{Head, Outages, Windows, CoolDown, Tickets}
use Rattle.sheet.specs.Fields.{Rows, lines}
use Rattle.sheet.specs.Format.{extent_format}
use Rattle.sheet.specs.Places.{EndRead, RowsRead, SectionRead}
use Rattle.sheet.specs.Records.{extent_limits, make_extent, extent_numbers, no_extent, outage_limits, make_outage, window_limits, make_window, cool_down_limits, make_cool_down, ticket_limits, make_ticket}
use Rattle.sheet.specs.Sheet.{Sheet, ended}
use Rattle.sheet.proofs.LineTrip.{lines_written, one_row}
use Rattle.sheet.proofs.Sheets.{read_ok, sheet_ended}
use Rattle.sheet.proofs.tables.Tables.read.Goals as goal

pub returns : goal.returns
returns c =
    let text = c.args.text.bytes.now in
    let start = c.new-cursor.result in
    let extents = c.read_rows.new.rows.items in
    let h : Rows _ = record { rows = extents; next = c.read_rows.new.self.line; rest = c.read_rows.new.self.rest.now } in
    let read = read_ok (RowsRead extent_limits make_extent 1 start c.clear.new.self.items c.read_rows.new.self extents) Head c.read_rows.result c.in_ok-at_place.field-0 c.in_ok-at_place.ensures c.read_rows.ensures in
    let head : lines extent_limits make_extent 1 1 text [] ≡ Ok h = (λ i. lines extent_limits make_extent 1 (sym c.new-cursor.ensures.line i) (sym c.new-cursor.ensures.rest i) (sym c.clear.ensures i)) ∙ read in
    let outages = read_ok (SectionRead 64 outage_limits make_outage c.read_rows.new.self c.read_section.new.self c.read_section.new.rows.items) Outages c.read_section.result c.in_ok-at_place-2.field-0 c.in_ok-at_place-2.ensures c.read_section.ensures in
    let windows = read_ok (SectionRead 8 window_limits make_window c.read_section.new.self c.read_section-2.new.self c.read_section-2.new.rows.items) Windows c.read_section-2.result c.in_ok-at_place-3.field-0 c.in_ok-at_place-3.ensures c.read_section-2.ensures in
    let cool_downs = read_ok (SectionRead 1 cool_down_limits make_cool_down c.read_section-2.new.self c.read_section-3.new.self c.read_section-3.new.rows.items) CoolDown c.read_section-3.result c.in_ok-at_place-4.field-0 c.in_ok-at_place-4.ensures c.read_section-3.ensures in
    let tickets = read_ok (SectionRead 64 ticket_limits make_ticket c.read_section-3.new.self c.read_section-4.new.self c.read_section-4.new.rows.items) Tickets c.read_section-4.result c.in_ok-at_place-5.field-0 c.in_ok-at_place-5.ensures c.read_section-4.ensures in
    let end = read_ok (EndRead c.read_section-4.new.self) Tickets c.read_end.result c.in_ok-at_place-6.field-0 c.in_ok-at_place-6.ensures c.read_end.ensures in
    let hw = lines_written extent_limits make_extent extent_numbers extent_format 1 1 text [] h head in
    let s : Sheet = record { extent = get_or extents 0 no_extent; outages = c.read_section.new.rows.items; windows = c.read_section-2.new.rows.items; cool_downs = c.read_section-3.new.rows.items; tickets = c.read_section-4.new.rows.items } in (
      s,
      sheet_ended text h _ _ _ _ head outages windows cool_downs tickets ∙ ap (ended s c.read_section-4.new.self.line) end,
      record { extent = one_row extents no_extent (ap length hw.rows ∙ hw.count); outages = refl; windows = refl; cool_downs = refl; tickets = refl },
    )
