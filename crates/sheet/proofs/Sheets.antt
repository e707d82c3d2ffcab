-- A whole text, section by section.
use Rattle.std.proofs.Common.{◌≡◌, ℕ, List, [], get_or, Ok, Err, Result, sym, ap, ◌∙◌, subst}
use Rattle.sheet.specs.declared.records.Extent.{Extent}
use Rattle.calendar.specs.declared.Outage.{Outage}
use Rattle.reserve.specs.declared.Window.{Window}
use Rattle.cooldown.specs.declared.Schedule.{Schedule}
use Rattle.bank.specs.declared.ticket.Ticket.{Ticket}
use Rattle.text.specs.Faults.{tagged}
use Rattle.sheet.proofs.LineTrip.{not_ok}
use Rattle.sheet.specs.Fields.{Rows, lines, section}
use Rattle.text.specs.Field.{and_then}
use Rattle.sheet.specs.Records.{extent_limits, make_extent, no_extent, outage_limits, make_outage, window_limits, make_window, cool_down_limits, make_cool_down, ticket_limits, make_ticket}
use Rattle.sheet.specs.Sheet.{in_section, ended, after_cool_downs, after_windows, after_outages, after_extent, sheet}

-- what is known of a result, where it went on
pub read_ok : {T P F : Type 0} (Q : Result T F → Type 0) (place : P) (read : Result T F) (x : T) → Ok x ≡ tagged place read → Q read → Q (Ok x)
read_ok Q place (Ok y) x e q = let same : y ≡ x = cc in subst (λ z. Q (Ok z)) same q
read_ok Q place (Err f) x e q = absurd (not_ok _ x (sym e))

-- the text after each section that was read
module _ (text : List ℕ) (h : Rows Extent) (o : Rows Outage) (w : Rows Window) (c : Rows Schedule) (t : Rows Ticket) where
  pub sheet_ended : lines extent_limits make_extent 1 1 text [] ≡ Ok h → section 64 outage_limits make_outage h.next h.rest ≡ Ok o → section 8 window_limits make_window o.next o.rest ≡ Ok w → section 1 cool_down_limits make_cool_down w.next w.rest ≡ Ok c → section 64 ticket_limits make_ticket c.next c.rest ≡ Ok t → sheet text ≡ ended (record { extent = get_or h.rows 0 no_extent; outages = o.rows; windows = w.rows; cool_downs = c.rows; tickets = t.rows }) t.next t.rest
  sheet_ended e0 e1 e2 e3 e4 =
      ap (λ r. and_then {X = Rows Extent} (in_section 0 r) after_extent) e0
      ∙ ap (λ r. and_then {X = Rows Outage} (in_section 1 r) (after_outages h)) e1
      ∙ ap (λ r. and_then {X = Rows Window} (in_section 2 r) (after_windows h o)) e2
      ∙ ap (λ r. and_then {X = Rows Schedule} (in_section 3 r) (after_cool_downs h o w)) e3
      ∙ ap (λ r. and_then {X = Rows Ticket} (in_section 4 r) (λ u. ended (record { extent = get_or h.rows 0 no_extent; outages = o.rows; windows = w.rows; cool_downs = c.rows; tickets = u.rows }) u.next u.rest)) e4
