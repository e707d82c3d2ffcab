-- The records of a sheet, by the limits and the order of their fields.
use Rattle.std.specs.Prelude.{ℕ, List, [], ◌∷◌, slice_index}
use Rattle.bank.specs.declared.refusal.Refusal.TheVariants.{OutOfLimits}
use Rattle.text.specs.declared.limits.Limits.{Limits}
use Rattle.sheet.specs.declared.records.Extent.{Extent}
use Rattle.calendar.specs.declared.Outage.{Outage}
use Rattle.reserve.specs.declared.Window.{Window}
use Rattle.cooldown.specs.declared.Schedule.{Schedule}
use Rattle.bank.specs.declared.ticket.Ticket.{Ticket}

-- a number from `low` to `high`
abbrev pub number_from : ℕ → ℕ → Limits
number_from low high = record { low = low; high = high; refusal = OutOfLimits }

abbrev pub extent_limits : List Limits
extent_limits = number_from 1 4096 ∷ number_from 1 64 ∷ []

abbrev pub make_extent : List ℕ → Extent
make_extent ns = record { slots = slice_index ns 0; top = slice_index ns 1 }

-- what stands where there is none
abbrev pub no_extent : Extent
no_extent = record { slots = 0; top = 0 }

abbrev pub outage_limits : List Limits
outage_limits = number_from 0 63 ∷ number_from 0 4095 ∷ number_from 1 4096 ∷ []

abbrev pub make_outage : List ℕ → Outage
make_outage ns = record { core = slice_index ns 0; from = slice_index ns 1; to = slice_index ns 2 }

abbrev pub window_limits : List Limits
window_limits = number_from 0 4095 ∷ number_from 1 4096 ∷ number_from 1 64 ∷ []

abbrev pub make_window : List ℕ → Window
make_window ns = record { from = slice_index ns 0; to = slice_index ns 1; count = slice_index ns 2 }

abbrev pub cool_down_limits : List Limits
cool_down_limits = number_from 1 4096 ∷ number_from 0 4096 ∷ number_from 0 64 ∷ []

abbrev pub make_cool_down : List ℕ → Schedule
make_cool_down ns = record { period = slice_index ns 0; rest = slice_index ns 1; limit = slice_index ns 2 }

abbrev pub ticket_limits : List Limits
ticket_limits = number_from 1 9999 ∷ number_from 0 4095 ∷ number_from 1 4096 ∷ number_from 1 262144 ∷ number_from 1 64 ∷ []

abbrev pub make_ticket : List ℕ → Ticket
make_ticket ns = record { number = slice_index ns 0; arrival = slice_index ns 1; deadline = slice_index ns 2; work = slice_index ns 3; bound = slice_index ns 4 }

abbrev pub extent_numbers : Extent → List ℕ
extent_numbers x = x.slots ∷ x.top ∷ []

abbrev pub outage_numbers : Outage → List ℕ
outage_numbers x = x.core ∷ x.from ∷ x.to ∷ []

abbrev pub window_numbers : Window → List ℕ
window_numbers x = x.from ∷ x.to ∷ x.count ∷ []

abbrev pub cool_down_numbers : Schedule → List ℕ
cool_down_numbers x = x.period ∷ x.rest ∷ x.limit ∷ []

abbrev pub ticket_numbers : Ticket → List ℕ
ticket_numbers x = x.number ∷ x.arrival ∷ x.deadline ∷ x.work ∷ x.bound ∷ []
