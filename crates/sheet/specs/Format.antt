-- The records of a sheet as lines of numbers, with the laws of each kind.
use Rattle.std.specs.Prelude.{◌≡◌, ℕ, ◌<◌, List, length, refl}
use Rattle.std.proofs.Common.{arith}
use Rattle.text.specs.declared.limits.Limits.{Limits}
use Rattle.sheet.specs.Fields.{Short}
use Rattle.sheet.specs.Records.{extent_limits, make_extent, extent_numbers, outage_limits, make_outage, outage_numbers, window_limits, make_window, window_numbers, cool_down_limits, make_cool_down, cool_down_numbers, ticket_limits, make_ticket, ticket_numbers}
use Rattle.sheet.specs.Spelled.{spelled_all}

-- records of one kind: the limits of their fields, how they are made of numbers, and their numbers
pub record Format {R : Type 0} (ls : List Limits) (make : List ℕ → R) (numbers : R → List ℕ) : Type 0 where
  pub short : Short ls
  pub unmade : (x : R) → make (numbers x) ≡ x
  pub remade : (ns : List ℕ) → length ns ≡ length ls → numbers (make ns) ≡ ns

-- each has n numbers, and at least one
pub record Sized {R : Type 0} (n : ℕ) (ls : List Limits) (numbers : R → List ℕ) : Type 0 where
  pub some : 0 < n
  pub counted : length ls ≡ n
  pub width : (x : R) → length (numbers x) ≡ n

pub extent_format : Format extent_limits make_extent extent_numbers
extent_format = record { short = omega arith; unmade = λ x. refl; remade = spelled_all 2 }

pub extent_sized : Sized 2 extent_limits extent_numbers
extent_sized = record { some = omega arith; counted = refl; width = λ x. refl }

pub outage_format : Format outage_limits make_outage outage_numbers
outage_format = record { short = omega arith; unmade = λ x. refl; remade = spelled_all 3 }

pub outage_sized : Sized 3 outage_limits outage_numbers
outage_sized = record { some = omega arith; counted = refl; width = λ x. refl }

pub window_format : Format window_limits make_window window_numbers
window_format = record { short = omega arith; unmade = λ x. refl; remade = spelled_all 3 }

pub window_sized : Sized 3 window_limits window_numbers
window_sized = record { some = omega arith; counted = refl; width = λ x. refl }

pub cool_down_format : Format cool_down_limits make_cool_down cool_down_numbers
cool_down_format = record { short = omega arith; unmade = λ x. refl; remade = spelled_all 3 }

pub cool_down_sized : Sized 3 cool_down_limits cool_down_numbers
cool_down_sized = record { some = omega arith; counted = refl; width = λ x. refl }

pub ticket_format : Format ticket_limits make_ticket ticket_numbers
ticket_format = record { short = omega arith; unmade = λ x. refl; remade = spelled_all 5 }

pub ticket_sized : Sized 5 ticket_limits ticket_numbers
ticket_sized = record { some = omega arith; counted = refl; width = λ x. refl }
