use Rattle.std.proofs.Common.{rules, ◌≡◌, map, length, ap, ◌∙◌, arith}
use lib.ListN.{length-map}
use Rattle.bank.proofs.Called.{map_is}
use Rattle.bank.proofs.Tables.{all_map}
use Rattle.reserve.specs.Reserve.{clamped, window_fits, table_fits}
use Rattle.reserve.specs.declared.Window.{Window}
use Rattle.reserve.proofs.Held.{clamped_fits}
use Rattle.reserve.proofs.table.WindowTable.new.Goals as goal

abbrev none : Window
none = record { from = 0; to = 0; count = 0 }

rows_are : (c : goal.After-map) → c.map.result ≡ map clamped c.args.windows
rows_are c = map_is _ _ clamped (λ x y q k. search rules) none c.args.windows c.map.result 8 (omega arith) c.map.ensures.items

pub invariant_of-result : goal.invariant_of-result
invariant_of-result c =
    let n : length (map clamped c.args.windows) ≡ 8 = length-map c.args.windows clamped ∙ omega arith in
    record { sized = ap length (rows_are c) ∙ n; fit = ap table_fits (rows_are c) ∙ all_map window_fits clamped clamped_fits c.args.windows }

pub returns : goal.returns
returns c = map_is _ _ clamped (λ x y q k. search rules) none c.args.windows c.map.result 8 (omega arith) c.map.ensures.items
