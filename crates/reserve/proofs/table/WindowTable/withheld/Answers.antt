use Rattle.std.proofs.Common.{ap, ◌∙◌, arith, take_all}
use Rattle.std.proofs.lemmas.List.Sums.{sum_by_more}
use Rattle.reserve.specs.Reserve.{withheld, held}
use Rattle.reserve.specs.declared.Window.{Window}
use Rattle.reserve.proofs.Held.{held_fits}
use Rattle.reserve.proofs.table.WindowTable.withheld.Goals as goal

abbrev none : Window
none = record { from = 0; to = 0; count = 0 }

pub overflow_add-sum : goal.overflow_add-sum
overflow_add-sum c =
    let h = held_fits c.args.self.now.rows c.loop-w.w-index none c.args.slot c.args.self.now.fit (omega arith) in
    omega arith

pub loop-w-preserved : goal.loop-w-preserved
loop-w-preserved c =
    let h = held_fits c.args.self.now.rows c.loop-w.w-index none c.args.slot c.args.self.now.fit (omega arith) in
    let more = sum_by_more (held c.args.slot) c.args.self.now.rows c.loop-w.w-index none (omega arith) in
    (omega arith, omega arith)

pub returns-clause-value : goal.returns-clause-value
returns-clause-value c =
    let all = take_all c.loop-w.w-index c.args.self.now.rows (omega arith) in
    c.loop-w.invariant.0 ∙ ap (λ ws. withheld ws c.args.slot) all
