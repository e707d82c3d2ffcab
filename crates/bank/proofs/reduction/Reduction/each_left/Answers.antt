use Rattle.std.proofs.Common.{arith}
use Rattle.bank.specs.Reduction.{reduced}
use Rattle.bank.proofs.Filled.{map_over_step, map_over_end}
use Rattle.bank.proofs.reduction.Reduction.each_left.Goals as goal

pub loop-n-preserved : goal.loop-n-preserved
loop-n-preserved c =
    map_over_step (reduced c.args.self) 65 c.args.capacities c.loop-n.n-items c.loop-n.n-index 0 c.left.result
    c.loop-n.invariant.0 (omega arith) (omega arith) c.loop-n.invariant.1 c.left.ensures

pub returns : goal.returns
returns c = map_over_end (reduced c.args.self) c.args.capacities c.loop-n.n-items c.loop-n.n-index (omega arith) c.loop-n.invariant.1
