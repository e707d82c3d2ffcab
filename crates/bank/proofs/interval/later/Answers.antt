use Rattle.std.proofs.Common.{arith}
use Rattle.bank.proofs.Firsts.{first_one, first_one_none}
use Rattle.bank.proofs.interval.later.Goals as goal

pub returns-then-edge-limit : goal.returns-then-edge-limit
returns-then-edge-limit c = first_one c.args.edge c.args.limit c.args.slot (omega arith) (omega arith)

pub returns-else-slot-edge : goal.returns-else-slot-edge
returns-else-slot-edge c = first_one_none c.args.edge c.args.limit c.args.slot (λ h k. grind arith)
