use Rattle.std.proofs.Common.{arith}
use Rattle.bank.proofs.Tables.{take_least}
use Rattle.calendar.proofs.first_rows.Goals as goal

pub returns : goal.returns
returns c = take_least 64 c.min-read.result c.args.rows.now (omega arith)
