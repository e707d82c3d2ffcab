use Rattle.std.proofs.Common.{ap, arith}
use lib.Count.{ones}
use Rattle.calendar.proofs.Words.{ones_and_clear}
use Rattle.calendar.proofs.word.CoresOut.usable_below.Goals as goal

pub returns : goal.returns
returns c = omega (arith, ap ones c.low_bits.ensures, ones_and_clear c.args.self.word c.args.level)

pub overflow_sub-result : goal.overflow_sub-result
overflow_sub-result c = omega (arith, ap ones c.low_bits.ensures, ones_and_clear c.args.self.word c.args.level)
