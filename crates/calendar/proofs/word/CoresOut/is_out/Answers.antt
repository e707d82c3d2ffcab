use Rattle.std.proofs.Common.{◌/◌, ◌^◌, eqb, ap}
use Rattle.std.proofs.lemmas.Nat.{and_mask}
use Rattle.calendar.proofs.word.CoresOut.is_out.Goals as goal

pub returns : goal.returns
returns c = ap (λ n. eqb n 1) (and_mask (c.args.self.word / 2 ^ c.args.core) 1)
