use Rattle.std.proofs.Common.{eqb}
use Rattle.bank.proofs.Firsts.{first_or}
use Rattle.bank.proofs.interval.either_after.Goals as goal

pub returns : goal.returns
returns c =
    let e = first_or (λ s. eqb s c.args.a) (λ s. eqb s c.args.b) c.args.limit c.args.slot in
    cc
