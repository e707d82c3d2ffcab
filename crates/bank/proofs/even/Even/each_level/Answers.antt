use Rattle.std.proofs.Common.{rules}
use Rattle.bank.proofs.Called.{from_fn_is}
use Rattle.bank.specs.Even.{even}
use Rattle.bank.proofs.even.Even.each_level.Goals as goal

pub returns : goal.returns
returns c =
    from_fn_is _ _ (λ k. (even c.args.self.now.size.slots c.args.self.now.size.top).capacity k c.args.slot) (λ i y q k. search rules) _ 65 c.from_fn.ensures.items
