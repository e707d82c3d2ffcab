use Rattle.bank.proofs.Spans.{steady_to_mark}
use Rattle.bank.proofs.steady_to.Goals as goal

pub returns : goal.returns
returns g c =
    let b = c.args.cores.now in
    record {
      first = c.mark_after.ensures;
      steady = steady_to_mark (g.B.Bank.means b) (g.met.B.Bank.rules b) c.args.slot c.mark_after.result c.mark_after.ensures;
    }
