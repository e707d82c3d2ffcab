use Rattle.std.proofs.Common.{sym}
use Rattle.std.proofs.lemmas.List.{length-set}
use Rattle.reserve.specs.Reserve.{window_fits}
use Rattle.bank.proofs.Tables.{all_set}
use Rattle.reserve.proofs.table.WindowTable.set.Goals as goal

pub invariant_of-self : goal.invariant_of-self
invariant_of-self c = record {
  sized = simp length-set c.args.self.now.sized;
  fit = all_set window_fits c.args.self.now.rows c.args.place c.args.window c.args.self.now.fit (sym c.if-not-fits.ensures);
}
