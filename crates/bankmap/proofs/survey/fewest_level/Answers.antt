use Rattle.std.proofs.Common.{rules, ◌<◌, ◌≤◌}
use Rattle.std.proofs.lemmas.Iterator.{first_from_Range}
use borrow.Author.Tests.{tests}
use Rattle.bankmap.proofs.States.{fewest_found}
use Rattle.bankmap.proofs.survey.fewest_level.Goals as goal

pub returns : goal.returns
returns g c =
    let m = g.B.Bank.means c.args.pile.now in
    let all = c.capacity-all.result in
    fewest_found m (g.met.B.Bank.rules c.args.pile.now) c.args.slot c.top-top.result all c.unwrap_or.result c.find.result c.top-top.ensures c.capacity-all.ensures c.unwrap_or.ensures
    (first_from_Range _ _ _ c.find.result (λ k. all ≤ m.capacity k c.args.slot) (λ k. m.capacity k c.args.slot < all) c.find.ensures.ran (λ x q k. search (rules, tests)) (λ x q k. search (rules, tests)))
