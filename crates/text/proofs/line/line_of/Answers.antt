use Rattle.std.proofs.Common.{◌∙◌, [], eqb, arith, rules, tests}
use Rattle.std.proofs.lemmas.Iterator.Consumers.{nth_from_yields_List}
use Rattle.std.proofs.lemmas.Iterator.Splits.{YieldsList-from_slice_split}
use Rattle.std.proofs.lemmas.Option.{unwrap_or-slice_get}
use Rattle.std.specs.List.{slice_split}
use Rattle.text.proofs.LineParts.{part_at}
use Rattle.text.proofs.line.line_of.Goals as goal

pub returns : goal.returns
returns c =
    let text = c.args.text.now in
    let nth = nth_from_yields_List c.nth.result c.nth.new.self c.args.before c.nth.ensures.ran
    (YieldsList-from_slice_split _ (λ b. eqb b 10) text c.split.ensures.rest c.split.ensures.done c.split.ensures.closure (λ x r q k. search (rules, tests))) in
    let line = unwrap_or-slice_get (slice_split (λ b. eqb b 10) text) c.args.before [] ∙ part_at text c.args.before in
    grind (arith, c.unwrap_or.ensures)
