use Rattle.std.proofs.Common.{◌≡◌, length, take, ◌∙◌, arith, length-take}
use Rattle.bench_banks.proofs.Lists.{filled_more, answers_all}
use Rattle.bench_banks.proofs.put_answers.Goals as goal

pub loop-number-preserved : goal.loop-number-preserved
loop-number-preserved g c =
    filled_more (λ k r. g.F.Fn.post c.args.ask (k, tt) r) c.loop-number.number c.ask.result c.loop-number.answer-items (omega (arith, c.loop-number.auto.answer-items)) c.ask.ensures c.loop-number.invariant

pub returns : goal.returns
returns g c =
    let long : length (take c.min-asked.result c.args.answers.now) ≡ c.min-asked.result = omega (arith, length-take c.min-asked.result c.args.answers.now) in
    λ f. answers_all (λ k r. g.F.Fn.post c.args.ask (k, tt) r) f c.args.count c.min-asked.result c.args.answers.now c.loop-number.answer-items c.min-asked.ensures (c.loop-number.auto.answer-items ∙ long)
    (λ k h. c.loop-number.invariant k (omega arith))
