use Rattle.bench_banks.proofs.Lists.{Filled}
use Rattle.bench_banks.proofs.put_answers.Given as goal

abbrev pub invariant-loop-number : goal.invariant-loop-number
invariant-loop-number g l = Filled (λ k r. g.F.Fn.post l.ask (k, tt) r) l.number l.answer-items
