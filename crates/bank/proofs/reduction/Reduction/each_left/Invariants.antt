use Rattle.std.proofs.Common.{◌≡◌, ◌++◌, map, length, take, drop}
use Rattle.bank.specs.Reduction.{reduced}
use Rattle.bank.proofs.reduction.Reduction.each_left.Given as goal

abbrev pub invariant-loop-n : goal.invariant-loop-n
invariant-loop-n l =
    (length l.n-items ≡ 65) × (l.n-items ≡ map (reduced l.self) (take l.n-index l.initial.n-items) ++ drop l.n-index l.initial.n-items)
