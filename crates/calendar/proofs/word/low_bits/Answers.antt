use Rattle.std.proofs.Common.{◌-◌, sym, ap, ◌∙◌, arith}
use lib.Bits.{bit_and}
use Rattle.std.proofs.Math.Nat.{mod-eq_of_lt}
use Rattle.std.proofs.Math.Pow.{pow_mono}
use Rattle.std.proofs.lemmas.Nat.{and_mask, one_shl}
use Rattle.calendar.proofs.word.low_bits.Goals as goal

pub returns-then-n-lt64 : goal.returns-then-n-lt64
returns-then-n-lt64 c =
    ap (λ m. bit_and c.args.word (m - 1)) (one_shl c.args.n 64 c.if-n-lt64.true) ∙ and_mask c.args.word c.args.n

pub returns-else-n-lt64 : goal.returns-else-n-lt64
returns-else-n-lt64 c = sym (mod-eq_of_lt (omega (arith, pow_mono c.if-n-lt64.false)))
