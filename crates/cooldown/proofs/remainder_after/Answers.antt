use Rattle.std.proofs.Common.{◌≡◌, ◌+◌, ◌*◌, ◌/◌, ◌<◌, ◌≤◌, min, ◌∙◌, arith}
use Rattle.cooldown.proofs.Cycles.{remainder_here, remainder_next}
use Rattle.cooldown.proofs.remainder_after.Goals as goal
use Rattle.cooldown.proofs.remainder_after.Goals.{then-slot-here, else-slot-here}

-- a sum that saturates lies past every limit
pub returns : goal.returns
returns c =
    let t = c.args.slot in
    let p = c.args.period in
    let r = c.args.remainder in
    let end = c.args.limit in
    let here = c.saturating_add-here.ensures in
    elim c.if-slot-here.branch [
      | then-slot-here w ↦
          let ahead : t < t / p * p + r = omega (arith, w.if-slot-here.true, here) in
          let is : c.min.result ≡ min (t / p * p + r) end = omega (arith, c.min.ensures, w.next-is, here) in
          is ∙ remainder_here t p r end c.requires.remainder ahead
      | else-slot-here w ↦
          let behind : t / p * p + r ≤ t = omega (arith, w.if-slot-here.false, here, c.requires.ahead) in
          let is : c.min.result ≡ min (t / p * p + r + p) end = omega (arith, c.min.ensures, w.next-is, w.saturating_add-next.ensures, here, behind) in
          is ∙ remainder_next t p r end c.requires.remainder behind
    ]
