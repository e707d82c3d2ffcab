-- What a layer leaves of a number of usable cores.
use Rattle.std.specs.Prelude.{ℕ, ◌-◌, min}
use Rattle.bank.specs.declared.reduction.Reduction.{Reduction}
use Rattle.bank.specs.declared.reduction.Reduction.TheVariants.{Less, AtMost}

abbrev pub reduced : Reduction → ℕ → ℕ
reduced (Less withheld) n = n - withheld
reduced (AtMost limit) n = min n limit
