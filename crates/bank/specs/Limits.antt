-- Numbers with a least and a greatest value.
use Rattle.std.specs.Prelude.{ℕ, min, max, Bool, ◌&&◌, nat_le, nat_lt}

abbrev pub in_limits : ℕ → ℕ → ℕ → Bool
in_limits low high n = nat_le low n && nat_le n high

-- a bank of this many slots and this top level has level k and slot t
abbrev pub in_bank : ℕ → ℕ → ℕ → ℕ → Bool
in_bank slots top k t = nat_le k top && nat_lt t slots

-- n where it lies in the limits, else the limit that is nearer
abbrev pub nearest : ℕ → ℕ → ℕ → ℕ
nearest low high n = max low (min n high)
