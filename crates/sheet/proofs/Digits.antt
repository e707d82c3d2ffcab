-- How many digits a number is written with.
use Rattle.std.proofs.Common.{ℕ, ◌^◌, ◌<◌, ◌≤◌, length, decimal, arith}
use Rattle.std.proofs.lemmas.Fmt.{length-decimal-le}

-- a number of at most six digits
pub six_digits : (n : ℕ) → n < 10 ^ 6 → length (decimal n) ≤ 6
six_digits n h = length-decimal-le 6 n (omega arith) h (omega arith)
