-- The fields of a line, under their limits.
use Rattle.std.specs.Prelude.{◌≡◌, ℕ, zero, suc, ◌+◌, ◌^◌, ◌<◌, Bool, true, false, ◌&&◌, List, [], ◌∷◌, ◌++◌, drop, Ok, Result, slice_index, nat_lt, if◌then◌else◌}
use Rattle.text.specs.declared.LineFault.{LineFault}
use Rattle.text.specs.declared.NumberFault.{NumberFault}
use Rattle.bank.specs.declared.refusal.Refusal.TheVariants.{CountAboveLimit}
use Rattle.text.specs.declared.limits.Limits.{Limits}
use Rattle.text.specs.Field.{within, field, and_then, on_line}

-- the numbers of a line, and the bytes after it
pub record Line : Type 0 where
  pub numbers : List ℕ
  pub rest : List ℕ

-- what closes a field before the fields under these limits: a space, or the line's end where none follows
abbrev pub close_before : List Limits → ℕ
close_before [] = 10
close_before (l ∷ ls) = 32

-- what closes field j of n: a space, or the line's end after the last one
abbrev pub close_at : ℕ → ℕ → ℕ
close_at n j = if nat_lt (j + 1) n then 32 else 10

-- the fields under these limits, from `byte` of the line on, after the numbers read before
abbrev pub fields : List Limits → ℕ → List ℕ → List ℕ → Result Line NumberFault
fields [] byte bs before = Ok (record { numbers = before; rest = bs })
fields (l ∷ ls) byte bs before =
    and_then (field l (close_before ls) byte bs) (λ f. fields ls (byte + f.len) (drop f.len bs) (before ++ f.number ∷ []))

-- the records that were read, the number of the next line, and the bytes from there on
pub record Rows (R : Type 0) : Type 0 where
  pub rows : List R
  pub next : ℕ
  pub rest : List ℕ

-- k lines from `line` on, each with a field for each limit, and each made into a record, after the records read before
abbrev pub lines : {R : Type 0} → List Limits → (List ℕ → R) → ℕ → ℕ → List ℕ → List R → Result (Rows R) LineFault
lines ls make zero line bs before = Ok (record { rows = before; next = line; rest = bs })
lines ls make (suc k) line bs before =
    and_then (on_line line (fields ls 0 bs [])) (λ t. lines ls make k (line + 1) t.rest (before ++ make t.numbers ∷ []))

-- the count of a section's lines, at most `most`
abbrev pub count_to : ℕ → Limits
count_to most = record { low = 0; high = most; refusal = CountAboveLimit }

-- a section that begins at `line`: the count of its lines, at most `most`, on a line of its own, and then the lines
abbrev pub section : {R : Type 0} → ℕ → List Limits → (List ℕ → R) → ℕ → List ℕ → Result (Rows R) LineFault
section most ls make line bs =
    and_then (on_line line (fields (count_to most ∷ []) 0 bs [])) (λ c. lines ls make (slice_index c.numbers 0) (line + 1) c.rest [])

-- numbers that stand within these limits, one for each
abbrev pub Fitting : List Limits → List ℕ → Type 0
Fitting [] [] = Unit {0}
Fitting [] (n ∷ ns) = ⊥
Fitting (l ∷ ls) [] = ⊥
Fitting (l ∷ ls) (n ∷ ns) = (within l n ≡ true) × Fitting ls ns

-- whether these numbers stand within these limits, one for each
abbrev pub fits : List Limits → List ℕ → Bool
fits [] [] = true
fits [] (n ∷ ns) = false
fits (l ∷ ls) [] = false
fits (l ∷ ls) (n ∷ ns) = within l n && fits ls ns

-- limits of numbers that have at most six digits
abbrev pub Short : List Limits → Type 0
Short [] = Unit {0}
Short (l ∷ ls) = (l.high < 10 ^ 6) × Short ls
