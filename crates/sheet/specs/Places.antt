-- What a reader of lines has done.
use Rattle.std.specs.Prelude.{◌≡◌, ℕ, ◌<◌, List, [], length, Ok, Err, Result}
use Rattle.bank.specs.declared.refusal.Refusal.TheVariants.{NotInFormat}
use Rattle.text.specs.declared.LineFault.{LineFault}
use Rattle.text.specs.declared.limits.Limits.{Limits}
use Rattle.sheet.specs.declared.cursor.Cursor.{Cursor}
use Rattle.sheet.specs.Fields.{lines, section}

-- `count` lines from a place on are read, and their records follow those read before
abbrev pub RowsRead : {R : Type 0} → List Limits → (List ℕ → R) → ℕ → Cursor → List R → Cursor → List R → Result (Unit {0}) LineFault → Type 0
RowsRead ls make count from before to rows (Ok done) = lines ls make count from.line from.rest.now before ≡ Ok (record { rows = rows; next = to.line; rest = to.rest.now })
RowsRead ls make count from before to rows (Err fault) = lines ls make count from.line from.rest.now before ≡ Err fault

-- a section from a place on is read into a table
abbrev pub SectionRead : {R : Type 0} → ℕ → List Limits → (List ℕ → R) → Cursor → Cursor → List R → Result (Unit {0}) LineFault → Type 0
SectionRead most ls make from to rows (Ok done) = section most ls make from.line from.rest.now ≡ Ok (record { rows = rows; next = to.line; rest = to.rest.now })
SectionRead most ls make from to rows (Err fault) = section most ls make from.line from.rest.now ≡ Err fault

-- nothing is left of the text, or its next line is at fault
abbrev pub EndRead : Cursor → Result (Unit {0}) LineFault → Type 0
EndRead at (Ok done) = at.rest.now ≡ []
EndRead at (Err fault) = (0 < length at.rest.now) × (fault ≡ record { line = at.line; number = record { refusal = NotInFormat; byte = 0 } })
