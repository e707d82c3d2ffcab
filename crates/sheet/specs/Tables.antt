-- What a reader of a whole text has done.
use Rattle.std.specs.Prelude.{◌≡◌, ℕ, List, [], ◌∷◌, Ok, Err, Result}
use Rattle.text.specs.declared.TextFault.{TextFault}
use Rattle.sheet.specs.declared.tables.Tables.{Tables}
use Rattle.sheet.specs.Sheet.{Sheet, sheet}

-- these tables hold this sheet
pub record Holds (t : Tables) (s : Sheet) : Type 0 where
  pub extent : t.extents.items ≡ s.extent ∷ []
  pub outages : t.outages.items ≡ s.outages
  pub windows : t.windows.items ≡ s.windows
  pub cool_downs : t.cool_downs.items ≡ s.cool_downs
  pub tickets : t.tickets.items ≡ s.tickets

-- the text is a sheet, which the tables hold, or it is refused as the sheet's definition says
abbrev pub TablesRead : List ℕ → Tables → Result (Unit {0}) TextFault → Type 0
TablesRead text tables (Ok done) = (s : Sheet) × (sheet text ≡ Ok s) × Holds tables s
TablesRead text tables (Err fault) = sheet text ≡ Err fault
