use Rattle.std.proofs.Common.{◌≡◌, ◌≤◌, length, sym, ap, arith, length-drop, rules}
use Rattle.std.proofs.lemmas.List.{take_rest}
use Rattle.sheet.specs.Fields.{count_to}
use Rattle.sheet.proofs.Lines.{field_takes}
use Rattle.sheet.proofs.Sheets.{read_ok}
use Rattle.text.specs.Field.{field}
use Rattle.sheet.proofs.cursor.Cursor.read_section.Goals as goal

pub invariant_of-self : goal.invariant_of-self
invariant_of-self g c =
    let rest = c.args.self.now.rest.now in
    let len = c.in_ok-count.count.len in
    let limits = count_to c.MOST.result in
    let read = read_ok (λ r. field limits 10 0 rest ≡ r) c.args.self.now.line c.read_field.result c.in_ok-count.count c.in_ok-count.ensures (sym c.read_field.ensures.reads) in
    let takes = field_takes limits 10 0 rest c.in_ok-count.count read in
    let fits : len ≤ length rest = search rules in
    record { bounded = omega (arith, takes, fits, c.args.self.now.bounded, ap length (take_rest rest len), length-drop len rest) }
