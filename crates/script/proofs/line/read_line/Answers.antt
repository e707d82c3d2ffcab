use Rattle.std.proofs.Common.{◌≡◌, ◌-◌, ◌∙◌, length, take, drop, sym, ap, rules}
use Rattle.text.specs.Field.{field}
use Rattle.script.specs.Lines.{after_line}
use Rattle.script.specs.Script.{any_number, command_line, numbered, ticket_of}
use Rattle.script.specs.declared.Command.TheVariants.{Admit, Withdraw}
use Rattle.script.proofs.Scripts.{admit_line, shown_numbered, withdraw_line}
use Rattle.script.proofs.line.read_line.Goals as goal

pub returns-in-A-eq32 : goal.returns-in-A-eq32
returns-in-A-eq32 c =
    let text = c.args.text.now in
    let line : command_line c.args.tickets text ≡ numbered Admit (field (ticket_of c.args.tickets) 10 2 (take (length text - 2) (drop 2 text))) = search (rules, admit_line) in
    shown_numbered _ Admit (λ n d e. e) text _ c.numbered_line.result c.numbered_line.ensures ∙ ap (after_line text) (sym line)

pub returns-in-W-eq32 : goal.returns-in-W-eq32
returns-in-W-eq32 c =
    let text = c.args.text.now in
    let line : command_line c.args.tickets text ≡ numbered Withdraw (field any_number 10 2 (take (length text - 2) (drop 2 text))) = search (rules, withdraw_line) in
    shown_numbered _ Withdraw (λ n d e. e) text _ c.numbered_line-in-W-eq32.result c.numbered_line-in-W-eq32.ensures ∙ ap (after_line text) (sym line)
