use Rattle.script.proofs.Scripts.{accepted_after, ended, first}
use Rattle.script.proofs.Script.first_line.Goals as goal

pub returns : goal.returns
returns c =
    let t = c.args.self.now.tickets in
    let bs = c.args.self.now.rest.now in
    let read = c.read_line.ensures in
    let accepted = c.args.self.now.accepted in
    rw c.ok.ensures.value (record {
      ended = ended t bs c.read_line.result read accepted;
      first = first t bs c.read_line.result read accepted;
      accepted = accepted_after t bs c.read_line.result read accepted;
    })
