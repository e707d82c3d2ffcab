-- What is left of a script of which commands were handed out.
use Rattle.std.specs.Prelude.{List}
use Rattle.script.specs.Script.{left_of}
use Rattle.script.specs.declared.Command.{Command}
use Rattle.script.specs.declared.Script.{Script}

abbrev pub left_in : Script → List Command
left_in s = left_of s.tickets s.rest.now
