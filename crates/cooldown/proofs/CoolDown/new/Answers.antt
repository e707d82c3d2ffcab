use Rattle.cooldown.specs.Laws.Cooldowns.{cool_down_rules}
use Rattle.cooldown.proofs.CoolDown.new.Goals as goal

pub returns-clause-rules : goal.returns-clause-rules
returns-clause-rules g c = cool_down_rules
