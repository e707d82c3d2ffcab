use Rattle.reserve.specs.Laws.Reserves.{reserve_rules}
use Rattle.reserve.proofs.HostReserve.new.Goals as goal

pub returns-clause-rules : goal.returns-clause-rules
returns-clause-rules g c = reserve_rules
