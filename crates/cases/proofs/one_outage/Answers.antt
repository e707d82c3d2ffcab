use Rattle.std.proofs.Common.{[], ◌∷◌, ap, ◌∙◌}
use Rattle.cases.specs.Examples.{capacities_in}
use Rattle.cases.proofs.one_outage.Goals as goal

pub returns : goal.returns
returns c = c.capacities_in.ensures ∙ ap (λ m. capacities_in m 1 (1 ∷ 2 ∷ 4 ∷ [])) c.new.ensures
