use Rattle.std.proofs.Common.{[], ◌∷◌, ap, ◌∙◌}
use Rattle.cooldown.specs.Cooldown.{cool_down}
use Rattle.cases.specs.Examples.{capacities_in}
use Rattle.cases.proofs.every_fourth_slot.Goals as goal

pub returns : goal.returns
returns c =
    c.capacities_in.ensures ∙
    ap (λ m. capacities_in m 2 (2 ∷ 3 ∷ 4 ∷ [])) (c.new-pile.ensures.meaning ∙ ap (cool_down 4 1 1) c.new.ensures)
