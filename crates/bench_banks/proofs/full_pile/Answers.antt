use Rattle.std.proofs.Common.{◌≡◌, List, map, ap, ◌∙◌}
use Rattle.bank.specs.Meaning.{Meaning}
use Rattle.cooldown.specs.Cooldown.{cool_down}
use Rattle.reserve.specs.Reserve.{clamped, reserve}
use Rattle.reserve.specs.declared.Window.{Window}
use Rattle.bench_banks.proofs.full_pile.Goals as goal

same_reserve : (ws vs : List Window) (m n : Meaning) → ws ≡ vs → m ≡ n → reserve (map clamped ws) m ≡ reserve (map clamped vs) n
same_reserve ws vs m n windows meaning = ap (λ xs. reserve (map clamped xs) m) windows ∙ ap (reserve (map clamped vs)) meaning

pub returns : goal.returns
returns c =
    c.new.ensures.meaning ∙
    ap (cool_down 16 4 40) (c.new-reserve.ensures.meaning ∙ same_reserve _ _ _ _ c.eight_windows.ensures c.new-calendar.ensures)
