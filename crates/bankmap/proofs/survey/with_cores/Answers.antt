use Rattle.std.proofs.Common.{◌≡◌, ◌+◌, List, sym, refl, ap, ◌∙◌, arith}
use Rattle.bankmap.specs.declared.survey.CoreState.{CoreState}
use Rattle.bankmap.proofs.States.{Changed, changed_none, changed_more, changed_all, top_core, core_below}
use Rattle.bankmap.proofs.survey.with_cores.Goals as goal
use Rattle.bankmap.proofs.survey.with_cores.Goals.{in-Some, in_default}

pub loop-lane-init : goal.loop-lane-init
loop-lane-init g c = (omega arith, λ core h. refl)

pub bounds-changed-core : goal.bounds-changed-core
bounds-changed-core g c =
    let m = g.B.Bank.means c.args.cores.now in
    core_below m (g.met.B.Bank.rules c.args.cores.now) c.args.slot c.loop-lane.lane c.in-Some.core
    (top_core m c.args.slot c.top-top.result c.loop-lane.lane c.core.result c.top-top.ensures c.core.ensures ∙ c.in-Some.is)

pub loop-lane-preserved : goal.loop-lane-preserved
loop-lane-preserved g c =
    let m = g.B.Bank.means c.args.cores.now in
    let lane = c.loop-lane.lane in
    let at_top = top_core m c.args.slot c.top-top.result lane c.core.result c.top-top.ensures c.core.ensures in
    elim c.match-core.branch [
      | in-Some w ↦
          let core_is = at_top ∙ w.in-Some.is in
          let small = core_below m (g.met.B.Bank.rules c.args.cores.now) c.args.slot lane w.in-Some.core core_is in
          moved (sym w.changed-is) (changed_more m c.args.slot c.args.state c.args.states lane w.in-Some.core c.loop-lane.changed core_is small c.loop-lane.invariant)
      | in_default w ↦ moved (sym w.changed-is) (changed_none m c.args.slot c.args.state c.args.states lane c.loop-lane.changed (at_top ∙ w.in_default.is) c.loop-lane.invariant)
    ]
  where
    moved : {xs ys : List CoreState} → xs ≡ ys → Changed (g.B.Bank.means c.args.cores.now) c.args.slot c.args.state c.args.states (c.loop-lane.lane + 1) xs →
        Changed (g.B.Bank.means c.args.cores.now) c.args.slot c.args.state c.args.states (c.loop-lane.lane + 1) ys
    moved e h = rw (sym e) h

pub returns : goal.returns
returns g c =
    let m = g.B.Bank.means c.args.cores.now in
    let end : c.loop-lane.lane ≡ c.capacity-lane-end.result = omega arith in
    changed_all m c.args.slot c.args.state c.args.states c.loop-lane.lane c.loop-lane.changed
    (end ∙ c.capacity-lane-end.ensures ∙ ap (λ k. m.capacity k c.args.slot) c.top-top.ensures) c.loop-lane.invariant
