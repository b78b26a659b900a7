use Rattle.std.proofs.Common.{◌≡◌, ◌∙◌, sym, ap, subst}
use Rattle.core_store.specs.State.{memory_at}
use Rattle.core_store.specs.Scene.{scene_of}
use Rattle.core_store.specs.Fine.{IsFine}
use Rattle.core_store.proofs.Keeping.{same_memory}
use Rattle.core_store.proofs.Stores.{grew_same}
use Rattle.instance_state.proofs.Readying.{counts_on, idle_on}
use Rattle.instance_state.proofs.runs.CoreRuns.store_next.Goals as goal

pub invariant_of-self : goal.invariant_of-self
invariant_of-self c =
    let s = c.self.inside.store in
    let t = c.next.new.store in
    let scene : scene_of s ≡ scene_of t = (same_memory s c.args.memory (memory_at t c.args.memory)).scene ∙ ap scene_of (sym c.in-Ok.ensures.stops.1) in (
      subst IsFine scene c.self.invariant.0,
      idle_on c.self.inside.calls.items c.self.inside.going s t c.if-self.false (grew_same s t scene) c.self.invariant.1,
      counts_on s t c.self.inside.counts scene c.self.invariant.2,
    )
