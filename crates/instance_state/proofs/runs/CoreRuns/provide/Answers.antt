use Rattle.std.proofs.Common.{◌≡◌, ◌++◌, ◌∷◌, [], sym, subst}
use Rattle.core_store.specs.State.{State}
use Rattle.core_store.specs.declared.value.StoreFunc.TheVariants.{Outside}
use Rattle.core_store.specs.Scene.{scene_of, Grew}
use Rattle.core_store.specs.Fine.{IsFine}
use Rattle.core_store.proofs.Stores.{calls_grow}
use Rattle.core_store.proofs.Starting.{outside_fine}
use Rattle.instance_state.specs.Counting.{CountsOf}
use Rattle.instance_state.proofs.Readying.{idle_on}
use Rattle.instance_state.proofs.runs.CoreRuns.provide.Goals as goal

pub invariant_of-self-2 : goal.invariant_of-self-2
invariant_of-self-2 c =
    let s = c.self.inside.store in
    let t : State = record s { functions = s.functions ++ Outside c.in_ok-ty.ty c.args.number ∷ [] } in
    let e : c.add_function.new.store ≡ t = c.in_ok-place.ensures.2 in (
      subst (λ z. IsFine (scene_of z)) (sym e) (outside_fine s c.in_ok-ty.ty c.args.number c.self.invariant.0),
      idle_on c.self.inside.calls.items c.self.inside.going s c.add_function.new.store c.if-self.false (subst (Grew s) (sym e) (calls_grow.function s (Outside c.in_ok-ty.ty c.args.number)).grew) c.self.invariant.1,
      subst (λ z. CountsOf z c.self.inside.counts) (sym e) (record { tables = c.self.invariant.2.tables; memories = c.self.invariant.2.memories; globals = c.self.invariant.2.globals }),
    )
