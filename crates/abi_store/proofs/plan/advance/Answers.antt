use Rattle.std.proofs.Common.{◌≡◌, refl, subst, []}
use Rattle.std.specs.Prelude.{reverse}
use Rattle.core_store.specs.State.{memory_at}
use Rattle.abi_store.specs.declared.stage.Stage.{Stage}
use Rattle.abi_store.specs.declared.stage.Stage.TheVariants.{Flat as OfFlats}
use Rattle.abi_store.specs.Flows.{chain, led, flow_lowered}
use Rattle.abi_store.specs.Slots.{known}
use Rattle.abi_store.specs.Stages.{rest_of, idle_works}
use Rattle.abi_store.proofs.Stores.{keeps_self}
use Rattle.abi_store.proofs.Plans.{advanced, flats_led}
use Rattle.abi_store.proofs.plan.advance.Goals as goal

pub returns-in_ok-flow-in-Flat-clause-leads : goal.returns-in_ok-flow-in-Flat-clause-leads
returns-in_ok-flow-in-Flat-clause-leads c =
    let none = subst (λ (s : Stage). idle_works s c.args.works.now.items ≡ []) c.in-Flat.is c.requires.idle in
    advanced c.args.store.now c.args.store.now c.args.memory c.args.stage OfFlats c.args.works.now.items c.args.flats.now c.args.answer c.args.answer
    (λ n. led (known c.run_flats.new.flats.done.items) (chain (flow_lowered c.in_ok-flow-in-Flat.flow) (rest_of c.args.works.now.items c.run_flats.new.flats) 0) n) c.in-Flat.is refl (
      flats_led (memory_at c.args.store.now c.args.memory) c.args.flats.now.done.items c.run_flats.new.flats.done.items c.args.works.now.items (reverse c.args.flats.now.left.items) (reverse c.run_flats.new.flats.left.items)
          (flow_lowered c.in_ok-flow-in-Flat.flow) none (c.in_ok-flow-in-Flat.ensures.leads (memory_at c.args.store.now c.args.memory)),
      keeps_self c.args.store.now c.args.memory,
    )
