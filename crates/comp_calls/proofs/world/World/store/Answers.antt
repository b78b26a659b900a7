use Rattle.std.proofs.Common.{◌≡◌, length, Some, Err, refl}
use Rattle.std.specs.Prelude.{slice_get}
use Rattle.std.proofs.lemmas.Option.{slice_get_read}
use Rattle.comp_calls.specs.Moments.{at}
use Rattle.comp_calls.proofs.Begun.{ends_so, store_stops}
use Rattle.call_moments.specs.Stops.{stop_of_store}
use Rattle.call_moments.specs.declared.end.Stop.TheVariants as stops
use Rattle.call_moments.specs.Functions.{Stores}
use Rattle.call_moments.proofs.Following.{with_instance}
use Rattle.call_moments.proofs.StoringLaws.{storing_there, storing_reaches, step_traps, step_done, step_asks}
use Rattle.comp_calls.proofs.world.World.store.Goals as goal

pub returns-in_default-clause-leads : goal.returns-in_default-clause-leads
returns-in_default-clause-leads g c = storing_there g.H.Host.step c.args.storing (at g.H.Host.kept c.args.self.now) c.args.answer c.in_default.ensures.item.3 (at g.H.Host.kept c.args.self.now) (Err stops.Trapped)

pub returns-in_default-memory_for-clause-leads : goal.returns-in_default-memory_for-clause-leads
returns-in_default-memory_for-clause-leads g c =
    let old = at g.H.Host.kept c.args.self.now in
    let k = c.args.storing.instance in
    let i = c.in-Some.instance.now in
    let found : slice_get old.instances k ≡ Some i = slice_get_read old.instances (length old.instances) k i refl c.in-Some.ensures.item.3.0 c.in-Some.ensures.value in
    storing_reaches g.H.Host.step c.args.storing old c.args.answer i found c.in_default-memory_for.ensures.none.0 c.in_default-memory_for.ensures.none.1 old (Err stops.Trapped)

pub returns-in_err-store_next-clause-leads : goal.returns-in_err-store_next-clause-leads
returns-in_err-store_next-clause-leads g c =
    let old = at g.H.Host.kept c.args.self.now in
    let k = c.args.storing.instance in
    let i = c.in-Some.instance.now in
    let found : slice_get old.instances k ≡ Some i = slice_get_read old.instances (length old.instances) k i refl c.in-Some.ensures.item.3.0 c.in-Some.ensures.value in
    let fault = c.in_err-store_next.field-0.0 in
    let new = with_instance old k (record { code = c.store_next.new.self; handles = i.handles; entered = i.entered; closed = i.closed }) in
    ends_so (λ r. Stores g.H.Host.step old c.args.storing c.args.answer r new) (stop_of_store fault) c.from_residual.result c.from_residual.ensures.1
    (store_stops g.H.Host.step c.args.storing old new c.args.answer i found c.in-Some-memory_for.memory c.store_next.new.plan c.store_next.new.self fault c.in_err-store_next.ensures)

pub returns-in-Trap-clause-leads : goal.returns-in-Trap-clause-leads
returns-in-Trap-clause-leads g c =
    let old = at g.H.Host.kept c.args.self.now in
    let k = c.args.storing.instance in
    let i = c.in-Some.instance.now in
    let found : slice_get old.instances k ≡ Some i = slice_get_read old.instances (length old.instances) k i refl c.in-Some.ensures.item.3.0 c.in-Some.ensures.value in
    step_traps g.H.Host.step c.args.storing old c.args.answer i found (record { code = c.store_next.new.self; handles = i.handles; entered = i.entered; closed = i.closed }) refl c.in-Some-memory_for.memory c.in-Some-memory_for.ensures.named c.store_next.new.plan
    _ c.in_ok-store_next.ensures c.in-Trap.is old refl

pub returns-in-NeedsRealloc-clause-leads : goal.returns-in-NeedsRealloc-clause-leads
returns-in-NeedsRealloc-clause-leads g c =
    let old = at g.H.Host.kept c.args.self.now in
    let k = c.args.storing.instance in
    let i = c.in-Some.instance.now in
    let found : slice_get old.instances k ≡ Some i = slice_get_read old.instances (length old.instances) k i refl c.in-Some.ensures.item.3.0 c.in-Some.ensures.value in
    step_asks g.H.Host.step c.args.storing old c.args.answer i found (record { code = c.store_next.new.self; handles = i.handles; entered = i.entered; closed = i.closed }) refl c.in-Some-memory_for.memory c.in-Some-memory_for.ensures.named c.store_next.new.plan
    _ c.in_ok-store_next.ensures _ _ c.in-NeedsRealloc.align c.in-NeedsRealloc.len c.in-NeedsRealloc.is _ _ (at g.H.Host.kept c.ask_for.new.self) c.ask_for.result c.ask_for.ensures.leads

pub returns-in-Done-clause-leads : goal.returns-in-Done-clause-leads
returns-in-Done-clause-leads g c =
    let old = at g.H.Host.kept c.args.self.now in
    let k = c.args.storing.instance in
    let i = c.in-Some.instance.now in
    let found : slice_get old.instances k ≡ Some i = slice_get_read old.instances (length old.instances) k i refl c.in-Some.ensures.item.3.0 c.in-Some.ensures.value in
    step_done g.H.Host.step c.args.storing old c.args.answer i found (record { code = c.store_next.new.self; handles = i.handles; entered = i.entered; closed = i.closed }) refl c.in-Some-memory_for.memory c.in-Some-memory_for.ensures.named c.store_next.new.plan
    _ c.in_ok-store_next.ensures c.in-Done.flat c.in-Done.is c.reopen.new.self c.reopen.ensures.done c.reopen.ensures.code (at g.H.Host.kept c.stored.new.self) c.stored.result c.stored.ensures.leads
