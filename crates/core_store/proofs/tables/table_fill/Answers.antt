use Rattle.std.proofs.Common.{◌<◌, sym, subst, length}
use Rattle.core_store.specs.View.{state_of}
use Rattle.core_store.specs.State.{State}
use Rattle.core_store.specs.Table.{IsRef}
use Rattle.core_store.proofs.References.{fills_refs}
use Rattle.core_store.proofs.Sound.{sound_table, table_refs}
use Rattle.core_store.proofs.tables.table_fill.Goals as goal

pub invariant_of-store : goal.invariant_of-store
invariant_of-store c =
    let s = state_of c.store.inside in
    sound_table s c.args.table c.fill.new.self c.store.invariant
    (fills_refs (length s.functions) c.index_mut.result.now c.fill.new.self c.args.at c.args.value c.args.len c.fill.result c.fill.ensures
    (table_refs s c.args.table c.index_mut.result.now c.store.invariant (subst (λ (v : State). c.args.table < length v.tables) (sym c.store.view_is) c.requires.table) c.index_mut.ensures.value)
    (subst (λ (v : State). IsRef (length v.functions) c.args.value) (sym c.store.view_is) c.requires.names))
