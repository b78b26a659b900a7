use Rattle.std.proofs.Common.{◌<◌, List, sym, subst, length}
use Rattle.core_store.specs.View.{state_of}
use Rattle.core_store.specs.State.{State}
use Rattle.core_store.specs.Table.{AreRefs}
use Rattle.core_store.specs.declared.value.CoreRef.{CoreRef}
use Rattle.core_store.proofs.References.{moves_refs}
use Rattle.core_store.proofs.Sound.{sound_table, table_refs, element_refs}
use Rattle.core_store.proofs.tables.table_init.Goals as goal

pub invariant_of-store : goal.invariant_of-store
invariant_of-store c =
    let s = state_of c.store.inside in
    sound_table s c.args.table c.init.new.self c.store.invariant
    (moves_refs (length s.functions) c.as_slice-source.result.now c.index_mut.result.now c.init.new.self c.args.to c.args.from c.args.len c.init.result c.init.ensures
    (table_refs s c.args.table c.index_mut.result.now c.store.invariant (subst (λ (v : State). c.args.table < length v.tables) (sym c.store.view_is) c.requires.table) c.index_mut.ensures.value)
    (subst (λ (v : List CoreRef). AreRefs (length s.functions) v) (sym c.as_slice-source.ensures) (element_refs s c.args.segment c.index.result.now c.store.invariant (subst (λ (v : State). c.args.segment < length v.elements) (sym c.store.view_is) c.requires.segment) c.index.ensures)))
