use Rattle.std.proofs.Common.{◌<◌, sym, subst, length}
use Rattle.core_store.specs.View.{state_of}
use Rattle.core_store.specs.State.{State}
use Rattle.core_store.proofs.References.{moves_refs}
use Rattle.core_store.proofs.Sound.{sound_table, table_refs}
use Rattle.core_store.proofs.Items.{copied_across, sound_across}
use Rattle.core_store.proofs.tables.table_copy.Goals as goal

pub invariant_of-store : goal.invariant_of-store
invariant_of-store c =
    let s = state_of c.store.inside in
    let refs = table_refs s c.args.to_table c.index_mut.result.now c.store.invariant (subst (λ (v : State). c.args.to_table < length v.tables) (sym c.store.view_is) c.requires.to_table) c.index_mut.ensures.value in
    sound_table s c.args.to_table c.copy.new.self c.store.invariant
    (moves_refs (length s.functions) c.index_mut.result.now.refs c.index_mut.result.now c.copy.new.self c.args.to c.args.from c.args.len c.copy.result c.copy.ensures refs refs)

pub invariant_of-store-2 : goal.invariant_of-store-2
invariant_of-store-2 c =
    let s = state_of c.store.inside in
    sound_across s c.args.to_table c.args.from_table c.replace-source.new.dest c.replace-source.result c.index_mut-3.result.now c.init-result.new.self c.refs.result.now c.args.to c.args.from c.args.len c.init-result.result
    c.store.invariant (subst (λ (v : State). c.args.to_table < length v.tables) (sym c.store.view_is) c.requires.to_table) (subst (λ (v : State). c.args.from_table < length v.tables) (sym c.store.view_is) c.requires.from_table) c.if-to_table-from_table.false
    (cc (c.replace-source.ensures.value, c.index_mut-2.ensures.value)) c.index_mut-3.ensures.value c.refs.ensures c.init-result.ensures

pub returns : goal.returns
returns c =
    let s = state_of c.store.inside in
    copied_across s c.args.store.now c.args.to_table c.args.from_table c.replace-source.new.dest c.replace-source.result c.index_mut-3.result.now c.init-result.new.self c.refs.result.now c.args.to c.args.from c.args.len c.init-result.result
    c.store.view_is (subst (λ (v : State). c.args.to_table < length v.tables) (sym c.store.view_is) c.requires.to_table) (subst (λ (v : State). c.args.from_table < length v.tables) (sym c.store.view_is) c.requires.from_table) c.if-to_table-from_table.false
    (cc (c.replace-source.ensures.value, c.index_mut-2.ensures.value)) c.index_mut-3.ensures.value c.refs.ensures c.init-result.ensures
