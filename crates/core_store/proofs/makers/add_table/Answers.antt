use Rattle.std.proofs.Common.{sym, subst, length}
use Rattle.core_store.specs.View.{state_of}
use Rattle.core_store.specs.Table.{Entries, AreRefs}
use Rattle.core_store.proofs.Sound.{sound_table_push, null_refs}
use Rattle.core_store.proofs.makers.add_table.Goals as goal

pub invariant_of-store-2 : goal.invariant_of-store-2
invariant_of-store-2 c =
    let s = state_of c.store.inside in
    sound_table_push s c.push.new.self.items c.in_ok-table.table c.store.invariant
    (subst (λ (v : Entries). AreRefs (length s.functions) v.refs) (sym c.in_ok-table.ensures) (null_refs (length s.functions) c.args.min c.args.max)) c.in_ok-push.ensures.items
