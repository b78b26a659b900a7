-- The references of a store that changes.
use Rattle.std.proofs.Common.{◌≡◌, ℕ, ◌+◌, ◌-◌, ◌<◌, List, [], ◌∷◌, ◌++◌, length, get_or, set, sym, subst}
use Rattle.std.proofs.lemmas.List.Elements.{All-push, All-set, All-get_or}
use Rattle.core_store.specs.declared.value.CoreRef.{CoreRef}
use Rattle.std.specs.Prelude.{Option}
use Rattle.core_store.specs.declared.value.CoreRef.TheVariants.{Null}
use Rattle.core_store.specs.Table.{Entries, AreRefs, nulls}
use Rattle.core_store.specs.State.{State, IsSound}
use Rattle.core_store.proofs.References.{repeated_refs}

pub sound_table : (s : State) (k : ℕ) (t : Entries) → IsSound s → AreRefs (length s.functions) t.refs → IsSound (record s { tables = set s.tables k t })
sound_table s k t w refs = record { tables = All-set (λ (v : Entries). AreRefs (length s.functions) v.refs) s.tables k t refs w.tables; elements = w.elements; globals = w.globals; functions = w.functions; instances = w.instances; nesting = w.nesting }

pub sound_table_push : (s : State) (ts : List Entries) (t : Entries) → IsSound s → AreRefs (length s.functions) t.refs → ts ≡ s.tables ++ t ∷ [] → IsSound (record s { tables = ts })
sound_table_push s ts t w refs e = subst (λ (v : List Entries). IsSound (record s { tables = v })) (sym e) (record { tables = All-push (λ (v : Entries). AreRefs (length s.functions) v.refs) s.tables t w.tables refs; elements = w.elements; globals = w.globals; functions = w.functions; instances = w.instances; nesting = w.nesting })

pub null_refs : (n count : ℕ) (max : Option ℕ) → AreRefs n (nulls count max).refs
null_refs n count max = repeated_refs n count Null tt

-- what is read is a reference of the store
pub table_refs : (s : State) (k : ℕ) (t : Entries) → IsSound s → k < length s.tables → t ≡ get_or s.tables k t → AreRefs (length s.functions) t.refs
table_refs s k t w lt here = subst (λ (v : Entries). AreRefs (length s.functions) v.refs) (sym here) (All-get_or (λ (v : Entries). AreRefs (length s.functions) v.refs) s.tables k t lt w.tables)

pub element_refs : (s : State) (k : ℕ) (refs : List CoreRef) → IsSound s → k < length s.elements → refs ≡ get_or s.elements k refs → AreRefs (length s.functions) refs
element_refs s k refs w lt here = subst (λ (v : List CoreRef). AreRefs (length s.functions) v) (sym here) (All-get_or (AreRefs (length s.functions)) s.elements k refs lt w.elements)
