-- One item of a store changes.
use Rattle.std.proofs.Common.{◌≡◌, ◌≢◌, ℕ, ◌-◌, ◌<◌, List, length, get_or, set, ap, sym, ◌∙◌, subst, None, Result}
use Rattle.std.proofs.lemmas.List.{get_or-set_same, get_or-set_other, get_or_default, set-set, set_comm, set-get_or}
use Rattle.core_store.specs.declared.value.CoreRef.{CoreRef}
use Rattle.virt_base.specs.declared.fault.Trap.{Trap}
use Rattle.core_store.specs.Table.{Entries, nulls, Moves, AreRefs}
use Rattle.core_store.specs.State.{State, table_at, InTable, IsSound}
use Rattle.core_store.proofs.References.{moves_refs}
use Rattle.core_store.proofs.Sound.{sound_table, table_refs}

pub table_is : (s old : State) (k : ℕ) (t : Entries) → s ≡ old → k < length s.tables → t ≡ get_or s.tables k t → t ≡ table_at old k
table_is s old k t e lt here = here ∙ get_or_default s.tables k t (nulls 0 None) lt ∙ ap (λ (v : State). table_at v k) e

pub in_table : (s old : State) (k : ℕ) (m n : Entries) (P : Entries → Entries → Type 0) → s ≡ old → k < length s.tables → m ≡ get_or s.tables k m → P m n → InTable old (record s { tables = set s.tables k n }) k P
in_table s old k m n P e lt here change =
    let after : get_or (set s.tables k n) k (nulls 0 None) ≡ n = get_or-set_same s.tables k n (nulls 0 None) lt in (
      subst (λ (v : Entries). P v (get_or (set s.tables k n) k (nulls 0 None))) (table_is s old k m e lt here) (subst (λ (v : Entries). P m v) (sym after) change),
      ap (λ (v : State). record v { tables = set v.tables k n }) e ∙ ap (λ (v : Entries). record old { tables = set old.tables k v }) (sym after),
    )

-- an item that is taken out while another one changes
pub put_back : {X : Type 0} (xs : List X) (i j : ℕ) (blank p q : X) → i ≢ j → p ≡ get_or xs i p → set (set (set xs i blank) j q) i p ≡ set xs j q
put_back xs i j blank p q other here =
    ap (λ v. set v i p) (set_comm xs i j blank q other) ∙ set-set (set xs j q) i blank p ∙ sym (set_comm xs i j p q other)
    ∙ ap (λ v. set v j q) (ap (set xs i) here ∙ set-get_or xs i p)

-- a copy from a table to another one
other_table : (s : State) (i j : ℕ) (blank t : Entries) → j ≢ i → t ≡ get_or (set s.tables i blank) j t → t ≡ get_or s.tables j t
other_table s i j blank t other here = here ∙ get_or-set_other s.tables i j blank t other

pub copied_across : (s old : State) (j i : ℕ) (blank p t q : Entries) (source : List CoreRef) (to from len : ℕ) (r : Result (Unit {0}) Trap) → s ≡ old → j < length s.tables → i < length s.tables → j ≢ i
    → p ≡ get_or s.tables i p → t ≡ get_or (set s.tables i blank) j t → source ≡ p.refs → Moves source t q to from len r
    → InTable old (record s { tables = set (set (set s.tables i blank) j q) i p }) j (λ a b. Moves (table_at old i).refs a b to from len r)
copied_across s old j i blank p t q source to from len r e lj li other here there from_p moves =
    let refs : source ≡ (table_at old i).refs = from_p ∙ ap (λ (v : Entries). v.refs) (table_is s old i p e li here) in
    subst (λ (v : List Entries). InTable old (record s { tables = v }) j (λ a b. Moves (table_at old i).refs a b to from len r)) (sym (put_back s.tables i j blank p q (λ x. other (sym x)) here))
    (in_table s old j t q (λ a b. Moves (table_at old i).refs a b to from len r) e lj (other_table s i j blank t other there) (subst (λ (v : List CoreRef). Moves v t q to from len r) refs moves))

pub sound_across : (s : State) (j i : ℕ) (blank p t q : Entries) (source : List CoreRef) (to from len : ℕ) (r : Result (Unit {0}) Trap) → IsSound s → j < length s.tables → i < length s.tables → j ≢ i
    → p ≡ get_or s.tables i p → t ≡ get_or (set s.tables i blank) j t → source ≡ p.refs → Moves source t q to from len r
    → IsSound (record s { tables = set (set (set s.tables i blank) j q) i p })
sound_across s j i blank p t q source to from len r w lj li other here there from_p moves =
    subst (λ (v : List Entries). IsSound (record s { tables = v })) (sym (put_back s.tables i j blank p q (λ x. other (sym x)) here))
    (sound_table s j q w (moves_refs (length s.functions) source t q to from len r moves (table_refs s j t w lj (other_table s i j blank t other there))
    (subst (λ (v : List CoreRef). AreRefs (length s.functions) v) (sym from_p) (table_refs s i p w li here))))
