-- What is described, with a table that has its value types.
use Rattle.std.proofs.Common.{◌≡◌, ◌∙◌, ap, sym, subst, ℕ, List, []}
use Rattle.std.specs.Prelude.{Option}
use Rattle.wasm_ast.specs.declared.component.ExternDesc.{ExternDesc}
use Rattle.wasm_ast.specs.declared.component.ExternDesc.TheVariants.{Instance}
use Rattle.comp_types.specs.Items.{Entries, Kind, End}
use Rattle.comp_types.specs.Spaces.{Space, kind_at}
use Rattle.comp_types.specs.Types.{instance_in}
use Rattle.comp_types.specs.GivenResources.{numbered, renamed}
use Rattle.comp_types.specs.Added.{described}
use Rattle.type_table.specs.Tables.{Types, HasItem, HasEntries}
use Rattle.type_table.specs.Covers.{Covers}
use Rattle.type_table.proofs.HasLaws.{grew_same}
use Rattle.type_table.proofs.ScopeLaws.{instance_in_has}
use Rattle.comp_instances.specs.declared.descriptions.Described.{Described}
use Rattle.comp_instances.specs.Describes.{IsDescribed, IsNewInstance, Describes, MakesInstance}
use Rattle.comp_instances.proofs.SameLemmas.{nothing_renamed}

-- an instance without anything has no value types
pub makes_nothing : (types : Types) (next : ℕ) (d : Described) → IsNewInstance ([], End) next d → MakesInstance types types ([], End) next d
makes_nothing types next d h = record { made = h; grew = grew_same types; has = tt }

-- without resources of its own it is as it was
pub makes_same : (types : Types) (own : List ℕ) (es : Entries) (next : ℕ) (d : Described) → own ≡ [] → HasEntries types es → IsNewInstance (own, es) next d → MakesInstance types types (own, es) next d
makes_same types own es next d none h k = record {
  made = k;
  grew = grew_same types;
  has = subst (HasEntries types) (sym (nothing_renamed es) ∙ ap (λ (o : List ℕ). renamed (numbered o next) es) (sym none)) h;
}

-- what stood in the table before needs nothing more
pub describes_same : (types : Types) (s : Space) (desc : ExternDesc) (d : Described) → IsDescribed s desc d → HasItem types (described s desc) → Describes types types s desc d
describes_same types s desc d h k = record { is = h; grew = grew_same types; has = k }

describes_made : (old new : Types) (s : Space) (i : ℕ) (d : Described) → MakesInstance old new (instance_in (kind_at s i)) s.next d → Describes old new s (Instance i) d
describes_made old new s i d h = record { is = record { item = h.made.item; numbers = h.made.numbers; next = h.made.next }; grew = h.grew; has = h.has }

-- an instance of the type at an index
pub describes_instance : (old new : Types) (s : Space) (i next : ℕ) (o : Option Kind) (d : Described) → Covers old s → o ≡ kind_at s i → next ≡ s.next
    → (HasEntries old (instance_in o).1 → MakesInstance old new (instance_in o) next d) → Describes old new s (Instance i) d
describes_instance old new s i next o d covers kind n h =
    let has = subst (λ (k : Option Kind). HasEntries old (instance_in k).1) (sym kind) (instance_in_has old s i covers) in
    describes_made old new s i d (subst (λ (m : ℕ). MakesInstance old new (instance_in (kind_at s i)) m d) n (subst (λ (k : Option Kind). MakesInstance old new (instance_in k) next d) kind (h has)))
