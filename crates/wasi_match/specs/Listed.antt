-- Listed components: each import is an instance, under the name of a listed interface, that asks for no more than the interface
-- offers; no interface is imported twice; each resource of the imports stands for one kind, and no two for the same; and no
-- export holds a resource type or a handle.
use Rattle.std.specs.Prelude.{◌≡◌, ℕ, List, [], ◌∷◌, ◌++◌, Bool, false, IsTrue, nat_eq, map, position, Option, Some, None}
use Rattle.std.specs.List.{IsDistinct}
use Rattle.std.specs.Str.{bytes_eq}
use Rattle.wit_types.specs.Plain.{Name}
use Rattle.comp_types.specs.Items.{Item, Entries, Signature, FuncItem, InstanceItem, KindItem, End, More}
use Rattle.comp_types.specs.Equality.{HasEach, IsOneToOne}
use Rattle.comp_types.specs.Resources.{entries_have_resource}
use Rattle.wasi_table.specs.Plain.{PlainNamedFunc}
use Rattle.wasi_listed.specs.Listed.{described}
use Rattle.wasi_match.specs.Names.{Versioned, listed_as}
use Rattle.wasi_match.specs.declared.listed.ListedUse.{ListedUse}
use Rattle.wasi_match.specs.Offered.{offered}

-- ---- the functions of an import

abbrev pub place_found : Option ℕ → List ℕ
place_found None = []
place_found (Some place) = place ∷ []

-- the place among the functions of an interface of an entry that is a function
abbrev pub place_in : List PlainNamedFunc → Name → Item → List ℕ
place_in fs name (FuncItem ty) = place_found (position (λ f. bytes_eq f.name name) fs)
place_in fs name (InstanceItem entries) = []
place_in fs name (KindItem kind) = []

abbrev pub places : List PlainNamedFunc → Entries → List ℕ
places fs End = []
places fs (More name item rest) = place_in fs name item ++ places fs rest

-- ---- imports

-- an instance under the name of a listed interface
pub record IsNamed (name : Name) (item : Item) (listed : Versioned) (entries : Entries) : Type 0 where
  pub named : listed_as name ≡ Some listed
  pub instance : item ≡ InstanceItem entries

-- an import of an interface, where `Meets kind resource` says that the resource stands for the kind
pub record IsUse (Meets : ℕ → ℕ → Type 0) (name : Name) (item : Item) (taken : ListedUse) : Type 0 where
  pub entries : Entries
  pub named : IsNamed name item (record { interface = taken.interface; version = taken.version }) entries
  pub fits : HasEach Meets (offered taken.interface) entries
  pub functions : taken.functions ≡ places (described taken.interface).functions entries

abbrev pub AreUses : (Meets : ℕ → ℕ → Type 0) → Entries → List ListedUse → Type 0
AreUses Meets End uses = uses ≡ []
AreUses Meets (More name item rest) uses = (taken : ListedUse) × (others : List ListedUse) × (uses ≡ taken ∷ others) × IsUse Meets name item taken × AreUses Meets rest others

abbrev pub interfaces : List ListedUse → List ℕ
interfaces uses = map (λ u. u.interface) uses

-- imports of listed interfaces
pub record AreListed (imports : Entries) (uses : List ListedUse) : Type 0 where
  pub kinds : ℕ → ℕ → Bool
  pub one : IsOneToOne kinds
  pub each : AreUses (λ kind resource. IsTrue (kinds kind resource)) imports uses
  pub once : IsDistinct nat_eq (interfaces uses)

-- ---- components

pub record IsListed (ty : Signature) (uses : List ListedUse) : Type 0 where
  pub imports : AreListed ty.imports uses
  pub exports : entries_have_resource ty.exports ≡ false
