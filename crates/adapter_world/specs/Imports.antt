-- Whether the imports of a component are those that are needed.
use Rattle.std.specs.Prelude.{◌≡◌, List, [], ◌∷◌}
use Rattle.wit_types.specs.Plain.{Name}
use Rattle.comp_types.specs.Items.{Item, Entries, FuncItem, InstanceItem, KindItem, End, More}
use Rattle.policy_data.specs.declared.policy.Policy.{Policy}
use Rattle.wasi_match.specs.Listed.{AreListed}
use Rattle.wasi_match.specs.declared.listed.ListedUse.{ListedUse}
use Rattle.adapter_world.specs.Names.{Named, needed_names}

abbrev pub names_in : Entries → List Name
names_in End = []
names_in (More name item rest) = name ∷ names_in rest

abbrev pub names_of : Item → List Name
names_of (FuncItem ty) = []
names_of (InstanceItem entries) = names_in entries
names_of (KindItem kind) = []

abbrev pub import_names : Entries → List Named
import_names End = []
import_names (More name item rest) = (name, names_of item) ∷ import_names rest

-- these imports are of listed interfaces, so that each name in them is of the listed type, and they have these names
pub record AreListedBy (names : List Named) (imports : Entries) : Type 0 where
  pub taken : List ListedUse
  pub listed : AreListed imports taken
  pub named : import_names imports ≡ names

-- these imports are those that are needed
abbrev pub AreNeeded : Policy → List ListedUse → Entries → Type 0
AreNeeded p uses imports = AreListedBy (needed_names p uses) imports
