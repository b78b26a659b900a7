-- Where the first's type exports what the second imports, its instance exports it too, and the numbers of the second's resources follow
-- from that. (This project's own.)
use Rattle.std.specs.Prelude.{◌≡◌, ℕ, List, [], ◌∷◌, Option, Some, None}
use Rattle.wit_types.specs.Plain.{Name, PlainFunc}
use Rattle.host_port.specs.Hosts.{HostStep}
use Rattle.host_port.specs.declared.call.Resource.{Resource}
use Rattle.comp_grammar.specs.Trees.{Tree}
use Rattle.comp_types.specs.Items.{Item, Entries, FuncItem, InstanceItem, KindItem, ResourceKind, ValueKind, FuncKind, InstanceKind, End, More, look_up}
use Rattle.comp_types.specs.Substitution.{partner_of, func_with}
use Rattle.comp_types.specs.Added.{type_of}
use Rattle.comp_worlds.specs.Groups.{Import, Target, type_of as type_of_target}
use Rattle.comp_worlds.specs.Observed.{Call}
use Rattle.comp_link.specs.Linking.{Known, group_of}
use Rattle.comp_joins.specs.Joining.{imports_of, known_by, itself}
use Rattle.comp_joins.specs.Imported.{IsEntry}
use Rattle.comp_joins.specs.Laws.{SeenJoined}
use Rattle.comp_joined.specs.Form.{IsJoining}
use Rattle.joined_laws.specs.Behaves.{GivesBoth, IsValidSpelled}
use Rattle.joined_laws.specs.PluggedIn.{after_first, IsPluggedIn}

-- ---- by the type

abbrev pub entries_in : Option Item → Entries
entries_in (Some (InstanceItem entries)) = entries
entries_in _ = End

-- an export by the name of its instance and its own; of an instance without a name it is the component's own
abbrev pub shown : Entries → Name → Name → Option Item
shown exports [] name = look_up name exports
shown exports (c ∷ cs) name = look_up name (entries_in (look_up (c ∷ cs) exports))

-- Each function and each resource of the import is exported under its name: a function as one, a resource as one. An instance is
-- exported where all in it are, by its own name.
abbrev mutual
  pub IsShown : (exports : Entries) → (interface name : Name) → Item → Type 0
  IsShown exports interface name (FuncItem ty) = (other : PlainFunc) × (shown exports interface name ≡ Some (FuncItem other))
  IsShown exports interface name (InstanceItem entries) = AreShown exports name entries
  IsShown exports interface name (KindItem (ResourceKind r)) = (other : ℕ) × (shown exports interface name ≡ Some (KindItem (ResourceKind other)))
  IsShown exports interface name (KindItem (ValueKind ty)) = Unit {0}
  IsShown exports interface name (KindItem (FuncKind ty)) = Unit {0}
  IsShown exports interface name (KindItem (InstanceKind own entries)) = Unit {0}

  pub AreShown : (exports : Entries) → (interface : Name) → Entries → Type 0
  AreShown exports interface End = Unit {0}
  AreShown exports interface (More name item rest) = IsShown exports interface name item × AreShown exports interface rest

-- ---- the partners of the second's resources: what the first exports under their names

abbrev pub and_partner : ℕ → Option ℕ → List (ℕ × ℕ) → List (ℕ × ℕ)
and_partner r None pairs = pairs
and_partner r (Some g) pairs = (r, g) ∷ pairs

abbrev pub partners_by : (Resource → Option ℕ) → List Known → List (ℕ × ℕ)
partners_by given [] = []
partners_by given (k ∷ ks) = and_partner k.number (given k.resource) (partners_by given ks)

abbrev pub partners_in : (first second : Tree) → List (ℕ × ℕ)
partners_in first second = partners_by (group_of first).given (known_by second)

-- The whole imports what the first imports, and the first's type exports what the second imports.
pub record IsShownTo (whole first second : Tree) : Type 0 where
  pub imports : imports_of whole ≡ imports_of first
  pub shows : AreShown (type_of first).exports [] (imports_of second)
  -- no two resources of the second are one of the first's
  pub once : (r s g : ℕ) → partner_of (partners_in first second) r ≡ Some g → partner_of (partners_in first second) s ≡ Some g → r ≡ s
  -- a function that is exported has the type that is imported, with the names of its parameters
  pub types : (f : Import) (target : Target) → IsEntry [] (imports_of second) f → (group_of first).exports f.interface f.function ≡ Some target → type_of_target target ≡ func_with (after_first first second (partners_in first second)) f.ty

-- ---- the laws

-- Then the second is plugged into the first, by these partners.
abbrev pub ShownIsPluggedIn : Type 0
ShownIsPluggedIn = (whole first second : Tree) → IsValidSpelled first → IsValidSpelled second → IsShownTo whole first second → IsPluggedIn whole first second (partners_in first second)

-- So a whole that joins the two, and gives both what they import, does what the second does over the first alone.
abbrev pub ShownDoesSame : {S : Type 0} → HostStep S → Type 0
ShownDoesSame {S} h =
    (whole first second : Tree) (is : IsJoining first second whole) → IsValidSpelled first → IsValidSpelled second → IsShownTo whole first second →
    GivesBoth is.joint first second itself (after_first first second (partners_in first second)) → (s : S) (calls : List Call) → SeenJoined whole second (group_of first) h s calls
