-- A group at other numbers of resources. (This project's own: which numbers resources have depends on what else is made with them.)
use Rattle.std.specs.Prelude.{◌≡◌, ℕ, List, ◌∷◌}
use Rattle.std.specs.Option.{option_map}
use Rattle.wit_types.specs.Plain.{Name}
use Rattle.host_port.specs.Hosts.{HostStep}
use Rattle.comp_types.specs.Substitution.{func_with}
use Rattle.comp_worlds.specs.Acts.{observed_of, seen_of}
use Rattle.comp_worlds.specs.Groups.{Nesting, Import, Lifting, Target, Mine, Theirs, Func, LoweredFunc, ResourceNew, ResourceDrop, ResourceRep, Group}
use Rattle.comp_worlds.specs.Observed.{Call, runs_calls}
use Rattle.comp_worlds.specs.Parts.{IsImportOf, DropsSome}

abbrev pub lifting_with : (ℕ → ℕ) → Lifting → Lifting
lifting_with to l = record { code = l.code; ty = func_with to l.ty; options = l.options; post = l.post }

abbrev pub import_with : (ℕ → ℕ) → Import → Import
import_with to f = record { interface = f.interface; function = f.function; ty = func_with to f.ty }

abbrev pub target_with : (ℕ → ℕ) → Target → Target
target_with to (Mine k lifting) = Mine k (lifting_with to lifting)
target_with to (Theirs f) = Theirs (import_with to f)

abbrev pub canon_with : (ℕ → ℕ) → Func → Func
canon_with to (LoweredFunc target options) = LoweredFunc (target_with to target) options
canon_with to (ResourceNew r) = ResourceNew (to r)
canon_with to (ResourceDrop r) = ResourceDrop (to r)
canon_with to (ResourceRep r) = ResourceRep (to r)

-- H is G at other numbers: each resource has another number, or its own, and no two have one. A renaming of the resources that
-- stand in a group, of which there are finitely many, extends to all numbers.
pub record Renames (G H : Group) (to : ℕ → ℕ) : Type 0 where
  pub canons : (k n : ℕ) → H.canons k n ≡ option_map (canon_with to) (G.canons k n)
  pub owner : (r : ℕ) → H.owner (to r) ≡ G.owner r
  pub imported : (r : ℕ) → DropsSome G r → H.imported (to r) ≡ G.imported r
  pub exports : (interface function : Name) → H.exports interface function ≡ option_map (target_with to) (G.exports interface function)
  pub stages : H.stages ≡ G.stages
  pub once : (r s : ℕ) → to r ≡ to s → r ≡ s

-- the types of the imports name no resource of another number
abbrev pub KeepsImports : (ℕ → ℕ) → Group → Type 0
KeepsImports to G = (f : Import) → IsImportOf G f → func_with to f.ty ≡ f.ty

-- They are observed to do the same in as many steps, whatever the limit on calls.
pub record SameAs {S : Type 0} (G H : Group) (groups : List Group) (h : HostStep S) (s : S) (d : Nesting) (calls : List Call) (n : ℕ) : Type 0 where
  pub observed : observed_of (runs_calls d H groups h s calls n) ≡ observed_of (runs_calls d G groups h s calls n)
  pub seen : seen_of (runs_calls d H groups h s calls n) ≡ seen_of (runs_calls d G groups h s calls n)

-- over other groups, which never see the types of the imports
abbrev pub SameOverGroups : {S : Type 0} → HostStep S → Type 0
SameOverGroups {S} h =
    (G H : Group) (to : ℕ → ℕ) → Renames G H to → (A : Group) (groups : List Group) (s : S) (d : Nesting) (calls : List Call) (n : ℕ) → SameAs G H (A ∷ groups) h s d calls n

-- over a host, or over anything, where the types of the imports stay
abbrev pub SameOverHosts : {S : Type 0} → HostStep S → Type 0
SameOverHosts {S} h =
    (G H : Group) (to : ℕ → ℕ) → Renames G H to → KeepsImports to G → (groups : List Group) (s : S) (d : Nesting) (calls : List Call) (n : ℕ) → SameAs G H groups h s d calls n
