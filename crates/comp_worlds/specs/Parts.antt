-- A group that is made of two: the instances of A, and those of B, whose imports are the exports of A. (This project's own.)
use Rattle.std.specs.Prelude.{◌≡◌, ◌⊎◌, ℕ, List, [], ◌∷◌, ◌++◌, Some, None}
use Rattle.std.specs.Option.{option_map}
use Rattle.wit_types.specs.Plain.{Name}
use Rattle.host_port.specs.Hosts.{HostStep}
use Rattle.comp_worlds.specs.Acts.{observed_of, seen_of}
use Rattle.comp_worlds.specs.Groups.{Nesting, Import, Options, Target, Mine, Theirs, type_of, Func, LoweredFunc, ResourceNew, ResourceDrop, ResourceRep, Owner, Stage, Provides, Makes, Begins, Group}
use Rattle.comp_worlds.specs.Calls.{owns}
use Rattle.comp_worlds.specs.Observed.{Call, runs_calls}

-- a target, where the instances stand at other numbers and the imports lead elsewhere
abbrev pub target_to : (ℕ → ℕ) → (Import → Target) → Target → Target
target_to place import (Mine k lifting) = Mine (place k) lifting
target_to place import (Theirs f) = import f

abbrev pub func_to : (ℕ → ℕ) → (Import → Target) → Func → Func
func_to place import (LoweredFunc target options) = LoweredFunc (target_to place import target) options
func_to place import (ResourceNew r) = ResourceNew r
func_to place import (ResourceDrop r) = ResourceDrop r
func_to place import (ResourceRep r) = ResourceRep r

abbrev pub owner_to : (ℕ → ℕ) → Owner → Owner
owner_to place o = record { instance = place o.instance; destructor = o.destructor }

abbrev pub stage_to : (ℕ → ℕ) → Stage → Stage
stage_to place (Provides k ty number) = Provides (place k) ty number
stage_to place (Makes k make start) = Makes (place k) make start
stage_to place Begins = Begins

abbrev pub stages_to : (ℕ → ℕ) → List Stage → List Stage
stages_to place [] = []
stages_to place (stage ∷ stages) = stage_to place stage ∷ stages_to place stages

-- the instances of G are instances of H, at other numbers, and define the same resources
pub record Embeds (G H : Group) (place : ℕ → ℕ) (import : Import → Target) : Type 0 where
  pub canons : (k n : ℕ) → H.canons (place k) n ≡ option_map (func_to place import) (G.canons k n)
  pub owner : (r : ℕ) (o : Owner) → G.owner r ≡ Some o → H.owner r ≡ Some (owner_to place o)
  pub owns_no_more : (k r : ℕ) → owns H (place k) r ≡ owns G k r

-- the group calls this import, or exports it as it is
abbrev pub IsImportOf : Group → Import → Type 0
IsImportOf G f = ((k : ℕ) × (n : ℕ) × (options : Options) × (G.canons k n ≡ Some (LoweredFunc (Theirs f) options)))
    ⊎ ((interface : Name) × (function : Name) × (G.exports interface function ≡ Some (Theirs f)))

abbrev pub DropsSome : Group → ℕ → Type 0
DropsSome G r = (k : ℕ) × (n : ℕ) × (G.canons k n ≡ Some (ResourceDrop r))

-- Each import of B is an export of A, which may be an import of A that it hands on. Resources have the same numbers in all three.
pub record Joins (A B AB : Group) (left right : ℕ → ℕ) (meets : Import → Target) : Type 0 where
  pub lefts : Embeds A AB left Theirs
  pub rights : Embeds B AB right (λ f. target_to left Theirs (meets f))
  pub given : (f : Import) → IsImportOf B f → A.exports f.interface f.function ≡ Some (meets f)
  pub types : (f : Import) → IsImportOf B f → type_of (meets f) ≡ f.ty
  pub exports : (interface function : Name) → AB.exports interface function ≡ option_map (target_to right (λ f. target_to left Theirs (meets f))) (B.exports interface function)
  pub stages : AB.stages ≡ stages_to left A.stages ++ stages_to right B.stages
  pub left_once : (j k : ℕ) → left j ≡ left k → j ≡ k
  pub right_once : (j k : ℕ) → right j ≡ right k → j ≡ k
  pub apart : (j k : ℕ) → left j ≡ right k → ⊥
  -- B's resources are no business of A, and what B does not define A does, or the imports do
  pub below : (r : ℕ) → B.owner r ≡ None → AB.owner r ≡ option_map (owner_to left) (A.owner r)
  pub drops : (r : ℕ) → DropsSome A r → B.owner r ≡ None
  pub names : (r : ℕ) → A.owner r ≡ None → B.owner r ≡ None → AB.imported r ≡ A.imported r
  pub resources : (r : ℕ) → DropsSome B r → B.owner r ≡ None → A.given (B.imported r) ≡ Some r

-- The group and its two parts, the one over the other, are observed to do the same, in as many steps, whatever the limit on calls.
pub record SameAsParts {S : Type 0} (A B AB : Group) (groups : List Group) (h : HostStep S) (s : S) (d : Nesting) (calls : List Call) (n : ℕ) : Type 0 where
  pub observed : observed_of (runs_calls d AB groups h s calls n) ≡ observed_of (runs_calls d B (A ∷ groups) h s calls n)
  pub seen : seen_of (runs_calls d AB groups h s calls n) ≡ seen_of (runs_calls d B (A ∷ groups) h s calls n)
