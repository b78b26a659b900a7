-- What stands in a group while it grows is settled: the whole group says the same, also of each resource that it names. (This project's
-- own.)
use Rattle.std.specs.Prelude.{◌≡◌, ℕ, ◌≤◌, ◌<◌, Option, Some}
use Rattle.wit_types.specs.Plain.{PlainFunc}
use Rattle.comp_types.specs.GivenResources.{named_in_func}
use Rattle.comp_worlds.specs.Passing.{Passed, params_tuple, handles_of}
use Rattle.comp_worlds.specs.Groups.{Target, Mine, Theirs, Func, Config}
use Rattle.comp_worlds.specs.Locals.{adds_handles}
use Rattle.comp_link.specs.Linking.{Whole, Making, canon_in, owner_in}
use Rattle.comp_inside.specs.Linked.{Each}
use Rattle.comp_joins.specs.Holding.{CanonHolds, Holds}

-- P of each resource of which handles pass to an instance that is called; those of imports pass to the host
abbrev pub TargetNames : (ℕ → Type 0) → Target → Type 0
TargetNames P (Mine k lifting) = Each P (named_in_func lifting.ty)
TargetNames P (Theirs import) = Unit {0}

abbrev pub FuncNames : (ℕ → Type 0) → Func → Type 0
FuncNames P f = CanonHolds P (TargetNames P) f

abbrev pub MakingNames : (ℕ → Type 0) → Making → Type 0
MakingNames P m = Holds P (TargetNames P) m

-- each number of a resource is below the next one, and so below those that come later
abbrev pub AreBelow : Making → Type 0
AreBelow m = (most : ℕ) → m.whole.next_resource ≤ most → MakingNames (λ r. r < most) m

-- a resource is owned as in the whole group
abbrev pub IsOwnedAlike : Whole → Whole → ℕ → Type 0
IsOwnedAlike w whole r = owner_in w.owners r ≡ owner_in whole.owners r

pub record IsSettled (w whole : Whole) : Type 0 where
  pub canons : (k n : ℕ) (f : Func) → canon_in w.canons k n ≡ Some f → (canon_in whole.canons k n ≡ Some f) × FuncNames (IsOwnedAlike w whole) f

-- two ways to lower borrowed handles lower the handles of a value alike, where they do so for each resource that its type names
abbrev pub PassAlike : Type 0
PassAlike =
    (f g : ℕ → ℕ → Option ℕ) (ty : PlainFunc) → Each (λ r. (x : ℕ) → f r x ≡ g r x) (named_in_func ty) → (passed : Passed ℕ) (c : Config ℕ) →
    adds_handles f (handles_of (params_tuple ty) passed) c ≡ adds_handles g (handles_of (params_tuple ty) passed) c
