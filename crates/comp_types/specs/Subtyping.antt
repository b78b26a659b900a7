-- When an instance may be given where another one is asked for (Component Model, Explainer.md, "Subtyping").
use Rattle.std.specs.Prelude.{◌≡◌, ℕ, List, All, ⊤, Some}
use Rattle.comp_types.specs.Items.{Item, Entries, InstanceItem, End, More, look_up}
use Rattle.comp_types.specs.Equality.{IsSameItem, HasEach}

-- It takes each resource that is matched already to its partner.
abbrev pub Takes : (ℕ → ℕ) → (matched : List (ℕ × ℕ)) → Type 0
Takes partner matched = All (λ pair. partner pair.0 ≡ pair.1) matched

-- With one partner for each resource of b, each name of b is a name of a with an equal type. The resources that `matched` does
-- not name are abstract: they have whatever partner fits.
abbrev pub IsSubtype : (a b : Entries) → (matched : List (ℕ × ℕ)) → Type 0
IsSubtype a b matched = (partner : ℕ → ℕ) × Takes partner matched × HasEach (λ x y. x ≡ partner y) a b

-- ---- arguments of a component

-- of an instance that is imported, an argument has at least the entries; all else is equal
abbrev pub IsArgument : (Meets : ℕ → ℕ → Type 0) → Item → Item → Type 0
IsArgument Meets given (InstanceItem entries) = (others : Entries) × (given ≡ InstanceItem others) × HasEach Meets others entries
IsArgument Meets given item = IsSameItem Meets given item

abbrev pub AreGiven : (Meets : ℕ → ℕ → Type 0) → (args imports : Entries) → Type 0
AreGiven Meets args End = ⊤
AreGiven Meets args (More name item rest) = (given : Item) × (look_up name args ≡ Some given) × IsArgument Meets given item × AreGiven Meets args rest

-- with one partner for each resource that the component imports
abbrev pub MeetsImports : (args imports : Entries) → Type 0
MeetsImports args imports = (partner : ℕ → ℕ) × AreGiven (λ x y. x ≡ partner y) args imports
