-- Parts of lists of operand types: one text of all long lists, and names for what stands at its places.
use Rattle.std.specs.Prelude.{◌≡◌, ◌<◌, ◌+◌, ℕ, Option, Some, None, List, [], ◌∷◌, slice_get}
use Rattle.virt_base.specs.declared.core_type.CoreType.{CoreType}
use Rattle.wasm_ast.specs.declared.module.CoreFunc.{CoreFunc}
use Rattle.core_body.specs.declared.source.Source.{Source}
use Rattle.core_body.specs.declared.source.Source.TheVariants.{Nothing, Only, Params, Results}
use Rattle.core_body.specs.declared.parts.Level.{Level}
use Rattle.core_body.specs.declared.parts.Places.{Places}
use Rattle.core_body.specs.declared.parts.Parts.{Parts}
use Rattle.core_body.specs.Numbers.{letter}

-- one name stands at a place of each list
abbrev pub OneName : List ℕ → List ℕ → ℕ → ℕ → Type 0
OneName xs ys i j = (n : ℕ) × (slice_get xs i ≡ Some n) × (slice_get ys j ≡ Some n)

-- each of four lists has one name at two places
abbrev pub FourNames : List ℕ → List ℕ → List ℕ → List ℕ → ℕ → ℕ → Type 0
FourNames ws xs ys zs i j = OneName ws ws i j × OneName xs xs i j × OneName ys ys i j × OneName zs zs i j

-- a new name is a place where the four lists have the names that they have here
abbrev pub Follows : List ℕ → List ℕ → List ℕ → List ℕ → List ℕ → Type 0
Follows ws xs ys zs new = (i p : ℕ) → slice_get new i ≡ Some p → FourNames ws xs ys zs p i

-- so much of the text is the same from two places on
abbrev pub Same : List ℕ → ℕ → ℕ → ℕ → Type 0
Same text i j len = (k : ℕ) → k < len → slice_get text (i + k) ≡ slice_get text (j + k)

-- from places of one name on, so much is the same
abbrev pub IsLevel : List ℕ → ℕ → List ℕ → Type 0
IsLevel text size names = (i j : ℕ) → OneName names names i j → Same text i j size

abbrev pub AreLevels : List ℕ → List Level → Type 0
AreLevels text levels = (n : ℕ) (l : Level) → slice_get levels n ≡ Some l → IsLevel text l.size l.names.items

-- the text has the letters of a list at a place
abbrev pub Lies : List ℕ → ℕ → List CoreType → Type 0
Lies text at types = (k : ℕ) (t : CoreType) → slice_get types k ≡ Some t → slice_get text (at + k) ≡ Some (letter t)

abbrev pub LiesAt : List ℕ → Option ℕ → List CoreType → Type 0
LiesAt text None types = Unit {0}
LiesAt text (Some at) types = Lies text at types

-- what a text has stays where it is
abbrev pub Grows : List ℕ → List ℕ → Type 0
Grows old new = (i n : ℕ) → slice_get old i ≡ Some n → slice_get new i ≡ Some n

-- the types' lists stand at these places
abbrev pub AreLaid : List ℕ → List CoreFunc → List Places → Type 0
AreLaid text [] [] = Unit {0}
AreLaid text [] (p ∷ ps) = ⊥
AreLaid text (f ∷ fs) [] = ⊥
AreLaid text (f ∷ fs) (p ∷ ps) = LiesAt text p.params f.params × LiesAt text p.results f.results × AreLaid text fs ps

abbrev pub params_place : Option Places → Option ℕ
params_place None = None
params_place (Some p) = p.params

abbrev pub results_place : Option Places → Option ℕ
results_place None = None
results_place (Some p) = p.results

-- where the list that a name stands for is in the text
abbrev pub place_in : List Places → Source → Option ℕ
place_in places Nothing = None
place_in places (Only t) = None
place_in places (Params n) = params_place (slice_get places n)
place_in places (Results n) = results_place (slice_get places n)

-- a place is so far after one that there is
abbrev pub IsBehind : Option ℕ → ℕ → ℕ → Type 0
IsBehind start at i = (p : ℕ) × (start ≡ Some p) × (i ≡ p + at)

-- the parts are those of the types' lists
abbrev pub Indexes : List CoreFunc → Parts → Type 0
Indexes types parts = (text : List ℕ) × AreLevels text parts.levels.items × AreLaid text types parts.places.items

-- that many types are the same from places of two lists on
abbrev pub SameTypes : List CoreType → ℕ → List CoreType → ℕ → ℕ → Type 0
SameTypes xs i ys j len = (k : ℕ) → k < len → slice_get xs (i + k) ≡ slice_get ys (j + k)
