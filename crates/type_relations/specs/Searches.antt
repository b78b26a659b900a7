-- Searches for resources in the types of a table, of which each is searched once.
use Rattle.std.specs.Prelude.{◌≡◌, ℕ, List, [], ◌∷◌, ◌++◌, true, Some, slice_get}
use Rattle.wit_types.specs.Plain.{Plain}
use Rattle.comp_types.specs.GivenResources.{is_among, named_in_value, named_in_answer}
use Rattle.type_table.specs.Slots.{Part}
use Rattle.type_relations.specs.Once.{and_each, AreAmong}
use Rattle.type_relations.specs.declared.search.Search.{Search}

-- what the parts of a type name
abbrev pub named_in_slots : List Part → List ℕ
named_in_slots [] = []
named_in_slots (part ∷ parts) = named_in_answer part.1 ++ named_in_slots parts

-- what the searched types name was found
abbrev pub IsSearched : List Plain → Search → Type 0
IsSearched tys s = (at : ℕ) (ty : Plain) → is_among s.searched.keys at ≡ true → slice_get tys at ≡ Some ty → AreAmong s.found (named_in_value ty)

-- a search goes on, and finds these
abbrev pub Finds : List Plain → Search → Search → List ℕ → Type 0
Finds tys old new rs = IsSearched tys old → (new.found ≡ and_each old.found rs) × IsSearched tys new
