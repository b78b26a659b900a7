-- What stands under names.
use Rattle.std.specs.Prelude.{List, [], ◌∷◌, ℕ, Option, Some, None, slice_get, option_and_then}
use Rattle.std.specs.BTreeMap.{get_by_text}
use Rattle.instance_making.specs.declared.named.Named.{Named}

-- what stands under a name
unfoldable pub found : {T : Type 0} → Named T → List ℕ → Option T
found m q = get_by_text m.by_name q

-- what stands under a name in the item of a number, if there is a number
abbrev pub named_item : {T : Type 0} → List (Named T) → Option ℕ → List ℕ → Option T
named_item all number q = option_and_then (λ items. found items q) (option_and_then (slice_get all) number)

-- the list of what there is
abbrev pub of_some : {T : Type 0} → Option T → List T
of_some None = []
of_some (Some item) = item ∷ []
