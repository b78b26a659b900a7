-- An import stands where some name is in it.
use Rattle.std.proofs.Common.{◌≡◌, List, [], ◌∷◌, length, refl, arith}
use Rattle.std.proofs.lemmas.Bool.Decides.{nat_tests}
use Rattle.std.proofs.lemmas.List.{append-nil, map-append}
use Rattle.wit_types.specs.Plain.{Name}
use Rattle.adapter_world.specs.Names.{if_some}

pub no_names : (name : Name) (names : List Name) → length names ≡ 0 → if_some name names ≡ []
no_names name [] none = refl
no_names name (n ∷ ns) none = absurd (omega arith)

pub some_names : (name : Name) (names : List Name) → (length names ≡ 0 → ⊥) → if_some name names ≡ (name, names) ∷ []
some_names name [] some = absurd (some refl)
some_names name (n ∷ ns) some = refl

pub ruleset sparse = (no_names, some_names, append-nil, map-append, nat_tests)
