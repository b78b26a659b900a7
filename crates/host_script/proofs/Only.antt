-- The only member of an object.
use Rattle.std.proofs.Common.{◌≡◌, ◌≢◌, List, [], ◌∷◌, length, refl, String, Global}
use Rattle.std.specs.Prelude.{None}
use Rattle.serde_json.specs.View.{members_view}
use Rattle.serde_json.specs.declared.value.Value.{Value as Json}
use Rattle.host_script.specs.Json.{untyped_members}
use Rattle.host_script.specs.Reads.{only_one}

abbrev Entry : Type 0
Entry = String Global × Json

pub more_than_one : (e : Entry) (es : List Entry) → length es ≢ 0 → only_one (untyped_members (members_view (e ∷ es))) ≡ None
more_than_one e [] h = absurd (h refl)
more_than_one e (d ∷ es) h = refl
