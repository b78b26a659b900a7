-- Words of private clauses on what was added to a text that is written token by token.
use Rattle.std.specs.Prelude.{◌≡◌, List, [], ◌∷◌, ◌++◌, false}
use Rattle.json.specs.Token.{Token}
use Rattle.json.specs.Tree.{json_tokens, items_tokens, members_tokens}
use Rattle.json.specs.Written.{Written}
use Rattle.serde_json.specs.Data.{Num, Data, Items, Members}
use Rattle.serde_json.specs.Find.{is_float}
use Rattle.serde_json.specs.Written.{number_text, outline, items_outline, members_outline, has_float, items_have_float, members_have_float}

abbrev pub Adds : Written → Written → List Token → Type 0
Adds old new ts = (new.tokens ≡ old.tokens ++ ts) × (new.before ≡ old.before)

abbrev pub AddsData : Written → Written → Data → Type 0
AddsData old new d = Adds old new (json_tokens (outline d))

-- with the closing bracket
abbrev pub AddsItems : Written → Written → Items → Type 0
AddsItems old new ds = Adds old new (items_tokens (items_outline ds))

-- ---- where there is no float

abbrev pub AddsExactNumber : Written → Written → Num → Type 0
AddsExactNumber old new n = is_float n ≡ false → Adds old new (Token.number (number_text n) ∷ [])

abbrev pub AddsExact : Written → Written → Data → Type 0
AddsExact old new d = has_float d ≡ false → AddsData old new d

abbrev pub AddsExactItems : Written → Written → Items → Type 0
AddsExactItems old new ds = items_have_float ds ≡ false → AddsItems old new ds

abbrev pub AddsExactMembers : Written → Written → Members → Type 0
AddsExactMembers old new ms = members_have_float ms ≡ false → Adds old new (members_tokens (members_outline ms))
