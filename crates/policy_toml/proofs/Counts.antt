-- The items of an array and the keys of a table, counted in the code and in the document.
use Rattle.std.proofs.Common.{◌≡◌, refl, ap, suc, List, [], ◌∷◌, length}
use Rattle.std.specs.Prelude.{String}
use Rattle.std.specs.declared.alloc.Global.{Global}
use Rattle.toml.specs.View.{items_view, members_view}
use Rattle.toml.specs.declared.value.Value.{Value}
use Rattle.policy_toml.specs.Values.{item_count, member_count}

pub item_count-view : (vs : List Value) → length vs ≡ item_count (items_view vs)
item_count-view [] = refl
item_count-view (v ∷ vs) = ap suc (item_count-view vs)

pub member_count-view : (es : List (String Global × Value)) → length es ≡ member_count (members_view es)
member_count-view [] = refl
member_count-view (e ∷ es) = ap suc (member_count-view es)
