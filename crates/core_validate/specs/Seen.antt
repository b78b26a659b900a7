-- A map that has a list of names.
use Rattle.std.specs.Prelude.{◌≡◌, ℕ, Bool, List, is_some}
use Rattle.std.specs.List.{list_any}
use Rattle.std.specs.Str.{bytes_eq}
use Rattle.std.specs.Cmp.Lexicographic.{slice_cmp}
use Rattle.std.specs.Ordering.{nat_cmp}
use Rattle.std.specs.BTreeMap.{BTreeMap, get_by}
use denote.Ref.{Bor}

abbrev pub Knows : BTreeMap (Bor (List ℕ)) Bool → List (List ℕ) → Type 0
Knows m names = (q : List ℕ) → is_some (get_by (λ k. slice_cmp nat_cmp q k.now) m) ≡ list_any (bytes_eq q) names
