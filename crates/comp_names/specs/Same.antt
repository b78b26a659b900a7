-- Names that may not stand together (Component Model, Explainer.md, "Name Uniqueness"): letters of either case are alike.
use Rattle.std.specs.Prelude.{ℕ, List, Bool, map}
use Rattle.std.specs.Char.{to_ascii_lowercase}
use Rattle.std.specs.Str.{bytes_eq}

abbrev pub folded : List ℕ → List ℕ
folded name = map to_ascii_lowercase name

abbrev pub is_same_name : List ℕ → List ℕ → Bool
is_same_name a b = bytes_eq (folded a) (folded b)
