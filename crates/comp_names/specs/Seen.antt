-- The names that were met.
use Rattle.std.specs.Prelude.{ℕ, List, Bool, is_some}
use Rattle.std.specs.BTreeMap.{get_by, get_by_text}
use Rattle.std.specs.Cmp.Lexicographic.{slice_cmp}
use Rattle.std.specs.Ordering.{nat_cmp}
use Rattle.comp_names.specs.declared.seen.SeenNames.{SeenNames}
use Rattle.comp_names.specs.declared.seen.SeenTexts.{SeenTexts}
use Rattle.comp_names.specs.Same.{folded}

-- a name like this one was met
unfoldable pub holds : SeenNames → List ℕ → Bool
holds s q = is_some (get_by_text s.seen (folded q))

-- this name was met
unfoldable pub holds_text : SeenTexts → List ℕ → Bool
holds_text s q = is_some (get_by (λ k. slice_cmp nat_cmp q k.now) s.seen)
