-- A component that joins two others and hands on all that the second exports. (This project's own.)
use Rattle.std.specs.Prelude.{◌≡◌, ℕ, ◌+◌, List, [], ◌∷◌, map, length}
use Rattle.wit_types.specs.Plain.{Name}
use Rattle.comp_grammar.specs.Trees.{Part, Tree, Aliases, Exports}
use Rattle.comp_types.specs.Added.{after_part, root}
use Rattle.comp_link.specs.Plans.{no_scope}
use Rattle.comp_link.specs.Linking.{Nothing, target_in, exported, linked}
use Rattle.comp_inside.specs.Wrapping.{Handed, alias_at, exports_from, AreExports}
use Rattle.comp_joins.specs.Joining.{JoinOnly, Joint, instance_of, joining, with_first, behind_second, one_scope, both_scope, made_between, made_second}

-- aliases of the exports of the instance at this index, and exports of these, which stand from these indexes on
abbrev pub handing_behind : (instance functions instances types : ℕ) → List Handed → List Part
handing_behind k f i t es = Aliases (map (alias_at k) es) ∷ Exports (exports_from f i t es) ∷ []

-- Its sections name alone, export nothing before, and hand on what the second's instance exports, which stands after the others.
pub record HandsOn (j : Joint) (first second : Tree) (types : ℕ) (es : List Handed) : Type 0 where
  pub front : JoinOnly no_scope root j.front
  pub between : JoinOnly (one_scope j first second) (after_part [] (with_first j first second) (instance_of 0 j.first_args)) j.between
  pub nothing : (made_between j first second).exports ≡ Nothing
  pub behind : j.behind ≡ handing_behind (length (made_between j first second).instances) (length (made_between j first second).functions) (length (made_between j first second).instances + 1) types es
  pub are : AreExports (made_second j first second).exports es

-- So it fits after: each function is exported as the second exports it.
pub record FitsBehind (j : Joint) (first second : Tree) : Type 0 where
  pub behind : JoinOnly (both_scope j first second) (behind_second j first second) j.behind
  pub exports : (interface name : Name) → target_in (exported (linked (joining j first second)).exports interface name) ≡ target_in (exported (made_second j first second).exports interface name)

abbrev pub HandedOnFits : Type 0
HandedOnFits = (j : Joint) (first second : Tree) (types : ℕ) (es : List Handed) → HandsOn j first second types es → FitsBehind j first second
