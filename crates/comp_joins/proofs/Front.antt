-- The whole is made as its form says: its own sections make nothing.
use Rattle.std.proofs.Common.{◌≡◌, List, [], ◌∷◌, refl, ◌∙◌, ap}
use Rattle.std.specs.Prelude.{slice_get}
use Rattle.comp_grammar.specs.Trees.{Part, Tree, Nested, End as NoParts, More as Section}
use Rattle.comp_types.specs.Spaces.{Space}
use Rattle.comp_types.specs.Added.{after_part, root}
use Rattle.comp_link.specs.Plans.{Plan, Planned, End, Then, OfModule, OfCoreItems, CoreItemOf, OfComponent, OfItems, ItemOf, NewResource, Lifts, Lowers, MakesResource, DropsResource, ReadsResource, Imports, Exports, Scope, no_scope, followed, own_numbers, plan_part, plan_tree}
use Rattle.comp_link.specs.Linking.{find, Making, given_at, item_in, with_component, link_item, link, linked}
use Rattle.comp_inside.specs.Linked.{unmade}
use Rattle.comp_inside.proofs.Made.{item_whole, export_whole}
use Rattle.comp_joins.specs.Joining.{OnlyNames, AllName, JoinOnly, in_front, spaces_behind, made_by, Joint, instance_of, joining, with_first, with_second, behind_second, one_scope, both_scope, made_front, made_first, made_between, made_second}

names_whole : (item : Planned) (m : Making) → OnlyNames item → (link_item item m).whole ≡ m.whole
names_whole (OfItems exports) m h = refl
names_whole (ItemOf sort instance name) m h = item_whole m (item_in (slice_get m.instances instance) name)
names_whole (Imports name item) m h = item_whole m (find name m.given)
names_whole (Exports name item stated) m h = export_whole m name (given_at m item) stated
names_whole (OfModule module' args) m h = absurd h
names_whole (OfCoreItems exports) m h = absurd h
names_whole (CoreItemOf sort instance name) m h = absurd h
names_whole (OfComponent component own args) m h = absurd h
names_whole (NewResource resource destructor) m h = absurd h
names_whole (Lifts func os ty) m h = absurd h
names_whole (Lowers func os ty) m h = absurd h
names_whole (MakesResource resource) m h = absurd h
names_whole (DropsResource resource) m h = absurd h
names_whole (ReadsResource resource) m h = absurd h

all_whole : (plan : Plan) (m : Making) → AllName plan → (link plan m).whole ≡ m.whole
all_whole End m h = refl
all_whole (Then item rest) m h = all_whole rest (link_item item m) h.1 ∙ names_whole item m h.0

pub made_whole : (scope : Scope) (s : Space) (parts : List Part) (m : Making) → JoinOnly scope s parts → (made_by scope s parts m).whole ≡ m.whole
made_whole scope s [] m h = refl
made_whole scope s (part ∷ parts) m h =
    made_whole scope (after_part [] s part) parts (link (plan_part [] [] s scope part).plan m) h.2 ∙ all_whole (plan_part [] [] s scope part).plan m h.0

link_followed : (p q : Plan) (m : Making) → link (followed p q) m ≡ link q (link p m)
link_followed End q m = refl
link_followed (Then item p) q m = link_followed p q (link_item item m)

parts_linked : (scope : Scope) (s : Space) (parts : List Part) (rest : Tree) (m : Making) → JoinOnly scope s parts →
    link (plan_tree [] [] s scope (in_front parts rest)) m ≡ link (plan_tree [] [] (spaces_behind s parts) scope rest) (made_by scope s parts m)
parts_linked scope s [] rest m h = refl
parts_linked scope s (part ∷ parts) rest m h =
    ap (λ sc. link (followed (plan_part [] [] s scope part).plan (plan_tree [] [] (after_part [] s part) sc (in_front parts rest))) m) h.1
    ∙ link_followed (plan_part [] [] s scope part).plan (plan_tree [] [] (after_part [] s part) scope (in_front parts rest)) m
    ∙ parts_linked scope (after_part [] s part) parts rest (link (plan_part [] [] s scope part).plan m) h.2

module _ (j : Joint) (first second : Tree) (front : JoinOnly no_scope root j.front) (between : JoinOnly (one_scope j first second) (after_part [] (with_first j first second) (instance_of 0 j.first_args)) j.between) (behind : JoinOnly (both_scope j first second) (behind_second j first second) j.behind) where
  abbrev behind_tree : Tree
  behind_tree = in_front j.behind NoParts

  abbrev second_tree : Tree
  second_tree = Section (Nested j.second_span second) (Section (instance_of 1 j.second_args) behind_tree)

  abbrev first_tree : Tree
  first_tree = Section (Nested j.first_span first) (Section (instance_of 0 j.first_args) (in_front j.between second_tree))

  abbrev pub with_second_made : Making
  with_second_made = with_component (made_between j first second) (own_numbers (with_second j first second) (slice_get (with_second j first second).components 1)) (made_second j first second)

  abbrev with_first_made : Making
  with_first_made = with_component (made_front j first second) (own_numbers (with_first j first second) (slice_get (with_first j first second).components 0)) (made_first j first second)

  abbrev pub all_made : Making
  all_made = made_by (both_scope j first second) (behind_second j first second) j.behind with_second_made

  pub linked_joining : linked (joining j first second) ≡ all_made
  linked_joining =
      parts_linked no_scope root j.front first_tree (unmade (joining j first second)) front
      ∙ parts_linked (one_scope j first second) (after_part [] (with_first j first second) (instance_of 0 j.first_args)) j.between second_tree with_first_made between
      ∙ parts_linked (both_scope j first second) (behind_second j first second) j.behind NoParts with_second_made behind

  pub front_whole : (made_front j first second).whole ≡ (unmade (joining j first second)).whole
  front_whole = made_whole no_scope root j.front (unmade (joining j first second)) front

  pub between_whole : (made_between j first second).whole ≡ (made_first j first second).whole
  between_whole = made_whole (one_scope j first second) (after_part [] (with_first j first second) (instance_of 0 j.first_args)) j.between with_first_made between

  pub joined_whole : (linked (joining j first second)).whole ≡ (made_second j first second).whole
  joined_whole = ap (λ m. m.whole) linked_joining ∙ made_whole (both_scope j first second) (behind_second j first second) j.behind with_second_made behind
