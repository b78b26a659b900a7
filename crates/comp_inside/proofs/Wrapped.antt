-- The group of a wrapping component surrounds that of the component in it.
use Rattle.std.proofs.Common.{◌≡◌, inl, inr, ℕ, ◌+◌, ◌&&◌, nat_eq, cond, List, [], ◌∷◌, map, Option, Some, None, Bool, true, false, refl, sym, ◌∙◌, ap, subst, arith}
use Rattle.std.specs.Prelude.{slice_get}
use Rattle.std.specs.Option.{option_map}
use Rattle.std.proofs.lemmas.Bool.{eqb-true, eqb-false}
use Rattle.wasm_ast.specs.declared.component.Span.{Span}
use Rattle.wasm_ast.specs.declared.component.Sort.{Sort}
use Rattle.wasm_ast.specs.declared.component.Sort.TheVariants as sorts
use Rattle.wasm_ast.specs.declared.component.Instance.TheVariants as instances
use Rattle.wit_types.specs.Plain.{Name}
use Rattle.comp_types.specs.Items.{Item, FuncItem, InstanceItem, KindItem, End as NoEntries}
use Rattle.comp_grammar.specs.Trees.{Tree}
use Rattle.comp_types.specs.Definitions.{AnAlias, AnExport}
use Rattle.comp_types.specs.Spaces.{Space, TypeEntry, item_at}
use Rattle.comp_types.specs.Added.{and_some_item, and_some_type, and_again, and_nested, nested_of, and_instance, after, after_all, after_tree, root}
use Rattle.comp_worlds.specs.Groups.{Theirs, Begins}
use Rattle.comp_worlds.specs.Parts.{func_to, owner_to}
use Rattle.comp_link.specs.Plans.{Scope, no_scope, and_plan, Plan, End, Then, followed, own_numbers, plan_all, plan_tree, plan_of}
use Rattle.comp_link.specs.Linking.{Given, Givens, GivenFunc, GivenInstance, GivenResource, GivenType, Nothing, find, Placed, Owned, Whole, Making, begun, and_stage, with_component, link_item, link, all_outside, all_known, behind_known, known_in, canon_in, owner_in, target_in as target_of, instance_in, exported, linked, group_of}
use Rattle.comp_inside.specs.Inside.{Standing, place, target_in, given_in, givens_in, placed_in, owned_in, whole_in, making_in}
use Rattle.comp_inside.specs.Wrapping.{Handed, alias_of, exports_from, HandOn, wrapping, is_of_sort, AreThere, IsNamed, AreExports}
use Rattle.comp_inside.specs.Laws.{Surrounds, ImportsNone}
use Rattle.comp_inside.proofs.Inside.{cond_some, find_in, linked_inside}
use Rattle.comp_inside.proofs.Apart.{tree_apart, plan_apart}
use Rattle.comp_inside.proofs.Handing.{appended, items_at, aliases_plan, aliased, exports_plan, exports_made, same_targets}

-- ---- 1. the wrapping component imports nothing

abbrev Kept : Space → Space → Type 0
Kept s s' = s'.imports ≡ s.imports

item_kept : (s : Space) (o : Option Item) → Kept s (and_some_item s o)
item_kept s None = refl
item_kept s (Some (FuncItem ty)) = refl
item_kept s (Some (InstanceItem entries)) = refl
item_kept s (Some (KindItem kind)) = refl

type_kept : (s : Space) (o : Option TypeEntry) → Kept s (and_some_type s o)
type_kept s None = refl
type_kept s (Some entry) = refl

again_kept : (s : Space) (sort : Sort) (index : ℕ) → Kept s (and_again s sort index)
again_kept s sorts.Type index = type_kept s (slice_get s.types index)
again_kept s sorts.Func index = item_kept s (item_at s sorts.Func index)
again_kept s sorts.Instance index = item_kept s (item_at s sorts.Instance index)

aliases_kept : (s : Space) (es : List Handed) → Kept s (after_all [] s (map AnAlias (map alias_of es)))
aliases_kept s [] = refl
aliases_kept s (e ∷ es) = aliases_kept (after [] s (AnAlias (alias_of e))) es ∙ item_kept s _

export_kept : (s : Space) (name : Name) (sort : Sort) (index : ℕ) → Kept s (after [] s (AnExport (record { name = name; sort = sort; index = index; desc = None })))
export_kept s name sort index = again_kept s sort index

sort_kept : (s : Space) (f i t : ℕ) (name : Name) (sort : Sort) (es : List Handed) → ((s' : Space) (f' i' t' : ℕ) → Kept s' (after_all [] s' (map AnExport (exports_from f' i' t' es)))) → Kept s (after_all [] s (map AnExport (exports_from f i t (record { name = name; sort = sort } ∷ es))))
sort_kept s f i t name sorts.Func es later = later _ (f + 1) i t ∙ export_kept s name sorts.Func f
sort_kept s f i t name sorts.Instance es later = later _ f (i + 1) t ∙ export_kept s name sorts.Instance i
sort_kept s f i t name sorts.Type es later = later _ f i (t + 1) ∙ export_kept s name sorts.Type t

exports_kept : (s : Space) (f i t : ℕ) (es : List Handed) → Kept s (after_all [] s (map AnExport (exports_from f i t es)))
exports_kept s f i t [] = refl
exports_kept s f i t (e ∷ es) = sort_kept s f i t e.name e.sort es (λ s' f' i' t'. exports_kept s' f' i' t' es)

-- with the component in it, and the instance
abbrev with_inner : Space → Space
with_inner inner = and_nested root inner

abbrev with_one : Space → Space
with_one inner = and_instance (with_inner inner) (instances.Instantiate 0 [])

abbrev with_aliases : Space → List Handed → Space
with_aliases inner es = after_all [] (with_one inner) (map AnAlias (map alias_of es))

abbrev with_exports : Space → List Handed → Space
with_exports inner es = after_all [] (with_aliases inner es) (map AnExport (exports_from 0 1 0 es))

handed_space : (s : Space) (es : List Handed) (sections : Tree) → HandOn es sections → after_tree [] s sections ≡ after_all [] (after_all [] s (map AnAlias (map alias_of es))) (map AnExport (exports_from 0 1 0 es))
handed_space s es sections (inl e) = ap (after_tree [] s) e
handed_space s es sections (inr (none, e)) = subst (λ z. after_tree [] s sections ≡ after_all [] (after_all [] s (map AnAlias (map alias_of z))) (map AnExport (exports_from 0 1 0 z))) (sym none) (ap (after_tree [] s) e)

-- in the spaces of the component where it stands
wrapping_space : (span : Span) (c : Tree) (es : List Handed) (sections : Tree) → HandOn es sections → after_tree [] root (wrapping span c sections) ≡ with_exports (after_tree [] root c) es
wrapping_space span c es sections hand = handed_space (with_one (after_tree (root ∷ []) root c)) es sections hand ∙ ap (λ inner. with_exports inner es) (tree_apart [] root c)

all_kept : (inner : Space) (es : List Handed) → Kept (with_one inner) (with_exports inner es)
all_kept inner es = exports_kept (with_aliases inner es) 0 1 0 es ∙ aliases_kept (with_one inner) es

no_imports : (span : Span) (c : Tree) (es : List Handed) (sections : Tree) → HandOn es sections → (after_tree [] root (wrapping span c sections)).imports ≡ NoEntries
no_imports span c es sections hand = ap (λ s. s.imports) (wrapping_space span c es sections hand) ∙ all_kept (after_tree [] root c) es

-- ---- 2. how it is linked

link_followed : (p q : Plan) (m : Making) → link (followed p q) m ≡ link q (link p m)
link_followed End q m = refl
link_followed (Then item p) q m = link_followed p q (link_item item m)

-- after the one instance of the wrapping component
abbrev pub behind_one : Standing
behind_one = record { instances = 1; before = record { next_instance = 0; next_resource = 0; stages = Begins ∷ []; canons = []; owners = [] }; import = Theirs }

abbrev nothing_yet : ℕ → Whole
nothing_yet next = record { next_instance = 0; next_resource = next; stages = []; canons = []; owners = [] }

-- the number of the first resource that is defined
abbrev base_of : Tree → ℕ
base_of tree = behind_known (all_known [] (after_tree [] root tree).imports)

one_less : (j k : ℕ) → 1 + j ≡ 1 + k → j ≡ k
one_less j k e = omega arith

same_place : (j k : ℕ) → nat_eq (1 + j) (1 + k) ≡ nat_eq j k
same_place j k = go (nat_eq j k) refl (nat_eq (1 + j) (1 + k)) refl
  where
    go : (a : Bool) → nat_eq j k ≡ a → (b : Bool) → nat_eq (1 + j) (1 + k) ≡ b → b ≡ a
    go true is true is' = refl
    go false is false is' = refl
    go true is false is' = absurd (eqb-false (1 + j) (1 + k) is' (ap (λ z. 1 + z) (eqb-true j k is)))
    go false is true is' = absurd (eqb-false j k is (one_less j k (eqb-true (1 + j) (1 + k) is')))

-- the plan of the sections that hand on
abbrev handed_after : Space → Scope → List Handed → Plan
handed_after s scope es =
    followed (plan_all [] [] s scope (map AnAlias (map alias_of es))).plan
    (followed (plan_all [] [] (after_all [] s (map AnAlias (map alias_of es))) (plan_all [] [] s scope (map AnAlias (map alias_of es))).scope (map AnExport (exports_from 0 1 0 es))).plan End)

handed_plan : (s : Space) (scope : Scope) (es : List Handed) (sections : Tree) → HandOn es sections → plan_tree [] [] s scope sections ≡ handed_after s scope es
handed_plan s scope es sections (inl e) = ap (plan_tree [] [] s scope) e
handed_plan s scope es sections (inr (none, e)) = subst (λ z. plan_tree [] [] s scope sections ≡ handed_after s scope z) (sym none) (ap (plan_tree [] [] s scope) e)

module _ (span : Span) (c : Tree) (es : List Handed) (sections : Tree) (hand : HandOn es sections) (none : ImportsNone c) where
  abbrev inner : Space
  inner = after_tree (root ∷ []) root c

  abbrev planned : Plan
  planned = plan_tree (root ∷ []) (no_scope ∷ []) root no_scope c

  abbrev scope : Scope
  scope = and_plan no_scope (Some planned)

  abbrev w : Tree
  w = wrapping span c sections

  abbrev first : Making
  first = begun (nothing_yet (base_of w)) (all_outside [] (after_tree [] root w).imports)

  abbrev own : List (ℕ × ℕ)
  own = own_numbers (with_inner inner) (Some (nested_of inner))

  abbrev aliases_reached : Plan
  aliases_reached = (plan_all [] [] (with_one inner) scope (map AnAlias (map alias_of es))).plan

  abbrev scope_reached : Scope
  scope_reached = (plan_all [] [] (with_one inner) scope (map AnAlias (map alias_of es))).scope

  abbrev within : Making
  within = making_in behind_one (linked c)

  abbrev X : Givens
  X = givens_in behind_one (linked c).exports

  linked_alone : linked c ≡ link (plan_of c) (begun (nothing_yet (base_of c)) Nothing)
  linked_alone = ap (λ z. link (plan_of c) (begun (nothing_yet (base_of c)) (all_outside [] z))) none

  linked_within : link planned (begun (and_stage first.whole Begins) Nothing) ≡ within
  linked_within =
      ap (λ p. link p (begun (and_stage first.whole Begins) Nothing)) (plan_apart [] [] root no_scope c)
      ∙ ap (λ z. link (plan_of c) (making_in behind_one (begun (nothing_yet z) Nothing))) (ap (λ i. behind_known (all_known [] i)) (no_imports span c es sections hand ∙ sym none))
      ∙ linked_inside behind_one (plan_of c) (begun (nothing_yet (base_of c)) Nothing)
      ∙ ap (making_in behind_one) (sym linked_alone)

  abbrev made_one : Making
  made_one = with_component first own within

  linked_wrapping : linked w ≡ link (exports_plan X (with_aliases inner es) scope_reached 0 1 0 es) (link (items_at 0 es) made_one)
  linked_wrapping =
      ap (λ p. link p (with_component first own (link planned (begun (and_stage first.whole Begins) Nothing)))) (handed_plan (with_one inner) scope es sections hand)
      ∙ link_followed aliases_reached (followed (exports_plan X (with_aliases inner es) scope_reached 0 1 0 es) End) (with_component first own (link planned (begun (and_stage first.whole Begins) Nothing)))
      ∙ link_followed (exports_plan X (with_aliases inner es) scope_reached 0 1 0 es) End (link aliases_reached (with_component first own (link planned (begun (and_stage first.whole Begins) Nothing))))
      ∙ ap (λ z. link (exports_plan X (with_aliases inner es) scope_reached 0 1 0 es) (link aliases_reached (with_component first own z))) linked_within
      ∙ ap (λ p. link (exports_plan X (with_aliases inner es) scope_reached 0 1 0 es) (link p made_one)) (aliases_plan 0 (with_one inner) scope es)

  -- ---- 3. its exports

  sort_in : (sort : Sort) (item : Given) → is_of_sort sort (given_in behind_one item) ≡ is_of_sort sort item
  sort_in sorts.Func (GivenFunc t) = refl
  sort_in sorts.Func (GivenInstance items) = refl
  sort_in sorts.Func (GivenResource r) = refl
  sort_in sorts.Func GivenType = refl
  sort_in sorts.Instance (GivenFunc t) = refl
  sort_in sorts.Instance (GivenInstance items) = refl
  sort_in sorts.Instance (GivenResource r) = refl
  sort_in sorts.Instance GivenType = refl
  sort_in sorts.Type (GivenFunc t) = refl
  sort_in sorts.Type (GivenInstance items) = refl
  sort_in sorts.Type (GivenResource r) = refl
  sort_in sorts.Type GivenType = refl

  there_in : (gs : Givens) (list : List Handed) → AreThere gs list → AreThere (givens_in behind_one gs) list
  there_in gs [] h = tt
  there_in gs (e ∷ list) h = ((given_in behind_one h.0.0, find_in behind_one e.name gs ∙ ap (option_map (given_in behind_one)) h.0.1, sort_in e.sort h.0.0 ∙ h.0.2), there_in gs list h.1)

  named_in : (gs : Givens) (list : List Handed) → ((name : Name) (item : Given) → find name gs ≡ Some item → IsNamed name list) → (name : Name) (item : Given) → find name (givens_in behind_one gs) ≡ Some item → IsNamed name list
  named_in gs list all name item is = go (find name gs) refl
    where
      go : (o : Option Given) → find name gs ≡ o → IsNamed name list
      go None e = absurd (let q : None ≡ Some item = ap (option_map (given_in behind_one)) (sym e) ∙ sym (find_in behind_one name gs) ∙ is in cc)
      go (Some item') e = all name item' e

  exports_in : AreExports (linked c).exports es → AreExports X es
  exports_in are = record { each = there_in (linked c).exports es are.each; all = named_in (linked c).exports es are.all }

  target_given : (o : Option Given) → target_of (option_map (given_in behind_one) o) ≡ option_map (target_in behind_one) (target_of o)
  target_given None = refl
  target_given (Some (GivenFunc t)) = refl
  target_given (Some (GivenInstance items)) = refl
  target_given (Some (GivenResource r)) = refl
  target_given (Some GivenType) = refl

  instance_given : (o : Option Given) → instance_in (option_map (given_in behind_one) o) ≡ givens_in behind_one (instance_in o)
  instance_given None = refl
  instance_given (Some (GivenFunc t)) = refl
  instance_given (Some (GivenInstance items)) = refl
  instance_given (Some (GivenResource r)) = refl
  instance_given (Some GivenType) = refl

  targets_in : (gs : Givens) (interface name : Name) → target_of (exported (givens_in behind_one gs) interface name) ≡ option_map (target_in behind_one) (target_of (exported gs interface name))
  targets_in gs [] name = ap target_of (find_in behind_one name gs) ∙ target_given (find name gs)
  targets_in gs (n ∷ ns) name =
      ap (λ z. target_of (find name (instance_in z))) (find_in behind_one (n ∷ ns) gs)
      ∙ ap (λ z. target_of (find name z)) (instance_given (find (n ∷ ns) gs))
      ∙ ap target_of (find_in behind_one name (instance_in (find (n ∷ ns) gs)))
      ∙ target_given (find name (instance_in (find (n ∷ ns) gs)))

  -- ---- 4. the group

  canons_in : (ps : List Placed) (k n : ℕ) → canon_in (map (placed_in behind_one) ps) (place behind_one k) n ≡ option_map (func_to (place behind_one) Theirs) (canon_in ps k n)
  canons_in [] k n = refl
  canons_in (q ∷ ps) k n =
      ap (λ b. cond (b && nat_eq q.number n) (Some (func_to (place behind_one) Theirs q.canon)) (canon_in (map (placed_in behind_one) ps) (place behind_one k) n)) (same_place q.instance k)
      ∙ cond_some (func_to (place behind_one) Theirs) (nat_eq q.instance k && nat_eq q.number n) q.canon (canon_in (map (placed_in behind_one) ps) (place behind_one k) n) (canon_in ps k n) (canons_in ps k n)

  owners_in : (os : List Owned) (r : ℕ) → owner_in (map (owned_in behind_one) os) r ≡ option_map (owner_to (place behind_one)) (owner_in os r)
  owners_in [] r = refl
  owners_in (o ∷ os) r = cond_some (owner_to (place behind_one)) (nat_eq o.resource r) o.owner (owner_in (map (owned_in behind_one) os) r) (owner_in os r) (owners_in os r)

  pub surrounds : AreExports (linked c).exports es → Surrounds (group_of w) (group_of c) (place behind_one)
  surrounds are =
      let first_there : slice_get made_one.instances 0 ≡ Some X = refl in
      let a = aliased X 0 es made_one first_there (exports_in are).each in
      let x = exports_made X (with_aliases inner es) scope_reached 0 1 0 es (link (items_at 0 es) made_one) a.1 in
      let whole : (linked w).whole ≡ whole_in behind_one (linked c).whole = ap (λ m. m.whole) linked_wrapping ∙ x.2.whole ∙ a.0.whole in
      let exports : (linked w).exports ≡ x.0 = ap (λ m. m.exports) linked_wrapping ∙ x.2.exports ∙ ap (λ z. appended z x.0) a.0.exports in
      record {
        canons = λ k n. ap (λ z. canon_in z.canons (place behind_one k) n) whole ∙ canons_in (linked c).whole.canons k n;
        owner = λ r. ap (λ z. owner_in z.owners r) whole ∙ owners_in (linked c).whole.owners r;
        imported = λ r. ap (λ z. known_in (all_known [] z) r) (no_imports span c es sections hand ∙ sym none);
        exports = λ interface name. ap (λ z. target_of (exported z interface name)) exports ∙ same_targets X es x.0 x.1 (exports_in are) interface name ∙ targets_in (linked c).exports interface name;
        stages = ap (λ z. z.stages) whole;
        once = one_less;
      }
