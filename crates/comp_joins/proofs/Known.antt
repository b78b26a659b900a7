-- A valid component's plan names what was brought or defined before.
use Rattle.std.proofs.Common.{◌≡◌, ◌⊎◌, inl, inr, ℕ, ◌+◌, ◌≤◌, ◌<◌, List, [], ◌∷◌, ◌++◌, length, true, Option, Some, None, refl, sym, ◌∙◌, subst, arith}
use Rattle.std.specs.Prelude.{slice_get, nat_lt}
use Rattle.std.specs.Option.{option_map, option_and_then}
use Rattle.std.specs.List.{list_all}
use Rattle.std.proofs.lemmas.Bool.{and_parts}
use Rattle.std.proofs.lemmas.List.{append-nil}
use Rattle.wasm_ast.specs.declared.module.Module.{Module}
use Rattle.wasm_ast.specs.declared.component.CoreInstance.{CoreInstance}
use Rattle.wasm_ast.specs.declared.component.CoreInstance.TheVariants as core_instances
use Rattle.wasm_ast.specs.declared.component.Sort.{Sort}
use Rattle.wasm_ast.specs.declared.component.NamedItem.{NamedItem}
use Rattle.wasm_ast.specs.declared.component.Instance.{Instance}
use Rattle.wasm_ast.specs.declared.component.Instance.TheVariants as instances
use Rattle.wasm_ast.specs.declared.component.OuterSort.{OuterSort}
use Rattle.wasm_ast.specs.declared.component.OuterSort.TheVariants as outer_sorts
use Rattle.wasm_ast.specs.declared.component.Alias.{Alias}
use Rattle.wasm_ast.specs.declared.component.Alias.TheVariants as aliases
use Rattle.wasm_ast.specs.declared.component.TypeAlias.TheVariants as type_aliases
use Rattle.wasm_ast.specs.declared.component.TypeDef.TheVariants as defs
use Rattle.wasm_ast.specs.declared.component.ExternDesc.{ExternDesc}
use Rattle.wasm_ast.specs.declared.component.Canon.{Canon}
use Rattle.wasm_ast.specs.declared.component.Canon.TheVariants as canons
use Rattle.wasm_ast.specs.declared.component.ComponentImport.{ComponentImport}
use Rattle.wasm_ast.specs.declared.component.ComponentExport.{ComponentExport}
use Rattle.core_validate.specs.declared.item.CoreItem.{CoreItem}
use Rattle.core_validate.specs.declared.item.CoreItem.TheVariants as core_items
use Rattle.wit_types.specs.Plain.{Name}
use Rattle.comp_types.specs.Items.{Item, Entries, FuncItem, InstanceItem, look_up}
use Rattle.comp_grammar.specs.Trees.{Part, Tree, CoreModule, Nested, CoreInstances, Instances, Aliases, Types, Canons, Imports as ImportsPart, Exports as ExportsPart, Custom, End as NoParts, More as Section}
use Rattle.comp_types.specs.Declarations.{Declaration, ATypeDef, AnInstanceType, ATypeAlias, ATypeExport, grouped}
use Rattle.comp_types.specs.Definitions.{Definition, ACoreInstance, AnInstance, AnAlias, AType, ACanon, AnImport, AnExport, definitions}
use Rattle.comp_types.specs.GivenResources.{named_in, numbered}
use Rattle.comp_types.specs.Spaces.{Space, NestedComponent, kind_at, item_at, and_item, entry_of}
use Rattle.comp_types.specs.Types.{func_in, resource_in, kind_of}
use Rattle.comp_types.specs.CoreMatching.{core_look_up}
use Rattle.comp_types.specs.Added.{brought, described, new_numbers, and_import, and_export, and_instantiated, and_instance, and_some_item, and_some_core_item, and_outer, named_items, after, after_all, after_part, after_tree, lowered_at, and_nested, entered, nested_of, root}
use Rattle.comp_types.specs.Rules.{lengths_of, item_stands, desc_stands, if_there, outer_stays, IsStated, IsStatedIfAny, MeetsComponent}
use Rattle.comp_types.specs.Validity.{IsValidDefinition, AllHold, AreValid, IsValidPart, IsValidTree}
use Rattle.comp_worlds.specs.Groups.{Begins}
use Rattle.comp_link.specs.Plans.{Plan, OfModule, OfComponent, MakesResource, DropsResource, ReadsResource, Imports, Exports, Scope, no_scope, if_some, just, named_by, named_args, of_core_instance, own_numbers, of_instance, of_alias, of_canon, planned_by, scope_after, plan_all, plan_part, plan_tree}
use Rattle.comp_link.specs.Linking.{Given, Givens, bound, bound_if, Whole, Making, begun, and_stage, core_find, givens_of, item_in, and_item as and_made, and_export as and_out, link, all_outside}
use Rattle.comp_inside.specs.Linked.{IsBrought, Each, PlanKnows, unmade}
use Rattle.comp_link.specs.Exports.{IsOf}
use Rattle.comp_link.specs.Sections.{DefinesIn, DefinesTypes}
use Rattle.comp_link.proofs.Shapes.{Has, found, has_given, has_exports}
use Rattle.comp_link.proofs.Kept.{Within, found_new, all_within, tree_within, then_within}
use Rattle.comp_link.proofs.ItemLaws.{Both, both_and, both_get, get_there, Fits, item_there, given_there, named_fit, stated_fits}
use Rattle.comp_link.proofs.Made.{link_followed, IsPlanOf, ScopeIs, Defines, DefineAll, define_map, define_types, defined_fits, scope_stays, module_scope, tree_made, outside_has}
use Rattle.comp_joins.specs.Known.{ValidNamesKnown}
use Rattle.comp_joins.proofs.Names.{each_then, Apart, ItemNames, AllName, item_named, all_named, among_each}
use Rattle.comp_joins.proofs.Described.{every_get, IfSome, Wider, item_carried, Brings, IsOwn, ComponentNames, Knows, kind_known, func_known, described_known, described_shown}
use Rattle.comp_joins.proofs.Spaces.{type_more, item_more, component_more, named_known, wider_knows}
use Rattle.comp_joins.proofs.Scopes.{Around, around_more, stays_of, Reach, reach_types, reach_components}
use Rattle.comp_joins.proofs.Nested.{nested_brings, nested_own, brings_own}
use Rattle.comp_joins.proofs.Defined.{kind_of_known, resource_known}
use Rattle.comp_joins.proofs.Declared.{brought_within, numbers_within}
use Rattle.comp_joins.proofs.Brought.{item_resources, core_item_resources, lowered_resources, Grows, resource_grows, bound_grows, own_grows, own_brought, named_brought, args_brought, followed_knows}
use Rattle.comp_joins.proofs.Added.{alias_space, outer_space, instance_type_space, export_space, Adds, resource_space, import_space, stated_space, instantiated_space}

-- ---- what is known of a component as it is made: what it has brought, and that it has not brought what was known before it (J)

-- The first number of its own is base. What its index spaces name it has brought; and instance types declare none of what was known
-- before either.
abbrev Known : (J : ℕ → Type 0) → ℕ → List (ℕ × ℕ) → Space → Type 0
Known J base pairs s = Knows true base (IsBrought pairs) s × Knows true base (λ r. IsBrought pairs r ⊎ J r) s × ((r : ℕ) → IsBrought pairs r → base ≤ r)

-- whatever was made before, of these imports it makes what it names
abbrev PlanIs : Plan → NestedComponent → Type 0
PlanIs plan c = IsPlanOf plan c × ((whole : Whole) (given : Givens) → Has given c.signature.imports → PlanKnows (λ r. r) plan (begun whole given) × Each (IsBrought (link plan (begun whole given)).resources) c.own)

plans_fit : (plans : List Plan) (cs : List NestedComponent) → Both PlanIs plans cs → Both IsPlanOf plans cs
plans_fit [] [] h = tt
plans_fit (p ∷ plans) (c ∷ cs) h = (h.0.0, plans_fit plans cs h.1)
plans_fit [] (c ∷ cs) h = absurd h
plans_fit (p ∷ plans) [] h = absurd h

scopes_fit : (scopes : List Scope) (spaces : List Space) → Both (ScopeIs PlanIs) scopes spaces → Both (ScopeIs IsPlanOf) scopes spaces
scopes_fit [] [] h = tt
scopes_fit (o ∷ scopes) (s ∷ spaces) h = (plans_fit o.components s.components h.0, scopes_fit scopes spaces h.1)
scopes_fit [] (s ∷ spaces) h = absurd h
scopes_fit (o ∷ scopes) [] h = absurd h

less_then : (r n n' : ℕ) → r < n → n ≤ n' → r < n'
less_then r n n' less le = omega (arith, less, le)

not_less : (a b c : ℕ) → a ≤ b → b ≤ c → a ≤ c
not_less a b c le more = omega (arith, le, more)

not_both : (r n : ℕ) → r < n → n ≤ r → ⊥
not_both r n less le = omega (arith, less, le)

module _ (J : ℕ → Type 0) (base : ℕ) where
  -- what is known here is brought, or was known before
  from_brought : (pairs : List (ℕ × ℕ)) → ((r : ℕ) → IsBrought pairs r → base ≤ r) → (r : ℕ) → IsBrought pairs r ⊎ J r → J r ⊎ (base ≤ r)
  from_brought pairs from r (inl b) = inr (from r b)
  from_brought pairs from r (inr j) = inl j

  -- nothing more is brought
  kept_as : (pairs : List (ℕ × ℕ)) (s t : Space) → ((P : ℕ → Type 0) → ((r : ℕ) → P r → J r ⊎ (base ≤ r)) → Knows true base P s → Knows true base P t) → Known J base pairs s → Known J base pairs t
  kept_as pairs s t f h = (f (IsBrought pairs) (λ r b. inr (h.2 r b)) h.0, f (λ r. IsBrought pairs r ⊎ J r) (from_brought pairs h.2) h.1, h.2)

  -- these numbers are brought
  grown_as : (pairs more : List (ℕ × ℕ)) (s t : Space) (numbers : List ℕ) → Grows pairs more s.next t.next numbers → ((P Q : ℕ → Type 0) → Adds true base P Q s t numbers) → Known J base pairs s → Known J base more t
  grown_as pairs more s t numbers g f h = (
    f (IsBrought pairs) (IsBrought more) (record { behind = g.behind; known = g.kept; new = λ r a b. apart r a.0 a.1 b }) less g.new h.0,
    f (λ r. IsBrought pairs r ⊎ J r) (λ r. IsBrought more r ⊎ J r) (record { behind = g.behind; known = known; new = new }) below (each_then (IsBrought more) (λ r. IsBrought more r ⊎ J r) (λ r b. inl b) numbers g.new) h.1,
    from,
  )
    where
      apart : (r : ℕ) → r < s.next → (IsBrought pairs r → ⊥) → IsBrought more r → ⊥
      apart r lt none b = go (g.only r b)
        where
          go : IsBrought pairs r ⊎ ((s.next ≤ r) × (r < t.next)) → ⊥
          go (inl old) = none old
          go (inr within) = not_both r s.next lt within.0

      less : (r : ℕ) → IsBrought more r → r < t.next
      less r b = go (g.only r b)
        where
          go : IsBrought pairs r ⊎ ((s.next ≤ r) × (r < t.next)) → r < t.next
          go (inl old) = less_then r s.next t.next (h.0.below r old) g.behind
          go (inr within) = within.1

      known : (r : ℕ) → IsBrought pairs r ⊎ J r → IsBrought more r ⊎ J r
      known r (inl b) = inl (g.kept r b)
      known r (inr j) = inr j

      new : (r : ℕ) → Apart (λ x. IsBrought pairs x ⊎ J x) s.next r → IsBrought more r ⊎ J r → ⊥
      new r a (inl b) = apart r a.0 (λ old. a.1 (inl old)) b
      new r a (inr j) = a.1 (inr j)

      below : (r : ℕ) → IsBrought more r ⊎ J r → r < t.next
      below r (inl b) = less r b
      below r (inr j) = less_then r s.next t.next (h.1.below r (inr j)) g.behind

      from : (r : ℕ) → IsBrought more r → base ≤ r
      from r b = go (g.only r b)
        where
          go : IsBrought pairs r ⊎ ((s.next ≤ r) × (r < t.next)) → base ≤ r
          go (inl old) = h.2 r old
          go (inr within) = not_less base s.next r h.0.start within.0

  -- what is described, once it is given
  given_grows : (m : Making) (s : Space) (desc : ExternDesc) (g : Given) → Known J base m.resources s → IsOf g (described s desc)
      → Grows m.resources ((and_made m (Some g)).resources ++ bound (Some g) (described s desc)) s.next (s.next + length (brought s desc)) (new_numbers (brought s desc))
  given_grows m s desc g h fits =
      let n' : ℕ = s.next + length (brought s desc) in
      let P : ℕ → Type 0 = λ r. IsBrought m.resources r ⊎ ((s.next ≤ r) × (r < n')) in
      let new : Each P (new_numbers (brought s desc)) = each_then (λ r. (s.next ≤ r) × (r < n')) P (λ r w. inr w) (new_numbers (brought s desc)) (brought_within s desc) in
      let named : ItemNames P n' (described s desc) = described_known (IsBrought m.resources) P s n' desc wider h.0 new in
      subst (λ z. Grows m.resources (z ++ bound (Some g) (described s desc)) s.next n' (new_numbers (brought s desc))) (sym (item_resources m (Some g)))
      (bound_grows m.resources g (described s desc) s.next n' (new_numbers (brought s desc)) (omega arith) fits (described_shown (IsBrought m.resources) s desc h.0) (item_named P n' (described s desc) named))
    where
      wider : Wider (IsBrought m.resources) (λ r. IsBrought m.resources r ⊎ ((s.next ≤ r) × (r < s.next + length (brought s desc)))) s.next (s.next + length (brought s desc))
      wider = record { behind = omega arith; known = λ r b. inl b; new = none }
        where
          none : (r : ℕ) → Apart (IsBrought m.resources) s.next r → IsBrought m.resources r ⊎ ((s.next ≤ r) × (r < s.next + length (brought s desc))) → ⊥
          none r a (inl b) = a.1 b
          none r a (inr within) = not_both r s.next a.0 within.0

  -- ---- each definition

  -- what is known after a plan, which knew what it names
  abbrev Stepped : Plan → Making → Space → Type 0
  Stepped plan m t = Known J base (link plan m).resources t × PlanKnows (λ r. r) plan m

  core_instance_known : (scope : Scope) (i : CoreInstance) (m : Making) (s : Space) → Known J base m.resources s → Stepped (of_core_instance scope i) m s
  core_instance_known scope (core_instances.Instantiate k args) m s h = go (slice_get scope.modules k)
    where
      go : (o : Option Module) → Stepped (if_some (λ module'. OfModule module' args) o) m s
      go None = (h, tt)
      go (Some module') = (h, (tt, tt))
  core_instance_known scope (core_instances.Inline exports) m s h = (h, (tt, tt))

  core_item_known : (pairs : List (ℕ × ℕ)) (s : Space) (o : Option CoreItem) → Known J base pairs s → Known J base pairs (and_some_core_item s o)
  core_item_known pairs s None h = h
  core_item_known pairs s (Some (core_items.Func ty)) h = h
  core_item_known pairs s (Some (core_items.Table ty limits)) h = h
  core_item_known pairs s (Some (core_items.Memory limits)) h = h
  core_item_known pairs s (Some (core_items.Global ty variable)) h = h

  module _ (around : List Space) (outer : Around J base around) where
    reach : (P : ℕ → Type 0) (s : Space) → ((r : ℕ) → P r → J r ⊎ (base ≤ r)) → Knows true base P s → Reach P s.next (s ∷ around)
    reach P s from k = reach_types J P base s.next k.start from s around k.form k.kinds outer

    outer_known : (pairs : List (ℕ × ℕ)) (s : Space) (sort : OuterSort) (count i : ℕ) → outer_stays (s ∷ around) sort count i ≡ true → Known J base pairs s → Known J base pairs (and_outer s sort (slice_get (s ∷ around) count) i)
    outer_known pairs s sort count i stays h =
        kept_as pairs s (and_outer s sort (slice_get (s ∷ around) count) i)
        (λ P from k. outer_space true base P s sort (slice_get (s ∷ around) count) i k
        (λ is. reach P s from k count i (stays_of (s ∷ around) count i (subst (λ z. outer_stays (s ∷ around) z count i ≡ true) is stays)))
        (reach_components J P base s.next k.start from s around k.nested outer count i)) h

    alias_known : (a : Alias) (m : Making) (s : Space) → AllHold around s (AnAlias a) → Known J base m.resources s → Stepped (of_alias a) m (after around s (AnAlias a))
    alias_known (aliases.Export sort i name) m s v h = (
      subst (λ z. Known J base z (and_some_item s (option_and_then (look_up name) (slice_get s.instances i)))) (sym (item_resources m (item_in (slice_get m.instances i) name)))
          (kept_as m.resources s (and_some_item s (option_and_then (look_up name) (slice_get s.instances i))) (λ P from k. alias_space true base P s (slice_get s.instances i) name k (every_get (AllName P s.next) s.instances i k.items)) h),
      (tt, tt),
    )
    alias_known (aliases.CoreExport sort i name) m s v h = (
      subst (λ z. Known J base z (and_some_core_item s (option_and_then (core_look_up name) (slice_get s.core_instances i)))) (sym (core_item_resources m (option_and_then (core_find name) (slice_get m.core_instances i))))
          (core_item_known m.resources s (option_and_then (core_look_up name) (slice_get s.core_instances i)) h),
      (tt, tt),
    )
    alias_known (aliases.Outer sort count i) m s v h = (outer_known m.resources s sort count i ((v 8).borders refl) h, tt)

    type_known : (d : Declaration) (m : Making) (s : Space) → IsValidDefinition around s (AType d) → Defines (AType d) → Known J base m.resources s → Stepped (planned_by no_scope s (AType d)) m (after around s (AType d))
    type_known (ATypeDef (defs.Resource destructor)) m s v defines h =
        (grown_as m.resources (m.resources ++ (s.next, m.whole.next_resource) ∷ []) s (after around s (AType (ATypeDef (defs.Resource destructor)))) (s.next ∷ []) (resource_grows m.resources s.next m.whole.next_resource) (λ P Q. resource_space true base P Q around s destructor) h, (refl, tt))
    type_known (ATypeDef d) m s v defines h = (kept_as m.resources s (after around s (AType (ATypeDef d))) (λ P from k. type_more P s.next s (entry_of (kind_of s d)) k (kind_of_known true base P s k d refl)) h, tt)
    type_known (AnInstanceType ds) m s v defines h = (kept_as m.resources s (after around s (AType (AnInstanceType ds))) (λ P from k. instance_type_space true base P around s ds v.0 (reach P s from k) k) h, tt)
    type_known (ATypeAlias (type_aliases.Export i name)) m s v defines h =
        (kept_as m.resources s (and_some_item s (option_and_then (look_up name) (slice_get s.instances i))) (λ P from k. alias_space true base P s (slice_get s.instances i) name k (every_get (AllName P s.next) s.instances i k.items)) h, tt)
    type_known (ATypeAlias (type_aliases.Outer count i)) m s v defines h = (outer_known m.resources s outer_sorts.Type count i ((v 8).borders refl) h, tt)
    type_known (ATypeExport name desc) m s v defines h = absurd defines

  canon_known : (around : List Space) (c : Canon) (m : Making) (s : Space) → Known J base m.resources s → Stepped (of_canon s c) m (after around s (ACanon c))
  canon_known around (canons.Lift func options ty) m s h = (
    kept_as m.resources s (and_item s (FuncItem (func_in (kind_at s ty)))) (λ P from k. item_more P s.next s (FuncItem (func_in (kind_at s ty))) k (func_known P s.next (kind_at s ty) (kind_known P s ty k))) h,
    (func_known (IsBrought m.resources) s.next (kind_at s ty) (kind_known (IsBrought m.resources) s ty h.0), tt),
  )
  canon_known around (canons.Lower func options) m s h =
      (subst (λ z. Known J base z (after around s (ACanon (canons.Lower func options)))) (sym (lowered_resources m (lowered_at (slice_get s.functions func)) options (option_and_then (λ o. o) (slice_get m.functions func)))) h, (tt, tt))
  canon_known around (canons.ResourceNew ty) m s h = go (resource_in (kind_at s ty)) (resource_known (IsBrought m.resources) s.next (kind_at s ty) (kind_known (IsBrought m.resources) s ty h.0))
    where
      go : (o : Option ℕ) → IfSome (IsBrought m.resources) o → Stepped (if_some MakesResource o) m s
      go None k = (h, tt)
      go (Some r) k = (h, (k, tt))
  canon_known around (canons.ResourceDrop ty) m s h = go (resource_in (kind_at s ty)) (resource_known (IsBrought m.resources) s.next (kind_at s ty) (kind_known (IsBrought m.resources) s ty h.0))
    where
      go : (o : Option ℕ) → IfSome (IsBrought m.resources) o → Stepped (if_some DropsResource o) m s
      go None k = (h, tt)
      go (Some r) k = (h, (k, tt))
  canon_known around (canons.ResourceRep ty) m s h = go (resource_in (kind_at s ty)) (resource_known (IsBrought m.resources) s.next (kind_at s ty) (kind_known (IsBrought m.resources) s ty h.0))
    where
      go : (o : Option ℕ) → IfSome (IsBrought m.resources) o → Stepped (if_some ReadsResource o) m s
      go None k = (h, tt)
      go (Some r) k = (h, (k, tt))

  instantiated_known' : (imports : Entries) (plan : Plan) (c : NestedComponent) (args : List NamedItem) (m : Making) (s : Space) → PlanIs plan c → MeetsComponent (named_items s args) (Some c)
      → list_all (λ a. item_stands (lengths_of s) a.sort a.index) args ≡ true → ((P : ℕ → Type 0) → Knows true base P s → ComponentNames P s.next c) → Fits imports m s → Known J base m.resources s
      → Stepped (just (OfComponent plan (numbered c.own s.next) (named_args s args))) m (and_instantiated s (Some c) (named_items s args))
  instantiated_known' imports plan c args m s is meets stand names f h =
      let given : Givens = givens_of m (named_args s args) in
      let whole : Whole = and_stage m.whole Begins in
      let has : Has given c.signature.imports = has_given (λ x y. x ≡ meets.0 y) given (named_items s args) c.signature.imports meets.1 (has_exports given (named_items s args) (named_fit imports m s args f stand)) in
      let knows = is.1 whole given has in
      let inner : List (ℕ × ℕ) = (link plan (begun whole given)).resources in (
        grown_as m.resources (link (just (OfComponent plan (numbered c.own s.next) (named_args s args))) m).resources s (and_instantiated s (Some c) (named_items s args)) (new_numbers (numbered c.own s.next))
            (own_grows m.resources inner (numbered c.own s.next) s.next (s.next + length c.own) (omega arith) (numbers_within c.own s.next))
            (λ P Q w less new k. instantiated_space true base P Q s c args meets (names P k) w less new k) h,
        ((args_brought m.resources s args h.0, knows.0, own_brought inner c.own s.next knows.1), tt),
      )

  instance_known : (around : List Space) (imports : Entries) (scope : Scope) (i : Instance) (m : Making) (s : Space) → ScopeIs PlanIs scope s → AllHold around s (AnInstance i) → Fits imports m s → Known J base m.resources s
      → Stepped (of_instance scope s i) m (and_instance s i)
  instance_known around imports scope (instances.Instantiate k args) m s plans v f h =
      let stand = and_parts (nat_lt k (length s.components)) (list_all (λ a. item_stands (lengths_of s) a.sort a.index) args) ((v 3).indexes refl) in
      let c = get_there s.components k stand.0 in
      let plan = both_get PlanIs scope.components s.components k c.0 plans c.1 in
      let meets : MeetsComponent (named_items s args) (Some c.0) = subst (MeetsComponent (named_items s args)) c.1 ((v 23).arguments refl).1 in
      subst (λ z. Stepped (if_some (λ p. OfComponent p (own_numbers s (slice_get s.components k)) (named_args s args)) z) m (and_instantiated s (slice_get s.components k) (named_items s args))) (sym plan.1)
      (subst (λ z. Stepped (just (OfComponent plan.0 (own_numbers s z) (named_args s args))) m (and_instantiated s z (named_items s args))) (sym c.1)
      (instantiated_known' imports plan.0 c.0 args m s plan.2 meets stand.1 (λ P known. subst (IfSome (ComponentNames P s.next)) c.1 (every_get (ComponentNames P s.next) s.components k known.nested)) f h))
  instance_known around imports scope (instances.Inline exports) m s plans v f h =
      (kept_as m.resources s (and_item s (InstanceItem (named_items s exports))) (λ P from k. item_more P s.next s (InstanceItem (named_items s exports)) k (named_known P s exports k)) h, (args_brought m.resources s exports h.0, tt))

  import_known : (around : List Space) (imports : Entries) (i : ComponentImport) (m : Making) (s : Space) → AllHold around s (AnImport i) → Within (after around s (AnImport i)).imports imports → Fits imports m s → Known J base m.resources s
      → Stepped (just (Imports i.name (described s i.desc))) m (and_import s i)
  import_known around imports i m s v within f h =
      let item : Item = described s i.desc in
      let x = found m.given i.name item (f.given i.name item (within i.name item (found_new s.imports i.name item ((v 19).import_names refl)))) in (
        grown_as m.resources (link (just (Imports i.name item)) m).resources s (and_import s i) (new_numbers (brought s i.desc))
            (subst (λ z. Grows m.resources ((and_made m z).resources ++ bound z item) s.next (s.next + length (brought s i.desc)) (new_numbers (brought s i.desc))) (sym x.there) (given_grows m s i.desc x.given h x.fits))
            (λ P Q. import_space true base P Q s i ((v 19).import_names refl)) h,
        (tt, tt),
      )

  exported_known : (name : Name) (sort : Sort) (i : ℕ) (desc : Option ExternDesc) (m : Making) (s : Space) (item : Item) (g : Given) → item_at s sort i ≡ Some item → IsOf g item → if_there (desc_stands (lengths_of s)) desc ≡ true → IsStatedIfAny s (item_at s sort i) desc → Known J base m.resources s
      → Known J base ((and_made m (Some g)).resources ++ bound_if (Some g) (option_map (described s) desc)) (and_export s (record { name = name; sort = sort; index = i; desc = desc }))
  exported_known name sort i None m s item g is fits stands stated h =
      subst (λ z. Known J base z (and_export s (record { name = name; sort = sort; index = i; desc = None }))) (sym (append-nil (and_made m (Some g)).resources ∙ item_resources m (Some g)))
      (kept_as m.resources s (and_export s (record { name = name; sort = sort; index = i; desc = None })) (λ P from k. export_space true base P s name sort i k) h)
  exported_known name sort i (Some desc) m s item g is fits stands stated h =
      grown_as m.resources ((and_made m (Some g)).resources ++ bound (Some g) (described s desc)) s (and_export s (record { name = name; sort = sort; index = i; desc = Some desc })) (new_numbers (brought s desc))
      (given_grows m s desc g h (stated_fits s g item desc stands fits (subst (λ z. IsStated s z desc) is stated)))
      (λ P Q. stated_space true base P Q s name sort i desc) h

  export_known : (around : List Space) (imports : Entries) (e : ComponentExport) (m : Making) (s : Space) → AllHold around s (AnExport e) → Fits imports m s → Known J base m.resources s
      → Stepped (just (Exports e.name (named_by s e.sort e.index) (option_map (described s) e.desc))) m (and_export s e)
  export_known around imports e m s v f h =
      let stand = and_parts (item_stands (lengths_of s) e.sort e.index) (if_there (desc_stands (lengths_of s)) e.desc) ((v 3).indexes refl) in
      let item = item_there s e.sort e.index stand.0 in
      let g = given_there imports m s e.sort e.index item.0 f item.1 in (
        subst (λ z. Known J base (and_out m e.name z (option_map (described s) e.desc)).resources (and_export s e)) (sym g.1) (exported_known e.name e.sort e.index e.desc m s item.0 g.0 item.1 g.2 stand.1 ((v 22).stated_types refl) h),
        (named_brought m.resources s e.sort e.index h.0, tt),
      )

-- ---- whole components

-- a plan made so far, and the scope after it
record Reached (J : ℕ → Type 0) (base : ℕ) (imports : Entries) (plan : Plan) (m : Making) (behind : Scope) (s : Space) : Type 0 where
  known : Stepped J base plan m s
  made : Fits imports (link plan m) s
  scope : ScopeIs PlanIs behind s

module _ (J : ℕ → Type 0) (base : ℕ) (around : List Space) (outer : Around J base around) (outside' : List Scope) (scopes : Both (ScopeIs PlanIs) outside' around) (imports : Entries) where
  defined_known : (d : Definition) (scope : Scope) (m : Making) (s : Space) → IsValidDefinition around s d → Defines d → Within (after around s d).imports imports → ScopeIs PlanIs scope s → Fits imports m s → Known J base m.resources s
      → Stepped J base (planned_by scope s d) m (after around s d)
  defined_known (ACoreInstance i) scope m s v defines within p f h = core_instance_known J base scope i m s h
  defined_known (AnInstance i) scope m s v defines within p f h = instance_known J base around imports scope i m s p v f h
  defined_known (AnAlias a) scope m s v defines within p f h = alias_known J base around outer a m s v h
  defined_known (AType d) scope m s v defines within p f h = type_known J base around outer d m s v defines h
  defined_known (ACanon c) scope m s v defines within p f h = canon_known J base around c m s h
  defined_known (AnImport i) scope m s v defines within p f h = import_known J base around imports i m s v within f h
  defined_known (AnExport e) scope m s v defines within p f h = export_known J base around imports e m s v f h

  all_known : (ds : List Definition) (scope : Scope) (m : Making) (s : Space) → AreValid around s ds → DefineAll ds → Within (after_all around s ds).imports imports → ScopeIs PlanIs scope s → Fits imports m s → Known J base m.resources s
      → Reached J base imports (plan_all around outside' s scope ds).plan m (plan_all around outside' s scope ds).scope (after_all around s ds)
  all_known [] scope m s v defines within p f h = record { known = (h, tt); made = f; scope = p }
  all_known (d ∷ ds) scope m s v defines within p f h =
      let before : Within (after around s d).imports imports = then_within (after around s d).imports (after_all around (after around s d) ds).imports imports (all_within around (after around s d) ds) within in
      let first : Plan = planned_by scope s d in
      let one : Stepped J base first m (after around s d) = defined_known d scope m s v.0 defines.0 before p f h in
      let fits : Fits imports (link first m) (after around s d) = defined_fits imports around scope d m s (plans_fit scope.components s.components p) v.0 defines.0 before f in
      let rest = all_known ds (scope_after outside' scope d) (link first m) (after around s d) v.1 defines.1 within (scope_stays PlanIs around outside' scope s d scopes p) fits one.0 in
      let later : Plan = (plan_all around outside' (after around s d) (scope_after outside' scope d) ds).plan in
      record {
        known = (subst (λ (z : Making). Known J base z.resources (after_all around s (d ∷ ds))) (sym (link_followed first later m)) rest.known.0, followed_knows first later m one.1 rest.known.1);
        made = subst (λ z. Fits imports z (after_all around s (d ∷ ds))) (sym (link_followed first later m)) rest.made;
        scope = rest.scope;
      }

-- ---- a component in the component

module _ (J : ℕ → Type 0) (base : ℕ) where
  -- what is known as it begins
  abbrev Before : Making → ℕ → Type 0
  Before m r = IsBrought m.resources r ⊎ J r

  nested_around : (around : List Space) (m : Making) (s : Space) → Around J base around → Known J base m.resources s → Around (Before m) s.next (s ∷ around)
  nested_around around m s outer h = around_more J (Before m) base s around (record { behind = h.1.start; known = λ r j. inr j; new = new }) h.1 outer
    where
      new : (r : ℕ) → Apart J base r → Before m r → ⊥
      new r a (inl b) = not_both r base a.0 (h.2 r b)
      new r a (inr j) = a.1 j

  nested_start : (m : Making) (s : Space) → Known J base m.resources s → Known (Before m) s.next [] (entered s)
  nested_start m s h = (
    record { form = refl; start = omega arith; below = λ r b. absurd b; kinds = tt; funcs = tt; items = tt; out = tt; ins = tt; shown = tt; nested = tt },
    record { form = refl; start = omega arith; below = below; kinds = tt; funcs = tt; items = tt; out = tt; ins = tt; shown = tt; nested = tt },
    λ r b. absurd b,
  )
    where
      below : (r : ℕ) → IsBrought [] r ⊎ Before m r → r < s.next
      below r (inl b) = absurd b
      below r (inr known) = h.1.below r known

  -- what its exports name; K are some of what was known before
  component_names : (m : Making) (s inner : Space) (pairs : List (ℕ × ℕ)) → Known (Before m) s.next pairs inner → (K : ℕ → Type 0) → ((r : ℕ) → K r → Before m r) → ComponentNames K inner.next (nested_of inner)
  component_names m s inner pairs k K some =
      let c : NestedComponent = nested_of inner in
      let brings : Each (Brings c) (named_in inner.exports) = nested_brings inner k.0.shown in
      (item_carried (λ r. IsBrought pairs r ⊎ Before m r) (λ r. IsOwn c r ⊎ K r) inner.next inner.next (omega arith) new (InstanceItem inner.exports) k.1.out (each_then (Brings c) (λ r. IsOwn c r ⊎ K r) (λ r b. inl (brings_own c r b)) (named_in inner.exports) brings), brings)
    where
      own : (r : ℕ) → IsOwn (nested_of inner) r → IsBrought pairs r
      own r (inl is) = among_each (IsBrought pairs) (nested_of inner).own r is (nested_own (IsBrought pairs) inner (all_named (IsBrought pairs) inner.next inner.exports k.0.out))
      own r (inr is) = among_each (IsBrought pairs) (named_in inner.imports) r is (all_named (IsBrought pairs) inner.next inner.imports k.0.ins)

      new : (r : ℕ) → Apart (λ x. IsBrought pairs x ⊎ Before m x) inner.next r → IsOwn (nested_of inner) r ⊎ K r → ⊥
      new r a (inl is) = a.1 (inl (own r is))
      new r a (inr known) = a.1 (inr (some r known))

  nested_known : (m : Making) (s inner : Space) (plan : Plan) → IsPlanOf plan (nested_of inner) → Known J base m.resources s → ((whole : Whole) (given : Givens) → Has given inner.imports → Stepped (Before m) s.next plan (begun whole given) inner)
      → Known J base m.resources (and_nested s inner) × PlanIs plan (nested_of inner)
  nested_known m s inner plan fits h inside = ((with_nested (IsBrought m.resources) (λ r b. inl b) h.0, with_nested (Before m) (λ r known. known) h.1, h.2), (fits, each))
    where
      first : Stepped (Before m) s.next plan (begun m.whole (all_outside [] inner.imports)) inner
      first = inside m.whole (all_outside [] inner.imports) (outside_has [] inner.imports)

      with_nested : (P : ℕ → Type 0) → ((r : ℕ) → P r → Before m r) → Knows true base P s → Knows true base P (and_nested s inner)
      with_nested P some k =
          component_more P inner.next s (nested_of inner) (wider_knows P P s.next inner.next s (record { behind = first.0.0.start; known = λ r x. x; new = λ r a x. a.1 x }) (λ r x. less_then r s.next inner.next (k.below r x) first.0.0.start) k)
          (component_names m s inner (link plan (begun m.whole (all_outside [] inner.imports))).resources first.0 P some)

      each : (whole : Whole) (given : Givens) → Has given inner.imports → PlanKnows (λ r. r) plan (begun whole given) × Each (IsBrought (link plan (begun whole given)).resources) (nested_of inner).own
      each whole given has =
          let k : Stepped (Before m) s.next plan (begun whole given) inner = inside whole given has in
          let P : ℕ → Type 0 = IsBrought (link plan (begun whole given)).resources in
          (k.1, nested_own P inner (all_named P inner.next inner.exports k.0.0.out))

mutual
  part_known : (J : ℕ → Type 0) (base : ℕ) (around : List Space) → Around J base around → (outside' : List Scope) → Both (ScopeIs PlanIs) outside' around → (imports : Entries) (part : Part) (scope : Scope) (m : Making) (s : Space)
      → IsValidPart around s part → DefinesIn part → Within (after_part around s part).imports imports → ScopeIs PlanIs scope s → Fits imports m s → Known J base m.resources s
      → Reached J base imports (plan_part around outside' s scope part).plan m (plan_part around outside' s scope part).scope (after_part around s part)
  part_known J base around outer outside' scopes imports (CoreModule span k) scope m s v defines within p f h = record { known = (h, tt); made = f; scope = subst (λ z. Both PlanIs z s.components) (sym (module_scope scope (Some k))) p }
  part_known J base around outer outside' scopes imports (Nested span tree) scope m s v defines within p f h =
      let inner : Space = after_tree (s ∷ around) (entered s) tree in
      let plan : Plan = plan_tree (s ∷ around) (scope ∷ outside') (entered s) no_scope tree in
      let fits : IsPlanOf plan (nested_of inner) = λ whole given has.
      (tree_made (s ∷ around) (scope ∷ outside') (plans_fit scope.components s.components p, scopes_fit outside' around scopes) inner.imports tree no_scope (begun whole given) (entered s) v defines (λ name item e. e) tt (record { given = has; functions = tt; instances = tt; exports = tt })).exports in
      let k = nested_known J base m s inner plan fits h
      (λ whole given has. tree_known (λ r. IsBrought m.resources r ⊎ J r) s.next (s ∷ around) (nested_around J base around m s outer h) (scope ∷ outside') (p, scopes) inner.imports tree no_scope (begun whole given) (entered s) v defines
      (λ name item e. e) tt (record { given = has; functions = tt; instances = tt; exports = tt }) (nested_start J base m s h)) in
      record { known = (k.0, tt); made = f; scope = both_and PlanIs scope.components s.components plan (nested_of inner) p k.1 }
  part_known J base around outer outside' scopes imports (CoreInstances items) scope m s v defines within p f h = all_known J base around outer outside' scopes imports (definitions (CoreInstances items)) scope m s v (define_map ACoreInstance (λ a. tt) items) within p f h
  part_known J base around outer outside' scopes imports (Instances items) scope m s v defines within p f h = all_known J base around outer outside' scopes imports (definitions (Instances items)) scope m s v (define_map AnInstance (λ a. tt) items) within p f h
  part_known J base around outer outside' scopes imports (Aliases items) scope m s v defines within p f h = all_known J base around outer outside' scopes imports (definitions (Aliases items)) scope m s v (define_map AnAlias (λ a. tt) items) within p f h
  part_known J base around outer outside' scopes imports (Types items) scope m s v defines within p f h = all_known J base around outer outside' scopes imports (definitions (Types items)) scope m s v (define_types (grouped items) defines) within p f h
  part_known J base around outer outside' scopes imports (Canons items) scope m s v defines within p f h = all_known J base around outer outside' scopes imports (definitions (Canons items)) scope m s v (define_map ACanon (λ a. tt) items) within p f h
  part_known J base around outer outside' scopes imports (ImportsPart items) scope m s v defines within p f h = all_known J base around outer outside' scopes imports (definitions (ImportsPart items)) scope m s v (define_map AnImport (λ a. tt) items) within p f h
  part_known J base around outer outside' scopes imports (ExportsPart items) scope m s v defines within p f h = all_known J base around outer outside' scopes imports (definitions (ExportsPart items)) scope m s v (define_map AnExport (λ a. tt) items) within p f h
  part_known J base around outer outside' scopes imports (Custom span) scope m s v defines within p f h = record { known = (h, tt); made = f; scope = p }

  tree_known : (J : ℕ → Type 0) (base : ℕ) (around : List Space) → Around J base around → (outside' : List Scope) → Both (ScopeIs PlanIs) outside' around → (imports : Entries) (tree : Tree) (scope : Scope) (m : Making) (s : Space)
      → IsValidTree around s tree → DefinesTypes tree → Within (after_tree around s tree).imports imports → ScopeIs PlanIs scope s → Fits imports m s → Known J base m.resources s
      → Stepped J base (plan_tree around outside' s scope tree) m (after_tree around s tree)
  tree_known J base around outer outside' scopes imports NoParts scope m s v defines within p f h = (h, tt)
  tree_known J base around outer outside' scopes imports (Section part rest) scope m s v defines within p f h =
      let before : Within (after_part around s part).imports imports = then_within (after_part around s part).imports (after_tree around (after_part around s part) rest).imports imports (tree_within around (after_part around s part) rest) within in
      let one = part_known J base around outer outside' scopes imports part scope m s v.0 defines.0 before p f h in
      let reached = plan_part around outside' s scope part in
      let later : Plan = plan_tree around outside' (after_part around s part) reached.scope rest in
      let behind = tree_known J base around outer outside' scopes imports rest reached.scope (link reached.plan m) (after_part around s part) v.1 defines.1 within one.scope one.made one.known.0 in
      (subst (λ (z : Making). Known J base z.resources (after_tree around s (Section part rest))) (sym (link_followed reached.plan later m)) behind.0, followed_knows reached.plan later m one.known.1 behind.1)

pub names_known : ValidNamesKnown
names_known c valid defines =
    let imports : Entries = (after_tree [] root c).imports in
    (tree_known (λ r. ⊥) 0 [] tt [] tt imports c no_scope (unmade c) root valid defines (λ name item e. e) tt (record { given = outside_has [] imports; functions = tt; instances = tt; exports = tt }) (nothing_known, nothing_else, λ r b. absurd b)).1
  where
    nothing_known : Knows true 0 (IsBrought []) root
    nothing_known = record { form = refl; start = omega arith; below = λ r b. absurd b; kinds = tt; funcs = tt; items = tt; out = tt; ins = tt; shown = tt; nested = tt }

    nothing_else : Knows true 0 (λ r. IsBrought [] r ⊎ ⊥) root
    nothing_else = record { form = refl; start = omega arith; below = none; kinds = tt; funcs = tt; items = tt; out = tt; ins = tt; shown = tt; nested = tt }
      where
        none : (r : ℕ) → IsBrought [] r ⊎ ⊥ → r < 0
        none r (inl b) = absurd b
        none r (inr b) = absurd b
