-- The plan of a component inside another one.
use Rattle.std.proofs.Common.{◌≡◌, ℕ, ◌+◌, List, [], ◌∷◌, ◌++◌, map, length, Option, Some, None, true, refl, sym, ◌∙◌, ap, subst, arith}
use Rattle.std.specs.Prelude.{slice_get}
use Rattle.std.specs.Option.{option_map}
use Rattle.std.proofs.Math.Path.{ap₂}
use Rattle.std.proofs.lemmas.List.{map-append}
use Rattle.std.proofs.lemmas.Option.{slice_get-map}
use Rattle.wasm_ast.specs.declared.module.Module.{Module}
use Rattle.wasm_ast.specs.declared.component.CoreInstance.{CoreInstance}
use Rattle.wasm_ast.specs.declared.component.CoreInstance.TheVariants as core_instances
use Rattle.wasm_ast.specs.declared.component.Sort.{Sort}
use Rattle.wasm_ast.specs.declared.component.Sort.TheVariants as sorts
use Rattle.wasm_ast.specs.declared.component.NamedItem.{NamedItem}
use Rattle.wasm_ast.specs.declared.component.Instance.{Instance}
use Rattle.wasm_ast.specs.declared.component.Instance.TheVariants as instances
use Rattle.wasm_ast.specs.declared.component.OuterSort.{OuterSort}
use Rattle.wasm_ast.specs.declared.component.OuterSort.TheVariants as outer_sorts
use Rattle.wasm_ast.specs.declared.component.Alias.{Alias}
use Rattle.wasm_ast.specs.declared.component.Alias.TheVariants as aliases
use Rattle.wasm_ast.specs.declared.component.ExternDesc.{ExternDesc}
use Rattle.wasm_ast.specs.declared.component.TypeDef.TheVariants as defs
use Rattle.wasm_ast.specs.declared.component.Canon.{Canon}
use Rattle.wasm_ast.specs.declared.component.Canon.TheVariants as canons
use Rattle.comp_types.specs.Substitution.{func_with, item_with}
use Rattle.comp_grammar.specs.Trees.{Part, Tree, CoreModule, Nested, CoreInstances, Instances, Aliases, Types, Canons, Imports as ImportsPart, Exports as ExportsPart, Custom, End as NoParts, More as Section}
use Rattle.comp_types.specs.Declarations.{Declaration, ATypeDef, AnInstanceType, ATypeAlias, ATypeExport}
use Rattle.comp_types.specs.Definitions.{Definition, ACoreInstance, AnInstance, AnAlias, AType, ACanon, AnImport, AnExport, definitions}
use Rattle.comp_types.specs.Spaces.{Space, NestedComponent, empty_space, kind_at}
use Rattle.comp_types.specs.Types.{func_in, resource_in}
use Rattle.comp_types.specs.Added.{described, lowered_at, after, after_part, after_tree, entered, root}
use Rattle.comp_link.specs.Plans.{Plan, Planned, End, Then, OfModule, OfComponent, OfItems, Lifts, Lowers, MakesResource, DropsResource, ReadsResource, Imports, Exports, Scope, no_scope, and_plan, and_module, if_some, just, followed, resource_or_type, named_by, named_args, of_core_instance, own_numbers, of_instance, of_alias, of_type, of_canon, planned_by, and_outer, scope_after, Reached, behind, plan_all, plan_part, plan_tree}
use Rattle.comp_inside.specs.Later.{later, pair_later, nested_later, space_later, named_later, arg_later, planned_later, plan_later, Defines, DefineAll, Stays, StaysWhole, SpacesInside, PlannedInside}
use Rattle.comp_inside.proofs.Numbers.{got_within, numbered_later}
use Rattle.comp_inside.proofs.Spaces.{one_more, kind_at_later, func_in_later, resource_in_later, described_later, lowered_later, after_later, part_later, tree_later}

module _ (k : ℕ) where
  abbrev scope_later : Scope → Scope
  scope_later scope = record { modules = scope.modules; components = map (plan_later k) scope.components }

  abbrev reached_later : Reached → Reached
  reached_later r = record { plan = plan_later k r.plan; scope = scope_later r.scope }

  followed_later : (p q : Plan) → followed (plan_later k p) (plan_later k q) ≡ plan_later k (followed p q)
  followed_later End q = refl
  followed_later (Then item p) q = ap (Then (planned_later k item)) (followed_later p q)

  -- ---- scopes

  and_plan_later : (scope : Scope) (o : Option Plan) → and_plan (scope_later scope) (option_map (plan_later k) o) ≡ scope_later (and_plan scope o)
  and_plan_later scope None = refl
  and_plan_later scope (Some plan) = ap (λ z. record (scope_later scope) { components = z }) (sym (map-append (plan_later k) scope.components (plan ∷ [])))

  and_module_later : (scope : Scope) (o : Option Module) → and_module (scope_later scope) o ≡ scope_later (and_module scope o)
  and_module_later scope None = refl
  and_module_later scope (Some m) = refl

  outer_later : (scope : Scope) (sort : OuterSort) (o : Option Scope) (index : ℕ) → and_outer (scope_later scope) sort (option_map scope_later o) index ≡ scope_later (and_outer scope sort o index)
  outer_later scope outer_sorts.CoreModule None index = refl
  outer_later scope outer_sorts.CoreModule (Some o) index = and_module_later scope (slice_get o.modules index)
  outer_later scope outer_sorts.Component None index = refl
  outer_later scope outer_sorts.Component (Some o) index = ap (and_plan (scope_later scope)) (slice_get-map (plan_later k) o.components index) ∙ and_plan_later scope (slice_get o.components index)
  outer_later scope outer_sorts.Type o index = refl

  -- ---- what a definition plans

  some_later : {A B : Type 0} → (f : A → Planned) (f' : B → Planned) (g : A → B) (o : Option A) → ((a : A) → f' (g a) ≡ planned_later k (f a)) → if_some f' (option_map g o) ≡ plan_later k (if_some f o)
  some_later f f' g None same = refl
  some_later f f' g (Some a) same = ap (λ item. Then item End) (same a)

  core_instance_later : (scope : Scope) (i : CoreInstance) → of_core_instance (scope_later scope) i ≡ plan_later k (of_core_instance scope i)
  core_instance_later scope (core_instances.Instantiate m args) = go (slice_get scope.modules m)
    where
      go : (o : Option Module) → if_some (λ module'. OfModule module' args) o ≡ plan_later k (if_some (λ module'. OfModule module' args) o)
      go None = refl
      go (Some module') = refl
  core_instance_later scope (core_instances.Inline exports) = refl

  own_later : (s : Space) (o : Option NestedComponent) → own_numbers (space_later k s) (option_map (nested_later k) o) ≡ map (pair_later k) (own_numbers s o)
  own_later s None = refl
  own_later s (Some c) = numbered_later k c.own s.next

  type_named_later : (o : Option ℕ) → resource_or_type (option_map (later k) o) ≡ named_later k (resource_or_type o)
  type_named_later None = refl
  type_named_later (Some r) = refl

  resource_at_later : (s : Space) (i : ℕ) → resource_in (kind_at (space_later k s) i) ≡ option_map (later k) (resource_in (kind_at s i))
  resource_at_later s i = ap resource_in (kind_at_later k s i) ∙ resource_in_later k (kind_at s i)

  named_by_later : (s : Space) (sort : Sort) (index : ℕ) → named_by (space_later k s) sort index ≡ named_later k (named_by s sort index)
  named_by_later s sorts.Func index = refl
  named_by_later s sorts.Instance index = refl
  named_by_later s sorts.Type index = ap resource_or_type (resource_at_later s index) ∙ type_named_later (resource_in (kind_at s index))

  args_later : (s : Space) (es : List NamedItem) → named_args (space_later k s) es ≡ map (arg_later k) (named_args s es)
  args_later s [] = refl
  args_later s (e ∷ es) = ap₂ (λ item rest. record { name = e.name; item = item } ∷ rest) (named_by_later s e.sort e.index) (args_later s es)

  instance_later : (scope : Scope) (s : Space) (i : Instance) → of_instance (scope_later scope) (space_later k s) i ≡ plan_later k (of_instance scope s i)
  instance_later scope s (instances.Instantiate c args) =
      ap (if_some (λ plan. OfComponent plan (own_numbers (space_later k s) (slice_get (space_later k s).components c)) (named_args (space_later k s) args))) (slice_get-map (plan_later k) scope.components c)
      ∙ some_later (λ plan. OfComponent plan (own_numbers s (slice_get s.components c)) (named_args s args)) (λ plan. OfComponent plan (own_numbers (space_later k s) (slice_get (space_later k s).components c)) (named_args (space_later k s) args)) (plan_later k) (slice_get scope.components c)
      (λ plan. ap₂ (OfComponent (plan_later k plan)) (ap (own_numbers (space_later k s)) (slice_get-map (nested_later k) s.components c) ∙ own_later s (slice_get s.components c)) (args_later s args))
  instance_later scope s (instances.Inline exports) = ap (λ es. just (OfItems es)) (args_later s exports)

  alias_later : (a : Alias) → of_alias a ≡ plan_later k (of_alias a)
  alias_later (aliases.Export sort instance name) = refl
  alias_later (aliases.CoreExport sort instance name) = refl
  alias_later (aliases.Outer sort count index) = refl

  type_later : (s : Space) (d : Declaration) → of_type (space_later k s) d ≡ plan_later k (of_type s d)
  type_later s (ATypeDef (defs.Primitive p)) = refl
  type_later s (ATypeDef (defs.Record fields)) = refl
  type_later s (ATypeDef (defs.Variant cases)) = refl
  type_later s (ATypeDef (defs.List item)) = refl
  type_later s (ATypeDef (defs.Tuple types)) = refl
  type_later s (ATypeDef (defs.Flags labels)) = refl
  type_later s (ATypeDef (defs.Enum labels)) = refl
  type_later s (ATypeDef (defs.Option item)) = refl
  type_later s (ATypeDef (defs.Result ok err)) = refl
  type_later s (ATypeDef (defs.Own i)) = refl
  type_later s (ATypeDef (defs.Borrow i)) = refl
  type_later s (ATypeDef (defs.Func params result)) = refl
  type_later s (ATypeDef (defs.Instance declarations)) = refl
  type_later s (ATypeDef (defs.Resource destructor)) = refl
  type_later s (AnInstanceType ds) = refl
  type_later s (ATypeAlias a) = refl
  type_later s (ATypeExport name desc) = refl

  canon_later : (s : Space) (c : Canon) → of_canon (space_later k s) c ≡ plan_later k (of_canon s c)
  canon_later s (canons.Lift func options ty) = ap (λ f. just (Lifts func options f)) (ap func_in (kind_at_later k s ty) ∙ func_in_later k (kind_at s ty))
  canon_later s (canons.Lower func options) = ap (λ ty. just (Lowers func options ty)) (ap lowered_at (slice_get-map (func_with (later k)) s.functions func) ∙ lowered_later k (slice_get s.functions func))
  canon_later s (canons.ResourceNew ty) = ap (if_some MakesResource) (resource_at_later s ty) ∙ some_later MakesResource MakesResource (later k) (resource_in (kind_at s ty)) (λ r. refl)
  canon_later s (canons.ResourceDrop ty) = ap (if_some DropsResource) (resource_at_later s ty) ∙ some_later DropsResource DropsResource (later k) (resource_in (kind_at s ty)) (λ r. refl)
  canon_later s (canons.ResourceRep ty) = ap (if_some ReadsResource) (resource_at_later s ty) ∙ some_later ReadsResource ReadsResource (later k) (resource_in (kind_at s ty)) (λ r. refl)

  stated_later : (s : Space) (o : Option ExternDesc) → option_map (described (space_later k s)) o ≡ option_map (item_with (later k)) (option_map (described s) o)
  stated_later s None = refl
  stated_later s (Some desc) = ap Some (described_later k s desc)

  planned_by_later : (scope : Scope) (s : Space) (d : Definition) → planned_by (scope_later scope) (space_later k s) d ≡ plan_later k (planned_by scope s d)
  planned_by_later scope s (ACoreInstance i) = core_instance_later scope i
  planned_by_later scope s (AnInstance i) = instance_later scope s i
  planned_by_later scope s (AnAlias a) = alias_later a
  planned_by_later scope s (AType d) = type_later s d
  planned_by_later scope s (ACanon c) = canon_later s c
  planned_by_later scope s (AnImport i) = ap (λ item. just (Imports i.name item)) (described_later k s i.desc)
  planned_by_later scope s (AnExport e) = ap₂ (λ item stated. just (Exports e.name item stated)) (named_by_later s e.sort e.index) (stated_later s e.desc)

  -- ---- whole plans

  module _ (around : List Space) (outside : List Scope) where
    abbrev spaces : List Space → List Space
    spaces own = map (space_later k) own ++ around

    abbrev scopes : List Scope → List Scope
    scopes ownp = map scope_later ownp ++ outside

    scope_after_later : (ownp : List Scope) (scope : Scope) (d : Definition) → Defines (length ownp + 1) d → scope_after (scopes ownp) (scope_later scope) d ≡ scope_later (scope_after ownp scope d)
    scope_after_later ownp scope (AnAlias (aliases.Outer sort count index)) stays =
        ap (λ o. and_outer (scope_later scope) sort o index) (got_within scope_later (scope ∷ ownp) outside count (omega (arith, stays))) ∙ outer_later scope sort (slice_get (scope ∷ ownp) count) index
    scope_after_later ownp scope (AnAlias (aliases.Export sort instance name)) stays = refl
    scope_after_later ownp scope (AnAlias (aliases.CoreExport sort instance name)) stays = refl
    scope_after_later ownp scope (ACoreInstance i) stays = refl
    scope_after_later ownp scope (AnInstance i) stays = refl
    scope_after_later ownp scope (AType d) stays = refl
    scope_after_later ownp scope (ACanon c) stays = refl
    scope_after_later ownp scope (AnImport i) stays = refl
    scope_after_later ownp scope (AnExport e) stays = refl

    behind_later : (p : Plan) (r : Reached) → behind (plan_later k p) (reached_later r) ≡ reached_later (behind p r)
    behind_later p r = ap (λ plan. record { plan = plan; scope = scope_later r.scope }) (followed_later p r.plan)

    all_planned : (own : List Space) (ownp : List Scope) → length ownp ≡ length own → (s : Space) (scope : Scope) (ds : List Definition) → DefineAll (length own + 1) ds → plan_all (spaces own) (scopes ownp) (space_later k s) (scope_later scope) ds ≡ reached_later (plan_all own ownp s scope ds)
    all_planned own ownp as_many s scope [] stays = refl
    all_planned own ownp as_many s scope (d ∷ ds) stays =
        ap₂ (λ s' scope'. behind (planned_by (scope_later scope) (space_later k s) d) (plan_all (spaces own) (scopes ownp) s' scope' ds)) (after_later k around own s d stays.0)
        (scope_after_later ownp scope d (subst (λ n. Defines (n + 1) d) (sym as_many) stays.0))
        ∙ ap₂ behind (planned_by_later scope s d) (all_planned own ownp as_many (after own s d) (scope_after ownp scope d) ds stays.1)
        ∙ behind_later (planned_by scope s d) (plan_all own ownp (after own s d) (scope_after ownp scope d) ds)

    abbrev nested_reached : Scope → Plan → Reached
    nested_reached scope plan = record { plan = End; scope = and_plan scope (Some plan) }

    mutual
      part_planned : (own : List Space) (ownp : List Scope) → length ownp ≡ length own → (s : Space) (scope : Scope) (part : Part) → Stays (length own + 1) part → plan_part (spaces own) (scopes ownp) (space_later k s) (scope_later scope) part ≡ reached_later (plan_part own ownp s scope part)
      part_planned own ownp as_many s scope (CoreModule span m) stays = refl
      part_planned own ownp as_many s scope (Nested span tree) stays =
          ap (nested_reached (scope_later scope)) (tree_planned (s ∷ own) (scope ∷ ownp) (let q : length (scope ∷ ownp) ≡ length (s ∷ own) = omega (arith, as_many) in q) (entered s) no_scope tree (one_more own s tree stays))
          ∙ ap (λ sc. record { plan = End; scope = sc }) (and_plan_later scope (Some (plan_tree (s ∷ own) (scope ∷ ownp) (entered s) no_scope tree)))
      part_planned own ownp as_many s scope (CoreInstances items) stays = all_planned own ownp as_many s scope (definitions (CoreInstances items)) stays
      part_planned own ownp as_many s scope (Instances items) stays = all_planned own ownp as_many s scope (definitions (Instances items)) stays
      part_planned own ownp as_many s scope (Aliases items) stays = all_planned own ownp as_many s scope (definitions (Aliases items)) stays
      part_planned own ownp as_many s scope (Types items) stays = all_planned own ownp as_many s scope (definitions (Types items)) stays
      part_planned own ownp as_many s scope (Canons items) stays = all_planned own ownp as_many s scope (definitions (Canons items)) stays
      part_planned own ownp as_many s scope (ImportsPart items) stays = all_planned own ownp as_many s scope (definitions (ImportsPart items)) stays
      part_planned own ownp as_many s scope (ExportsPart items) stays = all_planned own ownp as_many s scope (definitions (ExportsPart items)) stays
      part_planned own ownp as_many s scope (Custom span) stays = refl

      tree_planned : (own : List Space) (ownp : List Scope) → length ownp ≡ length own → (s : Space) (scope : Scope) (tree : Tree) → StaysWhole (length own + 1) tree → plan_tree (spaces own) (scopes ownp) (space_later k s) (scope_later scope) tree ≡ plan_later k (plan_tree own ownp s scope tree)
      tree_planned own ownp as_many s scope NoParts stays = refl
      tree_planned own ownp as_many s scope (Section part rest) stays =
          ap₂ (λ (r : Reached) s'. followed r.plan (plan_tree (spaces own) (scopes ownp) s' r.scope rest)) (part_planned own ownp as_many s scope part stays.0) (part_later k around own s part stays.0)
          ∙ ap (followed (plan_later k (plan_part own ownp s scope part).plan)) (tree_planned own ownp as_many (after_part own s part) (plan_part own ownp s scope part).scope rest stays.1)
          ∙ followed_later (plan_part own ownp s scope part).plan (plan_tree own ownp (after_part own s part) (plan_part own ownp s scope part).scope rest)

pub spaces_inside : SpacesInside
spaces_inside around k c stays = ap (λ n. after_tree around (empty_space true n) c) (let q : k ≡ k + 0 = omega arith in q) ∙ tree_later k around [] root c stays

pub planned_inside : PlannedInside
planned_inside around outside k c stays = ap (λ n. plan_tree around outside (empty_space true n) no_scope c) (let q : k ≡ k + 0 = omega arith in q) ∙ tree_planned k around outside [] [] refl root no_scope c stays
