-- The plan of a valid component is sound.
use Rattle.std.proofs.Common.{◌≡◌, ℕ, zero, suc, List, [], ◌∷◌, Option, Some, None, refl, sym, subst}
use Rattle.std.specs.Prelude.{slice_get}
use Rattle.wasm_ast.specs.declared.component.OuterSort.{OuterSort}
use Rattle.wasm_ast.specs.declared.component.OuterSort.TheVariants as outer_sorts
use Rattle.wasm_ast.specs.declared.component.Alias.TheVariants as aliases
use Rattle.core_validate.specs.declared.item.ModuleType.{ModuleType}
use Rattle.core_validate.specs.Typed.{type_of as module_type}
use Rattle.comp_types.specs.Items.{Entries}
use Rattle.comp_grammar.specs.Trees.{Part, Tree, CoreModule, Nested, CoreInstances, Instances, Aliases, Types, Canons, Imports, Exports, Custom, End as NoParts, More as Section}
use Rattle.comp_types.specs.Declarations.{grouped}
use Rattle.comp_types.specs.Definitions.{Definition, ACoreInstance, AnInstance, AnAlias, AType, ACanon, AnImport, AnExport, definitions}
use Rattle.comp_types.specs.Spaces.{Space}
use Rattle.comp_types.specs.Added.{and_outer, and_some_module, after, after_all, after_part, after_tree, entered, nested_of, root}
use Rattle.comp_types.specs.Validity.{AreValid, IsValidPart, IsValidTree}
use Rattle.comp_link.specs.Plans.{Plan, End, Then, Scope, no_scope, and_module, and_plan, followed, planned_by, and_outer as scope_and_outer, scope_after, plan_all, plan_part, plan_tree, plan_of}
use Rattle.comp_link.specs.Linking.{Givens, Whole, Making, begun, link_item, link}
use Rattle.comp_link.specs.Sections.{DefinesIn, DefinesTypes}
use Rattle.comp_link.proofs.Shapes.{Has}
use Rattle.comp_link.proofs.Kept.{Within, all_within, tree_within, then_within}
use Rattle.comp_link.proofs.ItemLaws.{Both, both_and, both_get, both_none, Fits}
use Rattle.comp_link.proofs.Made.{link_followed, IsPlanOf, ScopeIs, DefineAll, define_map, define_types, defined_fits, module_scope, scope_stays, outside_has}
use Rattle.comp_joins.specs.Counts.{CountsHoldIn, CountsHold}
use Rattle.comp_joins.specs.Sound.{IsSoundPlan, at_first, LinkingIsSound, LinkedIsSound}
use Rattle.comp_joins.proofs.Core.{places_in, core_of, CoreFits, both_map}
use Rattle.comp_joins.proofs.Kept.{with_outer_type, with_outer_component, with_instance, with_alias, core_alias_modules, canon_modules, with_import, with_export, with_declaration}
use Rattle.comp_joins.proofs.Steps.{IsModuleOf, IsSoundOf, defined_step}

sound_followed : (p q : Plan) (m : Making) → IsSoundPlan p m → IsSoundPlan q (link p m) → IsSoundPlan (followed p q) m
sound_followed End q m h k = k
sound_followed (Then item p) q m h k = (h.0, sound_followed p q (link_item item m) h.1 k)

-- ---- what can be named

abbrev AreModules : Scope → Space → Type 0
AreModules scope s = Both IsModuleOf scope.modules s.core_modules

-- a scope names what its index spaces say
record Names (scope : Scope) (s : Space) : Type 0 where
  fits : (ScopeIs IsPlanOf) scope s
  sound : ScopeIs IsSoundOf scope s
  modules : AreModules scope s

plan_modules : (scope : Scope) (o : Option Plan) → (and_plan scope o).modules ≡ scope.modules
plan_modules scope None = refl
plan_modules scope (Some plan) = refl

abbrev OuterModules : Option Scope → Option Space → Type 0
OuterModules None None = Unit {0}
OuterModules (Some scope) (Some s) = AreModules scope s
OuterModules _ _ = ⊥

outer_there : (scopes : List Scope) (spaces : List Space) (i : ℕ) → Both AreModules scopes spaces → OuterModules (slice_get scopes i) (slice_get spaces i)
outer_there [] [] i h = tt
outer_there (o ∷ scopes) (s ∷ spaces) zero h = h.0
outer_there (o ∷ scopes) (s ∷ spaces) (suc i) h = outer_there scopes spaces i h.1
outer_there [] (s ∷ spaces) i h = absurd h
outer_there (o ∷ scopes) [] i h = absurd h

outer_modules : (scope : Scope) (s : Space) (sort : OuterSort) (index : ℕ) (o : Option Scope) (t : Option Space) → AreModules scope s → OuterModules o t → AreModules (scope_and_outer scope sort o index) (and_outer s sort t index)
outer_modules scope s outer_sorts.Type index o t h f = subst (Both IsModuleOf scope.modules) (sym (with_outer_type s t index).modules) h
outer_modules scope s outer_sorts.Component index None None h f = h
outer_modules scope s outer_sorts.Component index (Some o) (Some t) h f =
    subst (Both IsModuleOf (and_plan scope (slice_get o.components index)).modules) (sym (with_outer_component s (Some t) index).modules)
    (subst (λ z. Both IsModuleOf z s.core_modules) (sym (plan_modules scope (slice_get o.components index))) h)
outer_modules scope s outer_sorts.CoreModule index None None h f = h
outer_modules scope s outer_sorts.CoreModule index (Some o) (Some t) h f = go (slice_get t.core_modules index) refl
  where
    go : (c : Option ModuleType) → slice_get t.core_modules index ≡ c → AreModules (and_module scope (slice_get o.modules index)) (and_some_module s c)
    go None e = subst (λ z. AreModules (and_module scope z) s) (sym (both_none IsModuleOf o.modules t.core_modules index f e)) h
    go (Some ty) e =
        let m = both_get IsModuleOf o.modules t.core_modules index ty f e in
        subst (λ z. AreModules (and_module scope z) (and_some_module s (Some ty))) (sym m.1) (both_and IsModuleOf scope.modules s.core_modules m.0 ty h m.2)
outer_modules scope s outer_sorts.Component index None (Some t) h f = absurd f
outer_modules scope s outer_sorts.Component index (Some o) None h f = absurd f
outer_modules scope s outer_sorts.CoreModule index None (Some t) h f = absurd f
outer_modules scope s outer_sorts.CoreModule index (Some o) None h f = absurd f

modules_after : (around : List Space) (outside' : List Scope) (scope : Scope) (s : Space) (d : Definition) → Both AreModules outside' around → AreModules scope s → AreModules (scope_after outside' scope d) (after around s d)
modules_after around outside' scope s (AnAlias (aliases.Outer sort count index)) scopes h = outer_modules scope s sort index (slice_get (scope ∷ outside') count) (slice_get (s ∷ around) count) h (outer_there (scope ∷ outside') (s ∷ around) count (h, scopes))
modules_after around outside' scope s (AnAlias (aliases.Export sort i name)) scopes h = subst (Both IsModuleOf scope.modules) (sym (with_alias around s sort i name).modules) h
modules_after around outside' scope s (AnAlias (aliases.CoreExport sort i name)) scopes h = subst (Both IsModuleOf scope.modules) (sym (core_alias_modules around s sort i name)) h
modules_after around outside' scope s (ACoreInstance i) scopes h = h
modules_after around outside' scope s (AnInstance i) scopes h = subst (Both IsModuleOf scope.modules) (sym (with_instance around s i).modules) h
modules_after around outside' scope s (AType d) scopes h = subst (Both IsModuleOf scope.modules) (sym (with_declaration around s d).modules) h
modules_after around outside' scope s (ACanon c) scopes h = subst (Both IsModuleOf scope.modules) (sym (canon_modules around s c)) h
modules_after around outside' scope s (AnImport i) scopes h = subst (Both IsModuleOf scope.modules) (sym (with_import around s i.name i.desc).modules) h
modules_after around outside' scope s (AnExport e) scopes h = subst (Both IsModuleOf scope.modules) (sym (with_export around s e).modules) h

names_after : (around : List Space) (outside' : List Scope) (scope : Scope) (s : Space) (d : Definition) → Both Names outside' around → Names scope s → Names (scope_after outside' scope d) (after around s d)
names_after around outside' scope s d scopes h = record {
  fits = scope_stays IsPlanOf around outside' scope s d (both_map Names (ScopeIs IsPlanOf) (λ x y n. n.fits) outside' around scopes) h.fits;
  sound = scope_stays IsSoundOf around outside' scope s d (both_map Names (ScopeIs IsSoundOf) (λ x y n. n.sound) outside' around scopes) h.sound;
  modules = modules_after around outside' scope s d (both_map Names AreModules (λ x y n. n.modules) outside' around scopes) h.modules;
}

-- ---- whole components

-- a plan made so far, and the scope after it
record Reaches (imports : Entries) (plan : Plan) (m : Making) (behind : Scope) (s : Space) : Type 0 where
  sound : IsSoundPlan plan m
  made : Fits imports (link plan m) s
  core : CoreFits (places_in (link plan m)) (core_of s)
  names : Names behind s

module _ (around : List Space) (outside' : List Scope) (scopes : Both Names outside' around) (imports : Entries) where
  all_sound : (ds : List Definition) (scope : Scope) (m : Making) (s : Space) → AreValid around s ds → DefineAll ds → Within (after_all around s ds).imports imports → Names scope s → Fits imports m s → CoreFits (places_in m) (core_of s)
      → Reaches imports (plan_all around outside' s scope ds).plan m (plan_all around outside' s scope ds).scope (after_all around s ds)
  all_sound [] scope m s v defines within n h c = record { sound = tt; made = h; core = c; names = n }
  all_sound (d ∷ ds) scope m s v defines within n h c =
      let before : Within (after around s d).imports imports = then_within (after around s d).imports (after_all around (after around s d) ds).imports imports (all_within around (after around s d) ds) within in
      let plan : Plan = planned_by scope s d in
      let one = defined_step scope m s c imports h around d n.sound n.modules v.0 before in
      let fits = defined_fits imports around scope d m s n.fits v.0 defines.0 before h in
      let rest = all_sound ds (scope_after outside' scope d) (link plan m) (after around s d) v.1 defines.1 within (names_after around outside' scope s d scopes n) fits one.core in
      let later : Plan = (plan_all around outside' (after around s d) (scope_after outside' scope d) ds).plan in
      record {
        sound = sound_followed plan later m one.sound rest.sound;
        made = subst (λ z. Fits imports z (after_all around s (d ∷ ds))) (sym (link_followed plan later m)) rest.made;
        core = subst (λ z. CoreFits (places_in z) (core_of (after_all around s (d ∷ ds)))) (sym (link_followed plan later m)) rest.core;
        names = rest.names;
      }

-- a whole plan
record IsWhole (imports : Entries) (plan : Plan) (m : Making) (s : Space) : Type 0 where
  sound : IsSoundPlan plan m
  made : Fits imports (link plan m) s

mutual
  part_sound : (around : List Space) (outside' : List Scope) → Both Names outside' around → (imports : Entries) (part : Part) (scope : Scope) (m : Making) (s : Space) → IsValidPart around s part → DefinesIn part → CountsHoldIn part
      → Within (after_part around s part).imports imports → Names scope s → Fits imports m s → CoreFits (places_in m) (core_of s) → Reaches imports (plan_part around outside' s scope part).plan m (plan_part around outside' s scope part).scope (after_part around s part)
  part_sound around outside' scopes imports (CoreModule span k) scope m s v defines counts within n h c = record {
    sound = tt;
    made = h;
    core = c;
    names = record {
      fits = subst (λ z. Both IsPlanOf z s.components) (sym (module_scope scope (Some k))) n.fits;
      sound = subst (λ z. Both IsSoundOf z s.components) (sym (module_scope scope (Some k))) n.sound;
      modules = both_and IsModuleOf scope.modules s.core_modules k (module_type k) n.modules (record { is = refl; valid = v; counts = counts });
    };
  }
  part_sound around outside' scopes imports (Nested span tree) scope m s v defines counts within n h c =
      let inner : Space = after_tree (s ∷ around) (entered s) tree in
      let plan : Plan = plan_tree (s ∷ around) (scope ∷ outside') (entered s) no_scope tree in
      let nothing : Names no_scope (entered s) = record { fits = tt; sound = tt; modules = tt } in
      let whole = λ (w : Whole) (given : Givens) (has : Has given inner.imports).
      tree_sound (s ∷ around) (scope ∷ outside') (n, scopes) inner.imports tree no_scope (begun w given) (entered s) v defines counts (λ name item e. e) nothing
      (record { given = has; functions = tt; instances = tt; exports = tt }) (record { functions = tt; tables = tt; memories = tt; globals = tt; instances = tt }) in
      record {
        sound = tt;
        made = h;
        core = c;
        names = record {
          fits = both_and IsPlanOf scope.components s.components plan (nested_of inner) n.fits (λ w given has. (whole w given has).made.exports);
          sound = both_and IsSoundOf scope.components s.components plan (nested_of inner) n.sound (λ w given has. (whole w given has).sound);
          modules = n.modules;
        };
      }
  part_sound around outside' scopes imports (CoreInstances items) scope m s v defines counts within n h c = all_sound around outside' scopes imports (definitions (CoreInstances items)) scope m s v (define_map ACoreInstance (λ a. tt) items) within n h c
  part_sound around outside' scopes imports (Instances items) scope m s v defines counts within n h c = all_sound around outside' scopes imports (definitions (Instances items)) scope m s v (define_map AnInstance (λ a. tt) items) within n h c
  part_sound around outside' scopes imports (Aliases items) scope m s v defines counts within n h c = all_sound around outside' scopes imports (definitions (Aliases items)) scope m s v (define_map AnAlias (λ a. tt) items) within n h c
  part_sound around outside' scopes imports (Types items) scope m s v defines counts within n h c = all_sound around outside' scopes imports (definitions (Types items)) scope m s v (define_types (grouped items) defines) within n h c
  part_sound around outside' scopes imports (Canons items) scope m s v defines counts within n h c = all_sound around outside' scopes imports (definitions (Canons items)) scope m s v (define_map ACanon (λ a. tt) items) within n h c
  part_sound around outside' scopes imports (Imports items) scope m s v defines counts within n h c = all_sound around outside' scopes imports (definitions (Imports items)) scope m s v (define_map AnImport (λ a. tt) items) within n h c
  part_sound around outside' scopes imports (Exports items) scope m s v defines counts within n h c = all_sound around outside' scopes imports (definitions (Exports items)) scope m s v (define_map AnExport (λ a. tt) items) within n h c
  part_sound around outside' scopes imports (Custom span) scope m s v defines counts within n h c = record { sound = tt; made = h; core = c; names = n }

  tree_sound : (around : List Space) (outside' : List Scope) → Both Names outside' around → (imports : Entries) (tree : Tree) (scope : Scope) (m : Making) (s : Space) → IsValidTree around s tree → DefinesTypes tree → CountsHold tree
      → Within (after_tree around s tree).imports imports → Names scope s → Fits imports m s → CoreFits (places_in m) (core_of s) → IsWhole imports (plan_tree around outside' s scope tree) m (after_tree around s tree)
  tree_sound around outside' scopes imports NoParts scope m s v defines counts within n h c = record { sound = tt; made = h }
  tree_sound around outside' scopes imports (Section part rest) scope m s v defines counts within n h c =
      let before : Within (after_part around s part).imports imports = then_within (after_part around s part).imports (after_tree around (after_part around s part) rest).imports imports (tree_within around (after_part around s part) rest) within in
      let one = part_sound around outside' scopes imports part scope m s v.0 defines.0 counts.0 before n h c in
      let reached = plan_part around outside' s scope part in
      let later : Plan = plan_tree around outside' (after_part around s part) reached.scope rest in
      let more = tree_sound around outside' scopes imports rest reached.scope (link reached.plan m) (after_part around s part) v.1 defines.1 counts.1 within one.names one.made one.core in
      record {
        sound = sound_followed reached.plan later m one.sound more.sound;
        made = subst (λ z. Fits imports z (after_tree around s (Section part rest))) (sym (link_followed reached.plan later m)) more.made;
      }

pub linking_sound : LinkingIsSound
linking_sound c valid defines counts =
    let imports : Entries = (after_tree [] root c).imports in
    (tree_sound [] [] tt imports c no_scope (at_first imports) root valid defines counts (λ name item e. e) (record { fits = tt; sound = tt; modules = tt })
    (record { given = outside_has [] imports; functions = tt; instances = tt; exports = tt }) (record { functions = tt; tables = tt; memories = tt; globals = tt; instances = tt })).sound

pub linked_sound : LinkedIsSound
linked_sound c linked valid defines counts plan imports =
    subst (λ p. IsSoundPlan p (at_first linked.imports)) (sym plan) (subst (λ i. IsSoundPlan (plan_of c) (at_first i)) (sym imports) (linking_sound c valid defines counts))
