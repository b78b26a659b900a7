-- Modules, sections of types and outer aliases: what is valid breaks nothing, and a draft names one more.
use Rattle.std.proofs.Common.{◌≡◌, ◌∙◌, ap, sym, subst, refl, inl, ℕ, List, [], ◌∷◌, ◌++◌, map, Option, Some, None, slice_get}
use Rattle.std.specs.Prelude.{option_map, option_to_list}
use Rattle.std.specs.Option.{option_and_then}
use Rattle.std.proofs.lemmas.Option.{slice_get-map}
use Rattle.core_validate.specs.Validity.{IsValidModule}
use Rattle.wasm_ast.specs.Boxed.{Held}
use Rattle.wasm_ast.specs.declared.module.Module.{Module}
use Rattle.wasm_ast.specs.declared.component.Span.{Span}
use Rattle.wasm_ast.specs.declared.component.TypeItem.{TypeItem}
use Rattle.comp_grammar.specs.Trees.{CoreModule, Types, End as NoParts, More as Section}
use Rattle.comp_types.specs.Declarations.{grouped}
use Rattle.comp_types.specs.Definitions.{types_in}
use Rattle.comp_types.specs.Spaces.{Space, NestedComponent}
use Rattle.comp_types.specs.Added.{after_part, after_all}
use Rattle.comp_types.specs.Validity.{AreValid}
use Rattle.comp_types.proofs.VerdictLaws.{sound_tree}
use Rattle.comp_defining.specs.declared.scopes.Scopes.{Scopes}
use Rattle.comp_defining.specs.Around.{StandAll}
use Rattle.comp_defining.specs.Judged.{JudgedEach}
use Rattle.comp_validate.specs.Judged.{JudgedPart}
use Rattle.comp_link.specs.Plans.{Plan, Scope, and_module, and_plan}
use Rattle.comp_link.specs.Planned.{PlannedComponent, plan_items}
use Rattle.comp_linking.specs.declared.draft.Draft.{Draft}
use Rattle.comp_linking.specs.Drafts.{module_at, plan_at, own_at, IsDraft}
use Rattle.comp_linking.specs.Walks.{At}
use Rattle.comp_linking.specs.Names.{AreNamed, AreOne, outer_module, outer_plan, outer_known}
use Rattle.comp_linking.proofs.NameLemmas.{both_behind, modules_with, modules_keep_components, components_with, components_keep_modules}

pub module_stands : (around : List Space) (s : Space) (span : Span) (m : Module) (x : Scopes) (rule : Option ℕ) → IsValidModule m → JudgedPart around s (CoreModule span m) x rule → StandAll around (after_part around s (CoreModule span m)) x
module_stands around s span m x None valid h = h.1
module_stands around s span m x (Some rule) valid h = absurd (h.1 valid)

pub types_stand : (around : List Space) (s : Space) (items : List TypeItem) (x : Scopes) (rule : Option ℕ) → AreValid around s (types_in (grouped items)) → JudgedEach around s (types_in (grouped items)) x rule → StandAll around (after_all around s (types_in (grouped items))) x
types_stand around s items x None valid h = h.1
types_stand around s items x (Some rule) valid h = absurd (sound_tree around s (Section (Types items) NoParts) rule 0 (valid, tt) (inl (refl, h)))

-- ---- one module more

pub module_more : (ms : List (Held Module)) (cs : List PlannedComponent) (scope : Scope) (known : List NestedComponent) (plan : Plan) (n : ℕ) (m : Held Module) (x y : Draft)
    → IsDraft ms cs scope known plan x → y.modules.items ≡ x.modules.items ++ n ∷ [] → slice_get ms n ≡ Some m
    → y.components.items ≡ x.components.items → y.items.items ≡ x.items.items
    → IsDraft ms cs (and_module scope (Some m.value)) known plan y
module_more ms cs scope known plan n m x y h e f c i = record {
  modules = ap (map (module_at ms)) e ∙ both_behind (module_at ms) (λ (q : Module). Some q) x.modules.items scope.modules (Some n) (Some m.value) h.modules (ap (λ o. Some (option_map (λ (q : Held Module). q.value) o)) f);
  components = λ more. let k = h.components more in record { plans = ap (map (plan_at (cs ++ more))) c ∙ k.plans; owns = ap (map (own_at (cs ++ more))) c ∙ k.owns };
  items = λ more. ap (plan_items ms (cs ++ more)) i ∙ h.items more;
}

-- ---- what outer aliases name

pub module_named : (ms : List (Held Module)) (cs : List PlannedComponent) (scope : Scope) (known : List NestedComponent) (plan : Plan) (number : Option ℕ) (m : Option Module) (x y : Draft)
    → IsDraft ms cs scope known plan x → y.modules.items ≡ x.modules.items ++ option_to_list number → option_map (module_at ms) number ≡ option_map (λ (q : Module). Some q) m
    → y.components.items ≡ x.components.items → y.items.items ≡ x.items.items
    → IsDraft ms cs (and_module scope m) known plan y
module_named ms cs scope known plan number m x y h e f c i = record {
  modules = ap (map (module_at ms)) e
      ∙ (both_behind (module_at ms) (λ (q : Module). Some q) x.modules.items scope.modules number m h.modules f ∙ ap (map (λ (q : Module). Some q)) (sym (modules_with scope m)));
  components = λ more. let k = h.components more in record {
    plans = ap (map (plan_at (cs ++ more))) c ∙ (k.plans ∙ ap (map (λ (q : Plan). Some q)) (sym (modules_keep_components scope m)));
    owns = ap (map (own_at (cs ++ more))) c ∙ k.owns;
  };
  items = λ more. ap (plan_items ms (cs ++ more)) i ∙ h.items more;
}

pub component_named : (ms : List (Held Module)) (cs : List PlannedComponent) (scope : Scope) (known : List NestedComponent) (plan : Plan) (number : Option ℕ) (p : Option Plan) (k : Option NestedComponent) (x y : Draft)
    → IsDraft ms cs scope known plan x → y.components.items ≡ x.components.items ++ option_to_list number → ((more : List PlannedComponent) → AreOne (cs ++ more) p k number)
    → y.modules.items ≡ x.modules.items → y.items.items ≡ x.items.items
    → IsDraft ms cs (and_plan scope p) (known ++ option_to_list k) plan y
component_named ms cs scope known plan number p k x y h e f m i = record {
  modules = ap (map (module_at ms)) m ∙ (h.modules ∙ ap (map (λ (q : Module). Some q)) (sym (components_keep_modules scope p)));
  components = λ more. let c = h.components more in record {
    plans = ap (map (plan_at (cs ++ more))) e
        ∙ (both_behind (plan_at (cs ++ more)) (λ (q : Plan). Some q) x.components.items scope.components number p c.plans (f more).plans ∙ ap (map (λ (q : Plan). Some q)) (sym (components_with scope p)));
    owns = ap (map (own_at (cs ++ more))) e ∙ both_behind (own_at (cs ++ more)) (λ (q : NestedComponent). Some q.own) x.components.items known number k c.owns (f more).owns;
  };
  items = λ more. ap (plan_items ms (cs ++ more)) i ∙ h.items more;
}

then_map : {A B C : Type 0} (f : A → B) (g : B → Option C) (o : Option A) → option_and_then g (option_map f o) ≡ option_and_then (λ a. g (f a)) o
then_map f g None = refl
then_map f g (Some a) = refl

pub outer_module_is : (here : List At) (count index : ℕ) → outer_module here count index ≡ option_and_then (λ (a : At). slice_get a.scope.modules index) (slice_get here count)
outer_module_is here count index =
    ap (option_and_then (λ (o : Scope). slice_get o.modules index)) (slice_get-map (λ (a : At). a.scope) here count) ∙ then_map (λ (a : At). a.scope) (λ (o : Scope). slice_get o.modules index) (slice_get here count)

pub outer_plan_is : (here : List At) (count index : ℕ) → outer_plan here count index ≡ option_and_then (λ (a : At). slice_get a.scope.components index) (slice_get here count)
outer_plan_is here count index =
    ap (option_and_then (λ (o : Scope). slice_get o.components index)) (slice_get-map (λ (a : At). a.scope) here count) ∙ then_map (λ (a : At). a.scope) (λ (o : Scope). slice_get o.components index) (slice_get here count)

pub outer_known_is : (here : List At) (count index : ℕ) → outer_known here count index ≡ option_and_then (λ (a : At). slice_get a.space.components index) (slice_get here count)
outer_known_is here count index =
    ap (option_and_then (λ (o : Space). slice_get o.components index)) (slice_get-map (λ (a : At). a.space) here count) ∙ then_map (λ (a : At). a.space) (λ (o : Space). slice_get o.components index) (slice_get here count)

same_at : {A B C : Type 0} (f : A → C) (g : B → C) (xs : List A) (ys : List B) → map f xs ≡ map g ys → (i : ℕ) → option_map f (slice_get xs i) ≡ option_map g (slice_get ys i)
same_at f g xs ys h i = sym (slice_get-map f xs i) ∙ (ap (λ l. slice_get l i) h ∙ slice_get-map g ys i)

-- by the drafts that stand for components further out
pub numbers_module : (ms : List (Held Module)) (cs : List PlannedComponent) (o : Option At) (d : Option Draft) (index : ℕ) → AreNamed ms cs o d
    → option_map (module_at ms) (option_and_then (λ (x : Draft). slice_get x.modules.items index) d) ≡ option_map (λ (q : Module). Some q) (option_and_then (λ (a : At). slice_get a.scope.modules index) o)
numbers_module ms cs None None index h = refl
numbers_module ms cs None (Some x) index h = absurd h
numbers_module ms cs (Some a) None index h = absurd h
numbers_module ms cs (Some a) (Some x) index h = same_at (module_at ms) (λ (q : Module). Some q) x.modules.items a.scope.modules h.modules index

pub numbers_component : (ms : List (Held Module)) (cs : List PlannedComponent) (o : Option At) (d : Option Draft) (index : ℕ) (more : List PlannedComponent) → AreNamed ms cs o d
    → AreOne (cs ++ more) (option_and_then (λ (a : At). slice_get a.scope.components index) o) (option_and_then (λ (a : At). slice_get a.space.components index) o) (option_and_then (λ (x : Draft). slice_get x.components.items index) d)
numbers_component ms cs None None index more h = record { plans = refl; owns = refl }
numbers_component ms cs None (Some x) index more h = absurd h
numbers_component ms cs (Some a) None index more h = absurd h
numbers_component ms cs (Some a) (Some x) index more h = record {
  plans = same_at (plan_at (cs ++ more)) (λ (q : Plan). Some q) x.components.items a.scope.components (h.components more).plans index;
  owns = same_at (own_at (cs ++ more)) (λ (q : NestedComponent). Some q.own) x.components.items a.space.components (h.components more).owns index;
}

pub one_named : (ms : List (Held Module)) (cs : List PlannedComponent) (here : List At) (count index : ℕ) (d : Option Draft) (more : List PlannedComponent) → AreNamed ms cs (slice_get here count) d
    → AreOne (cs ++ more) (outer_plan here count index) (outer_known here count index) (option_and_then (λ (x : Draft). slice_get x.components.items index) d)
one_named ms cs here count index d more h =
    let number = option_and_then (λ (x : Draft). slice_get x.components.items index) d in
    subst (λ (p : Option Plan). AreOne (cs ++ more) p (outer_known here count index) number) (sym (outer_plan_is here count index))
    (subst (λ (k : Option NestedComponent). AreOne (cs ++ more) (option_and_then (λ (a : At). slice_get a.scope.components index) (slice_get here count)) k number) (sym (outer_known_is here count index))
    (numbers_component ms cs (slice_get here count) d index more h))
