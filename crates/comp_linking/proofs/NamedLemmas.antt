-- What numbers name, and what arguments and items plan that are named by indexes.
use Rattle.std.proofs.Common.{◌≡◌, ◌∙◌, ap, sym, refl, ℕ, List, [], ◌∷◌, ◌++◌, map, Option, Some, None, slice_get}
use Rattle.std.specs.Prelude.{option_map}
use Rattle.std.specs.Option.{option_and_then}
use Rattle.std.proofs.lemmas.Option.{slice_get-map}
use Rattle.wasm_ast.specs.Boxed.{Held}
use Rattle.wasm_ast.specs.declared.module.Module.{Module}
use Rattle.wasm_ast.specs.declared.component.CoreArg.{CoreArg}
use Rattle.wasm_ast.specs.declared.component.CoreInstance.TheVariants as core_instances
use Rattle.wasm_ast.specs.declared.component.NamedItem.{NamedItem}
use Rattle.wasm_ast.specs.declared.component.Instance.TheVariants as instances
use Rattle.comp_types.specs.Spaces.{Space, NestedComponent}
use Rattle.comp_types.specs.GivenResources.{numbered}
use Rattle.comp_link.specs.Plans.{NamedArg, Plan, Planned, OfModule, OfComponent, Scope, if_some, named_by, named_args, own_numbers, of_core_instance, of_instance}
use Rattle.comp_link.specs.declared.items.PlanArg.{PlanArg}
use Rattle.comp_link.specs.declared.items.PlanItem.TheVariants as items
use Rattle.comp_link.specs.Planned.{PlannedComponent, item_named, args_named}
use Rattle.comp_linking.specs.Drafts.{some_item, module_at, plan_at, own_at, NamesModules, NamesComponents}

-- ---- numbers

abbrev joined : {A : Type 0} → Option (Option A) → Option A
joined None = None
joined (Some o) = o

joined_here : {A B : Type 0} (f : A → Option B) (o : Option A) → joined (option_map f o) ≡ option_and_then f o
joined_here f None = refl
joined_here f (Some a) = refl

joined_there : {A B : Type 0} (g : A → B) (o : Option A) → joined (option_map (λ a. Some (g a)) o) ≡ option_map g o
joined_there g None = refl
joined_there g (Some a) = refl

itself : {A : Type 0} (o : Option A) → option_map (λ a. a) o ≡ o
itself None = refl
itself (Some a) = refl

-- what stands at an index is what its number names
named_at : {A B : Type 0} (f : ℕ → Option B) (g : A → B) (numbers : List ℕ) (xs : List A) → map f numbers ≡ map (λ a. Some (g a)) xs
    → (i : ℕ) → option_map g (slice_get xs i) ≡ option_and_then f (slice_get numbers i)
named_at f g numbers xs h i =
    sym (joined_there g (slice_get xs i))
    ∙ (ap joined (sym (slice_get-map (λ a. Some (g a)) xs i) ∙ (ap (λ l. slice_get l i) (sym h) ∙ slice_get-map f numbers i)) ∙ joined_here f (slice_get numbers i))

module_named : (ms : List (Held Module)) (scope : Scope) (numbers : List ℕ) → NamesModules ms scope numbers → (i : ℕ) → slice_get scope.modules i ≡ option_and_then (module_at ms) (slice_get numbers i)
module_named ms scope numbers h i = sym (itself (slice_get scope.modules i)) ∙ named_at (module_at ms) (λ (m : Module). m) numbers scope.modules h i

plan_named : (cs : List PlannedComponent) (scope : Scope) (known : List NestedComponent) (numbers : List ℕ) → NamesComponents cs scope known numbers → (i : ℕ) → slice_get scope.components i ≡ option_and_then (plan_at cs) (slice_get numbers i)
plan_named cs scope known numbers h i = sym (itself (slice_get scope.components i)) ∙ named_at (plan_at cs) (λ (p : Plan). p) numbers scope.components h.plans i

own_named : (cs : List PlannedComponent) (scope : Scope) (known : List NestedComponent) (numbers : List ℕ) → NamesComponents cs scope known numbers → (i : ℕ) → option_map (λ (c : NestedComponent). c.own) (slice_get known i) ≡ option_and_then (own_at cs) (slice_get numbers i)
own_named cs scope known numbers h i = named_at (own_at cs) (λ (c : NestedComponent). c.own) numbers known h.owns i

-- ---- core instances

of_held : (f : Module → Planned) (o : Option (Held Module)) → if_some (λ (m : Held Module). f m.value) o ≡ if_some f (option_map (λ (m : Held Module). m.value) o)
of_held f None = refl
of_held f (Some m) = refl

pub no_module : (ms : List (Held Module)) (cs : List PlannedComponent) (scope : Scope) (numbers : List ℕ) (index : ℕ) (args : List CoreArg) → NamesModules ms scope numbers → slice_get numbers index ≡ None
    → some_item ms cs None ≡ of_core_instance scope (core_instances.Instantiate index args)
no_module ms cs scope numbers index args h e = sym (ap (if_some (λ m. OfModule m args)) (module_named ms scope numbers h index ∙ ap (option_and_then (module_at ms)) e))

pub some_module : (ms : List (Held Module)) (cs : List PlannedComponent) (scope : Scope) (numbers : List ℕ) (index n : ℕ) (args : List CoreArg) → NamesModules ms scope numbers → slice_get numbers index ≡ Some n
    → some_item ms cs (Some (items.OfModule n args)) ≡ of_core_instance scope (core_instances.Instantiate index args)
some_module ms cs scope numbers index n args h e =
    of_held (λ m. OfModule m args) (slice_get ms n) ∙ sym (ap (if_some (λ m. OfModule m args)) (module_named ms scope numbers h index ∙ ap (option_and_then (module_at ms)) e))

-- ---- instances

own_is : (s : Space) (o : Option NestedComponent) (own : List ℕ) → option_map (λ (c : NestedComponent). c.own) o ≡ Some own → own_numbers s o ≡ numbered own s.next
own_is s None own e = ap (λ (o : Option (List ℕ)). elim o [ None ↦ [] | Some rs ↦ numbered rs s.next ]) e
own_is s (Some c) own e = ap (λ (o : Option (List ℕ)). elim o [ None ↦ [] | Some rs ↦ numbered rs s.next ]) e

pub no_component : (ms : List (Held Module)) (cs : List PlannedComponent) (scope : Scope) (s : Space) (numbers : List ℕ) (index : ℕ) (args : List NamedItem) → NamesComponents cs scope s.components numbers → slice_get numbers index ≡ None
    → some_item ms cs None ≡ of_instance scope s (instances.Instantiate index args)
no_component ms cs scope s numbers index args h e =
    sym (ap (if_some (λ plan. OfComponent plan (own_numbers s (slice_get s.components index)) (named_args s args))) (plan_named cs scope s.components numbers h index ∙ ap (option_and_then (plan_at cs)) e))

-- by what the number names
of_known : (s : Space) (scope : Scope) (index first : ℕ) (args : List NamedItem) (given : List NamedArg) (o : Option PlannedComponent) → first ≡ s.next → given ≡ named_args s args
    → slice_get scope.components index ≡ option_map (λ (c : PlannedComponent). c.plan) o → option_map (λ (c : NestedComponent). c.own) (slice_get s.components index) ≡ option_map (λ (c : PlannedComponent). c.own) o
    → if_some (λ (c : PlannedComponent). OfComponent c.plan (numbered c.own first) given) o ≡ of_instance scope s (instances.Instantiate index args)
of_known s scope index first args given None f a p o = sym (ap (if_some (λ plan. OfComponent plan (own_numbers s (slice_get s.components index)) (named_args s args))) p)
of_known s scope index first args given (Some c) f a p o =
    (λ i. if_some (λ (k : PlannedComponent). OfComponent k.plan (numbered k.own (f i)) (a i)) (Some c))
    ∙ (ap (λ own. if_some (λ plan. OfComponent plan own (named_args s args)) (Some c.plan)) (sym (own_is s (slice_get s.components index) c.own o))
    ∙ sym (ap (if_some (λ plan. OfComponent plan (own_numbers s (slice_get s.components index)) (named_args s args))) p))

pub some_component : (ms : List (Held Module)) (cs : List PlannedComponent) (scope : Scope) (s : Space) (numbers : List ℕ) (index n first : ℕ) (args : List NamedItem) (given : List PlanArg)
    → NamesComponents cs scope s.components numbers → slice_get numbers index ≡ Some n → first ≡ s.next → args_named given ≡ named_args s args
    → some_item ms cs (Some (items.OfComponent n first given)) ≡ of_instance scope s (instances.Instantiate index args)
some_component ms cs scope s numbers index n first args given h e f a =
    of_known s scope index first args (args_named given) (slice_get cs n) f a
    (plan_named cs scope s.components numbers h index ∙ ap (option_and_then (plan_at cs)) e) (own_named cs scope s.components numbers h index ∙ ap (option_and_then (own_at cs)) e)

-- ---- arguments in order

pub args_last : (xs : List PlanArg) (a : PlanArg) → args_named (xs ++ a ∷ []) ≡ args_named xs ++ record { name = a.name; item = item_named a.item } ∷ []
args_last [] a = refl
args_last (x ∷ xs) a = ap (λ l. record { name = x.name; item = item_named x.item } ∷ l) (args_last xs a)

pub named_last : (s : Space) (xs : List NamedItem) (x : NamedItem) → named_args s (xs ++ x ∷ []) ≡ named_args s xs ++ record { name = x.name; item = named_by s x.sort x.index } ∷ []
named_last s [] x = refl
named_last s (y ∷ xs) x = ap (λ l. record { name = y.name; item = named_by s y.sort y.index } ∷ l) (named_last s xs x)
