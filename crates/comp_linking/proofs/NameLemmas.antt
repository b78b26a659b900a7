-- Numbers and what they name, with one more after.
use Rattle.std.proofs.Common.{◌≡◌, ◌∙◌, ◌+◌, ap, sym, subst, refl, ℕ, zero, suc, List, [], ◌∷◌, ◌++◌, map, drop, length, Option, Some, None, slice_get, arith}
use Rattle.std.specs.Prelude.{option_map, option_to_list}
use Rattle.std.proofs.lemmas.List.{append-nil, map-append}
use Rattle.wasm_ast.specs.declared.module.Module.{Module}
use Rattle.wasm_ast.specs.declared.component.OuterSort.TheVariants as outer_sorts
use Rattle.comp_types.specs.Spaces.{Space, NestedComponent}
use Rattle.comp_types.specs.Added.{and_outer, and_some_component, and_some_module, and_some_type}
use Rattle.comp_link.specs.Plans.{Plan, Scope, and_module, and_plan}

map_option : {A B : Type 0} (f : A → B) (o : Option A) → map f (option_to_list o) ≡ option_to_list (option_map f o)
map_option f None = refl
map_option f (Some a) = refl

-- what is named alike is named alike with one more, or none
pub both_behind : {A B C : Type 0} (f : A → C) (g : B → C) (xs : List A) (ys : List B) (a : Option A) (b : Option B) → map f xs ≡ map g ys → option_map f a ≡ option_map g b → map f (xs ++ option_to_list a) ≡ map g (ys ++ option_to_list b)
both_behind f g xs ys a b h e =
    map-append f xs (option_to_list a)
    ∙ ((λ i. h i ++ (map_option f a ∙ (ap option_to_list e ∙ sym (map_option g b))) i)
    ∙ sym (map-append g ys (option_to_list b)))

pub modules_with : (scope : Scope) (m : Option Module) → (and_module scope m).modules ≡ scope.modules ++ option_to_list m
modules_with scope None = sym (append-nil scope.modules)
modules_with scope (Some m) = refl

pub modules_keep_components : (scope : Scope) (m : Option Module) → (and_module scope m).components ≡ scope.components
modules_keep_components scope None = refl
modules_keep_components scope (Some m) = refl

pub components_with : (scope : Scope) (p : Option Plan) → (and_plan scope p).components ≡ scope.components ++ option_to_list p
components_with scope None = sym (append-nil scope.components)
components_with scope (Some p) = refl

pub components_keep_modules : (scope : Scope) (p : Option Plan) → (and_plan scope p).modules ≡ scope.modules
components_keep_modules scope None = refl
components_keep_modules scope (Some p) = refl

-- ---- what outer aliases add

some_module_stays : (s : Space) (o : Option _) → (and_some_module s o).components ≡ s.components
some_module_stays s None = refl
some_module_stays s (Some m) = refl

pub outer_module_stays : (s : Space) (o : Option Space) (i : ℕ) → (and_outer s outer_sorts.CoreModule o i).components ≡ s.components
outer_module_stays s None i = refl
outer_module_stays s (Some t) i = some_module_stays s (slice_get t.core_modules i)

some_type_stays : (s : Space) (o : Option _) → (and_some_type s o).components ≡ s.components
some_type_stays s None = refl
some_type_stays s (Some e) = refl

pub outer_type_stays : (s : Space) (o : Option Space) (i : ℕ) → (and_outer s outer_sorts.Type o i).components ≡ s.components
outer_type_stays s None i = refl
outer_type_stays s (Some t) i = some_type_stays s (slice_get t.types i)

known_with : (s : Space) (o : Option NestedComponent) → (and_some_component s o).components ≡ s.components ++ option_to_list o
known_with s None = sym (append-nil s.components)
known_with s (Some c) = refl

pub outer_component_with : (s : Space) (o : Option Space) (i : ℕ) → (and_outer s outer_sorts.Component o i).components ≡ s.components ++ option_to_list (elim o [ None ↦ None | Some t ↦ slice_get t.components i ])
outer_component_with s None i = sym (append-nil s.components)
outer_component_with s (Some t) i = known_with s (slice_get t.components i)

-- ---- the next of a list

abbrev nothing : {A : Type 0} → List A → Type 0
nothing [] = Unit {0}
nothing (x ∷ xs) = ⊥

pub next_is : {A : Type 0} (xs : List A) (n : ℕ) (y : A) (ys : List A) → drop n xs ≡ y ∷ ys → (slice_get xs n ≡ Some y) × (drop (n + 1) xs ≡ ys)
next_is [] zero y ys h = absurd (subst nothing h tt)
next_is [] (suc n) y ys h = absurd (subst nothing h tt)
next_is (x ∷ xs) zero y ys h = (ap (λ l. elim l [ [] ↦ None | z ∷ zs ↦ Some z ]) h, ap (λ l. elim l [ [] ↦ [] | z ∷ zs ↦ zs ]) h)
next_is (x ∷ xs) (suc n) y ys h =
    let k = next_is xs n y ys h in
    let e : suc n + 1 ≡ suc (n + 1) = omega arith in
    (k.0, ap (λ m. drop m (x ∷ xs)) e ∙ k.1)

pub ruleset behind = (append-nil)
