-- Plans one after another: what one more item and one more component plan, and that a component is planned by those before it.
use Rattle.std.proofs.Common.{◌≡◌, ◌∙◌, ◌+◌, ◌<◌, ap, sym, refl, ℕ, zero, suc, List, [], ◌∷◌, ◌++◌, length, take, Some, None, slice_get, arith}
use Rattle.std.specs.Prelude.{option_map}
use Rattle.std.proofs.lemmas.List.{append_assoc, append-nil, length-append}
use Rattle.std.proofs.lemmas.Option.{slice_get_past}
use Rattle.wasm_ast.specs.Boxed.{Held}
use Rattle.wasm_ast.specs.declared.module.Module.{Module}
use Rattle.comp_link.specs.Plans.{Plan, End, Then, followed}
use Rattle.comp_link.specs.declared.items.PlanItem.{PlanItem}
use Rattle.comp_link.specs.declared.linked.ComponentPlan.{ComponentPlan}
use Rattle.comp_link.specs.Planned.{PlannedComponent, plan_item, plan_items, planned_component, and_components}

-- ---- items

pub followed-end : (p : Plan) → followed p End ≡ p
followed-end End = refl
followed-end (Then item rest) = ap (Then item) (followed-end rest)

pub followed-assoc : (p q r : Plan) → followed (followed p q) r ≡ followed p (followed q r)
followed-assoc End q r = refl
followed-assoc (Then item rest) q r = ap (Then item) (followed-assoc rest q r)

-- one item more
pub items_more : (ms : List (Held Module)) (cs : List PlannedComponent) (xs : List PlanItem) (item : PlanItem) → plan_items ms cs (xs ++ item ∷ []) ≡ followed (plan_items ms cs xs) (plan_item ms cs item)
items_more ms cs [] item = followed-end (plan_item ms cs item)
items_more ms cs (x ∷ xs) item = ap (followed (plan_item ms cs x)) (items_more ms cs xs item) ∙ sym (followed-assoc (plan_item ms cs x) (plan_items ms cs xs) (plan_item ms cs item))

-- ---- components

-- one component more
pub components_more : (ms : List (Held Module)) (cs : List PlannedComponent) (xs : List ComponentPlan) (c : ComponentPlan) → and_components ms cs (xs ++ c ∷ []) ≡ and_components ms cs xs ++ planned_component ms (and_components ms cs xs) c ∷ []
components_more ms cs [] c = refl
components_more ms cs (x ∷ xs) c = components_more ms (cs ++ planned_component ms cs x ∷ []) xs c

-- those before stay
stays : (ms : List (Held Module)) (cs : List PlannedComponent) (xs : List ComponentPlan) → (more : List PlannedComponent) × (and_components ms cs xs ≡ cs ++ more)
stays ms cs [] = ([], sym (append-nil cs))
stays ms cs (x ∷ xs) =
    let s = stays ms (cs ++ planned_component ms cs x ∷ []) xs in
    (planned_component ms cs x ∷ s.0, s.1 ∙ append_assoc cs (planned_component ms cs x ∷ []) s.0)

at_seam : {A : Type 0} (xs : List A) (y : A) (ys : List A) → slice_get (xs ++ y ∷ ys) (length xs) ≡ Some y
at_seam [] y ys = refl
at_seam (x ∷ xs) y ys = at_seam xs y ys

one_longer : {A : Type 0} (xs : List A) (y : A) (k : ℕ) → length (xs ++ y ∷ []) + k ≡ length xs + suc k
one_longer xs y k = omega (arith, length-append xs (y ∷ []))

behind_all : {A : Type 0} (xs : List A) (k : ℕ) → slice_get xs (length xs + k) ≡ None
behind_all xs k = slice_get_past xs (length xs + k) (omega arith)

component_behind : (ms : List (Held Module)) (cs : List PlannedComponent) (xs : List ComponentPlan) (k : ℕ)
    → slice_get (and_components ms cs xs) (length cs + k) ≡ option_map (planned_component ms (and_components ms cs (take k xs))) (slice_get xs k)
component_behind ms cs [] k = behind_all cs k
component_behind ms cs (x ∷ xs) zero =
    let s = stays ms (cs ++ planned_component ms cs x ∷ []) xs in
    let e : length cs + 0 ≡ length cs = omega arith in
    ap (slice_get (and_components ms (cs ++ planned_component ms cs x ∷ []) xs)) e
    ∙ (ap (λ l. slice_get l (length cs)) (s.1 ∙ append_assoc cs (planned_component ms cs x ∷ []) s.0) ∙ at_seam cs (planned_component ms cs x) s.0)
component_behind ms cs (x ∷ xs) (suc k) =
    ap (slice_get (and_components ms (cs ++ planned_component ms cs x ∷ []) xs)) (sym (one_longer cs (planned_component ms cs x) k)) ∙ component_behind ms (cs ++ planned_component ms cs x ∷ []) xs k

-- a component is planned by those before it
pub component_at : (ms : List (Held Module)) (xs : List ComponentPlan) (k : ℕ) → slice_get (and_components ms [] xs) k ≡ option_map (planned_component ms (and_components ms [] (take k xs))) (slice_get xs k)
component_at ms xs k = let e : 0 + k ≡ k = omega arith in ap (slice_get (and_components ms [] xs)) (sym e) ∙ component_behind ms [] xs k

take_take : {A : Type 0} (xs : List A) (n k : ℕ) → n < k → take n (take k xs) ≡ take n xs
take_take xs zero k h = refl
take_take xs (suc n) zero h = absurd (omega arith)
take_take [] (suc n) (suc k) h = refl
take_take (x ∷ xs) (suc n) (suc k) h = ap (λ ys. x ∷ ys) (take_take xs n k (omega arith))

get_take : {A : Type 0} (xs : List A) (n k : ℕ) → n < k → slice_get (take k xs) n ≡ slice_get xs n
get_take xs n zero h = absurd (omega arith)
get_take [] n (suc k) h = refl
get_take (x ∷ xs) zero (suc k) h = refl
get_take (x ∷ xs) (suc n) (suc k) h = get_take xs n k (omega arith)

no_more : {A : Type 0} (xs : List A) (n k : ℕ) → (n < k → ⊥) → slice_get (take k xs) n ≡ None
no_more xs n zero h = refl
no_more [] n (suc k) h = refl
no_more (x ∷ xs) zero (suc k) h = absurd (h (omega arith))
no_more (x ∷ xs) (suc n) (suc k) h = no_more xs n k (λ lt. h (omega (arith, lt)))

-- in the plan of a component of this number a number before it names what it names in the whole, and no other names anything
pub component_before : (ms : List (Held Module)) (xs : List ComponentPlan) (n k : ℕ) → n < k → slice_get (and_components ms [] (take k xs)) n ≡ slice_get (and_components ms [] xs) n
component_before ms xs n k h =
    component_at ms (take k xs) n ∙ (ap (λ ys. option_map (planned_component ms (and_components ms [] ys)) (slice_get (take k xs) n)) (take_take xs n k h)
    ∙ (ap (option_map (planned_component ms (and_components ms [] (take n xs)))) (get_take xs n k h) ∙ sym (component_at ms xs n)))

pub none_behind : (ms : List (Held Module)) (xs : List ComponentPlan) (n k : ℕ) → (n < k → ⊥) → slice_get (and_components ms [] (take k xs)) n ≡ None
none_behind ms xs n k h = component_at ms (take k xs) n ∙ ap (option_map (planned_component ms (and_components ms [] (take n (take k xs))))) (no_more xs n k h)

pub ruleset planned = (followed-end, items_more)
