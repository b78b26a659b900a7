-- What the rules say of outer aliases, by what stands at the scope and the index.
use Rattle.std.proofs.Common.{◌≡◌, ◌∙◌, ◌<◌, ◌≤◌, ap, sym, refl, subst, ℕ, List, [], ◌∷◌, map, length, Bool, true, false, Option, Some, None, slice_get, arith, inl, inr}
use Rattle.std.specs.Prelude.{option_map, nat_lt, not, ◌&&◌, ◌||◌}
use Rattle.std.specs.Option.{option_and_then}
use Rattle.std.proofs.lemmas.Bool.Decides.{nat_tests}
use Rattle.std.proofs.lemmas.Option.{slice_get_cases, slice_get_within, slice_get-map}
use Rattle.wasm_ast.specs.declared.component.Alias.TheVariants.{Outer as OuterAlias}
use Rattle.wasm_ast.specs.declared.component.TypeAlias.TheVariants.{Outer as OuterType}
use Rattle.wasm_ast.specs.declared.component.OuterSort.{OuterSort}
use Rattle.wasm_ast.specs.declared.component.OuterSort.TheVariants as sorts
use Rattle.core_validate.specs.declared.item.ModuleType.{ModuleType}
use Rattle.comp_types.specs.Spaces.{Space, TypeEntry, NestedComponent}
use Rattle.comp_types.specs.Declarations.{ATypeAlias}
use Rattle.comp_types.specs.Definitions.{AType, AnAlias}
use Rattle.comp_types.specs.Added.{and_outer, and_some_type, and_some_module, and_some_component}
use Rattle.comp_types.specs.Rules.{if_there, lengths_of, outer_stands, outer_stays, leaves_component, names_none}
use Rattle.comp_types.specs.Faults.{first_failing, fault}
use Rattle.comp_types.proofs.FaultLaws.{all_hold, least_fails}
use Rattle.comp_scopes.specs.Found.{EachSome}
use Rattle.comp_defining.specs.declared.scopes.Scopes.{Scopes}
use Rattle.comp_defining.specs.Judged.{JudgedIn}
use Rattle.comp_defining.specs.Outer.{IsOuter}

-- ---- rules 3 and 8

abbrev pub rule_of : (stands stays : Bool) → Option ℕ
rule_of false stays = Some 3
rule_of true false = Some 8
rule_of true true = None

two_rules : (a b : Bool)
    → first_failing (true ∷ true ∷ true ∷ a ∷ true ∷ true ∷ true ∷ true ∷ b ∷ true ∷ true ∷ true ∷ true ∷ true ∷ true ∷ true ∷ true ∷ true ∷ true ∷ true ∷ true ∷ true ∷ true ∷ true ∷ true ∷ [])
    ≡ rule_of a b
two_rules false b = refl
two_rules true false = refl
two_rules true true = refl

abbrev stands_in : OuterSort → ℕ → Option Space → Bool
stands_in sort i o = if_there (outer_stands sort i) (option_map lengths_of o)

fault_is : (around : List Space) (s : Space) (sort : OuterSort) (count i : ℕ)
    → fault around s (AnAlias (OuterAlias sort count i)) ≡ rule_of (stands_in sort i (slice_get (s ∷ around) count)) (outer_stays (s ∷ around) sort count i)
fault_is around s sort count i =
    two_rules (if_there (outer_stands sort i) (slice_get (map lengths_of (s ∷ around)) count)) (outer_stays (s ∷ around) sort count i)
    ∙ ap (λ o. rule_of (if_there (outer_stands sort i) o) (outer_stays (s ∷ around) sort count i)) (slice_get-map lengths_of (s ∷ around) count)

type_fault_is : (around : List Space) (s : Space) (count i : ℕ)
    → fault around s (AType (ATypeAlias (OuterType count i))) ≡ fault around s (AnAlias (OuterAlias sorts.Type count i))
type_fault_is around s count i =
    two_rules (if_there (outer_stands sorts.Type i) (slice_get (map lengths_of (s ∷ around)) count)) (outer_stays (s ∷ around) sorts.Type count i)
    ∙ sym (two_rules (if_there (outer_stands sorts.Type i) (slice_get (map lengths_of (s ∷ around)) count)) (outer_stays (s ∷ around) sorts.Type count i))

-- ---- a scope that is not there

lt_not : (i n : ℕ) → n ≤ i → nat_lt i n ≡ false
lt_not i n h = grind (arith, nat_tests)

lt_is : (i n : ℕ) → i < n → nat_lt i n ≡ true
lt_is i n h = grind (arith, nat_tests)

past : (spaces : List Space) (count : ℕ) → slice_get spaces count ≡ None → nat_lt count (length spaces) ≡ false
past spaces count e = elim (slice_get_cases spaces count).1 [
  | inl h ↦ (let never : Some h.0 ≡ None = sym h.2 ∙ e in absurd (cc))
  | inr h ↦ lt_not count (length spaces) h.0
]

pub within : (spaces : List Space) (count : ℕ) (t : Space) → slice_get spaces count ≡ Some t → nat_lt count (length spaces) ≡ true
within spaces count t e = lt_is count (length spaces) (slice_get_within spaces count t e)

stays_not : (spaces : List Space) (sort : OuterSort) (count i : ℕ) → nat_lt count (length spaces) ≡ false → outer_stays spaces sort count i ≡ false
stays_not spaces sorts.CoreModule count i e = e
stays_not spaces sorts.Type count i e = ap (λ b. b && (not (leaves_component spaces count) || if_there (λ (scope : Space). if_there names_none (slice_get scope.types i)) (slice_get spaces count))) e
stays_not spaces sorts.Component count i e = e

pub no_scope : (around : List Space) (s : Space) (sort : OuterSort) (count i : ℕ) → slice_get (s ∷ around) count ≡ None → fault around s (AnAlias (OuterAlias sort count i)) ≡ Some 8
no_scope around s sort count i e =
    fault_is around s sort count i
    ∙ (ap (λ o. rule_of (stands_in sort i o) (outer_stays (s ∷ around) sort count i)) e
    ∙ ap (rule_of true) (stays_not (s ∷ around) sort count i (past (s ∷ around) count e)))

-- ---- an index that is not there

not_below : {A : Type 0} (xs : List A) (i : ℕ) → slice_get xs i ≡ None → nat_lt i (length xs) ≡ false
not_below xs i e = elim (slice_get_cases xs i).1 [
  | inl h ↦ (let never : Some h.0 ≡ None = sym h.2 ∙ e in absurd (cc))
  | inr h ↦ lt_not i (length xs) h.0
]

below : {A : Type 0} (xs : List A) (i : ℕ) (x : A) → slice_get xs i ≡ Some x → nat_lt i (length xs) ≡ true
below xs i x e = lt_is i (length xs) (slice_get_within xs i x e)

stands_at : (around : List Space) (s t : Space) (sort : OuterSort) (count i : ℕ) → slice_get (s ∷ around) count ≡ Some t
    → fault around s (AnAlias (OuterAlias sort count i)) ≡ rule_of (outer_stands sort i (lengths_of t)) (outer_stays (s ∷ around) sort count i)
stands_at around s t sort count i e =
    fault_is around s sort count i ∙ ap (λ o. rule_of (stands_in sort i o) (outer_stays (s ∷ around) sort count i)) e

pub no_type : (around : List Space) (s t : Space) (count i : ℕ) → slice_get (s ∷ around) count ≡ Some t → slice_get t.types i ≡ None → fault around s (AnAlias (OuterAlias sorts.Type count i)) ≡ Some 3
no_type around s t count i e f = stands_at around s t sorts.Type count i e ∙ ap (λ b. rule_of b (outer_stays (s ∷ around) sorts.Type count i)) (not_below t.types i f)

pub no_module : (around : List Space) (s t : Space) (count i : ℕ) → slice_get (s ∷ around) count ≡ Some t → slice_get t.core_modules i ≡ None → fault around s (AnAlias (OuterAlias sorts.CoreModule count i)) ≡ Some 3
no_module around s t count i e f = stands_at around s t sorts.CoreModule count i e ∙ ap (λ b. rule_of b (outer_stays (s ∷ around) sorts.CoreModule count i)) (not_below t.core_modules i f)

pub no_component : (around : List Space) (s t : Space) (count i : ℕ) → slice_get (s ∷ around) count ≡ Some t → slice_get t.components i ≡ None → fault around s (AnAlias (OuterAlias sorts.Component count i)) ≡ Some 3
no_component around s t count i e f = stands_at around s t sorts.Component count i e ∙ ap (λ b. rule_of b (outer_stays (s ∷ around) sorts.Component count i)) (not_below t.components i f)

-- ---- what is there

pub some_module : (around : List Space) (s t : Space) (count i : ℕ) (m : ModuleType) → slice_get (s ∷ around) count ≡ Some t → slice_get t.core_modules i ≡ Some m → fault around s (AnAlias (OuterAlias sorts.CoreModule count i)) ≡ None
some_module around s t count i m e f =
    stands_at around s t sorts.CoreModule count i e
    ∙ (ap (λ b. rule_of b (outer_stays (s ∷ around) sorts.CoreModule count i)) (below t.core_modules i m f) ∙ ap (rule_of true) (within (s ∷ around) count t e))

pub some_component : (around : List Space) (s t : Space) (count i : ℕ) (c : NestedComponent) → slice_get (s ∷ around) count ≡ Some t → slice_get t.components i ≡ Some c → fault around s (AnAlias (OuterAlias sorts.Component count i)) ≡ None
some_component around s t count i c e f =
    stands_at around s t sorts.Component count i e
    ∙ (ap (λ b. rule_of b (outer_stays (s ∷ around) sorts.Component count i)) (below t.components i c f) ∙ ap (rule_of true) (within (s ∷ around) count t e))

type_stays_is : (spaces : List Space) (t : Space) (count i : ℕ) (entry : TypeEntry) → slice_get spaces count ≡ Some t → slice_get t.types i ≡ Some entry
    → outer_stays spaces sorts.Type count i ≡ (not (leaves_component spaces count) || names_none entry)
type_stays_is spaces t count i entry e f =
    ap (λ b. b && (not (leaves_component spaces count) || if_there (λ (scope : Space). if_there names_none (slice_get scope.types i)) (slice_get spaces count))) (within spaces count t e)
    ∙ (ap (λ o. not (leaves_component spaces count) || if_there (λ (scope : Space). if_there names_none (slice_get scope.types i)) o) e
    ∙ ap (λ o. not (leaves_component spaces count) || if_there names_none o) f)

pub some_type : (around : List Space) (s t : Space) (count i : ℕ) (entry : TypeEntry) → slice_get (s ∷ around) count ≡ Some t → slice_get t.types i ≡ Some entry
    → fault around s (AnAlias (OuterAlias sorts.Type count i)) ≡ rule_of true (not (leaves_component (s ∷ around) count) || names_none entry)
some_type around s t count i entry e f =
    stands_at around s t sorts.Type count i e
    ∙ (ap (λ b. rule_of b (outer_stays (s ∷ around) sorts.Type count i)) (below t.types i entry f) ∙ ap (rule_of true) (type_stays_is (s ∷ around) t count i entry e f))

pub stays_in : (around : List Space) (s t : Space) (count i : ℕ) (entry : TypeEntry) → slice_get (s ∷ around) count ≡ Some t → slice_get t.types i ≡ Some entry
    → false ≡ leaves_component (s ∷ around) count → fault around s (AnAlias (OuterAlias sorts.Type count i)) ≡ None
stays_in around s t count i entry e f stays = some_type around s t count i entry e f ∙ ap (λ b. rule_of true (not b || names_none entry)) (sym stays)

pub goes_out : (around : List Space) (s t : Space) (count i : ℕ) (entry : TypeEntry) (none : Bool) → slice_get (s ∷ around) count ≡ Some t → slice_get t.types i ≡ Some entry
    → true ≡ leaves_component (s ∷ around) count → none ≡ names_none entry → fault around s (AnAlias (OuterAlias sorts.Type count i)) ≡ rule_of true none
goes_out around s t count i entry none e f leaves n = some_type around s t count i entry e f ∙ (ap (λ b. rule_of true (not b || names_none entry)) (sym leaves) ∙ ap (rule_of true) (sym n))

-- ---- what is added

pub added_type : (s : Space) (o : Option Space) (i : ℕ) → and_outer s sorts.Type o i ≡ and_some_type s (option_and_then (λ (t : Space). slice_get t.types i) o)
added_type s None i = refl
added_type s (Some t) i = refl

pub added_module : (s : Space) (o : Option Space) (i : ℕ) → and_outer s sorts.CoreModule o i ≡ and_some_module s (option_and_then (λ (t : Space). slice_get t.core_modules i) o)
added_module s None i = refl
added_module s (Some t) i = refl

pub added_component : (s : Space) (o : Option Space) (i : ℕ) → and_outer s sorts.Component o i ≡ and_some_component s (option_and_then (λ (t : Space). slice_get t.components i) o)
added_component s None i = refl
added_component s (Some t) i = refl

-- ---- what is found there

pub found_none : {A B C : Type 0} (R : B → C → Type 0) (f : A → Option B) (o : Option A) → o ≡ None → EachSome R (option_and_then f o) None
found_none R f o e = subst (λ x. EachSome R (option_and_then f x) None) (sym e) tt

pub found_nothing : {A B C : Type 0} (R : B → C → Type 0) (f : A → Option B) (o : Option A) (t : A) → o ≡ Some t → f t ≡ None → EachSome R (option_and_then f o) None
found_nothing R f o t e n = subst (λ x. EachSome R (option_and_then f x) None) (sym e) (subst (λ x. EachSome R x None) (sym n) tt)

pub found_some : {A B C : Type 0} (R : B → C → Type 0) (f : A → Option B) (o : Option A) (t : A) (x : B) (y : C) → o ≡ Some t → f t ≡ Some x → R x y → EachSome R (option_and_then f o) (Some y)
found_some R f o t x y e n r = subst (λ k. EachSome R (option_and_then f k) (Some y)) (sym e) (subst (λ k. EachSome R k (Some y)) (sym n) r)

-- ---- the answer

pub judged_alias : (around : List Space) (s : Space) (sort : OuterSort) (count i : ℕ) (x : Scopes) (rule : Option ℕ) → IsOuter around s sort count i x rule → JudgedIn around s (AnAlias (OuterAlias sort count i)) x rule
judged_alias around s sort count i x None h = (all_hold around s (AnAlias (OuterAlias sort count i)) h.0 tt tt, h.1)
judged_alias around s sort count i x (Some rule) h = least_fails around s (AnAlias (OuterAlias sort count i)) rule h tt tt

pub judged_type : (around : List Space) (s : Space) (count i : ℕ) (x : Scopes) (rule : Option ℕ) → IsOuter around s sorts.Type count i x rule → JudgedIn around s (AType (ATypeAlias (OuterType count i))) x rule
judged_type around s count i x None h = (all_hold around s (AType (ATypeAlias (OuterType count i))) (type_fault_is around s count i ∙ h.0) tt tt, h.1)
judged_type around s count i x (Some rule) h = least_fails around s (AType (ATypeAlias (OuterType count i))) rule (type_fault_is around s count i ∙ h) tt tt
