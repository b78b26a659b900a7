-- What a valid module promises of its bodies.
use Rattle.std.proofs.Common.{◌≡◌, ℕ, zero, suc, ◌+◌, ◌<◌, List, [], ◌∷◌, ◌++◌, is_some, Some, true, length, length-append, refl, ap, subst, arith}
use Rattle.std.proofs.lemmas.Bool.Decides.{nat_tests}
use Rattle.std.proofs.lemmas.List.Elements.{All-cons}
use Rattle.std.specs.Prelude.{nat_lt, slice_get}
use Rattle.std.specs.List.{All}
use Rattle.std.specs.Option.{option_to_list}
use Rattle.wasm_ast.specs.declared.module.Body.{Body}
use Rattle.wasm_ast.specs.declared.module.CoreFunc.{CoreFunc}
use Rattle.wasm_ast.specs.declared.module.Module.{Module}
use Rattle.core_body.specs.Context.{Context}
use Rattle.core_body.specs.Conditions.{Condition, rule_of, code_conditions}
use Rattle.core_body.specs.Locals.{spread}
use Rattle.core_body.specs.Typing.{IsValidBody}
use Rattle.core_body.specs.Views.{in_body}
use Rattle.core_validate.specs.Gather.{with_earlier}
use Rattle.core_validate.specs.Items.{Item, ABody, AFunction, ATable, AGlobal, DataSegment, AStart, Segment, body_type, first_items, later_items, import_items, memory_items, export_items, body_items, plain_items}
use Rattle.core_validate.specs.Spaces.{context}
use Rattle.core_validate.specs.Validity.{AreMet, Holds, AllHold, IsValidModule}
use Rattle.core_instance.specs.Sound.{AllMet}
use Rattle.core_instance.specs.Instantiation.{IsClosed}
use Rattle.core_instance.proofs.EndLemmas.{valid_ends}

pub behind : (c : Context) (xs ys : List Item) → AllHold c (xs ++ ys) → AllHold c ys
behind c [] ys h = h
behind c (x ∷ xs) ys h = behind c xs ys h.1

pub before : (c : Context) (xs ys : List Item) → AllHold c (xs ++ ys) → AllHold c xs
before c [] ys h = tt
before c (x ∷ xs) ys h = (h.0, before c xs ys h.1)

bodies_close : (c : Context) (m : Module) (earlier bs : List Body) → AllHold c (with_earlier (λ before b. ABody (body_type m (length before)) b) earlier bs) → All IsClosed bs
bodies_close c m earlier [] h = λ k d less. absurd (omega (arith, less))
bodies_close c m earlier (b ∷ bs) h =
    All-cons IsClosed b bs (ap is_some (valid_ends _ b.code ((h.0 7).2.0.1 refl))) (bodies_close c m (earlier ++ b ∷ []) bs h.1)

pub valid_bodies : (m : Module) → IsValidModule m → AllHold (context m) (body_items m)
valid_bodies m v =
    let datas = plain_items DataSegment m.segments in
    let bodies = body_items m in
    let segments = plain_items Segment m.elements in
    let starts = plain_items AStart (option_to_list m.start) in
    let later = behind (context m) (first_items m) (later_items m) v in
    let from_starts = behind (context m) (export_items m.exports) (starts ++ (segments ++ (bodies ++ datas))) later in
    let from_segments = behind (context m) starts (segments ++ (bodies ++ datas)) from_starts in
    let from_bodies = behind (context m) segments (bodies ++ datas) from_segments in
    before (context m) bodies datas from_bodies

pub valid_closes : (m : Module) → IsValidModule m → All IsClosed m.code
valid_closes m v = bodies_close (context m) m [] m.code (valid_bodies m v)

-- a body meets each rule
bodies_hold : (c : Context) (m : Module) (earlier bs : List Body) → AllHold c (with_earlier (λ before b. ABody (body_type m (length before)) b) earlier bs) →
    (i k : ℕ) (b : Body) → slice_get bs i ≡ Some b → k ≡ length earlier + i → (rule : ℕ) → Holds c (ABody (body_type m k) b) rule
bodies_hold c m earlier [] h i k b e at rule = absurd (cc)
bodies_hold c m earlier (x ∷ bs) h zero k b e at rule =
    let same : x ≡ b = cc in
    let here : length earlier ≡ k = omega (arith, at) in
    subst (λ (y : Body). Holds c (ABody (body_type m k) y) rule) same (subst (λ n. Holds c (ABody (body_type m n) x) rule) here (h.0 rule))
bodies_hold c m earlier (x ∷ bs) h (suc i) k b e at rule = bodies_hold c m (earlier ++ x ∷ []) bs h.1 i k b e (omega (arith, at, length-append earlier (x ∷ []))) rule

pub body_holds : (m : Module) → IsValidModule m → (i : ℕ) (b : Body) → slice_get m.code i ≡ Some b → (rule : ℕ) → Holds (context m) (ABody (body_type m i) b) rule
body_holds m v i b e rule = bodies_hold (context m) m [] m.code (valid_bodies m v) i i b e (omega arith) rule

-- the type of each function is there
below : (a b : ℕ) → nat_lt a b ≡ true → a < b
below a b e = grind (arith, nat_tests)

types_hold : (c : Context) (earlier ns : List ℕ) → AllHold c (with_earlier (λ before n. AFunction n) earlier ns) → (i n : ℕ) → slice_get ns i ≡ Some n → n < length c.types
types_hold c earlier [] h i n e = absurd (cc)
types_hold c earlier (x ∷ ns) h zero n e = let same : x ≡ n = cc in subst (λ y. y < length c.types) same (below x (length c.types) ((h.0 1).0.0 refl))
types_hold c earlier (x ∷ ns) h (suc i) n e = types_hold c (earlier ++ x ∷ []) ns h.1 i n e

pub type_there : (m : Module) → IsValidModule m → (i n : ℕ) → slice_get m.functions i ≡ Some n → n < length m.types
type_there m v i n e =
    let others = plain_items ATable m.tables ++ (memory_items m ++ plain_items AGlobal m.globals) in
    let first = before (context m) (first_items m) (later_items m) v in
    let from_functions = behind (context m) (import_items m.imports) (plain_items AFunction m.functions ++ others) first in
    types_hold (context m) [] m.functions (before (context m) (plain_items AFunction m.functions) others from_functions) i n e

-- all conditions of a body are met
all_met : (c : Context) (rest : List Condition) → ((rule : ℕ) → AreMet c rule rest) → AllMet c rest
all_met c [] h = tt
all_met c (a ∷ rest) h = ((h (rule_of a)).0 refl, all_met c rest (λ rule. (h rule).1))

pub body_typed : (m : Module) (f : CoreFunc) (b : Body) → ((rule : ℕ) → Holds (context m) (ABody f b) rule) → IsValidBody (in_body (context m) (f.params ++ spread b.locals) f.results) b.code
body_typed m f b h = (h 7).2.0.1 refl

pub body_met : (m : Module) (f : CoreFunc) (b : Body) → ((rule : ℕ) → Holds (context m) (ABody f b) rule) →
    AllMet (in_body (context m) (f.params ++ spread b.locals) f.results) (code_conditions true 1 b.code)
body_met m f b h = all_met (in_body (context m) (f.params ++ spread b.locals) f.results) (code_conditions true 1 b.code) (λ rule. (h rule).2.0.0)
