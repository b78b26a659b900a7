-- The functions of a module's bodies, one after the other.
use Rattle.std.proofs.Common.{◌≡◌, ℕ, zero, suc, Some, ◌+◌, ◌<◌, List, [], ◌∷◌, ◌++◌, length, take, get_or, refl, sym, ap, append_assoc, ◌∙◌, arith}
use Rattle.std.proofs.lemmas.List.{length-append, length-take-le, take_more}
use Rattle.std.specs.Prelude.{slice_get}
use Rattle.wasm_ast.specs.declared.module.Body.{Body}
use Rattle.wasm_ast.specs.declared.module.Module.{Module}
use Rattle.core_store.specs.declared.value.StoreFunc.{StoreFunc}
use Rattle.core_store.specs.declared.value.StoreFunc.TheVariants.{Inside}
use Rattle.core_store.specs.State.{State}
use Rattle.core_body.specs.Locals.{spread}
use Rattle.core_validate.specs.Items.{body_type}
use Rattle.core_instance.specs.Instantiation.{functions_from}

abbrev pub function_at : Module → ℕ → ℕ → Body → StoreFunc
function_at m instance at b = Inside (body_type m at) instance (spread b.locals) b.code

functions_next : (m : Module) (instance at : ℕ) (bs : List Body) (b : Body) → functions_from m instance at (bs ++ b ∷ []) ≡ functions_from m instance at bs ++ function_at m instance (at + length bs) b ∷ []
functions_next m instance at [] b = ap (λ (k : ℕ). function_at m instance k b ∷ []) (omega arith)
functions_next m instance at (x ∷ bs) b =
    let far : (at + 1) + length bs ≡ at + length (x ∷ bs) = omega arith in
    ap (λ (fs : List StoreFunc). function_at m instance at x ∷ fs) (functions_next m instance (at + 1) bs b ∙ ap (λ (k : ℕ). functions_from m instance (at + 1) bs ++ function_at m instance k b ∷ []) far)

pub length-functions_from : (m : Module) (instance at : ℕ) (bs : List Body) → length (functions_from m instance at bs) ≡ length bs
length-functions_from m instance at [] = refl
length-functions_from m instance at (b ∷ bs) = ap suc (length-functions_from m instance (at + 1) bs)

pub functions_length : (m : Module) (instance i : ℕ) (xs zs : List StoreFunc) → i < length m.code → zs ≡ xs ++ functions_from m instance 0 (take i m.code) → length zs ≡ length xs + i
functions_length m instance i xs zs less e =
    let taken : length (functions_from m instance 0 (take i m.code)) ≡ i = length-functions_from m instance 0 (take i m.code) ∙ length-take-le i m.code (omega (arith, less)) in
    ap length e ∙ (length-append xs (functions_from m instance 0 (take i m.code)) ∙ ap (λ (n : ℕ). length xs + n) taken)

pub functions_all : (m : Module) (instance : ℕ) (xs : List StoreFunc) → length (xs ++ functions_from m instance 0 m.code) ≡ length xs + length m.code
functions_all m instance xs = length-append xs (functions_from m instance 0 m.code) ∙ ap (λ (n : ℕ). length xs + n) (length-functions_from m instance 0 m.code)

pub functions_more : (m : Module) (instance i : ℕ) (s t u : State) (b : Body) (f : StoreFunc) → i < length m.code → b ≡ get_or m.code i b → f ≡ Inside (body_type m i) instance (spread b.locals) b.code
    → t ≡ record s { functions = s.functions ++ functions_from m instance 0 (take i m.code) } → u ≡ record t { functions = t.functions ++ f ∷ [] }
    → u ≡ record s { functions = s.functions ++ functions_from m instance 0 (take (i + 1) m.code) }
functions_more m instance i s t u b f less is made e h =
    let before = functions_from m instance 0 (take i m.code) in
    let here : i ≡ 0 + length (take i m.code) = omega (arith, length-take-le i m.code (omega (arith, less))) in
    let one : take (i + 1) m.code ≡ take i m.code ++ b ∷ [] = take_more m.code i b less ∙ ap (λ (x : Body). take i m.code ++ x ∷ []) (sym is) in
    let next : before ++ f ∷ [] ≡ functions_from m instance 0 (take (i + 1) m.code) =
    ap (λ (g : StoreFunc). before ++ g ∷ []) (made ∙ ap (λ (k : ℕ). function_at m instance k b) here)
    ∙ (sym (functions_next m instance 0 (take i m.code) b) ∙ ap (functions_from m instance 0) (sym one)) in
    h ∙ (ap (λ (x : State). record x { functions = x.functions ++ f ∷ [] }) e
    ∙ ap (λ (fs : List StoreFunc). record s { functions = fs }) (append_assoc s.functions before (f ∷ []) ∙ ap (λ (fs : List StoreFunc). s.functions ++ fs) next))

-- the function of a body
pub function_from : (m : Module) (instance at : ℕ) (bs : List Body) (i k : ℕ) (b : Body) → slice_get bs i ≡ Some b → k ≡ at + i → slice_get (functions_from m instance at bs) i ≡ Some (function_at m instance k b)
function_from m instance at [] i k b e h = absurd (cc)
function_from m instance at (x ∷ bs) zero k b e h =
    let same : x ≡ b = cc in
    let here : at ≡ k = omega (arith, h) in
    ap Some (ap (λ (y : Body). function_at m instance at y) same ∙ ap (λ n. function_at m instance n b) here)
function_from m instance at (x ∷ bs) (suc i) k b e h = function_from m instance (at + 1) bs i k b e (omega (arith, h))
