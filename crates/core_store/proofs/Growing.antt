-- Fine code stays fine in a store that grows.
use Rattle.std.proofs.Common.{◌≡◌, ℕ, zero, suc, ◌+◌, ◌-◌, ◌<◌, ◌≤◌, List, [], ◌∷◌, ◌++◌, length, Some, None, Option, refl, sym, ap, ◌∙◌, subst, arith, length-append}
use Rattle.std.specs.Prelude.{slice_get, unwrap_or}
use Rattle.virt_base.specs.declared.core_type.CoreType.{CoreType}
use Rattle.wasm_ast.specs.declared.module.CoreFunc.{CoreFunc}
use Rattle.wasm_ast.specs.declared.instr.Op.{Op}
use Rattle.wasm_ast.specs.declared.instr.Op.TheVariants as op
use Rattle.wasm_ast.specs.declared.instr.Instr.{Instr}
use Rattle.wasm_ast.specs.declared.instr.Instr.TheVariants.{Plain, I64Const, SelectTyped, Unreachable, Block, Loop, If, Else, End, Br, BrIf, BrTable, Return, Call, CallIndirect}
use Rattle.core_store.specs.Tree.{Seq, Stop, Then, InBlock, InLoop, InIf, tree}
use Rattle.core_store.specs.declared.value.CoreSpaces.{CoreSpaces}
use Rattle.core_store.specs.declared.value.StoreFunc.{StoreFunc}
use Rattle.core_store.specs.declared.value.StoreFunc.TheVariants.{Inside, Outside}
use Rattle.core_store.specs.Config.{bare, block_params, block_results}
use Rattle.core_store.specs.Eval.{function_type}
use Rattle.core_store.specs.Scene.{Scene, Grows, code_of, code_at, instance_of, spaces_at, IsInside}
use Rattle.core_store.specs.Fine.{Frame, frame_at, Place, Names, FineOne, Fine, FineFunction}
use Rattle.core_store.specs.Laws.{FineStoresGrow}

pub get_more : {X : Type 0} (xs ys : List X) (i : ℕ) (x : X) → slice_get xs i ≡ Some x → slice_get (xs ++ ys) i ≡ Some x
get_more [] ys i x e = absurd (cc)
get_more (y ∷ xs) ys zero x e = e
get_more (y ∷ xs) ys (suc i) x e = get_more xs ys i x e

-- an item of a longer list stands in the first part, or so far after it
get_cases : {X : Type 0} (R : ℕ → X → Type 0) (xs ys : List X) (i : ℕ) (x : X) →
    ((k : ℕ) → slice_get xs k ≡ Some x → R k x) → ((k : ℕ) → slice_get ys k ≡ Some x → R (length xs + k) x) → slice_get (xs ++ ys) i ≡ Some x → R i x
get_cases R [] ys i x old new e = subst (λ k. R k x) (omega arith) (new i e)
get_cases R (y ∷ xs) ys zero x old new e = old zero e
get_cases R (y ∷ xs) ys (suc i) x old new e =
    get_cases (λ k. R (suc k)) xs ys i x (λ k. old (suc k)) (λ k h. subst (λ j. R j x) (omega arith) (new k h)) e

-- a function of a module
pub record IsOfModule (w : Scene) (o : Option StoreFunc) : Type 0 where
  pub ty : CoreFunc
  pub place : ℕ
  pub locals : List CoreType
  pub body : List Instr
  pub is : o ≡ Some (Inside ty place locals body)
  pub there : place < length w.instances

pub of_module : (w : Scene) (o : Option StoreFunc) → IsInside w o → IsOfModule w o
of_module w None h = absurd h
of_module w (Some (Inside ty i locals body)) h = record { ty = ty; place = i; locals = locals; body = body; is = refl; there = h }
of_module w (Some (Outside ty number)) h = absurd h

pub get_within : {X : Type 0} (xs : List X) (i : ℕ) → i < length xs → (x : X) × (slice_get xs i ≡ Some x)
get_within [] i lt = absurd (omega arith)
get_within (x ∷ xs) zero lt = (x, refl)
get_within (x ∷ xs) (suc i) lt = get_within xs i (omega arith)

module _ (w v : Scene) (x : Grows w v) where
  pub function_more : (f : ℕ) (g : StoreFunc) → slice_get w.functions f ≡ Some g → slice_get v.functions f ≡ Some g
  function_more f g e = subst (λ (fs : List StoreFunc). slice_get fs f ≡ Some g) (sym x.functions) (get_more w.functions x.new_functions f g e)

  pub functions_longer : length w.functions ≤ length v.functions
  functions_longer = omega (arith, ap length x.functions, length-append w.functions x.new_functions)

  instances_longer : length w.instances ≤ length v.instances
  instances_longer = omega (arith, ap length x.instances, length-append w.instances x.new_instances)

  spaces_more : (i : ℕ) → i < length w.instances → unwrap_or (slice_get v.instances i) bare ≡ unwrap_or (slice_get w.instances i) bare
  spaces_more i lt =
      let g = get_within w.instances i lt in
      ap (λ (o : Option CoreSpaces). unwrap_or o bare) (subst (λ (xs : List CoreSpaces). slice_get xs i ≡ Some g.0) (sym x.instances) (get_more w.instances x.new_instances i g.0 g.1) ∙ sym g.1)

  -- a function of a module stays as it is
  pub same_function : (f : ℕ) → IsInside w (slice_get w.functions f) → slice_get v.functions f ≡ slice_get w.functions f
  same_function f h = let g = of_module w (slice_get w.functions f) h in function_more f _ g.is ∙ sym g.is

  pub inside_more : (f : ℕ) → IsInside w (slice_get w.functions f) → IsInside v (slice_get v.functions f)
  inside_more f h =
      let g = of_module w (slice_get w.functions f) h in
      let lt = g.there in let longer = instances_longer in
      subst (IsInside v) (sym (function_more f _ g.is)) (omega arith)

  pub code_more : (f : ℕ) → IsInside w (slice_get w.functions f) → code_at v f ≡ code_at w f
  code_more f h = ap code_of (same_function f h)

  pub spaces_at_more : (f : ℕ) → IsInside w (slice_get w.functions f) → spaces_at v f ≡ spaces_at w f
  spaces_at_more f h =
      let g = of_module w (slice_get w.functions f) h in
      let lt : instance_of (slice_get w.functions f) < length w.instances = subst (λ k. k < length w.instances) (sym (ap instance_of g.is)) g.there in
      ap (λ (o : Option StoreFunc). unwrap_or (slice_get v.instances (instance_of o)) bare) (same_function f h) ∙ spaces_more (instance_of (slice_get w.functions f)) lt

  pub frame_more : (f n : ℕ) → IsInside w (slice_get w.functions f) → frame_at v f n ≡ frame_at w f n
  frame_more f n h = same_frame _ _ _ _ (spaces_at_more f h) (ap (λ (o : Option StoreFunc). length (function_type o).results) (same_function f h))
    where
      same_frame : (p q : CoreSpaces) (r u : ℕ) → p ≡ q → r ≡ u → ◌≡◌ {A = Frame} (record { spaces = p; locals = n; results = r }) (record { spaces = q; locals = n; results = u })
      same_frame p q r u e e' = cc

  place_more : (n m : ℕ) (xs : List ℕ) (i : ℕ) → n ≤ m → Place n xs i → Place m xs i
  place_more n m xs i le p = let lt = p.2 in (p.0, p.1, omega arith)

  names_more : (sp : CoreSpaces) (l : ℕ) (o : Op) → Names w sp l o → Names v sp l o
  names_more sp l (op.LocalGet i) h = h
  names_more sp l (op.LocalSet i) h = h
  names_more sp l (op.LocalTee i) h = h
  names_more sp l (op.GlobalGet i) h = place_more _ _ sp.globals i x.globals h
  names_more sp l (op.GlobalSet i) h = place_more _ _ sp.globals i x.globals h
  names_more sp l (op.TableGet i) h = place_more _ _ sp.tables i x.tables h
  names_more sp l (op.TableSet i) h = place_more _ _ sp.tables i x.tables h
  names_more sp l (op.TableGrow i) h = place_more _ _ sp.tables i x.tables h
  names_more sp l (op.TableSize i) h = place_more _ _ sp.tables i x.tables h
  names_more sp l (op.TableFill i) h = place_more _ _ sp.tables i x.tables h
  names_more sp l (op.Load o m) h = place_more _ _ sp.memories 0 x.memories h
  names_more sp l (op.Store o m) h = place_more _ _ sp.memories 0 x.memories h
  names_more sp l op.MemorySize h = place_more _ _ sp.memories 0 x.memories h
  names_more sp l op.MemoryGrow h = place_more _ _ sp.memories 0 x.memories h
  names_more sp l op.MemoryCopy h = place_more _ _ sp.memories 0 x.memories h
  names_more sp l op.MemoryFill h = place_more _ _ sp.memories 0 x.memories h
  names_more sp l (op.MemoryInit i) h = (place_more _ _ sp.memories 0 x.memories h.0, place_more _ _ sp.segments i x.segments h.1)
  names_more sp l (op.DataDrop i) h = place_more _ _ sp.segments i x.segments h
  names_more sp l (op.TableInit e i) h = (place_more _ _ sp.tables i x.tables h.0, place_more _ _ sp.elements e x.elements h.1)
  names_more sp l (op.ElemDrop i) h = place_more _ _ sp.elements i x.elements h
  names_more sp l (op.TableCopy a b) h = (place_more _ _ sp.tables a x.tables h.0, place_more _ _ sp.tables b x.tables h.1)
  names_more sp l (op.RefFunc i) h = place_more _ _ sp.functions i functions_longer h
  names_more sp l op.Nop h = h
  names_more sp l op.Drop h = h
  names_more sp l op.Select h = h
  names_more sp l (op.I32Const n) h = h
  names_more sp l (op.Numeric n) h = h
  names_more sp l (op.RefNull n) h = h
  names_more sp l op.RefIsNull h = h

  one_more : (fr : Frame) (ls : List ℕ) (h : ℕ) (i : Instr) (R Q : ℕ → Type 0) → ((k : ℕ) → R k → Q k) → FineOne w fr ls h i R → FineOne v fr ls h i Q
  one_more fr ls h (Plain o) R Q m f = (f.0, names_more fr.spaces fr.locals o f.1, m _ f.2)
  one_more fr ls h (I64Const v) R Q m f = m _ f
  one_more fr ls h (SelectTyped ts) R Q m f = (f.0, m _ f.1)
  one_more fr ls h Unreachable R Q m f = f
  one_more fr ls h (Br k) R Q m f = f
  one_more fr ls h (BrIf k) R Q m f = (f.0, f.1, m _ f.2)
  one_more fr ls h (BrTable b) R Q m f = f
  one_more fr ls h Return R Q m f = f
  one_more fr ls h (Call i) R Q m f = (f.0, f.1, f.2, function_more f.0 f.1 f.3, f.4, m _ f.5)
  one_more fr ls h (CallIndirect ty i) R Q m f = (place_more _ _ fr.spaces.tables i x.tables f.0, f.1, f.2, m _ f.3)
  one_more fr ls h (Block b) R Q m f = f
  one_more fr ls h (Loop b) R Q m f = f
  one_more fr ls h (If b) R Q m f = f
  one_more fr ls h Else R Q m f = f
  one_more fr ls h End R Q m f = f

  pub fine_more : (fr : Frame) (q : Seq) (ls : List ℕ) (h ends : ℕ) → Fine w fr ls h ends q → Fine v fr ls h ends q
  fine_more fr Stop ls h ends f = f
  fine_more fr (Then i rest) ls h ends f = one_more fr ls h i _ _ (λ k g. fine_more fr rest ls k ends g) f
  fine_more fr (InBlock b body rest) ls h ends f = (
    f.0,
    f.1,
    fine_more fr body (block_results fr.spaces b ∷ ls) (block_params fr.spaces b) (block_results fr.spaces b) f.2,
    fine_more fr rest ls (h - block_params fr.spaces b + block_results fr.spaces b) ends f.3,
  )
  fine_more fr (InLoop b body rest) ls h ends f = (
    f.0,
    f.1,
    fine_more fr body (block_params fr.spaces b ∷ ls) (block_params fr.spaces b) (block_results fr.spaces b) f.2,
    fine_more fr rest ls (h - block_params fr.spaces b + block_results fr.spaces b) ends f.3,
  )
  fine_more fr (InIf b body other rest) ls h ends f = (
    f.0,
    f.1,
    fine_more fr body (block_results fr.spaces b ∷ ls) (block_params fr.spaces b) (block_results fr.spaces b) f.2,
    fine_more fr other (block_results fr.spaces b ∷ ls) (block_params fr.spaces b) (block_results fr.spaces b) f.3,
    fine_more fr rest ls (h - 1 - block_params fr.spaces b + block_results fr.spaces b) ends f.4,
  )

  old_fine : (f : ℕ) (g : StoreFunc) → slice_get w.functions f ≡ Some g → FineFunction w f g → FineFunction v f g
  old_fine f (Inside ty i locals body) e h =
      let lt = h.0 in let longer = instances_longer in
      (omega arith, subst (λ (fr : Frame). Fine v fr (length ty.results ∷ []) 0 (length ty.results) (tree body)) (sym (frame_more f (length ty.params + length locals) (subst (IsInside w) (sym e) lt))) (fine_more _ (tree body) _ 0 _ h.1))
  old_fine f (Outside ty number) e h = tt

pub fine_store : FineStoresGrow
fine_store w v x fine new = record {
  each = λ f g e. get_cases (FineFunction v) w.functions x.new_functions f g (λ k e'. old_fine w v x k g e' (fine.each k g e')) (λ k. new k g)
      (subst (λ (fs : List StoreFunc). slice_get fs f ≡ Some g) x.functions e);
}
