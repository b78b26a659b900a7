-- A body that the typing rules accept is fine where the context of its validation suits the store.
use Rattle.std.specs.Prelude.{ℕ, ◌≡◌, ◌<◌, List, [], ◌∷◌, Some, true, length, slice_get}
use Rattle.virt_base.specs.declared.core_type.CoreType.{CoreType}
use Rattle.wasm_ast.specs.declared.instr.Instr.{Instr}
use Rattle.core_body.specs.Context.{Context, function_type}
use Rattle.core_body.specs.Conditions.{Condition, is_met, code_conditions}
use Rattle.core_body.specs.Typing.{IsValidBody}
use Rattle.core_store.specs.Tree.{tree}
use Rattle.core_store.specs.declared.value.StoreFunc.{StoreFunc}
use Rattle.core_store.specs.Eval.{type_of}
use Rattle.core_store.specs.Scene.{Scene}
use Rattle.core_store.specs.Fine.{Frame, Place, Fine}

-- the index names a function of the store, of the type that it has in the context
pub record Callee (c : Context) (w : Scene) (functions : List ℕ) (i : ℕ) : Type 0 where
  pub place : ℕ
  pub callee : StoreFunc
  pub named : slice_get functions i ≡ Some place
  pub there : slice_get w.functions place ≡ Some callee
  pub typed : function_type c i ≡ Some (type_of callee)

-- what the context knows is in the store, by the index spaces of the frame
pub record Suits (c : Context) (w : Scene) (fr : Frame) : Type 0 where
  pub types : fr.spaces.types ≡ c.types
  pub functions : (i : ℕ) → i < length c.functions → Callee c w fr.spaces.functions i
  pub tables : (i : ℕ) → i < length c.tables → Place w.tables fr.spaces.tables i
  pub memories : (i : ℕ) → i < c.memories → Place w.memories fr.spaces.memories i
  pub globals : (i : ℕ) → i < length c.globals → Place w.globals fr.spaces.globals i
  pub elements : (i : ℕ) → i < length c.elements → Place w.elements fr.spaces.elements i
  pub segments : (i count : ℕ) → c.data_count ≡ Some count → i < count → Place w.segments fr.spaces.segments i
  pub locals : length c.locals ≡ fr.locals
  pub results : (ts : List CoreType) → c.results ≡ Some ts → length ts ≡ fr.results

abbrev pub AllMet : Context → List Condition → Type 0
AllMet c [] = Unit {0}
AllMet c (a ∷ rest) = (is_met c a ≡ true) × AllMet c rest

-- a valid body, of a function with these results, is fine from no operands to those that are due
abbrev pub BodiesAreFine : Type 0
BodiesAreFine =
    (c : Context) (w : Scene) (fr : Frame) (results : List CoreType) (body : List Instr) →
    Suits c w fr → c.results ≡ Some results → IsValidBody c body → AllMet c (code_conditions true 1 body) →
    Fine w fr (length results ∷ []) 0 (length c.due) (tree body)
