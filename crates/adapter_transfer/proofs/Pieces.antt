-- The code of the transfer area's functions is valid.
use Rattle.std.proofs.Common.{◌≡◌, ℕ, List, [], ◌∷◌, ◌++◌, Option, Some, true, refl, sym, ap, subst}
use Rattle.std.specs.Prelude.{slice_get}
use Rattle.std.specs.Option.{option_map, option_map_or}
use Rattle.virt_base.specs.declared.core_type.CoreType.TheVariants.{I32}
use Rattle.wasm_ast.specs.declared.module.GlobalType.{GlobalType}
use Rattle.wasm_ast.specs.declared.instr.BlockType.TheVariants.{Empty}
use Rattle.wasm_ast.specs.declared.instr.Instr.{Instr}
use Rattle.wasm_ast.specs.declared.instr.Instr.TheVariants.{Unreachable, If, End}
use Rattle.core_body.specs.declared.operand.Operand.TheVariants.{Known}
use Rattle.core_body.specs.Context.{Context}
use Rattle.core_body.specs.Shapes.{Fixed, of_type}
use Rattle.core_body.specs.Typing.{Labels, HasShape}
use Rattle.adapter_code.specs.declared.layout.Layout.{Layout}
use Rattle.adapter_code.specs.declared.statement.Width.TheVariants.{Narrow}
use Rattle.adapter_code.specs.declared.statement.IntOp.TheVariants.{LtU, Add, Sub, Shl, ShrU}
use Rattle.adapter_code.specs.Layout.{transfer_at}
use Rattle.adapter_compile.specs.Instructions.{get, set, numeric, constant, opcode}
use Rattle.adapter_transfer.specs.Valid.{IsPiece}
use Rattle.adapter_transfer.proofs.ValidPieces.{joined, above, one, in_if}
use Rattle.adapter_transfer.proofs.InstructionLaws.{tests_within, get_piece, set_piece, constant_piece, operator_piece, trap_piece}
use Rattle.adapter_transfer.specs.Transfer.{last_at, get_end, set_end, room_code, rounded_code, next_code, give_code, realloc_code, reset_code}

module _ (c : Context) (labels : Labels) (global : slice_get c.globals 0 ≡ Some (record { value = I32; variable = true })) where
  get_end_piece : IsPiece c labels (get_end ∷ []) [] (Known I32 ∷ [])
  get_end_piece =
      let P : Option GlobalType → Type 0 = λ o. HasShape (of_type (option_map (λ g. g.value) o) (λ t. Fixed [] (t ∷ []))) [] (Known I32 ∷ []) in
      one c labels get_end [] (Known I32 ∷ []) (subst P (sym global) (refl, refl)) (λ rule. (λ is. tests_within c.globals 0 _ global, tt)) refl refl

  set_end_piece : IsPiece c labels (set_end ∷ []) (Known I32 ∷ []) []
  set_end_piece =
      let P : Option GlobalType → Type 0 = λ o. HasShape (of_type (option_map (λ g. g.value) o) (λ t. Fixed (t ∷ []) [])) (Known I32 ∷ []) [] in
      one c labels set_end (Known I32 ∷ []) [] (subst P (sym global) (refl, refl))
      (λ rule. (λ is. tests_within c.globals 0 _ global, (λ is. ap (λ o. option_map_or (λ (g : GlobalType). g.variable) o true) global, tt))) refl refl

  -- a constant and an operator after another piece
  then_constant : (x : List Instr) (v code : ℕ) → IsPiece c labels x [] (Known I32 ∷ []) → IsPiece c labels (numeric code ∷ []) (Known I32 ∷ Known I32 ∷ []) (Known I32 ∷ []) → IsPiece c labels (x ++ constant Narrow v ∷ numeric code ∷ []) [] (Known I32 ∷ [])
  then_constant x v code p q =
      joined c labels x (constant Narrow v ∷ numeric code ∷ []) [] (Known I32 ∷ []) (Known I32 ∷ []) p
      (joined c labels (constant Narrow v ∷ []) (numeric code ∷ []) (Known I32 ∷ []) (Known I32 ∷ Known I32 ∷ []) (Known I32 ∷ [])
      (above c labels (constant Narrow v ∷ []) [] (Known I32 ∷ []) (Known I32 ∷ []) (constant_piece c labels Narrow v)) q)

  -- another operand and an operator after another piece
  then_operand : (x : List Instr) (i : Instr) (code : ℕ) → IsPiece c labels x [] (Known I32 ∷ []) → IsPiece c labels (i ∷ []) [] (Known I32 ∷ []) → IsPiece c labels (numeric code ∷ []) (Known I32 ∷ Known I32 ∷ []) (Known I32 ∷ []) → IsPiece c labels (x ++ i ∷ numeric code ∷ []) [] (Known I32 ∷ [])
  then_operand x i code p operand q =
      joined c labels x (i ∷ numeric code ∷ []) [] (Known I32 ∷ []) (Known I32 ∷ []) p
      (joined c labels (i ∷ []) (numeric code ∷ []) (Known I32 ∷ []) (Known I32 ∷ Known I32 ∷ []) (Known I32 ∷ []) (above c labels (i ∷ []) [] (Known I32 ∷ []) (Known I32 ∷ []) operand) q)

  pub reset_piece : (l : Layout) → IsPiece c labels (reset_code l) [] []
  reset_piece l = joined c labels (constant Narrow (transfer_at l) ∷ []) (set_end ∷ []) [] (Known I32 ∷ []) [] (constant_piece c labels Narrow (transfer_at l)) set_end_piece

  module _ (len : slice_get c.locals 3 ≡ Some I32) where
    room_piece : (l : Layout) → IsPiece c labels (room_code l) [] []
    room_piece l =
        let left = then_operand (constant Narrow (last_at l) ∷ []) get_end (opcode Sub Narrow) (constant_piece c labels Narrow (last_at l)) get_end_piece (operator_piece c labels Sub Narrow) in
        let test = then_operand (constant Narrow (last_at l) ∷ get_end ∷ numeric (opcode Sub Narrow) ∷ []) (get 3) (opcode LtU Narrow) left (get_piece c labels 3 I32 len) (operator_piece c labels LtU Narrow) in
        joined c labels (constant Narrow (last_at l) ∷ get_end ∷ numeric (opcode Sub Narrow) ∷ get 3 ∷ numeric (opcode LtU Narrow) ∷ []) (If Empty ∷ Unreachable ∷ End ∷ []) [] (Known I32 ∷ []) [] test
        (in_if c labels (Unreachable ∷ []) (trap_piece c (Some [] ∷ labels) [] []))

    next_piece : IsPiece c labels next_code [] []
    next_piece =
        let sum = then_constant (get 3 ∷ []) 7 (opcode Add Narrow) (get_piece c labels 3 I32 len) (operator_piece c labels Add Narrow) in
        let eighth = then_constant (get 3 ∷ constant Narrow 7 ∷ numeric (opcode Add Narrow) ∷ []) 3 (opcode ShrU Narrow) sum (operator_piece c labels ShrU Narrow) in
        let whole = then_constant (get 3 ∷ constant Narrow 7 ∷ numeric (opcode Add Narrow) ∷ constant Narrow 3 ∷ numeric (opcode ShrU Narrow) ∷ []) 3 (opcode Shl Narrow) eighth (operator_piece c labels Shl Narrow) in
        let end = then_operand (get 3 ∷ rounded_code) get_end (opcode Add Narrow) whole get_end_piece (operator_piece c labels Add Narrow) in
        joined c labels (get 3 ∷ (rounded_code ++ get_end ∷ numeric (opcode Add Narrow) ∷ [])) (set 3 ∷ []) [] (Known I32 ∷ []) [] end (set_piece c labels 3 I32 len)

    give_piece : IsPiece c labels give_code [] (Known I32 ∷ [])
    give_piece =
        joined c labels (get_end ∷ []) (get 3 ∷ set_end ∷ []) [] (Known I32 ∷ []) (Known I32 ∷ []) get_end_piece
        (joined c labels (get 3 ∷ []) (set_end ∷ []) (Known I32 ∷ []) (Known I32 ∷ Known I32 ∷ []) (Known I32 ∷ []) (above c labels (get 3 ∷ []) [] (Known I32 ∷ []) (Known I32 ∷ []) (get_piece c labels 3 I32 len))
        (above c labels (set_end ∷ []) (Known I32 ∷ []) [] (Known I32 ∷ []) set_end_piece))

    pub realloc_piece : (l : Layout) → IsPiece c labels (realloc_code l) [] (Known I32 ∷ [])
    realloc_piece l =
        joined c labels (room_code l) (next_code ++ give_code) [] [] (Known I32 ∷ []) (room_piece l)
        (joined c labels next_code give_code [] [] (Known I32 ∷ []) next_piece give_piece)
