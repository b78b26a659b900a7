-- The instructions of routines as pieces of code.
use Rattle.std.proofs.Common.{◌≡◌, ℕ, zero, suc, ◌+◌, ◌<◌, List, [], ◌∷◌, ◌++◌, Option, Some, None, Bool, true, false, length, refl, sym, ap, ◌∙◌, subst, arith}
use Rattle.std.specs.Prelude.{nat_lt, nat_le, ◌==◌, if◌then◌else◌, slice_get}
use Rattle.std.specs.Option.{option_and_then}
use Rattle.std.proofs.lemmas.Bool.Decides.{nat_tests}
use Rattle.virt_base.specs.declared.core_type.CoreType.{CoreType}
use Rattle.virt_base.specs.declared.core_type.CoreType.TheVariants.{I32, I64}
use Rattle.wasm_ast.specs.declared.module.CoreFunc.{CoreFunc}
use Rattle.wasm_ast.specs.declared.instr.Op.TheVariants as op
use Rattle.wasm_ast.specs.declared.instr.Instr.{Instr}
use Rattle.wasm_ast.specs.declared.instr.Instr.TheVariants.{Plain, Unreachable, Br, BrIf, Call}
use Rattle.wasm_ast.specs.declared.instr.LoadOp.{LoadOp}
use Rattle.wasm_ast.specs.declared.instr.LoadOp.TheVariants as load
use Rattle.wasm_ast.specs.declared.instr.StoreOp.{StoreOp}
use Rattle.wasm_ast.specs.declared.instr.StoreOp.TheVariants as store
use Rattle.core_body.specs.declared.operand.Operand.{Operand}
use Rattle.core_body.specs.declared.operand.Operand.TheVariants.{Known}
use Rattle.core_body.specs.Context.{Context, function_type}
use Rattle.core_body.specs.Conditions.{LocalAt, is_met, load_width, store_width}
use Rattle.core_body.specs.Shapes.{Fixed, of_type, call_shape, loaded_type, stored_type}
use Rattle.core_body.specs.Typing.{Labels, label_at, HasShape, Types, operands}
use Rattle.adapter_code.specs.declared.statement.Width.{Width}
use Rattle.adapter_code.specs.declared.statement.Width.TheVariants.{Narrow, Broad}
use Rattle.adapter_code.specs.declared.statement.IntOp.{IntOp}
use Rattle.adapter_code.specs.declared.statement.IntOp.TheVariants.{Eq, Ne, LtU, LeU, Add, Sub, Mul, And, Or, Xor, Shl, ShrU}
use Rattle.adapter_code.specs.Number.{given_by}
use Rattle.adapter_compile.specs.Instructions.{get, set, tee, numeric, constant, opcode, conversion, load_of, store_of, at_offset}
use Rattle.adapter_compile.specs.Does.{core_type}
use Rattle.adapter_transfer.specs.Valid.{IsPiece}
use Rattle.adapter_transfer.proofs.ValidPieces.{one, nothing}

pub is_within : {A : Type 0} → (xs : List A) (i : ℕ) (x : A) → slice_get xs i ≡ Some x → i < length xs
is_within [] i x e = cc
is_within (y ∷ ys) zero x e = omega arith
is_within (y ∷ ys) (suc i) x e = let r = is_within ys i x e in omega (arith, r)

pub tests_within : {A : Type 0} → (xs : List A) (i : ℕ) (x : A) → slice_get xs i ≡ Some x → nat_lt i (length xs) ≡ true
tests_within xs i x e = go (length xs) (is_within xs i x e)
  where
    go : (n : ℕ) → i < n → nat_lt i n ≡ true
    go n lt = grind (arith, nat_tests)

pub tests_zero : (n : ℕ) → nat_le 0 n ≡ true
tests_zero n = grind (arith, nat_tests)

pub tests_some : (n : ℕ) → 0 < n → nat_lt 0 n ≡ true
tests_some n lt = grind (arith, nat_tests)

there : {A B : Type 0} → (o : Option A) (f : A → Option B) (y : B) → option_and_then f o ≡ Some y → (x : A) × (o ≡ Some x)
there None f y e = cc
there (Some x) f y e = (x, refl)

-- the operands of a type
abbrev pub of_width : Width → Operand
of_width w = Known (core_type w)

-- what a load leaves and a store takes, however many bytes it moves
loads_narrow : (one two : Bool) → loaded_type (if one then load.I32Narrow8U else (if two then load.I32Narrow16U else load.I32)) ≡ I32
loads_narrow true two = refl
loads_narrow false true = refl
loads_narrow false false = refl

loads_broad : (one two four : Bool) → loaded_type (if one then load.I64Narrow8U else (if two then load.I64Narrow16U else (if four then load.I64Narrow32U else load.I64))) ≡ I64
loads_broad true two four = refl
loads_broad false true four = refl
loads_broad false false true = refl
loads_broad false false false = refl

loads_width : (w : Width) (size : ℕ) → loaded_type (load_of w size) ≡ core_type w
loads_width Narrow size = loads_narrow (size == 1) (size == 2)
loads_width Broad size = loads_broad (size == 1) (size == 2) (size == 4)

stores_narrow : (one two : Bool) → stored_type (if one then store.I32Narrow8 else (if two then store.I32Narrow16 else store.I32)) ≡ I32
stores_narrow true two = refl
stores_narrow false true = refl
stores_narrow false false = refl

stores_broad : (one two four : Bool) → stored_type (if one then store.I64Narrow8 else (if two then store.I64Narrow16 else (if four then store.I64Narrow32 else store.I64))) ≡ I64
stores_broad true two four = refl
stores_broad false true four = refl
stores_broad false false true = refl
stores_broad false false false = refl

stores_width : (w : Width) (size : ℕ) → stored_type (store_of w size) ≡ core_type w
stores_width Narrow size = stores_narrow (size == 1) (size == 2)
stores_width Broad size = stores_broad (size == 1) (size == 2) (size == 4)

module _ (c : Context) (labels : Labels) where
  pub get_piece : (i : ℕ) (t : CoreType) → slice_get c.locals i ≡ Some t → IsPiece c labels (get i ∷ []) [] (Known t ∷ [])
  get_piece i t e =
      let P : Option CoreType → Type 0 = λ o. HasShape (of_type o (λ u. Fixed [] (u ∷ []))) [] (Known t ∷ []) in
      one c labels (get i) [] (Known t ∷ []) (subst P (sym e) (refl, refl)) (λ rule. (λ is. tests_within c.locals i t e, tt)) refl refl

  pub set_piece : (i : ℕ) (t : CoreType) → slice_get c.locals i ≡ Some t → IsPiece c labels (set i ∷ []) (Known t ∷ []) []
  set_piece i t e =
      let P : Option CoreType → Type 0 = λ o. HasShape (of_type o (λ u. Fixed (u ∷ []) [])) (Known t ∷ []) [] in
      one c labels (set i) (Known t ∷ []) [] (subst P (sym e) (refl, refl)) (λ rule. (λ is. tests_within c.locals i t e, tt)) refl refl

  pub tee_piece : (i : ℕ) (t : CoreType) → slice_get c.locals i ≡ Some t → IsPiece c labels (tee i ∷ []) (Known t ∷ []) (Known t ∷ [])
  tee_piece i t e =
      let P : Option CoreType → Type 0 = λ o. HasShape (of_type o (λ u. Fixed (u ∷ []) (u ∷ []))) (Known t ∷ []) (Known t ∷ []) in
      one c labels (tee i) (Known t ∷ []) (Known t ∷ []) (subst P (sym e) (refl, refl)) (λ rule. (λ is. tests_within c.locals i t e, tt)) refl refl

  pub constant_piece : (w : Width) (v : ℕ) → IsPiece c labels (constant w v ∷ []) [] (of_width w ∷ [])
  constant_piece Narrow v = one c labels (constant Narrow v) [] (Known I32 ∷ []) (refl, refl) (λ rule. tt) refl refl
  constant_piece Broad v = one c labels (constant Broad v) [] (Known I64 ∷ []) (refl, refl) (λ rule. tt) refl refl

  operates : (o : IntOp) (w : Width) → Types c labels (numeric (opcode o w)) (of_width w ∷ of_width w ∷ []) (of_width (given_by o w) ∷ [])
  operates Eq Narrow = (refl, refl)
  operates Eq Broad = (refl, refl)
  operates Ne Narrow = (refl, refl)
  operates Ne Broad = (refl, refl)
  operates LtU Narrow = (refl, refl)
  operates LtU Broad = (refl, refl)
  operates LeU Narrow = (refl, refl)
  operates LeU Broad = (refl, refl)
  operates Add Narrow = (refl, refl)
  operates Add Broad = (refl, refl)
  operates Sub Narrow = (refl, refl)
  operates Sub Broad = (refl, refl)
  operates Mul Narrow = (refl, refl)
  operates Mul Broad = (refl, refl)
  operates And Narrow = (refl, refl)
  operates And Broad = (refl, refl)
  operates Or Narrow = (refl, refl)
  operates Or Broad = (refl, refl)
  operates Xor Narrow = (refl, refl)
  operates Xor Broad = (refl, refl)
  operates Shl Narrow = (refl, refl)
  operates Shl Broad = (refl, refl)
  operates ShrU Narrow = (refl, refl)
  operates ShrU Broad = (refl, refl)

  -- a numeric instruction by what it takes and leaves
  pub numeric_piece : (code : ℕ) (before after : List Operand) → Types c labels (numeric code) before after → IsPiece c labels (numeric code ∷ []) before after
  numeric_piece code before after types = one c labels (numeric code) before after types (λ rule. tt) refl refl

  pub operator_piece : (o : IntOp) (w : Width) → IsPiece c labels (numeric (opcode o w) ∷ []) (of_width w ∷ of_width w ∷ []) (of_width (given_by o w) ∷ [])
  operator_piece o w = numeric_piece (opcode o w) _ _ (operates o w)

  pub conversion_piece : (to from : Width) → IsPiece c labels (conversion to from) (of_width from ∷ []) (of_width to ∷ [])
  conversion_piece Narrow Narrow = nothing c labels (of_width Narrow ∷ [])
  conversion_piece Broad Broad = nothing c labels (of_width Broad ∷ [])
  conversion_piece Narrow Broad = numeric_piece 0xA7 _ _ (refl, refl)
  conversion_piece Broad Narrow = numeric_piece 0xAD _ _ (refl, refl)

  pub load_piece : (w : Width) (size offset : ℕ) → 0 < c.memories → IsPiece c labels (Plain (op.Load (load_of w size) (at_offset offset)) ∷ []) (Known I32 ∷ []) (of_width w ∷ [])
  load_piece w size offset some =
      let P : CoreType → Type 0 = λ t. HasShape (Fixed (I32 ∷ []) (loaded_type (load_of w size) ∷ [])) (Known I32 ∷ []) (Known t ∷ []) in
      one c labels (Plain (op.Load (load_of w size) (at_offset offset))) (Known I32 ∷ []) (of_width w ∷ []) (subst P (loads_width w size) (refl, refl))
      (λ rule. (λ is. tests_some c.memories some, (λ is. tests_zero (load_width (load_of w size)), tt))) refl refl

  pub store_piece : (w : Width) (size offset : ℕ) → 0 < c.memories → IsPiece c labels (Plain (op.Store (store_of w size) (at_offset offset)) ∷ []) (of_width w ∷ Known I32 ∷ []) []
  store_piece w size offset some =
      let P : CoreType → Type 0 = λ t. HasShape (Fixed (I32 ∷ stored_type (store_of w size) ∷ []) []) (Known t ∷ Known I32 ∷ []) [] in
      one c labels (Plain (op.Store (store_of w size) (at_offset offset))) (of_width w ∷ Known I32 ∷ []) [] (subst P (stores_width w size) (refl, refl))
      (λ rule. (λ is. tests_some c.memories some, (λ is. tests_zero (store_width (store_of w size)), tt))) refl refl

  -- what never goes on takes and leaves any operands
  pub trap_piece : (before after : List Operand) → IsPiece c labels (Unreachable ∷ []) before after
  trap_piece before after = one c labels Unreachable before after tt (λ rule. tt) refl refl

  label_within : (n : ℕ) (l : List Operand) → label_at labels n ≡ Some l → nat_lt n (length labels) ≡ true
  label_within n l e = let found = there (slice_get labels n) (λ o. o) l e in tests_within labels n found.0 found.1

  pub branch_piece : (n : ℕ) → label_at labels n ≡ Some [] → IsPiece c labels (Br n ∷ []) [] []
  branch_piece n e = one c labels (Br n) [] [] ([], e, [], refl) (λ rule. (λ is. label_within n [] e, tt)) refl refl

  pub branch_if_piece : (n : ℕ) → label_at labels n ≡ Some [] → IsPiece c labels (BrIf n ∷ []) (Known I32 ∷ []) []
  branch_if_piece n e = one c labels (BrIf n) (Known I32 ∷ []) [] ([], e, refl, refl) (λ rule. (λ is. label_within n [] e, tt)) refl refl

  pub call_piece : (f : ℕ) (ty : CoreFunc) → function_type c f ≡ Some ty → IsPiece c labels (Call f ∷ []) (operands ty.params) (operands ty.results)
  call_piece f ty e =
      let P : Option CoreFunc → Type 0 = λ o. HasShape (call_shape o) (operands ty.params) (operands ty.results) in
      let found = there (slice_get c.functions f) (λ t. slice_get c.types t) ty e in
      one c labels (Call f) (operands ty.params) (operands ty.results) (subst P (sym e) (refl, refl)) (λ rule. (λ is. tests_within c.functions f found.0 found.1, tt)) refl refl
