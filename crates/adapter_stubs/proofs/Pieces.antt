-- The code of a stub is valid.
use Rattle.std.proofs.Common.{◌≡◌, ◌⊎◌, ℕ, zero, suc, ◌+◌, ◌≤◌, List, [], ◌∷◌, ◌++◌, Option, Some, None, All, map, length, refl, sym, ap, ◌∙◌, subst, arith, inl, inr, append_assoc}
use Rattle.std.specs.Prelude.{slice_get, if◌then◌else◌}
use Rattle.std.proofs.Math.Nat.{le-max_left, le-max_right}
use Rattle.std.proofs.lemmas.List.{reverse-append}
use Rattle.std.proofs.lemmas.List.Elements.{All-head}
use Rattle.virt_base.specs.declared.core_type.CoreType.{CoreType}
use Rattle.virt_base.specs.declared.core_type.CoreType.TheVariants.{I32}
use Rattle.wasm_ast.specs.declared.instr.BlockType.TheVariants.{Empty}
use Rattle.wasm_ast.specs.declared.instr.Instr.{Instr}
use Rattle.wasm_ast.specs.declared.instr.Instr.TheVariants.{If, End, Call}
use Rattle.core_body.specs.declared.operand.Operand.{Operand}
use Rattle.core_body.specs.declared.operand.Operand.TheVariants.{Known}
use Rattle.core_body.specs.Context.{Context, function_type}
use Rattle.core_body.specs.Typing.{Labels, operands}
use Rattle.adapter_code.specs.declared.statement.Width.TheVariants.{Narrow}
use Rattle.adapter_code.specs.Code.{code_of}
use Rattle.adapter_compile.specs.declared.calls.HandleCalls.{HandleCalls}
use Rattle.adapter_compile.specs.Instructions.{get, set, routine_code}
use Rattle.adapter_compile.specs.Bounds.{nesting}
use Rattle.adapter_compile.specs.Does.{core_type}
use Rattle.adapter_transfer.proofs.Lists.{all_at}
use Rattle.adapter_transfer.specs.Valid.{IsPiece, HasFunctions}
use Rattle.adapter_transfer.proofs.ValidPieces.{joined, nothing, above, in_if}
use Rattle.adapter_transfer.proofs.InstructionLaws.{get_piece, set_piece, call_piece}
use Rattle.adapter_transfer.proofs.Routines.{valid_routine}
use Rattle.adapter_transfer.proofs.Functions.{locals_of, may_hold, may_hold_fewer}
use Rattle.adapter_stubs.specs.declared.stub.HostFunc.{HostFunc}
use Rattle.adapter_stubs.specs.declared.stub.Stub.{Stub}
use Rattle.adapter_stubs.specs.Stub.{gets, result_at, keeps_result, host_code}
use Rattle.adapter_stubs.specs.Widths.{width_of, IsFlat, gives, result_width, host_params, stub_widths, flag_of, result_of}
use Rattle.adapter_stubs.specs.Bodies.{host_call, asking_code, answer_code, stub_code, counters_of, HostFits, IsStub}
use Rattle.adapter_stubs.proofs.Locals.{flat_same, at_flag, at_param, at_result, local_at}

-- locals one above the other, the last on top
gets_piece : (c : Context) (labels : Labels) (ts : List CoreType) (from n : ℕ) → n ≡ length ts → ((i : ℕ) (t : CoreType) → slice_get ts i ≡ Some t → slice_get c.locals (from + i) ≡ Some t) → IsPiece c labels (gets from n) [] (operands ts)
gets_piece c labels [] from zero e there = nothing c labels []
gets_piece c labels [] from (suc n) e there = absurd (omega (arith, e))
gets_piece c labels (t ∷ ts) from zero e there = absurd (omega (arith, e))
gets_piece c labels (t ∷ ts) from (suc n) e there =
    let P : List Operand → Type 0 = λ l. IsPiece c labels (gets from (suc n)) [] l in
    let here : from + 0 ≡ from = omega arith in
    let first = get_piece c labels from t (ap (slice_get c.locals) (sym here) ∙ there 0 t refl) in
    let others = gets_piece c labels ts (suc from) n (omega (arith, e)) (λ i u is. let next : suc from + i ≡ from + suc i = omega arith in ap (slice_get c.locals) next ∙ there (suc i) u is) in
    subst P (sym (reverse-append (Known t ∷ []) (map Known ts)))
    (joined c labels (get from ∷ []) (gets (suc from) n) [] (Known t ∷ []) (operands ts ++ Known t ∷ []) first (above c labels (gets (suc from) n) [] (operands ts) (Known t ∷ []) others))

-- the result of a call, if it gives one, is kept
keeps_piece : (c : Context) (labels : Labels) (results : List CoreType) (at : ℕ) → length results ≤ 1 → ((t : CoreType) → results ≡ t ∷ [] → slice_get c.locals at ≡ Some t) → IsPiece c labels (if gives results then set at ∷ [] else []) (operands results) []
keeps_piece c labels [] at few there = nothing c labels []
keeps_piece c labels (t ∷ []) at few there = set_piece c labels at t (there t refl)
keeps_piece c labels (t ∷ u ∷ ts) at few there = absurd (omega (arith, few))

answer_piece : (c : Context) (labels : Labels) (results : List CoreType) (at : ℕ) → length results ≤ 1 → ((t : CoreType) → results ≡ t ∷ [] → slice_get c.locals at ≡ Some t) → IsPiece c labels (answer_code at results) [] (operands results)
answer_piece c labels [] at few there = nothing c labels []
answer_piece c labels (t ∷ []) at few there = get_piece c labels at t (there t refl)
answer_piece c labels (t ∷ u ∷ ts) at few there = absurd (omega (arith, few))

module _ (c : Context) (s : Stub) (calls : HandleCalls) (at : ℕ) (is : IsStub s) (locals : c.locals ≡ locals_of (stub_widths s) (counters_of s)) (has : HasFunctions c calls) where
  before_piece : (labels : Labels) → IsPiece c labels (routine_code (stub_widths s) calls (code_of s.before.items)) [] []
  before_piece labels =
      valid_routine (stub_widths s) calls (code_of s.before.items) c labels is.before
      (may_hold_fewer c (stub_widths s) (nesting (code_of s.before.items)) (counters_of s) calls (le-max_left (nesting (code_of s.before.items)) (nesting (code_of s.after.items))) (may_hold c (stub_widths s) (counters_of s) calls locals has))

  after_piece : (labels : Labels) → IsPiece c labels (routine_code (stub_widths s) calls (code_of s.after.items)) [] []
  after_piece labels =
      valid_routine (stub_widths s) calls (code_of s.after.items) c labels is.after
      (may_hold_fewer c (stub_widths s) (nesting (code_of s.after.items)) (counters_of s) calls (le-max_right (nesting (code_of s.before.items)) (nesting (code_of s.after.items))) (may_hold c (stub_widths s) (counters_of s) calls locals has))

  result_there : (t : CoreType) → s.flat.results ≡ t ∷ [] → slice_get c.locals (result_of s) ≡ Some t
  result_there t e =
      let P : List CoreType → Type 0 = λ l. All IsFlat l in
      let flat = All-head IsFlat t [] (subst P e is.results) in
      local_at s c (counters_of s) (result_of s) (result_width s.flat.results) locals (at_result s) ∙ ap Some (ap (λ l. core_type (result_width l)) e ∙ flat_same t flat)

  module _ (h : HostFunc) (hosted : s.host ≡ Some h) (type : function_type c at ≡ Some h.flat) (params : All IsFlat h.flat.params) (results : (h.flat.results ≡ []) ⊎ (h.flat.results ≡ s.flat.results)) where
    same_result : result_of s ≡ result_at (flag_of s) (host_call at h)
    same_result = ap (λ o. flag_of s + 1 + length (host_params o)) hosted

    param_there : (i : ℕ) (t : CoreType) → slice_get h.flat.params i ≡ Some t → slice_get c.locals (flag_of s + 1 + i) ≡ Some t
    param_there i t e =
        let there = at_param s i t (ap (λ o. slice_get (host_params o) i) hosted ∙ e) in
        local_at s c (counters_of s) (flag_of s + 1 + i) (width_of t) locals there ∙ ap Some (flat_same t (all_at IsFlat h.flat.params i t params e))

    few_results : length h.flat.results ≤ 1
    few_results = by results
      where
        by : (h.flat.results ≡ []) ⊎ (h.flat.results ≡ s.flat.results) → length h.flat.results ≤ 1
        by (inl e) = let long = ap length e in omega (arith, long)
        by (inr e) = let long = ap length e in omega (arith, long, is.single)

    kept_there : (t : CoreType) → h.flat.results ≡ t ∷ [] → slice_get c.locals (result_at (flag_of s) (host_call at h)) ≡ Some t
    kept_there t e = by results
      where
        by : (h.flat.results ≡ []) ⊎ (h.flat.results ≡ s.flat.results) → slice_get c.locals (result_at (flag_of s) (host_call at h)) ≡ Some t
        by (inl none) = let never = ap length (sym none ∙ e) in absurd (omega (arith, never))
        by (inr same) = ap (slice_get c.locals) (sym same_result) ∙ result_there t (sym same ∙ e)

    asked_piece : (labels : Labels) → IsPiece c labels (host_code (stub_widths s) calls (flag_of s) (host_call at h) (code_of s.after.items)) [] []
    asked_piece labels =
        let inner = Some [] ∷ labels in
        let G = gets (flag_of s + 1) (length h.flat.params) in
        let K = keeps_result (flag_of s) (host_call at h) in
        let A = routine_code (stub_widths s) calls (code_of s.after.items) in
        let P : List Instr → Type 0 = λ l. IsPiece c labels (get (flag_of s) ∷ If Empty ∷ l) [] [] in
        let called = joined c inner (Call at ∷ []) (K ++ A) (operands h.flat.params) (operands h.flat.results) [] (call_piece c inner at h.flat type)
        (joined c inner K A (operands h.flat.results) [] [] (keeps_piece c inner h.flat.results (result_at (flag_of s) (host_call at h)) few_results kept_there) (after_piece inner)) in
        let body = joined c inner G (Call at ∷ (K ++ A)) [] (operands h.flat.params) [] (gets_piece c inner h.flat.params (flag_of s + 1) (length h.flat.params) refl param_there) called in
        let spelled : (G ++ Call at ∷ (K ++ A)) ++ End ∷ [] ≡ G ++ Call at ∷ (K ++ (A ++ End ∷ [])) =
        append_assoc G (Call at ∷ (K ++ A)) (End ∷ []) ∙ ap (λ l. G ++ Call at ∷ l) (append_assoc K A (End ∷ [])) in
        subst P spelled
        (joined c labels (get (flag_of s) ∷ []) (If Empty ∷ ((G ++ Call at ∷ (K ++ A)) ++ End ∷ [])) [] (Known I32 ∷ []) [] (get_piece c labels (flag_of s) I32 (local_at s c (counters_of s) (flag_of s) Narrow locals (at_flag s)))
        (in_if c labels (G ++ Call at ∷ (K ++ A)) body))

  asking_piece : (labels : Labels) (o : Option HostFunc) → s.host ≡ o → HostFits s.flat.results o → ((h : HostFunc) → o ≡ Some h → function_type c at ≡ Some h.flat) → IsPiece c labels (asking_code calls at s o) [] []
  asking_piece labels None e fits type = nothing c labels []
  asking_piece labels (Some h) e fits type = asked_piece h e (type h refl) fits.0 fits.1 labels

  pub stub_piece : (labels : Labels) → ((h : HostFunc) → s.host ≡ Some h → function_type c at ≡ Some h.flat) → IsPiece c labels (stub_code calls at s) [] (operands s.flat.results)
  stub_piece labels type =
      joined c labels (routine_code (stub_widths s) calls (code_of s.before.items)) (asking_code calls at s s.host ++ answer_code (result_of s) s.flat.results) [] [] (operands s.flat.results) (before_piece labels)
      (joined c labels (asking_code calls at s s.host) (answer_code (result_of s) s.flat.results) [] [] (operands s.flat.results) (asking_piece labels s.host refl is.host type) (answer_piece c labels s.flat.results (result_of s) is.single result_there))
