-- Pieces of code and how they are put together.
use Rattle.std.proofs.Common.{◌≡◌, ℕ, suc, ◌+◌, ◌-◌, ◌<◌, List, [], ◌∷◌, ◌++◌, Some, true, length, refl, sym, ap, ◌∙◌, subst, arith, append-nil, append_assoc}
use Rattle.std.specs.Prelude.{nat_lt, slice_get}
use Rattle.std.proofs.lemmas.Bool.Decides.{nat_tests}
use Rattle.virt_base.specs.declared.core_type.CoreType.{CoreType}
use Rattle.virt_base.specs.declared.core_type.CoreType.TheVariants.{I32}
use Rattle.wasm_ast.specs.declared.instr.BlockType.TheVariants.{Empty}
use Rattle.wasm_ast.specs.declared.instr.Instr.{Instr}
use Rattle.wasm_ast.specs.declared.instr.Instr.TheVariants.{Block as BlockOf, Loop as LoopOf, If as IfOf, Else, End}
use Rattle.core_body.specs.declared.operand.Operand.{Operand}
use Rattle.core_body.specs.declared.operand.Operand.TheVariants.{Known}
use Rattle.core_body.specs.Context.{Context, arrow}
use Rattle.core_body.specs.Conditions.{Condition, conditions, declared_conditions, labels_behind, code_conditions}
use Rattle.core_body.specs.Typing.{Trees, Nil, Cons, Leaf, Block, Loop, If, IfElse, spell, Labels, Types, Typed, AllBelow, operands}
use Rattle.core_body.specs.Views.{in_body}
use Rattle.core_body.proofs.Fits.{AllBelow-refl}
use Rattle.core_validate.specs.Validity.{AreMet, PartHolds}
use Rattle.adapter_transfer.specs.Valid.{IsPiece, body_part}

met_both : (c : Context) (rule : ℕ) (xs ys : List Condition) → AreMet c rule xs → AreMet c rule ys → AreMet c rule (xs ++ ys)
met_both c rule [] ys p q = q
met_both c rule (x ∷ xs) ys p q = (p.0, met_both c rule xs ys p.1 q)

pub joined : (c : Context) (labels : Labels) (x y : List Instr) (before middle after : List Operand) → IsPiece c labels x before middle → IsPiece c labels y middle after → IsPiece c labels (x ++ y) before after
joined c labels x y before middle after p q = record {
  trees = λ s. p.trees (q.trees s);
  spelled = λ s rest. append_assoc x y (spell s rest) ∙ ap (λ l. x ++ l) (q.spelled s rest) ∙ p.spelled (q.trees s) rest;
  typed = λ s below end t. p.typed (q.trees s) below end (q.typed s below end t);
  met = λ rule rest m.
      let P : List Instr → Type 0 = λ l. AreMet c rule (code_conditions true (length labels) l) in
      subst P (sym (append_assoc x y rest)) (p.met rule (y ++ rest) (q.met rule rest m));
}

-- the code of a body, with its end
pub whole_body : (c : Context) (locals results : List CoreType) (code : List Instr) → IsPiece (in_body c locals results) (Some (operands results) ∷ []) code [] (operands results) → (rule : ℕ) → PartHolds rule (body_part c locals results code)
whole_body c locals results code p rule = (
  p.met rule (End ∷ []) tt,
  λ is. record {
    trees = p.trees Nil;
    spelled = p.spelled Nil (End ∷ []);
    typed =
        let P : List Operand → Type 0 = λ l. AllBelow l (operands results) in
        p.typed Nil [] (operands results) (subst P (sym (append-nil (operands results))) (AllBelow-refl (operands results)));
  },
)

module _ (c : Context) (labels : Labels) where
  pub nothing : (os : List Operand) → IsPiece c labels [] os os
  nothing os = record { trees = λ q. q; spelled = λ q rest. refl; typed = λ q below end t. t; met = λ rule rest m. m }

  -- above other operands
  pub above : (x : List Instr) (before after os : List Operand) → IsPiece c labels x before after → IsPiece c labels x (before ++ os) (after ++ os)
  above x before after os p = record {
    trees = p.trees;
    spelled = p.spelled;
    typed = λ q below end t.
        let P : List Operand → Type 0 = λ l. Typed c labels q l end in
        let Q : List Operand → Type 0 = λ l. Typed c labels (p.trees q) l end in
        subst Q (sym (append_assoc before os below)) (p.typed q (os ++ below) end (subst P (append_assoc after os below) t));
    met = p.met;
  }

  -- one instruction that holds no others
  pub one : (i : Instr) (before after : List Operand) → Types c labels i before after → ((rule : ℕ) → AreMet c rule (conditions (length labels) i)) → declared_conditions i ≡ [] → labels_behind (length labels) i ≡ length labels → IsPiece c labels (i ∷ []) before after
  one i before after types kept none same = record {
    trees = λ q. Cons (Leaf i) q;
    spelled = λ q rest. refl;
    typed = λ q below end t. (before, after, below, AllBelow-refl (before ++ below), types, t);
    met = λ rule rest m.
        let P : List Condition → Type 0 = λ l. AreMet c rule (l ++ code_conditions true (labels_behind (length labels) i) rest) in
        let Q : ℕ → Type 0 = λ n. AreMet c rule (code_conditions true n rest) in
        met_both c rule (conditions (length labels) i) _ (kept rule) (subst P (sym none) (subst Q (sym same) m));
  }

  -- what is after a bracket, and after its end
  open_met : (rule : ℕ) (code : List Instr) → AreMet c rule (code_conditions true (suc (length labels)) code) → AreMet c rule (code_conditions true (length labels + 1) code)
  open_met rule code m =
      let P : ℕ → Type 0 = λ n. AreMet c rule (code_conditions true n code) in
      let e : suc (length labels) ≡ length labels + 1 = omega arith in
      subst P e m

  closed_met : (rule : ℕ) (rest : List Instr) → AreMet c rule (code_conditions true (length labels) rest) → AreMet c rule (code_conditions true (suc (length labels)) (End ∷ rest))
  closed_met rule rest m =
      let P : ℕ → Type 0 = λ n. AreMet c rule (code_conditions true n rest) in
      let e : length labels ≡ suc (length labels) - 1 = omega arith in
      subst P e m

  -- a body and its end, before the rest
  body_met : (rule : ℕ) (body rest : List Instr) → IsPiece c (Some [] ∷ labels) body [] [] → AreMet c rule (code_conditions true (length labels) rest) → AreMet c rule (code_conditions true (length labels + 1) ((body ++ End ∷ []) ++ rest))
  body_met rule body rest p m =
      let P : List Instr → Type 0 = λ l. AreMet c rule (code_conditions true (suc (length labels)) l) in
      open_met rule ((body ++ End ∷ []) ++ rest) (subst P (sym (append_assoc body (End ∷ []) rest)) (p.met rule (End ∷ rest) (closed_met rule rest m)))

  body_spelled : (body : List Instr) (q : Trees) (rest : List Instr) (p : IsPiece c (Some [] ∷ labels) body [] []) → (body ++ End ∷ []) ++ spell q rest ≡ spell (p.trees Nil) (End ∷ spell q rest)
  body_spelled body q rest p = append_assoc body (End ∷ []) (spell q rest) ∙ p.spelled Nil (End ∷ spell q rest)

  pub in_block : (body : List Instr) → IsPiece c (Some [] ∷ labels) body [] [] → IsPiece c labels (BlockOf Empty ∷ (body ++ End ∷ [])) [] []
  in_block body p = record {
    trees = λ q. Cons (Block Empty (p.trees Nil)) q;
    spelled = λ q rest. ap (λ l. BlockOf Empty ∷ l) (body_spelled body q rest p);
    typed = λ q below end t. ([], [], below, AllBelow-refl below, (arrow [] [], refl, refl, refl, p.typed Nil [] [] tt), t);
    met = λ rule rest m. body_met rule body rest p m;
  }

  pub in_loop : (body : List Instr) → IsPiece c (Some [] ∷ labels) body [] [] → IsPiece c labels (LoopOf Empty ∷ (body ++ End ∷ [])) [] []
  in_loop body p = record {
    trees = λ q. Cons (Loop Empty (p.trees Nil)) q;
    spelled = λ q rest. ap (λ l. LoopOf Empty ∷ l) (body_spelled body q rest p);
    typed = λ q below end t. ([], [], below, AllBelow-refl below, (arrow [] [], refl, refl, refl, p.typed Nil [] [] tt), t);
    met = λ rule rest m. body_met rule body rest p m;
  }

  pub in_if : (body : List Instr) → IsPiece c (Some [] ∷ labels) body [] [] → IsPiece c labels (IfOf Empty ∷ (body ++ End ∷ [])) (Known I32 ∷ []) []
  in_if body p = record {
    trees = λ q. Cons (If Empty (p.trees Nil)) q;
    spelled = λ q rest. ap (λ l. IfOf Empty ∷ l) (body_spelled body q rest p);
    typed = λ q below end t. (Known I32 ∷ [], [], below, AllBelow-refl (Known I32 ∷ below), (arrow [] [], refl, refl, refl, refl, p.typed Nil [] [] tt), t);
    met = λ rule rest m. body_met rule body rest p m;
  }

  pub in_choice : (first other : List Instr) → IsPiece c (Some [] ∷ labels) first [] [] → IsPiece c (Some [] ∷ labels) other [] [] → IsPiece c labels (IfOf Empty ∷ (first ++ Else ∷ (other ++ End ∷ []))) (Known I32 ∷ []) []
  in_choice first other p q = record {
    trees = λ s. Cons (IfElse Empty (p.trees Nil) (q.trees Nil)) s;
    spelled = λ s rest.
        ap (λ l. IfOf Empty ∷ l) (append_assoc first (Else ∷ (other ++ End ∷ [])) (spell s rest) ∙ ap (λ l. first ++ (Else ∷ l)) (body_spelled other s rest q) ∙ p.spelled Nil (Else ∷ spell (q.trees Nil) (End ∷ spell s rest)));
    typed = λ s below end t. (Known I32 ∷ [], [], below, AllBelow-refl (Known I32 ∷ below), (arrow [] [], refl, refl, refl, p.typed Nil [] [] tt, q.typed Nil [] [] tt), t);
    met = λ rule rest m.
        let P : List Instr → Type 0 = λ l. AreMet c rule (code_conditions true (suc (length labels)) l) in
        let Q : List Instr → Type 0 = λ l. AreMet c rule (code_conditions true (suc (length labels)) l) in
        let inner = subst Q (sym (append_assoc other (End ∷ []) rest)) (q.met rule (End ∷ rest) (closed_met rule rest m)) in
        open_met rule ((first ++ Else ∷ (other ++ End ∷ [])) ++ rest) (subst P (sym (append_assoc first (Else ∷ (other ++ End ∷ [])) rest)) (p.met rule (Else ∷ ((other ++ End ∷ []) ++ rest)) inner));
  }
