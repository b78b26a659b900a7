-- Numeric instructions.
use Rattle.std.proofs.Common.{◌≡◌, ◌≢◌, ℕ, suc, ◌+◌, ◌==◌, List, ◌∷◌, length, refl, ap, sym, ◌∙◌, arith, Bool, true, false, Option, Some, None, Result, Ok, Err}
use Rattle.std.proofs.Common.{eq-eqb}
use Rattle.std.proofs.lemmas.Bool.{ne_eqb}
use Rattle.std.specs.Prelude.{IfOk}
use Rattle.virt_base.specs.declared.fault.Trap.{Trap}
use Rattle.wasm_ast.specs.declared.numeric.Numeric.{Numeric}
use Rattle.wasm_ast.specs.Numeric.{numeric}
use Rattle.wasm_ast.specs.declared.instr.Op.TheVariants as op
use Rattle.core_integer.specs.Integer.{integer}
use Rattle.core_store.specs.declared.value.CoreSpaces.{CoreSpaces}
use Rattle.core_store.specs.State.{State}
use Rattle.core_store.specs.Config.{Reply}
use Rattle.core_store.specs.Plain.{calculate, with_ok, operand_in}
use Rattle.core_slots.specs.Stacked.{Stacked, with_operands}
use Rattle.core_interp.specs.Rest.{config_of}
use Rattle.core_store.specs.Fine.{numeric_takes}
use Rattle.core_interp.specs.Plains.{Stays, Did, Puts}
use Rattle.core_interp.proofs.Changes.{if_true, if_false}

unequal : (a b : ℕ) → a ≢ b → (a == b) ≡ false
unequal a b h = ne_eqb a b h

same_store : (s : State) → Stays s s
same_store s = record { scene = refl; nesting = refl }

module _ (code : ℕ) (kind : Numeric) (sp : CoreSpaces) (s : State) (b : Stacked) where
  one_is : (rs : List Reply) (x : ℕ) → (kind.params == 1) ≡ true → calculate code (Some kind) (config_of (with_operands b (x ∷ b.operands)) sp s rs) ≡ with_ok (integer code (operand_in kind.from x) 0) (λ r. Some (config_of (with_operands b (r ∷ b.operands)) sp s rs))
  one_is rs x e = if_true _ _ _ e

  two_is : (rs : List Reply) (x y : ℕ) → (kind.params == 1) ≡ false → calculate code (Some kind) (config_of (with_operands b (y ∷ x ∷ b.operands)) sp s rs) ≡ with_ok (integer code (operand_in kind.from x) (operand_in kind.from y)) (λ r. Some (config_of (with_operands b (r ∷ b.operands)) sp s rs))
  two_is rs x y e = if_false _ _ _ e

  put_in : (rs : List Reply) (d : Stacked) (v : ℕ) → d ≡ with_operands b (v ∷ b.operands) → with_ok (Ok v) (λ r. Some (config_of (with_operands b (r ∷ b.operands)) sp s rs)) ≡ Some (config_of d sp s rs)
  put_in rs d v e = ap (λ (z : Stacked). Some (config_of z sp s rs)) (sym e)

  did : (a d : Stacked) (v : ℕ) (went : Bool) → went ≡ true → ((rs : List Reply) → calculate code (numeric code) (config_of a sp s rs) ≡ Some (config_of d sp s rs)) → length a.operands ≡ length b.operands + numeric_takes (numeric code) → a.locals ≡ b.locals → a.callers ≡ b.callers → d ≡ with_operands b (v ∷ b.operands) → Did (op.Numeric code) sp a s d s went
  did a d v false w f len locals callers e = absurd (cc)
  did a d v true w f len locals callers e =
      let n : length d.operands ≡ length b.operands + 1 = ap (λ (z : Stacked). length z.operands) e ∙ add_one (length b.operands) in
      record {
        does = f;
        count = omega arith;
        locals = ap (λ ls. length ls) locals ∙ sym (ap (λ (z : Stacked). length z.locals) e);
        callers = callers ∙ sym (ap (λ (z : Stacked). z.callers) e);
        stays = same_store s;
      }
    where
      add_one : (n : ℕ) → suc n ≡ n + 1
      add_one n = omega arith

  did_not : (a d : Stacked) (went : Bool) → went ≡ false → ((rs : List Reply) → calculate code (numeric code) (config_of a sp s rs) ≡ None) → Did (op.Numeric code) sp a s d s went
  did_not a d true w f = absurd (cc)
  did_not a d false w f = (f, same_store s)

pub unary : (code : ℕ) (kind : Numeric) (sp : CoreSpaces) (s : State) (a b d : Stacked) (x : ℕ) (out : Result ℕ Trap) (went : Bool) → Some kind ≡ numeric code → kind.params ≡ 1 → a ≡ with_operands b (x ∷ b.operands) → out ≡ integer code (operand_in kind.from x) 0 → Puts out b d went → Did (op.Numeric code) sp a s d s went
unary code kind sp s a b d x out went known one popped is puts = cases out is puts
  where
    starts : (rs : List Reply) → calculate code (numeric code) (config_of a sp s rs) ≡ with_ok out (λ r. Some (config_of (with_operands b (r ∷ b.operands)) sp s rs))
    starts rs =
        ap (λ (z : Stacked). calculate code (numeric code) (config_of z sp s rs)) popped
        ∙ ap (λ (k : Option Numeric). calculate code k (config_of (with_operands b (x ∷ b.operands)) sp s rs)) (sym known)
        ∙ one_is code kind sp s b rs x (eq-eqb kind.params 1 one)
        ∙ ap (λ (o : Result ℕ Trap). with_ok o (λ r. Some (config_of (with_operands b (r ∷ b.operands)) sp s rs))) (sym is)

    taken : numeric_takes (numeric code) ≡ 1
    taken = ap numeric_takes (sym known) ∙ if_true _ 1 2 (eq-eqb kind.params 1 one)

    cases : (o : Result ℕ Trap) → o ≡ integer code (operand_in kind.from x) 0 → Puts o b d went → Did (op.Numeric code) sp a s d s went
    cases (Ok v) e p =
        let same : out ≡ Ok v = is ∙ sym e in
        let n : length a.operands ≡ length b.operands + numeric_takes (numeric code) = omega (arith, taken, ap (λ (z : Stacked). length z.operands) popped) in
        did code kind sp s b a d v went p.0
        (λ rs. starts rs ∙ ap (λ (o : Result ℕ Trap). with_ok o (λ r. Some (config_of (with_operands b (r ∷ b.operands)) sp s rs))) same ∙ put_in code kind sp s b rs d v p.1)
        n (ap (λ (z : Stacked). z.locals) popped) (ap (λ (z : Stacked). z.callers) popped) p.1
    cases (Err t) e p =
        let same : out ≡ Err t = is ∙ sym e in
        did_not code kind sp s b a d went p (λ rs. starts rs ∙ ap (λ (o : Result ℕ Trap). with_ok o (λ r. Some (config_of (with_operands b (r ∷ b.operands)) sp s rs))) same)

pub binary : (code : ℕ) (kind : Numeric) (sp : CoreSpaces) (s : State) (a b1 b d : Stacked) (x y : ℕ) (out : Result ℕ Trap) (went : Bool) → Some kind ≡ numeric code → kind.params ≢ 1 → a ≡ with_operands b1 (y ∷ b1.operands) → b1 ≡ with_operands b (x ∷ b.operands) → out ≡ integer code (operand_in kind.from x) (operand_in kind.from y) → Puts out b d went → Did (op.Numeric code) sp a s d s went
binary code kind sp s a b1 b d x y out went known two popped popped2 is puts = cases out is puts
  where
    both : a ≡ with_operands b (y ∷ x ∷ b.operands)
    both = popped ∙ ap (λ (z : Stacked). with_operands z (y ∷ z.operands)) popped2

    starts : (rs : List Reply) → calculate code (numeric code) (config_of a sp s rs) ≡ with_ok out (λ r. Some (config_of (with_operands b (r ∷ b.operands)) sp s rs))
    starts rs =
        ap (λ (z : Stacked). calculate code (numeric code) (config_of z sp s rs)) both
        ∙ ap (λ (k : Option Numeric). calculate code k (config_of (with_operands b (y ∷ x ∷ b.operands)) sp s rs)) (sym known)
        ∙ two_is code kind sp s b rs x y (unequal kind.params 1 two)
        ∙ ap (λ (o : Result ℕ Trap). with_ok o (λ r. Some (config_of (with_operands b (r ∷ b.operands)) sp s rs))) (sym is)

    taken : numeric_takes (numeric code) ≡ 2
    taken = ap numeric_takes (sym known) ∙ if_false _ 1 2 (unequal kind.params 1 two)

    cases : (o : Result ℕ Trap) → o ≡ integer code (operand_in kind.from x) (operand_in kind.from y) → Puts o b d went → Did (op.Numeric code) sp a s d s went
    cases (Ok v) e p =
        let same : out ≡ Ok v = is ∙ sym e in
        let n : length a.operands ≡ length b.operands + numeric_takes (numeric code) = omega (arith, taken, ap (λ (z : Stacked). length z.operands) both) in
        did code kind sp s b a d v went p.0
        (λ rs. starts rs ∙ ap (λ (o : Result ℕ Trap). with_ok o (λ r. Some (config_of (with_operands b (r ∷ b.operands)) sp s rs))) same ∙ put_in code kind sp s b rs d v p.1)
        n (ap (λ (z : Stacked). z.locals) both) (ap (λ (z : Stacked). z.callers) both) p.1
    cases (Err t) e p =
        let same : out ≡ Err t = is ∙ sym e in
        did_not code kind sp s b a d went p (λ rs. starts rs ∙ ap (λ (o : Result ℕ Trap). with_ok o (λ r. Some (config_of (with_operands b (r ∷ b.operands)) sp s rs))) same)

-- the answer of the call, at whichever answer it is
pub on_ok : {E : Type 0} (r : Result Bool E) (P Q : Bool → Type 0) → IfOk r P → ((went : Bool) → P went → Q went) → IfOk r Q
on_ok (Ok went) P Q h f = f went h
on_ok (Err e) P Q h f = tt
