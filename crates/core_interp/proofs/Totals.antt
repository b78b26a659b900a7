-- Numeric instructions that are no divisions have results.
use Rattle.std.proofs.Common.{◌≡◌, ℕ, zero, suc, ◌-◌, ◌<◌, ◌≤◌, ◌==◌, List, [], ◌∷◌, length, drop, arith, Bool, true, false, Option, Some, None, Result, Ok, Err, subst, refl, sym, ap, ◌∙◌}
use Rattle.std.specs.Prelude.{if◌then◌else◌, is_some, slice_index_or}
use Rattle.std.specs.Int.{Width, w32, w64}
use Rattle.std.proofs.lemmas.Grind.{common_steps}
use Rattle.virt_base.specs.declared.fault.Trap.{Trap}
use Rattle.virt_base.specs.declared.core_type.CoreType.{CoreType}
use Rattle.wasm_ast.specs.declared.numeric.Numeric.{Numeric}
use Rattle.wasm_ast.specs.Numeric.{numeric, is_from_to, is_numeric}
use Rattle.wasm_ast.specs.declared.instr.Op.TheVariants as op
use Rattle.core_integer.specs.Operators.{undefined}
use Rattle.core_integer.specs.Integer.{integer, results}
use Rattle.core_store.specs.declared.value.CoreSpaces.{CoreSpaces}
use Rattle.core_store.specs.State.{State, empty}
use Rattle.core_store.specs.Config.{Config, bare}
use Rattle.core_store.specs.Plain.{calculate, on_one, on_two, with_ok, operand_in}
use Rattle.core_store.specs.Fine.{numeric_takes}
use Rattle.core_slots.specs.Stacked.{Stacked, with_operands}
use Rattle.core_interp.specs.Plains.{Does, Did}
use Rattle.core_interp.specs.Straight.{Takes, is_total}
use Rattle.core_interp.specs.Rest.{config_of}
use Rattle.core_interp.proofs.Numerics.{unary, binary}

abbrev HasResult : Result ℕ Trap → Type 0
HasResult (Ok v) = Unit {0}
HasResult (Err e) = ⊥

by_case : (b : Bool) (x y : Result ℕ Trap) → (b ≡ true → HasResult x) → (b ≡ false → HasResult y) → HasResult (if b then x else y)
by_case true x y f g = f refl
by_case false x y f g = g refl

-- from add to rotr, the divisions are from the fourth to the seventh
between : (n : Width) (a b k : ℕ) → k < 15 → (3 ≤ k → k < 7 → ⊥) → HasResult (slice_index_or (results n a b) k undefined)
between n a b zero lt out = tt
between n a b (suc zero) lt out = tt
between n a b (suc (suc zero)) lt out = tt
between n a b (suc (suc (suc zero))) lt out = absurd (out (omega arith) (omega arith))
between n a b (suc (suc (suc (suc zero)))) lt out = absurd (out (omega arith) (omega arith))
between n a b (suc (suc (suc (suc (suc zero))))) lt out = absurd (out (omega arith) (omega arith))
between n a b (suc (suc (suc (suc (suc (suc zero)))))) lt out = absurd (out (omega arith) (omega arith))
between n a b (suc (suc (suc (suc (suc (suc (suc zero))))))) lt out = tt
between n a b (suc (suc (suc (suc (suc (suc (suc (suc zero)))))))) lt out = tt
between n a b (suc (suc (suc (suc (suc (suc (suc (suc (suc zero))))))))) lt out = tt
between n a b (suc (suc (suc (suc (suc (suc (suc (suc (suc (suc zero)))))))))) lt out = tt
between n a b (suc (suc (suc (suc (suc (suc (suc (suc (suc (suc (suc zero))))))))))) lt out = tt
between n a b (suc (suc (suc (suc (suc (suc (suc (suc (suc (suc (suc (suc zero)))))))))))) lt out = tt
between n a b (suc (suc (suc (suc (suc (suc (suc (suc (suc (suc (suc (suc (suc zero))))))))))))) lt out = tt
between n a b (suc (suc (suc (suc (suc (suc (suc (suc (suc (suc (suc (suc (suc (suc zero)))))))))))))) lt out = tt
between n a b (suc (suc (suc (suc (suc (suc (suc (suc (suc (suc (suc (suc (suc (suc (suc k))))))))))))))) lt out = absurd (omega arith)

-- what the tests of opcodes say
from : (a b op : ℕ) → is_from_to a b op ≡ true → a ≤ op
from a b op e = grind (arith, common_steps)

to : (a b op : ℕ) → is_from_to a b op ≡ true → op ≤ b
to a b op e = grind (arith, common_steps)

apart : (op : ℕ) → is_total op ≡ true → 0x6D ≤ op → op ≤ 0x70 → ⊥
apart op t a b = grind (arith, common_steps)

apart64 : (op : ℕ) → is_total op ≡ true → 0x7F ≤ op → op ≤ 0x82 → ⊥
apart64 op t a b = grind (arith, common_steps)

results32 : (op a b : ℕ) → is_total op ≡ true → is_from_to 0x6A 0x78 op ≡ true → HasResult (slice_index_or (results w32 a b) (op - 0x6A) undefined)
results32 op a b t e =
    let lo = from 0x6A 0x78 op e in let hi = to 0x6A 0x78 op e in
    between w32 a b (op - 0x6A) (omega arith) (λ x y. apart op t (omega arith) (omega arith))

results64 : (op a b : ℕ) → is_total op ≡ true → is_from_to 0x7C 0x8A op ≡ true → HasResult (slice_index_or (results w64 a b) (op - 0x7C) undefined)
results64 op a b t e =
    let lo = from 0x7C 0x8A op e in let hi = to 0x7C 0x8A op e in
    between w64 a b (op - 0x7C) (omega arith) (λ x y. apart64 op t (omega arith) (omega arith))

has_result : (op a b : ℕ) → is_total op ≡ true → HasResult (integer op a b)
has_result op a b t =
    by_case (op == 0x45) _ _ (λ _. tt) (λ _.
    by_case (op == 0x50) _ _ (λ _. tt) (λ _.
    by_case (is_from_to 0x46 0x4F op) _ _ (λ _. tt) (λ _.
    by_case (is_from_to 0x51 0x5A op) _ _ (λ _. tt) (λ _.
    by_case (is_from_to 0x67 0x69 op) _ _ (λ _. tt) (λ _.
    by_case (is_from_to 0x79 0x7B op) _ _ (λ _. tt) (λ _.
    by_case (is_from_to 0x6A 0x78 op) _ _ (λ e. results32 op a b t e) (λ _.
    by_case (is_from_to 0x7C 0x8A op) _ _ (λ e. results64 op a b t e) (λ _. tt))))))))

-- so that it cannot trap
pub no_trap : (op a b : ℕ) (e : Trap) (r : Result ℕ Trap) → is_total op ≡ true → r ≡ integer op a b → r ≡ Err e → ⊥
no_trap op a b e r t is err = subst HasResult (sym is ∙ err) (has_result op a b t)

-- an opcode under another name
pub same_code : (k c o : ℕ) (a d : Stacked) → c ≡ k → c ≡ o → ((sp : CoreSpaces) (s : State) → Does (op.Numeric k) sp a s d s) → (sp : CoreSpaces) (s : State) → Does (op.Numeric o) sp a s d s
same_code k c o a d e f h sp s = subst (λ j. Does (op.Numeric j) sp a s d s) (sym e ∙ f) (h sp s)

two_not_one : (n : ℕ) → n ≡ 2 → n ≡ 1 → ⊥
two_not_one n e f = omega arith

pub did_one : (code v : ℕ) (k : Option Numeric) (ty : CoreType) (r : Result ℕ Trap) (a d : Stacked) (x only : ℕ) (sp : CoreSpaces) (s : State) → k ≡ numeric code → Takes 1 ty k → a ≡ with_operands a (x ∷ drop 1 a.operands) → only ≡ operand_in ty x → r ≡ integer code only 0 → r ≡ Ok v → d ≡ with_operands a (v ∷ drop 1 a.operands) → Does (op.Numeric code) sp a s d s
did_one code v None ty r a d x only sp s known takes popped first is ok put = absurd takes
did_one code v (Some n) ty r a d x only sp s known takes popped first is ok put =
    unary code n sp s a (with_operands a (drop 1 a.operands)) d x (Ok v) true known takes.0 popped
    (sym ok ∙ is ∙ ap (λ j. integer code j 0) (first ∙ ap (λ t. operand_in t x) (sym takes.1)))
    (refl, put)

pub did_two : (code v : ℕ) (k : Option Numeric) (ty : CoreType) (r : Result ℕ Trap) (a b d : Stacked) (x y first last : ℕ) (sp : CoreSpaces) (s : State) → k ≡ numeric code → Takes 2 ty k → a ≡ with_operands b (y ∷ b.operands) → b ≡ with_operands b (x ∷ drop 1 b.operands) → last ≡ operand_in ty y → first ≡ operand_in ty x → r ≡ integer code first last → r ≡ Ok v → d ≡ with_operands b (v ∷ drop 1 b.operands) → Does (op.Numeric code) sp a s d s
did_two code v None ty r a b d x y first last sp s known takes popped popped2 second one is ok put = absurd takes
did_two code v (Some n) ty r a b d x y first last sp s known takes popped popped2 second one is ok put =
    binary code n sp s a b (with_operands b (drop 1 b.operands)) d x y (Ok v) true known (two_not_one n.params takes.0) popped popped2
    (sym ok ∙ is ∙ ap (λ j. integer code j last) (one ∙ ap (λ t. operand_in t x) (sym takes.1)) ∙ ap (integer code (operand_in n.from x)) (second ∙ ap (λ t. operand_in t y) (sym takes.1)))
    (refl, put)

-- with its operands there it goes on
ends_ok : (r : Result ℕ Trap) (f : ℕ → Config) → HasResult r → with_ok r (λ v. Some (f v)) ≡ None → ⊥
ends_ok (Ok v) f h e = cc
ends_ok (Err t) f h e = h

goes_one : (xs : List ℕ) (r : ℕ → Result ℕ Trap) (f : List ℕ → ℕ → Config) → ((x : ℕ) → HasResult (r x)) → 1 ≤ length xs → on_one xs (λ x rest. with_ok (r x) (λ v. Some (f rest v))) ≡ None → ⊥
goes_one [] r f h le e = omega arith
goes_one (x ∷ xs) r f h le e = ends_ok (r x) (f xs) (h x) e

goes_two : (xs : List ℕ) (r : ℕ → ℕ → Result ℕ Trap) (f : List ℕ → ℕ → Config) → ((x y : ℕ) → HasResult (r x y)) → 2 ≤ length xs → on_two xs (λ y x rest. with_ok (r x y) (λ v. Some (f rest v))) ≡ None → ⊥
goes_two [] r f h le e = omega arith
goes_two (y ∷ []) r f h le e = omega arith
goes_two (y ∷ x ∷ xs) r f h le e = ends_ok (r x y) (f xs) (h x y) e

goes_either : (one : Bool) (xs : List ℕ) (r : ℕ → Result ℕ Trap) (q : ℕ → ℕ → Result ℕ Trap) (f : List ℕ → ℕ → Config) → ((x : ℕ) → HasResult (r x)) → ((x y : ℕ) → HasResult (q x y)) → (if one then 1 else 2) ≤ length xs → (if one then on_one xs (λ x rest. with_ok (r x) (λ v. Some (f rest v))) else on_two xs (λ y x rest. with_ok (q x y) (λ v. Some (f rest v)))) ≡ None → ⊥
goes_either true xs r q f h g le e = goes_one xs r f h le e
goes_either false xs r q f h g le e = goes_two xs q f g le e

goes_row : (code : ℕ) (k : Option Numeric) (c : Config) → is_some k ≡ true → is_total code ≡ true → numeric_takes k ≤ length c.stack → calculate code k c ≡ None → ⊥
goes_row code None c known t le e = cc
goes_row code (Some n) c known t le e =
    goes_either (n.params == 1) c.stack (λ x. integer code (operand_in n.from x) 0) (λ x y. integer code (operand_in n.from x) (operand_in n.from y)) (λ rest v. record c { stack = v ∷ rest })
    (λ x. has_result code _ _ t) (λ x y. has_result code _ _ t) le e

pub not_none : (code : ℕ) (a d : Stacked) (w : Bool) → is_numeric code ≡ true → is_total code ≡ true → numeric_takes (numeric code) ≤ length a.operands → ((sp : CoreSpaces) (s : State) → Did (op.Numeric code) sp a s d s w) → w ≡ false → ⊥
not_none code a d w known total le did e =
    let never : Did (op.Numeric code) bare a empty d empty false = subst (λ v. Did (op.Numeric code) bare a empty d empty v) e (did bare empty) in
    goes_row code (numeric code) (config_of a bare empty []) known total le (never.0 [])
