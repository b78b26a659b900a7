-- Code from a place on.
use Rattle.std.proofs.Common.{◌≡◌, ℕ, ◌<◌, ◌≤◌, ◌+◌, suc, sym, ◌∙◌, ap, Option, List, ◌∷◌, ◌++◌, Bool, length, drop, get_or, arith, drop-cons}
use Rattle.wasm_ast.specs.declared.instr.Instr.{Instr}
use Rattle.wasm_ast.specs.declared.instr.Instr.TheVariants as code
use Rattle.core_body.specs.Context.{Context}
use Rattle.core_body.specs.Conditions.{lesser, least, conditions, place_conditions, code_conditions, labels_behind}
use Rattle.core_body.specs.declared.levels.Verdict.{Verdict}
use Rattle.core_body.specs.declared.levels.Verdict.TheVariants.{Goes, Over, Refused}
use Rattle.core_body.specs.declared.levels.Progress.{Progress}
use Rattle.core_body.specs.Levels.{Says, state_at, state_of}
use Rattle.core_body.specs.Machine.{State, run, next}
use Rattle.core_body.proofs.ConditionLemmas.{lesser-assoc, least-append}

from-here : (is : List Instr) (i : ℕ) (x : Instr) → i < length is → x ≡ get_or is i x → drop i is ≡ x ∷ drop (i + 1) is
from-here is i x h e =
    let step : suc i ≡ i + 1 = omega arith in
    drop-cons is i x h ∙ ap (λ y. y ∷ drop (suc i) is) (sym e) ∙ ap (λ n. x ∷ drop n is) step

pub rule-goes : (c : Context) (b : Bool) (labels : ℕ) (is : List Instr) (i : ℕ) (x : Instr) (old own : Option ℕ) → i < length is → x ≡ get_or is i x →
    own ≡ lesser (least c (conditions labels x)) (least c (place_conditions b x)) →
    lesser (lesser old own) (least c (code_conditions b (labels_behind labels x) (drop (i + 1) is))) ≡ lesser old (least c (code_conditions b labels (drop i is)))
rule-goes c b labels is i x old own h e o =
    let rest = code_conditions b (labels_behind labels x) (drop (i + 1) is) in
    let whole : least c (code_conditions b labels (drop i is)) ≡ lesser (least c (conditions labels x)) (lesser (least c (place_conditions b x)) (least c rest)) =
    ap (λ l. least c (code_conditions b labels l)) (from-here is i x h e) ∙ least-append c (conditions labels x) (place_conditions b x ++ rest)
    ∙ ap (lesser (least c (conditions labels x))) (least-append c (place_conditions b x) rest) in
    lesser-assoc old own (least c rest)
    ∙ ap (lesser old) (ap (λ r. lesser r (least c rest)) o ∙ lesser-assoc (least c (conditions labels x)) (least c (place_conditions b x)) (least c rest) ∙ sym whole)

pub run-goes : (c : Context) (s : State) (is : List Instr) (i : ℕ) (x : Instr) → i < length is → x ≡ get_or is i x → run c (next c s x) (drop (i + 1) is) ≡ run c s (drop i is)
run-goes c s is i x h e = sym (ap (run c s) (from-here is i x h e))

pub behind-bound : (n : ℕ) (x : Instr) → labels_behind n x ≤ n + 1
behind-bound n (code.Block t) = omega arith
behind-bound n (code.Loop t) = omega arith
behind-bound n (code.If t) = omega arith
behind-bound n code.End = omega arith
behind-bound n _ = omega arith

pub says-state : (c : Context) (v : Verdict) (p : Progress) (n : State) → Says v (state_of c p) n → state_at c v p ≡ n
says-state c Goes p n h = sym h
says-state c Over p n h = sym h
says-state c Refused p n h = sym h
