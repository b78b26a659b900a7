use Rattle.std.proofs.Common.{◌≡◌, ◌++◌, ◌∙◌, ap, ap₂, ℕ, List, append_assoc, string_bytes}
use native.Mathlib.Numerals.{unary_clauses}
use Rattle.generated.specs.Scripts.{call_text, comma, spaced}
use Rattle.generated.proofs.script.put_calls.Goals as goal

pub loop-i-preserved : goal.loop-i-preserved
loop-i-preserved c =
    let i : ℕ = c.loop-i.i-counter in
    let before : List ℕ = string_bytes c.args.out.now in
    let rest : List ℕ = spaced call_text i in
    simp unary_clauses (c.in_ok-push_str.ensures.bytes
    ∙ ap₂ (λ (x y : List ℕ). x ++ y) (c.in_ok-put_comma.ensures ∙ ap (λ (x : List ℕ). x ++ comma i) c.loop-i.invariant) (c.as_str.ensures.value ∙ c.in_ok-text.ensures.ok)
    ∙ ap (λ (x : List ℕ). x ++ call_text i) (append_assoc before rest (comma i))
    ∙ append_assoc before (rest ++ comma i) (call_text i))
