use Rattle.std.proofs.Common.{◌≡◌, ◌++◌, ◌∙◌, refl, subst, ℕ, List, length, arith, ap}
use Rattle.std.proofs.lemmas.List.{length-append}
use Rattle.comp_grammar.specs.Trees.{plain}
use Rattle.comp_signature.specs.Signatures.{component_signature}
use Rattle.virt_engine.specs.Line.{done_text}
use Rattle.virt_engine.specs.Parts.{AreParts}
use Rattle.virt_engine.proofs.plan.ready_for.Goals as goal

done_same : (a b x y n : ℕ) (text : List ℕ) → text ≡ done_text a b n → a ≡ x → b ≡ y → text ≡ done_text x y n
done_same a b x y n text e p q = e ∙ ap (λ (m : ℕ). done_text m b n) p ∙ ap (λ (m : ℕ). done_text x m n) q

pub returns : goal.returns
returns c =
    let app : List ℕ = c.args.app.bytes.items in
    let front : List ℕ = c.in_ok-parts.parts.front.items in
    let back : List ℕ = c.in_ok-parts.parts.back.items in
    let size : c.len.result ≡ length app = omega arith in
    let told : c.len-5.result ≡ length app = omega arith in
    let all : c.in-Some.out_bytes ≡ length (front ++ (app ++ back)) = omega (arith, c.in-Some.ensures, length-append front (app ++ back), length-append app back) in
    record {
      parts = c.in_ok-parts.parts;
      are = subst
          (λ (n : ℕ). AreParts c.args.policy.now (plain c.args.app.application.judged.component) c.args.app.application.listed.uses (component_signature c.args.app.application.judged.ty) n c.in_ok-parts.parts)
          size c.in_ok-parts.ensures;
      front = refl;
      app = refl;
      back = refl;
      done_line = done_same _ _ (length app) (length (front ++ (app ++ back))) c.in_ok-parts.parts.needed _ c.in_ok-done_line.ensures.done told all;
      fault = c.in_ok-done_line.ensures.fault;
      fault_line = c.in_ok-done_line.ensures.line;
    }
