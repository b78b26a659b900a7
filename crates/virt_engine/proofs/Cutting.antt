-- Lines that stand one after the other in one text.
use Rattle.std.proofs.Common.{◌≡◌, ◌∙◌, sym, ap, ap₂, subst, ℕ, ◌+◌, ◌≤◌, List, [], ◌∷◌, ◌++◌, length, drop, arith}
use Rattle.std.specs.Prelude.{Option}
use Rattle.std.proofs.lemmas.List.{length-append, length-drop, take-append-le, take_all, drop-append-le}
use Rattle.wit_types.specs.Plain.{Plain}
use Rattle.host_port.specs.Calls.{PlainObservation}
use Rattle.script_lines.specs.Lines.{line_text}
use Rattle.virt_words.specs.Lines.{cut, total}
use Rattle.virt_engine.specs.Lines.{AreLines}
use Rattle.virt_engine.proofs.Ending.{line_more}

total_more : (sizes : List ℕ) (size : ℕ) → total (sizes ++ size ∷ []) ≡ total sizes + size
total_more [] size = omega arith
total_more (first ∷ sizes) size = omega (arith, total_more sizes size)

-- one more line after the others
pub cut_more : (sizes text line : List ℕ) (size : ℕ) → total sizes ≡ length text → size ≡ length line → cut (sizes ++ size ∷ []) (text ++ line) ≡ cut sizes text ++ line ∷ []
cut_more [] [] line size whole is = ap (λ x. x ∷ []) (take_all size line (omega (arith, is)))
cut_more [] (x ∷ text) line size whole is = absurd (omega (arith, whole))
cut_more (first ∷ sizes) text line size whole is =
    let fits : first ≤ length text = omega (arith, whole) in
    ap₂ (λ x xs. x ∷ xs) (take-append-le first text line fits)
    (ap (cut (sizes ++ size ∷ [])) (drop-append-le first text line fits)
    ∙ cut_more sizes (drop first text) line size (omega (arith, whole, length-drop first text)) is)

pub lines_more : (sizes text line longer : List ℕ) (size : ℕ) (ty : Option Plain) (seen : PlainObservation) → AreLines sizes text → longer ≡ text ++ line → line ≡ line_text ty seen → size ≡ length line
    → AreLines (sizes ++ size ∷ []) longer
lines_more sizes text line longer size ty seen are is written long = subst (λ z. AreLines (sizes ++ size ∷ []) z) (sym is) (
  total_more sizes size ∙ omega (arith, are.0, long, length-append text line),
  line_more (cut sizes text) _ line ty seen are.1 written (cut_more sizes text line size are.0 long),
)
