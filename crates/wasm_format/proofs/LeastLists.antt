-- The same of items up to a state that ends them, and of sections to the end.
use Rattle.std.proofs.Common.{◌≡◌, ℕ, ◌+◌, ◌≤◌, true, List, [], ◌∷◌, length, sym, ap, subst, ◌∙◌, arith}
use Rattle.std.proofs.lemmas.List.{length-append}
use Rattle.wasm_format.specs.Format.{AreBytes}
use Rattle.wasm_format.specs.Sections.{Sections, SectionsSpell, built, PartsFit, write_parts, to_the_end}
use Rattle.wasm_format.specs.Until.{UntilSpells, UntilFits, until}
use Rattle.wasm_format.proofs.LeastLaws.{IsLeast, parts_bytes}

until_least : {S P : Type 0} (G : Sections S P) → ((s : S) → IsLeast (G.form s)) → (s : S) (at : ℕ) (parts : List P) (text : List ℕ) → AreBytes text → UntilSpells G s at parts text → UntilFits G s parts × (length (write_parts G s parts) ≤ length text)
until_least G g s at [] text h w = (w.0, omega arith)
until_least G g s at (part ∷ parts) text h w =
    let b = parts_bytes text w.0 w.1 w.5 h in
    let x = (g s).least at part w.0 b.0 w.3 in
    let y = until_least G g (G.next s part) (at + length w.0) parts w.1 b.1 w.4 in
    ((w.2, x.0, y.0), omega (arith, x.1, y.1, ap length w.5, length-append w.0 w.1, length-append ((G.form s).write part) (write_parts G (G.next s part) parts)))

pub least_until : {S P : Type 0} (G : Sections S P) (s : S) → ((s : S) → IsLeast (G.form s)) → IsLeast (until G s)
least_until G s g = record { least = until_least G g s }

pub parts_least : {S P : Type 0} (G : Sections S P) → ((s : S) → IsLeast (G.form s)) → (s : S) (at : ℕ) (parts : List P) (text : List ℕ) → AreBytes text → SectionsSpell G s at parts text → PartsFit G s parts × (length (write_parts G s parts) ≤ length text)
parts_least G g s at [] text h w = (tt, omega arith)
parts_least G g s at (part ∷ parts) text h w =
    let b = parts_bytes text w.0 w.1 w.4 h in
    let x = (g s).least at part w.0 b.0 w.2 in
    let y = parts_least G g (G.next s part) (at + length w.0) parts w.1 b.1 w.3 in
    ((x.0, y.0), omega (arith, x.1, y.1, ap length w.4, length-append w.0 w.1, length-append ((G.form s).write part) (write_parts G (G.next s part) parts)))

-- Sections to the end, where each that is spelled is written again.
pub least_to_the_end : {S P : Type 0} (G : Sections S P) (s : S) (parts_of : S → List P) → ((s : S) → IsLeast (G.form s)) → ((parts : List P) → parts_of (built G s parts) ≡ parts) → IsLeast (to_the_end G s parts_of)
least_to_the_end {S} {P} G s parts_of g back = record {
  least = λ at t text h w.
      let x = parts_least G g s at w.0 text h w.1 in
      let e : w.0 ≡ parts_of t = sym (back w.0) ∙ ap parts_of w.2 in
      subst (λ (parts : List P). (PartsFit G s parts × (built G s parts ≡ t) × (G.can_end t ≡ true)) × (length (write_parts G s parts) ≤ length text)) e ((x.0, w.2, w.3), x.1);
}
