-- Sections added one after another.
use Rattle.std.proofs.Common.{◌≡◌, ◌∙◌, refl, ap, sym, subst, ℕ, List, [], ◌∷◌, ◌++◌, append_assoc, Ok}
use Rattle.std.specs.List.{AllByRecursion}
use Rattle.std.proofs.lemmas.List.{append-nil}
use Rattle.wasm_ast.specs.declared.component.Section.{Section}
use Rattle.comp_grammar.specs.Trees.{Part, Tree, End, More, plain_section, plain_sections}
use Rattle.comp_grammar.specs.Components.{add}
use Rattle.comp_write.specs.Copying.{SpellsBare}
use Rattle.virt_output.specs.declared.piece.Piece.{Piece}
use Rattle.virt_output.specs.Pieces.{id_of, content_of, IsPieceOf}
use Rattle.virt_output.specs.Bytes.{section_bytes}
use Rattle.virt_output.proofs.PieceLaws.{piece_added}
use Rattle.comp_pieces.specs.Extending.{IsPut, HoldsNone, inner_of, with_sections, SpellMore, Extends}

with_append : (t : Tree) (xs ys : List Section) → with_sections t (xs ++ ys) ≡ with_sections (with_sections t xs) ys
with_append t [] ys = refl
with_append t (x ∷ xs) ys = with_append (add t (plain_section x)) xs ys

all_append : (P : Section → Type 0) (xs ys : List Section) → AllByRecursion P xs → AllByRecursion P ys → AllByRecursion P (xs ++ ys)
all_append P [] ys a b = b
all_append P (x ∷ xs) ys a b = (a.0, all_append P xs ys a.1 b)

-- nothing is added
pub extends_none : (s : List Section) (o : List ℕ) → Extends s s o o
extends_none s o = record {
  sections = [];
  bytes = [];
  more = sym (append-nil s);
  longer = sym (append-nil o);
  spelled = λ t before h. subst (SpellsBare 0 t) (sym (append-nil before)) h;
  alone = tt;
}

-- one section is added
pub one_extends : (piece : Piece) (s : Section) (os ns : List Section) (o n : List ℕ) → IsPut piece o n → IsPieceOf piece (plain_section s) → inner_of (plain_section s) ≡ [] → ns ≡ os ++ s ∷ [] → Extends os ns o n
one_extends piece s os ns o n put is alone e =
    let bytes : List ℕ = section_bytes (id_of piece) (content_of piece) in
    record {
      sections = s ∷ [];
      bytes = bytes;
      more = e;
      longer = put.added;
      spelled = λ t before h. piece_added piece before (before ++ bytes) (Ok tt) put.fits (put.short, refl) t (plain_section s) is h;
      alone = (alone, tt);
    }

-- and then more
pub extends_on : (a b c : List Section) (x y z : List ℕ) → Extends a b x y → Extends b c y z → Extends a c x z
extends_on a b c x y z p q = record {
  sections = p.sections ++ q.sections;
  bytes = p.bytes ++ q.bytes;
  more = q.more ∙ ap (λ (s : List Section). s ++ q.sections) p.more ∙ append_assoc a p.sections q.sections;
  longer = q.longer ∙ ap (λ (s : List ℕ). s ++ q.bytes) p.longer ∙ append_assoc x p.bytes q.bytes;
  spelled = λ t before h.
      subst (λ (u : Tree). SpellsBare 0 u (before ++ (p.bytes ++ q.bytes))) (sym (with_append t p.sections q.sections))
      (subst (SpellsBare 0 (with_sections (with_sections t p.sections) q.sections)) (append_assoc before p.bytes q.bytes)
      (q.spelled (with_sections t p.sections) (before ++ p.bytes) (p.spelled t before h)));
  alone = all_append HoldsNone p.sections q.sections p.alone q.alone;
}

-- ---- the sections of a component as a tree

add_plain : (ss : List Section) (s : Section) → add (plain_sections ss) (plain_section s) ≡ plain_sections (ss ++ s ∷ [])
add_plain [] s = refl
add_plain (x ∷ ss) s = ap (More (plain_section x)) (add_plain ss s)

pub with_plain : (ss more : List Section) → with_sections (plain_sections ss) more ≡ plain_sections (ss ++ more)
with_plain ss [] = ap plain_sections (sym (append-nil ss))
with_plain ss (s ∷ more) =
    ap (λ (t : Tree). with_sections t more) (add_plain ss s) ∙ with_plain (ss ++ s ∷ []) more ∙ ap plain_sections (append_assoc ss (s ∷ []) more)

-- where the bytes so far spell the sections so far
pub extends_spelled : (os ns : List Section) (o n : List ℕ) → Extends os ns o n → SpellsBare 0 (plain_sections os) o → SpellsBare 0 (plain_sections ns) n
extends_spelled os ns o n e h =
    let all = e.spelled (plain_sections os) o h in
    let tree : with_sections (plain_sections os) e.sections ≡ plain_sections ns = with_plain os e.sections ∙ ap plain_sections (sym e.more) in
    subst (SpellsBare 0 (plain_sections ns)) (sym e.longer) (subst (λ (t : Tree). SpellsBare 0 t (o ++ e.bytes)) tree all)
