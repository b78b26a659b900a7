-- Two components in one, put together part by part.
use Rattle.std.proofs.Common.{◌≡◌, ◌∙◌, refl, sym, ap, subst, ℕ, List, [], ◌∷◌, ◌++◌, length, append_assoc, Ok}
use Rattle.std.specs.List.{AllByRecursion}
use Rattle.std.proofs.lemmas.List.{append-nil}
use Rattle.wasm_ast.specs.declared.component.Section.{Section}
use Rattle.comp_grammar.specs.Trees.{Part, Tree, CoreModule, Nested, CoreInstances, Instances, Aliases, Types, Canons, Imports, Exports, Custom, End, More, plain_section, plain_sections}
use Rattle.comp_grammar.specs.Components.{no_span, add}
use Rattle.comp_write.specs.Copying.{SpellsBare}
use Rattle.virt_output.specs.declared.piece.Piece.{Piece}
use Rattle.virt_output.specs.Pieces.{id_of, content_of, IsPieceOf}
use Rattle.virt_output.specs.Bytes.{section_bytes}
use Rattle.virt_output.proofs.PieceLaws.{piece_added}
use Rattle.comp_pieces.specs.Extending.{IsPut, HoldsNone, inner_of, with_sections, Extends}
use Rattle.comp_pieces.proofs.ExtendLaws.{with_plain, extends_spelled}
use Rattle.output_same.specs.Holding.{and_inner, components_in}
use Rattle.comp_pair.specs.Assembled.{HoldsMore}

-- ---- the components in sections

inner_rest : (p : Part) (rest : List Tree) → and_inner p rest ≡ inner_of p ++ rest
inner_rest (CoreModule span m) rest = refl
inner_rest (Nested span inner) rest = refl
inner_rest (CoreInstances items) rest = refl
inner_rest (Instances items) rest = refl
inner_rest (Aliases items) rest = refl
inner_rest (Types items) rest = refl
inner_rest (Canons items) rest = refl
inner_rest (Imports items) rest = refl
inner_rest (Exports items) rest = refl
inner_rest (Custom span) rest = refl

abbrev inside : List Section → List Tree
inside ss = components_in (plain_sections ss)

inside_append : (xs ys : List Section) → inside (xs ++ ys) ≡ inside xs ++ inside ys
inside_append [] ys = refl
inside_append (x ∷ xs) ys =
    inner_rest (plain_section x) (inside (xs ++ ys)) ∙ ap (λ (z : List Tree). inner_of (plain_section x) ++ z) (inside_append xs ys)
    ∙ sym (append_assoc (inner_of (plain_section x)) (inside xs) (inside ys)) ∙ ap (λ (z : List Tree). z ++ inside ys) (sym (inner_rest (plain_section x) (inside xs)))

none_inside : (ss : List Section) → AllByRecursion HoldsNone ss → inside ss ≡ []
none_inside [] h = refl
none_inside (s ∷ ss) h = inner_rest (plain_section s) (inside ss) ∙ ap (λ (z : List Tree). z ++ inside ss) h.0 ∙ none_inside ss h.1

extends_inside : (os ns : List Section) (o n : List ℕ) → Extends os ns o n → inside ns ≡ inside os
extends_inside os ns o n e =
    ap inside e.more ∙ inside_append os e.sections ∙ ap (λ (z : List Tree). inside os ++ z) (none_inside e.sections e.alone) ∙ append-nil (inside os)

one_inside : (os ns : List Section) (s : Section) (t : Tree) → ns ≡ os ++ s ∷ [] → plain_section s ≡ Nested no_span t → inside ns ≡ inside os ++ t ∷ []
one_inside os ns s t more is =
    ap inside more ∙ inside_append os (s ∷ []) ∙ ap (λ (z : List Tree). inside os ++ z) (ap (λ (p : Part). and_inner p []) is)

-- ---- a component more

pub holds_more : (piece : Piece) (s : Section) (t : Tree) (os ns : List Section) (o n : List ℕ) → IsPut piece o n → plain_section s ≡ Nested no_span t → IsPieceOf piece (Nested no_span t) → ns ≡ os ++ s ∷ [] → HoldsMore t os ns o n
holds_more piece s t os ns o n put is piece_is more =
    let bytes : List ℕ = section_bytes (id_of piece) (content_of piece) in
    record {
      section = s;
      is = is;
      more = more;
      spelled = λ h.
          let one = piece_added piece o (o ++ bytes) (Ok tt) put.fits (put.short, refl) (plain_sections os) (plain_section s) (subst (IsPieceOf piece) (sym is) piece_is) h in
          let tree : add (plain_sections os) (plain_section s) ≡ plain_sections ns = with_plain os (s ∷ []) ∙ ap plain_sections (sym more) in
          subst (SpellsBare 0 (plain_sections ns)) (sym put.added) (subst (λ (u : Tree). SpellsBare 0 u (o ++ bytes)) tree one);
    }

-- ---- what stands before the second component

pub front_spelled : (s0 s1 s2 s3 : List Section) (o0 o1 o2 o3 : List ℕ) (t : Tree) → s0 ≡ [] → SpellsBare 0 End o0 → Extends s0 s1 o0 o1 → HoldsMore t s1 s2 o1 o2 → Extends s2 s3 o2 o3 → SpellsBare 0 (plain_sections s3) o3
front_spelled s0 s1 s2 s3 o0 o1 o2 o3 t none begun imports held between =
    let start : SpellsBare 0 (plain_sections s0) o0 = subst (λ (ss : List Section). SpellsBare 0 (plain_sections ss) o0) (sym none) begun in
    extends_spelled s2 s3 o2 o3 between (held.spelled (extends_spelled s0 s1 o0 o1 imports start))

pub front_inside : (s0 s1 s2 s3 : List Section) (o0 o1 o2 o3 : List ℕ) (t : Tree) → s0 ≡ [] → Extends s0 s1 o0 o1 → HoldsMore t s1 s2 o1 o2 → Extends s2 s3 o2 o3 → components_in (plain_sections s3) ≡ t ∷ []
front_inside s0 s1 s2 s3 o0 o1 o2 o3 t none imports held between =
    extends_inside s2 s3 o2 o3 between ∙ one_inside s1 s2 held.section t held.more held.is ∙ ap (λ (z : List Tree). z ++ t ∷ []) (extends_inside s0 s1 o0 o1 imports ∙ ap inside none)

pub placed_in : (o1 o2 o3 section more : List ℕ) → o2 ≡ o1 ++ section → o3 ≡ o2 ++ more → (before : List ℕ) × (rest : List ℕ) × (o3 ≡ before ++ (section ++ rest))
placed_in o1 o2 o3 section more added longer = (o1, more, longer ∙ ap (λ (z : List ℕ). z ++ more) added ∙ append_assoc o1 section more)

-- ---- the whole

pub whole_inside : (fs s1 all : List Section) (s : Section) (adapter app : Tree) (o n : List ℕ) → components_in (plain_sections fs) ≡ adapter ∷ [] → s1 ≡ fs ++ s ∷ [] → plain_section s ≡ Nested no_span app → Extends s1 all o n
    → components_in (plain_sections all) ≡ adapter ∷ app ∷ []
whole_inside fs s1 all s adapter app o n one more is behind =
    extends_inside s1 all o n behind ∙ one_inside fs s1 s app more is ∙ ap (λ (z : List Tree). z ++ app ∷ []) one

pub whole_spelled : (fs s1 all : List Section) (s : Section) (app : Tree) (front empty back bytes : List ℕ) → s1 ≡ fs ++ s ∷ [] → plain_section s ≡ Nested no_span app → empty ≡ [] → Extends s1 all empty back
    → SpellsBare 0 (add (plain_sections fs) (Nested no_span app)) (front ++ bytes) → SpellsBare 0 (plain_sections all) (front ++ (bytes ++ back))
whole_spelled fs s1 all s app front empty back bytes more is none behind spelled =
    let tree : add (plain_sections fs) (Nested no_span app) ≡ plain_sections s1 = ap (add (plain_sections fs)) (sym is) ∙ with_plain fs (s ∷ []) ∙ ap plain_sections (sym more) in
    let so_far : SpellsBare 0 (plain_sections s1) (front ++ bytes) = subst (λ (u : Tree). SpellsBare 0 u (front ++ bytes)) tree spelled in
    let longer : back ≡ behind.bytes = behind.longer ∙ ap (λ (z : List ℕ). z ++ behind.bytes) none in
    let all_tree : with_sections (plain_sections s1) behind.sections ≡ plain_sections all = with_plain s1 behind.sections ∙ ap plain_sections (sym behind.more) in
    let done = subst (λ (u : Tree). SpellsBare 0 u ((front ++ bytes) ++ behind.bytes)) all_tree (behind.spelled (plain_sections s1) (front ++ bytes) so_far) in
    subst (SpellsBare 0 (plain_sections all)) (append_assoc front bytes behind.bytes ∙ ap (λ (z : List ℕ). front ++ (bytes ++ z)) (sym longer)) done
