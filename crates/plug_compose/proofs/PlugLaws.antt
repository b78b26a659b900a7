-- Both components stand in the whole, with their bytes.
use Rattle.std.proofs.Common.{◌≡◌, ◌∙◌, sym, ap, subst, ℕ, List, [], ◌∷◌, ◌++◌, length, append_assoc}
use Rattle.comp_grammar.specs.Trees.{Tree, plain}
use Rattle.comp_write.specs.Copying.{SpellsBare}
use Rattle.comp_types.specs.Items.{Entries}
use Rattle.virt_output.specs.Bytes.{section_bytes}
use Rattle.virt_output.specs.Pieces.{head_of_component}
use Rattle.comp_pair.specs.Assembled.{IsFront, IsAssembled, HasSection}
use Rattle.comp_pair.specs.declared.assembled.Front.{Front}
use Rattle.comp_pair.specs.declared.assembled.Assembled.{Assembled}
use Rattle.output_same.specs.Holding.{components_in}
use Rattle.wasi_match.specs.declared.listed.ListedUse.{ListedUse}
use Rattle.plug_compose.specs.declared.plugged.Plugged.{Plugged}
use Rattle.plug_compose.specs.Plugged.{HoldsBoth, IsRight, IsPlugged, bytes_around}

-- a section among bytes is one among more
first_section : (section before rest front more : List ℕ) → front ≡ before ++ (section ++ rest) → front ++ more ≡ before ++ (section ++ (rest ++ more))
first_section section before rest front more is =
    ap (λ (z : List ℕ). z ++ more) is ∙ append_assoc before (section ++ rest) more ∙ ap (λ (z : List ℕ). before ++ z) (append_assoc section rest more)

head_section : (bytes back : List ℕ) (size : ℕ) → size ≡ length bytes → head_of_component size ++ (bytes ++ back) ≡ section_bytes 4 bytes ++ back
head_section bytes back size is =
    sym (append_assoc (head_of_component size) bytes back) ∙ ap (λ (n : ℕ). (head_of_component n ++ bytes) ++ back) is

second_section : (bytes back before front : List ℕ) (size : ℕ) → size ≡ length bytes → front ≡ before ++ head_of_component size → front ++ (bytes ++ back) ≡ before ++ (section_bytes 4 bytes ++ back)
second_section bytes back before front size is head =
    ap (λ (z : List ℕ). z ++ (bytes ++ back)) head ∙ append_assoc before (head_of_component size) (bytes ++ back) ∙ ap (λ (z : List ℕ). before ++ z) (head_section bytes back size is)

pub holds_both : (first second : Tree) (first_bytes second_bytes : List ℕ) (size : ℕ) (f : Front) (a : Assembled) → SpellsBare 0 second second_bytes → size ≡ length second_bytes → IsFront first f → HasSection first_bytes f.bytes.items
    → ((t : Tree) → IsFront t f → IsAssembled t second size a) → a.front.items ≡ f.bytes.items ++ head_of_component size → HoldsBoth first second first_bytes second_bytes a
holds_both first second first_bytes second_bytes size f a spells is front held made head =
    let all = made first front in
    let more : List ℕ = head_of_component size ++ (second_bytes ++ a.back.items) in
    let longer : bytes_around a second_bytes ≡ f.bytes.items ++ more = ap (λ (z : List ℕ). z ++ (second_bytes ++ a.back.items)) head ∙ append_assoc f.bytes.items (head_of_component size) (second_bytes ++ a.back.items) in
    record {
      spelled = all.spelled second_bytes (sym is) spells;
      components = all.components;
      held_first = (held.0, held.1 ++ more, longer ∙ first_section (section_bytes 4 first_bytes) held.0 held.1 f.bytes.items more held.2);
      held_second = (f.bytes.items, a.back.items, second_section second_bytes a.back.items f.bytes.items a.front.items size is head);
    }

-- The whole is right, and holds both.
pub is_plugged : (first second : Tree) (exported : Entries) (imported wanted : List ListedUse) (first_bytes second_bytes : List ℕ) (a : Assembled) (p : Plugged) → HoldsBoth first second first_bytes second_bytes a → p.component ≡ a.whole
    → IsRight (plain a.whole) exported imported p.ty p.listed → imported ≡ wanted → p.bytes.items ≡ bytes_around a second_bytes → IsPlugged first second exported wanted first_bytes second_bytes p
is_plugged first second exported imported wanted first_bytes second_bytes a p both whole right asked bytes =
    let tree : plain a.whole ≡ plain p.component = sym (ap plain whole) in
    let is : IsRight (plain p.component) exported imported p.ty p.listed = subst (λ (t : Tree). IsRight t exported imported p.ty p.listed) tree right in
    let components : components_in (plain p.component) ≡ first ∷ second ∷ [] = subst (λ (t : Tree). components_in t ≡ first ∷ second ∷ []) tree both.components in
    record {
      spelled = subst (SpellsBare 0 (plain p.component)) (sym bytes) (subst (λ (t : Tree). SpellsBare 0 t (bytes_around a second_bytes)) tree both.spelled);
      valid = is.valid;
      typed = is.typed;
      listed = is.listed;
      imports = is.imports ∙ asked;
      exports = is.exports;
      components = components;
      joins = is.joins first second components;
      held_first = subst (HasSection first_bytes) (sym bytes) both.held_first;
      held_second = subst (HasSection second_bytes) (sym bytes) both.held_second;
    }
