-- The sections of a component are those of its tree.
use Rattle.std.proofs.Common.{◌≡◌, ℕ, suc, List, [], ◌∷◌, ◌++◌, refl, sym, ap, subst, ◌∙◌}
use Rattle.std.specs.List.{AllByRecursion}
use Rattle.wasm_ast.specs.declared.component.Section.{Section}
use Rattle.wasm_ast.specs.declared.component.Component.{Component}
use Rattle.comp_grammar.specs.Trees.{Tree, plain, plain_section, plain_sections}
use Rattle.comp_grammar.specs.Components.{parts_of, preamble, SpellsComponent}
use Rattle.comp_grammar.proofs.DepthLaws.{spelled_once}
use Rattle.comp_write.specs.Copying.{bare, SpellsBare, IsWritable, MayWrite, section_bytes, all_bytes, component_bytes}
use Rattle.comp_write.specs.Forms.{AllWritable, bytes_of}
use Rattle.comp_write.proofs.Bounds.{bound, any_depth}
use Rattle.comp_write.proofs.SectionFits.{may_be_written}
use Rattle.comp_write.proofs.Writes.{spells}

sections_writable : (source : List ℕ) (sections : List Section) → AllByRecursion (IsWritable source) (parts_of (plain_sections sections)) → AllWritable source sections
sections_writable source [] h = tt
sections_writable source (s ∷ rest) h = (h.0, sections_writable source rest h.1)

sections_bytes : (source : List ℕ) (sections : List Section) → all_bytes source (parts_of (plain_sections sections)) ≡ bytes_of source sections
sections_bytes source [] = refl
sections_bytes source (s ∷ rest) = ap (λ (z : List ℕ). section_bytes source (plain_section s) ++ z) (sections_bytes source rest)

pub all_writable : (source : List ℕ) (c : Component) → MayWrite source (plain c) → AllWritable source c.sections.items
all_writable source c h =
    let w = bound source (plain c) h in
    sections_writable source c.sections.items (may_be_written w.0 source (plain c) w.1)

pub is_written : (source : List ℕ) (c : Component) (out : List ℕ) → out ≡ preamble ++ bytes_of source c.sections.items → out ≡ component_bytes source (plain c)
is_written source c out e = e ∙ ap (λ (z : List ℕ). preamble ++ z) (sym (sections_bytes source c.sections.items))

pub is_spelled : (source : List ℕ) (c : Component) (out : List ℕ) → out ≡ preamble ++ bytes_of source c.sections.items → MayWrite source (plain c) → SpellsBare 0 (plain c) out
is_spelled source c out e h =
    let w = bound source (plain c) h in
    subst (SpellsBare 0 (plain c)) (sym (is_written source c out e)) (any_depth (suc w.0) 0 (plain c) _ (spells w.0 source (plain c) w.1))

-- whatever component has a spelling of this one is this one, up to places
pub is_read_back : (t : Tree) (out : List ℕ) → SpellsBare 0 t out → (u : Tree) → SpellsComponent u out → bare u ≡ bare t
is_read_back t out w u s = ap bare (spelled_once u w.0 out s w.1) ∙ w.2
