-- Definitions and sections one after another: where those that are left lead is where all lead.
use Rattle.std.proofs.Common.{◌≡◌, ◌∙◌, ◌<◌, ◌+◌, ap, sym, subst, refl, ℕ, List, [], ◌∷◌, ◌++◌, drop, length, get_or}
use Rattle.std.proofs.lemmas.List.{append_assoc, at_drop_more}
use Rattle.wasm_ast.specs.Boxed.{Held}
use Rattle.wasm_ast.specs.declared.module.Module.{Module}
use Rattle.wasm_ast.specs.declared.component.Section.{Section as PlainSection}
use Rattle.comp_grammar.specs.Trees.{Part, Tree, End as NoParts, More as Section, plain_section, plain_sections}
use Rattle.comp_types.specs.Spaces.{Space}
use Rattle.comp_types.specs.Definitions.{Definition}
use Rattle.comp_types.specs.Validity.{AreValid, IsValidTree}
use Rattle.comp_linking.specs.Modules.{modules_in, modules_in_part}
use Rattle.comp_linking.specs.declared.planner.Planner.{Planner}
use Rattle.comp_linking.specs.Walks.{At, spaces, at_after, at_all, at_part, at_tree, Walks}
use Rattle.comp_linking.specs.Goes.{Plans, PlansPart}
use Rattle.comp_linking.proofs.LeadLemmas.{part_space}

-- ---- definitions

pub record DefinitionsLeft (ms todo : List (Held Module)) (outer : List At) (a : At) (all left : List Definition) (x : Planner) : Type 0 where
  pub at : At
  pub valid : AreValid (spaces outer) at.space left
  pub walks : Walks ms todo outer at x
  pub rest : at_all outer at left ≡ at_all outer a all

pub all_left : (ms todo : List (Held Module)) (outer : List At) (a : At) (all : List Definition) (x : Planner) → AreValid (spaces outer) a.space all → Walks ms todo outer a x → DefinitionsLeft ms todo outer a all all x
all_left ms todo outer a all x valid h = record { at = a; valid = valid; walks = h; rest = refl }

pub one_planned : (ms todo : List (Held Module)) (outer : List At) (a : At) (all : List Definition) (d : Definition) (left : List Definition) (x y : Planner) → DefinitionsLeft ms todo outer a all (d ∷ left) x → Plans d x y → DefinitionsLeft ms todo outer a all left y
one_planned ms todo outer a all d left x y l step = record {
  at = at_after outer l.at d;
  valid = l.valid.1;
  walks = step ms todo outer l.at l.valid.0 l.walks;
  rest = l.rest;
}

pub none_left : (ms todo : List (Held Module)) (outer : List At) (a : At) (all : List Definition) (x : Planner) → DefinitionsLeft ms todo outer a all [] x → Walks ms todo outer (at_all outer a all) x
none_left ms todo outer a all x l = subst (λ (b : At). Walks ms todo outer b x) l.rest l.walks

-- ---- sections

pub record SectionsLeft (ms todo : List (Held Module)) (outer : List At) (a : At) (all left : Tree) (x : Planner) : Type 0 where
  pub at : At
  pub valid : IsValidTree (spaces outer) at.space left
  pub walks : Walks ms (modules_in left ++ todo) outer at x
  pub rest : at_tree outer at left ≡ at_tree outer a all

pub sections_left : (ms todo : List (Held Module)) (outer : List At) (a : At) (all : Tree) (x : Planner) → IsValidTree (spaces outer) a.space all → Walks ms (modules_in all ++ todo) outer a x → SectionsLeft ms todo outer a all all x
sections_left ms todo outer a all x valid h = record { at = a; valid = valid; walks = h; rest = refl }

pub section_planned : (ms todo : List (Held Module)) (outer : List At) (a : At) (all : Tree) (part : Part) (left : Tree) (x y : Planner) → SectionsLeft ms todo outer a all (Section part left) x → PlansPart part x y → SectionsLeft ms todo outer a all left y
section_planned ms todo outer a all part left x y l step = record {
  at = at_part outer l.at part;
  valid = subst (λ (s : Space). IsValidTree (spaces outer) s left) (sym (part_space outer l.at part)) l.valid.1;
  walks = step ms (modules_in left ++ todo) outer l.at l.valid.0
      (subst (λ (more : List (Held Module)). Walks ms more outer l.at x) (append_assoc (modules_in_part part) (modules_in left) todo) l.walks);
  rest = l.rest;
}

pub no_section_left : (ms todo : List (Held Module)) (outer : List At) (a : At) (all : Tree) (x : Planner) → SectionsLeft ms todo outer a all NoParts x → Walks ms todo outer (at_tree outer a all) x
no_section_left ms todo outer a all x l = subst (λ (b : At). Walks ms todo outer b x) l.rest l.walks

-- the section at an index
pub next_section : (ms todo : List (Held Module)) (outer : List At) (a : At) (sections : List PlainSection) (i : ℕ) (section : PlainSection) (x : Planner) → i < length sections → section ≡ get_or sections i section
    → SectionsLeft ms todo outer a (plain_sections sections) (plain_sections (drop i sections)) x → SectionsLeft ms todo outer a (plain_sections sections) (Section (plain_section section) (plain_sections (drop (i + 1) sections))) x
next_section ms todo outer a sections i section x lt e l =
    subst (λ (left : Tree). SectionsLeft ms todo outer a (plain_sections sections) left x)
    (at_drop_more plain_sections sections i section lt ∙ ap (λ y. Section (plain_section y) (plain_sections (drop (i + 1) sections))) (sym e)) l
