-- Sections one after another, with their number.
use Rattle.std.proofs.Common.{◌≡◌, ◌∙◌, refl, sym, subst, ap, ℕ, ◌+◌, List, [], ◌∷◌, Option, Some, None, inl, inr, arith, drop, length, get_or, ◌<◌}
use Rattle.std.proofs.lemmas.List.{at_drop_more}
use Rattle.wasm_ast.specs.declared.component.Section.{Section}
use Rattle.comp_grammar.specs.Trees.{Part, Tree, End, More, plain_section, plain_sections}
use Rattle.comp_types.specs.Spaces.{Space}
use Rattle.comp_types.specs.Added.{after_part}
use Rattle.comp_defining.specs.declared.scopes.Scopes.{Scopes}
use Rattle.comp_defining.specs.Around.{StandAll}
use Rattle.comp_validate.specs.declared.components.Broken.{Broken}
use Rattle.comp_validate.specs.Judged.{JudgedPart, JudgedTree}

-- that many sections further on
abbrev pub later : ℕ → Option Broken → Option Broken
later n None = None
later n (Some b) = Some (record b { section = b.section + n })

later_more : (n : ℕ) (o : Option Broken) → later n (later 1 o) ≡ later (n + 1) o
later_more n None = refl
later_more n (Some b) = let e : b.section + 1 + n ≡ b.section + (n + 1) = omega arith in (λ i. Some (record b { section = e i }))

later_none : (o : Option Broken) → later 0 o ≡ o
later_none None = refl
later_none (Some b) = let e : b.section + 0 ≡ b.section = omega arith in (λ i. Some (record b { section = e i }))

-- what is judged of the sections that are left, counted from the first of them, is judged of all of them
pub record LeadsTree (around : List Space) (s : Space) (all left : Tree) (n : ℕ) (x : Scopes) : Type 0 where
  pub inner : Space
  pub stand : StandAll around inner x
  pub rest : (y : Scopes) (answer : Option Broken) → JudgedTree around inner left y answer → JudgedTree around s all y (later n answer)

pub leads_tree : (around : List Space) (s : Space) (all : Tree) (x : Scopes) → StandAll around s x → LeadsTree around s all all 0 x
leads_tree around s all x h = record { inner = s; stand = h; rest = λ y answer k. subst (JudgedTree around s all y) (sym (later_none answer)) k }

part_valid : (around : List Space) (s : Space) (part : Part) (rest : Tree) (x y : Scopes) (answer : Option Broken) → JudgedPart around s part x None → JudgedTree around (after_part around s part) rest y answer → JudgedTree around s (More part rest) y (later 1 answer)
part_valid around s part rest x y None v h = ((v.0, h.0), h.1)
part_valid around s part rest x y (Some b) v h = inr (v.0, (b.section, refl, h))

pub section_more : (around : List Space) (s : Space) (all : Tree) (part : Part) (left : Tree) (n : ℕ) (x y : Scopes) (l : LeadsTree around s all (More part left) n x) → JudgedPart around l.inner part y None → LeadsTree around s all left (n + 1) y
section_more around s all part left n x y l h = record {
  inner = after_part around l.inner part;
  stand = h.1;
  rest = λ z answer k. subst (JudgedTree around s all z) (later_more n answer) (l.rest z (later 1 answer) (part_valid around l.inner part left y z answer h k));
}

pub section_breaks : (around : List Space) (s : Space) (all : Tree) (part : Part) (left : Tree) (n : ℕ) (x y : Scopes) (rule : ℕ) (l : LeadsTree around s all (More part left) n x) → JudgedPart around l.inner part y (Some rule) → JudgedTree around s all y (Some (record { rule = rule; section = n }))
section_breaks around s all part left n x y rule l h =
    let b : Broken = record { rule = rule; section = 0 } in
    let e : 0 + n ≡ n = omega arith in
    subst (λ (k : ℕ). JudgedTree around s all y (Some (record { rule = rule; section = k }))) e (l.rest y (Some b) (inl (refl, h)))

pub tree_led : (around : List Space) (s : Space) (all : Tree) (n : ℕ) (x : Scopes) → LeadsTree around s all End n x → JudgedTree around s all x None
tree_led around s all n x l = l.rest x None (tt, l.stand)

-- the section at an index
pub next_section : (around : List Space) (s : Space) (sections : List Section) (i : ℕ) (section : Section) (n : ℕ) (x : Scopes) → i < length sections → section ≡ get_or sections i section
    → LeadsTree around s (plain_sections sections) (plain_sections (drop i sections)) n x → LeadsTree around s (plain_sections sections) (More (plain_section section) (plain_sections (drop (i + 1) sections))) n x
next_section around s sections i section n x lt e l =
    subst (λ (left : Tree). LeadsTree around s (plain_sections sections) left n x) (at_drop_more plain_sections sections i section lt ∙ ap (λ y. More (plain_section y) (plain_sections (drop (i + 1) sections))) (sym e)) l
