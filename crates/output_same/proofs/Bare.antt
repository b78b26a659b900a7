-- The places of a component's parts make no difference to what it is.
use Rattle.std.proofs.Common.{◌≡◌, ◌∙◌, ap, sym, refl, subst, List, [], ◌∷◌}
use Rattle.comp_grammar.specs.Trees.{Part, Tree, CoreModule, Nested, CoreInstances, Instances, Aliases, Types, Canons, Imports, Exports, Custom, End, More}
use Rattle.comp_write.specs.Copying.{bare_part, bare}
use Rattle.comp_types.specs.Spaces.{Space}
use Rattle.comp_types.specs.Added.{entered, and_nested, after_part, after_tree, root, signature_of, type_of}
use Rattle.comp_types.specs.Validity.{IsValidPart, IsValidTree, IsValidComponent}

mutual
  unfolding bare_part bare

  pub part_adds : (around : List Space) (s : Space) (part : Part) → after_part around s (bare_part part) ≡ after_part around s part
  part_adds around s (CoreModule span m) = refl
  part_adds around s (Nested span tree) = ap (λ (x : Space). and_nested s x) (tree_adds (s ∷ around) (entered s) tree)
  part_adds around s (CoreInstances items) = refl
  part_adds around s (Instances items) = refl
  part_adds around s (Aliases items) = refl
  part_adds around s (Types items) = refl
  part_adds around s (Canons items) = refl
  part_adds around s (Imports items) = refl
  part_adds around s (Exports items) = refl
  part_adds around s (Custom span) = refl

  pub tree_adds : (around : List Space) (s : Space) (tree : Tree) → after_tree around s (bare tree) ≡ after_tree around s tree
  tree_adds around s End = refl
  tree_adds around s (More part rest) = tree_adds around (after_part around s (bare_part part)) rest ∙ ap (λ (x : Space). after_tree around x rest) (part_adds around s part)

mutual
  unfolding bare_part bare

  part_without : (around : List Space) (s : Space) (part : Part) → IsValidPart around s part → IsValidPart around s (bare_part part)
  part_without around s (CoreModule span m) h = h
  part_without around s (Nested span tree) h = tree_without (s ∷ around) (entered s) tree h
  part_without around s (CoreInstances items) h = h
  part_without around s (Instances items) h = h
  part_without around s (Aliases items) h = h
  part_without around s (Types items) h = h
  part_without around s (Canons items) h = h
  part_without around s (Imports items) h = h
  part_without around s (Exports items) h = h
  part_without around s (Custom span) h = h

  tree_without : (around : List Space) (s : Space) (tree : Tree) → IsValidTree around s tree → IsValidTree around s (bare tree)
  tree_without around s End h = tt
  tree_without around s (More part rest) h =
      (part_without around s part h.0, subst (λ (x : Space). IsValidTree around x (bare rest)) (sym (part_adds around s part)) (tree_without around (after_part around s part) rest h.1))

mutual
  unfolding bare_part bare

  part_with : (around : List Space) (s : Space) (part : Part) → IsValidPart around s (bare_part part) → IsValidPart around s part
  part_with around s (CoreModule span m) h = h
  part_with around s (Nested span tree) h = tree_with (s ∷ around) (entered s) tree h
  part_with around s (CoreInstances items) h = h
  part_with around s (Instances items) h = h
  part_with around s (Aliases items) h = h
  part_with around s (Types items) h = h
  part_with around s (Canons items) h = h
  part_with around s (Imports items) h = h
  part_with around s (Exports items) h = h
  part_with around s (Custom span) h = h

  tree_with : (around : List Space) (s : Space) (tree : Tree) → IsValidTree around s (bare tree) → IsValidTree around s tree
  tree_with around s End h = tt
  tree_with around s (More part rest) h =
      (part_with around s part h.0, tree_with around (after_part around s part) rest (subst (λ (x : Space). IsValidTree around x (bare rest)) (part_adds around s part) h.1))

-- components that are the same but for places
pub same_valid : (t u : Tree) → bare t ≡ bare u → IsValidComponent t → IsValidComponent u
same_valid t u same valid = tree_with [] root u (subst (λ (x : Tree). IsValidTree [] root x) same (tree_without [] root t valid))

pub same_type : (t u : Tree) → bare t ≡ bare u → type_of t ≡ type_of u
same_type t u same = ap signature_of (sym (tree_adds [] root t) ∙ ap (λ (x : Tree). after_tree [] root x) same ∙ tree_adds [] root u)
