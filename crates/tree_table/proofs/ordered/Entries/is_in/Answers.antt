use Rattle.std.proofs.Common.{◌≡◌, ℕ, ◌<◌, List, [], ◌∷◌, ◌++◌, length, get_or, take, refl, sym, ap, subst, ◌∙◌, inl, inr, arith, length-append}
use Rattle.std.proofs.lemmas.Bool.{cases_lt}
use Rattle.std.proofs.lemmas.Bool.Decides.{nat_tests}
use Rattle.std.proofs.lemmas.List.{take_at, length-map, get_or_default}
use Rattle.std.proofs.lemmas.Option.{slice_get-get_or}
use Rattle.std.proofs.lemmas.Cmp.{nat_list_cmp_total, lists_total, tied_itself}
use Rattle.std.specs.declared.cmp.Ordering.TheVariants.{Less, Equal}
use Rattle.tree_table.specs.declared.entries.Entry.{Entry}
use Rattle.tree_table.specs.Trees.{IsTree, path_cmp}
use Rattle.tree_table.specs.Linked.{IsLonger}
use Rattle.tree_table.specs.Stored.{entry_at, path_at, root_entry}
use Rattle.tree_table.proofs.StoredLemmas.{at-place}
use Rattle.tree_table.proofs.ordered.Entries.is_in.Goals as goal

-- a path is one name longer than one path only
same-above : (p q : List (List ℕ)) (x y : List ℕ) → p ++ x ∷ [] ≡ q ++ y ∷ [] → p ≡ q
same-above p q x y e =
    let size : length p ≡ length q = omega (arith, ap length e, length-append p (x ∷ []), length-append q (y ∷ [])) in
    sym (take_at p (x ∷ []) (length p) (omega arith)) ∙ ap (take (length p)) e ∙ take_at q (y ∷ []) (length p) (sym size)

-- no two places have one path
apart : (entries : List Entry) → IsTree entries → (i j : ℕ) → i < length entries → j < length entries → path_at entries i ≡ path_at entries j → ¬ (i < j)
apart entries tree i j wi wj same less =
    let ei = slice_get-get_or entries i root_entry wi in
    let ej = slice_get-get_or entries j root_entry wj in
    let before : path_cmp (path_at entries i) (path_at entries j) ≡ Less = tree.ordered i j (entry_at entries i) (entry_at entries j) less ei ej in
    let itself : path_cmp (path_at entries j) (path_at entries j) ≡ Less = subst (λ p. path_cmp p (path_at entries j) ≡ Less) same before in
    let tied : path_cmp (path_at entries j) (path_at entries j) ≡ Equal = tied_itself (lists_total nat_list_cmp_total) (path_at entries j) in
    cc

one-place : (entries : List Entry) → IsTree entries → (i j : ℕ) → i < length entries → j < length entries → path_at entries i ≡ path_at entries j → i ≡ j
one-place entries tree i j wi wj same =
    let up = apart entries tree i j wi wj same in
    let down = apart entries tree j i wj wi (sym same) in
    elim (cases_lt i j) [
      | inl less ↦ absurd (up less)
      | inr past ↦ elim (cases_lt j i) [
        | inl more ↦ absurd (down more)
        | inr below ↦ omega (arith, past, below)
      ]
    ]

pub returns-in-Some : goal.returns-in-Some
returns-in-Some c =
    let nodes = c.self.inside.nodes in
    let order = c.self.inside.order.items in
    let es = c.args.self.now in
    let first = c.self.invariant.0 in
    let f = c.in-Some.folder in
    let l = c.number_at-number.result in
    let u = c.number_at.result in
    let lower : entry_at nodes l ≡ entry_at es c.args.lower = at-place nodes order c.as_slice.result.now es c.args.lower l c.self.view_is first c.as_slice.ensures.value c.number_at-number.ensures in
    let upper : entry_at nodes u ≡ entry_at es c.args.upper = at-place nodes order c.as_slice-in-Some.result.now es c.args.upper u c.self.view_is first c.as_slice-in-Some.ensures.value c.number_at.ensures in
    let found = c.in-Some.ensures.some in
    let longer : IsLonger (path_at nodes f) (path_at es c.args.lower) = subst (λ (e : Entry). IsLonger (path_at nodes f) e.path) lower found.2 in
    let size : length order ≡ length es = sym (length-map order (entry_at nodes)) ∙ ap length c.self.view_is in (
      λ yes.
          let same : f ≡ u = grind (arith, nat_tests, yes) in
          subst (λ (e : Entry). IsLonger e.path (path_at es c.args.lower)) (ap (entry_at nodes) same ∙ upper) longer,
      λ more.
          let above : path_at nodes f ≡ path_at es c.args.upper = same-above (path_at nodes f) (path_at es c.args.upper) longer.name more.name (sym longer.is ∙ more.is) in
          let there = c.self.invariant.1 f (omega (arith, found.0, found.1)) in
          let at : get_or order there.0 0 ≡ f = get_or_default order there.0 0 f there.1 ∙ there.2 in
          let seen : entry_at nodes f ≡ entry_at es there.0 = at-place nodes order order es there.0 f c.self.view_is first refl (sym at) in
          let place : there.0 ≡ c.args.upper = one-place es c.requires.tree there.0 c.args.upper (omega (arith, there.1, size)) c.requires.upper (ap (λ (e : Entry). e.path) (sym seen) ∙ above) in
          let same : f ≡ u = sym at ∙ ap (λ k. get_or order k 0) place ∙ ap (λ ns. get_or ns c.args.upper 0) (sym c.as_slice-in-Some.ensures.value) ∙ sym c.number_at.ensures in
          grind (arith, nat_tests, same),
    )
