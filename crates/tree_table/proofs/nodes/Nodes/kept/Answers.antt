use Rattle.std.proofs.Common.{◌≡◌, ℕ, suc, ◌-◌, List, ◌∷◌, [], Some, length, slice_get, sym, ap, subst, ◌∙◌, inl, inr, arith}
use Rattle.std.proofs.lemmas.Option.{slice_get-get_or}
use Rattle.tree_table.specs.declared.nodes.Kept.{Kept}
use Rattle.tree_table.specs.Stored.{IsKept, entry_at, entries_from, root_entry}
use Rattle.tree_table.proofs.StoredLemmas.{first-from, length-from, past-root}
use Rattle.tree_table.proofs.nodes.Nodes.kept.Goals as goal

pub returns-then-number-below-clause-none : goal.returns-then-number-below-clause-none
returns-then-number-below-clause-none c =
    let below = c.self.inside.below.items in
    let view = entries_from (root_entry ∷ []) below in
    let size = length-from (root_entry ∷ []) below in
    let same = c.as_slice-below.ensures.value in
    let at : (n : ℕ) → n ≡ c.args.number → entry_at view n ≡ root_entry → entry_at c.args.self.now c.args.number ≡ root_entry = λ n is root. ap (λ (es : _). entry_at es c.args.number) (sym c.self.view_is) ∙ ap (entry_at view) (sym is) ∙ root in
    elim c.if-number-below.either [
      | inl none ↦ at 0 (omega arith) (first-from root_entry [] below)
      | inr past ↦ at c.args.number (omega arith) (past-root view c.args.number (omega (arith, past, size, ap length same)))
    ]

pub returns-else-number-below-clause-some : goal.returns-else-number-below-clause-some
returns-else-number-below-clause-some c =
    let below = c.self.inside.below.items in
    let k = c.index-below-number.result in
    let n = c.args.number - 1 in
    let some : ¬ (c.args.number ≡ 0) = c.if-number-below.false.0 in
    let within = c.if-number-below.false.1 in
    let list = c.as_slice-below.result.now in
    let is : slice_get list n ≡ Some k = slice_get-get_or list n k (omega (arith, some, within)) ∙ ap Some (sym c.index-below-number.is) in
    let there : slice_get below n ≡ Some k = ap (λ (ks : List Kept). slice_get ks n) (sym c.as_slice-below.ensures.value) ∙ is in
    let more : suc n ≡ c.args.number = omega (arith, some) in
    subst (λ m. IsKept c.args.self.now m k) more (subst (λ es. IsKept es (suc n) k) c.self.view_is (c.self.invariant n k there))
