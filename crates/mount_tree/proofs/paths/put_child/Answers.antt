use Rattle.std.proofs.Common.{◌≡◌, true, false, cond, nat_eq, Some, None, slice_set, sym, ap, ◌∙◌, inl, inr, arith, nat_cmp}
use Rattle.std.specs.Prelude.{string_bytes}
use Rattle.std.specs.Str.{bytes_eq}
use Rattle.std.specs.Map.{lookup}
use Rattle.std.specs.BTreeMap.{get_by_text, is_at}
use Rattle.std.specs.Cmp.Lexicographic.{slice_cmp}
use Rattle.std.proofs.lemmas.Bool.{cases_eq}
use Rattle.std.proofs.lemmas.Bool.Decides.{nat_tests}
use Rattle.std.proofs.lemmas.Map.Text.{btree_map_updates_text}
use Rattle.mount_tree.specs.Growing.{child_in}
use Rattle.mount_tree.proofs.GrowLemmas.{child-set, child-other, child-here, child-push}
use Rattle.mount_tree.proofs.paths.put_child.Goals as goal

pub returns-clause-put : goal.returns-clause-put
returns-clause-put c = λ f n.
    let maps = c.args.inside.now.items in
    let folder = c.args.folder in
    let m = c.insert.new.self in
    let old = c.index_mut.result.now in
    let key = string_bytes c.args.name in
    let none : get_by_text c.new.result n ≡ None = ap (lookup (is_at (λ k. slice_cmp nat_cmp n (string_bytes k)))) c.new.ensures.empty in
    let grown : child_in c.push.new.self.items f n ≡ child_in (slice_set maps folder m) f n = ap (λ ms. child_in ms f n) c.in_ok-push.ensures.items ∙ child-push (slice_set maps folder m) c.new.result f n none in
    elim (cases_eq f folder) [
      | inl same ↦
          let one : nat_eq f folder ≡ true = grind (arith, nat_tests, same) in
          let put = btree_map_updates_text key old m (Some c.args.number) c.in_ok-insert.ensures.updates n in
          let was : get_by_text old n ≡ child_in maps f n = ap (λ x. get_by_text x n) c.index_mut.ensures.value ∙ sym (child-here maps folder old n c.requires) ∙ ap (λ k. child_in maps k n) (sym same) in
          rw (one) (grown ∙ ap (λ k. child_in (slice_set maps folder m) k n) same ∙ child-set maps folder m n c.requires ∙ put ∙ ap (cond (bytes_eq key n) (Some c.args.number)) was)
      | inr other ↦
          let no : nat_eq f folder ≡ false = grind (arith, nat_tests, other) in
          rw (no) (grown ∙ child-other maps folder m f n other)
    ]
