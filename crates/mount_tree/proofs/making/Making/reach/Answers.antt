use Rattle.std.proofs.Common.{◌≡◌, ◌∙◌, ℕ, ◌+◌, ◌≤◌, [], true, cond, Err, length, refl, sym, ap, subst, inl, inr, arith}
use Rattle.std.specs.Prelude.{codes}
use Rattle.tree_table.specs.Linked.{end_name}
use Rattle.path_names.specs.Paths.{names_of}
use Rattle.mount_tree.specs.declared.fault.TreeFault.TheVariants.{OverLimit}
use Rattle.std.proofs.lemmas.List.Elements.{All-nil}
use Rattle.tree_table.specs.Trees.{file_length, total_in}
use Rattle.mount_tree.specs.Growing.{above_of, is_free, with_folders}
use Rattle.mount_tree.specs.Legal.{AreLegal, is_entry_name}
use Rattle.mount_tree.specs.Making.{Sofar, reached}
use Rattle.mount_tree.proofs.LegalLemmas.{legal-folders, path-names, total-folders}
use Rattle.mount_tree.proofs.LimitLemmas.{over_says}
use Rattle.mount_tree.proofs.SpotLemmas.{spot-free, reached-ok, reached-past}
use Rattle.mount_tree.proofs.making.Making.reach.Goals.{then-is_free, else-is_free}
use Rattle.mount_tree.proofs.making.Making.reach.Goals as goal

pub returns-then-nodes-gt-MOST_NODES : goal.returns-then-nodes-gt-MOST_NODES
returns-then-nodes-gt-MOST_NODES c =
    let path = c.args.path.now in
    let i = c.self.inside in
    let sofar : Sofar = record { before = i.before; bytes = i.bytes; there = i.paths } in
    let first = c.in_ok-paths.field-0 in
    let ps = first.paths in
    let s = c.in_ok-paths.ensures.spot in
    let free = is_free ps (above_of (names_of path)) (end_name (names_of path)) in
    let is-free : c.is_free.result ≡ free = c.is_free.ensures s.above s.at ∙ spot-free ps path first.spot.folder first.spot.name.now s in
    let size : c.len.result ≡ length ps = omega (arith, c.len.ensures.value, ap length c.in_ok-paths.paths-is) in
    let more : c.if-is_free.more ≡ cond free 1 0 = elim c.if-is_free.branch [
      | then-is_free w ↦ omega (arith, w.more-is, ap {B = ℕ} (λ b. cond b 1 0) (sym is-free ∙ w.if-is_free.true))
      | else-is_free w ↦ omega (arith, w.more-is, ap {B = ℕ} (λ b. cond b 1 0) (sym is-free ∙ w.if-is_free.false))
    ] in
    let few : length (names_of path) ≤ 64 = omega (arith, c.if-depth-gt-MOST_NAMES.false, c.depth_of-depth.ensures) in
    let nodes = i.before.nodes + c.len.result + c.if-is_free.more in
    let count : nodes ≡ (i.before.nodes + length ps) + cond free 1 0 = omega (arith, more, size) in
    let due : reached sofar path ≡ Err (OverLimit (codes "tree-nodes") nodes) = reached-past sofar path ps few c.in_ok-paths.ensures.paths nodes count c.if-nodes-gt-MOST_NODES.true in
    over_says (reached c.args.self path) (codes "tree-nodes") nodes c.too_many.result (ap (λ (m : Sofar). reached m path) (sym c.self.view_is) ∙ due)
    (inr (inl (refl, c.if-nodes-gt-MOST_NODES.true))) c.too_many.ensures

pub returns : goal.returns
returns c =
    let path = c.args.path.now in
    let i = c.self.inside in
    let sofar : Sofar = record { before = i.before; bytes = i.bytes; there = i.paths } in
    let first = c.in_ok-paths.field-0 in
    let ps = first.paths in
    let s = c.in_ok-paths.ensures.spot in
    let free = is_free ps (above_of (names_of path)) (end_name (names_of path)) in
    let is-free : c.is_free.result ≡ free = c.is_free.ensures s.above s.at ∙ spot-free ps path first.spot.folder first.spot.name.now s in
    let size : c.len.result ≡ length ps = omega (arith, c.len.ensures.value, ap length c.in_ok-paths.paths-is) in
    let more : c.if-is_free.more ≡ cond free 1 0 = elim c.if-is_free.branch [
      | then-is_free w ↦ omega (arith, w.more-is, ap {B = ℕ} (λ b. cond b 1 0) (sym is-free ∙ w.if-is_free.true))
      | else-is_free w ↦ omega (arith, w.more-is, ap {B = ℕ} (λ b. cond b 1 0) (sym is-free ∙ w.if-is_free.false))
    ] in
    let few : length (names_of path) ≤ 64 = omega (arith, c.if-depth-gt-MOST_NAMES.false, c.depth_of-depth.ensures) in
    let small : (i.before.nodes + length ps) + cond free 1 0 ≤ 65536 = omega (arith, more, size, c.if-nodes-gt-MOST_NODES.false) in
    record {
      due = ap (λ (m : Sofar). reached m path) (sym c.self.view_is) ∙ reached-ok sofar path ps few c.in_ok-paths.ensures.paths small;
      spot = s;
      few = small;
      deep = few;
    }

pub invariant_of-result : goal.invariant_of-result
invariant_of-result c =
    let names = names_of c.args.path.now in
    let i = c.self.inside in
    let ps = c.in_ok-paths.field-0.paths in
    let grown : ps ≡ with_folders i.paths [] names = c.in_ok-paths.ensures.paths in
    let few : length names ≤ 64 = omega (arith, c.if-depth-gt-MOST_NAMES.false, c.depth_of-depth.ensures) in
    let size : c.len.result ≡ length ps = omega (arith, c.len.ensures.value, ap length c.in_ok-paths.paths-is) in (
      omega (arith, size, c.if-nodes-gt-MOST_NODES.false),
      c.self.invariant.1,
      omega (arith, c.self.invariant.2, total-folders i.paths [] names, ap (total_in file_length) grown),
      subst AreLegal (sym grown) (legal-folders i.paths [] names c.self.invariant.3 (All-nil (λ name. is_entry_name name ≡ true)) (path-names c.args.path.now c.requires) (omega (arith, few))),
      c.self.invariant.4,
    )
