use Rattle.std.proofs.Common.{◌≡◌, ◌∙◌, ◌+◌, ◌≤◌, List, length, sym, ap, ap₂, subst, arith}
use Rattle.tree_table.specs.declared.entries.Entry.{Entry}
use Rattle.tree_table.specs.declared.entries.Node.TheVariants.{File}
use Rattle.mount_tree.specs.Making.{Sofar, count_with, with_file, with_path}
use Rattle.mount_tree.specs.Spots.{IsSpot}
use Rattle.tree_table.specs.Trees.{file_length, total_in}
use Rattle.mount_tree.specs.Growing.{with_node}
use Rattle.mount_tree.specs.Legal.{AreLegal, IsLegal}
use Rattle.mount_tree.proofs.LegalLemmas.{added, spot-legal, total-node}
use Rattle.mount_tree.proofs.SpotLemmas.{room, spot-added}
use Rattle.mount_tree.proofs.making.Making.with_file.Goals as goal

pub invariant_of-result : goal.invariant_of-result
invariant_of-result c =
    let i = c.self.inside in
    let s : IsSpot i.paths c.args.path.now c.args.spot.folder c.args.spot.name.now = subst (λ (m : Sofar). IsSpot m.there c.args.path.now c.args.spot.folder c.args.spot.name.now) (sym c.self.view_is) c.requires.spot in
    let few : count_with (record { before = i.before; bytes = i.bytes; there = i.paths }) c.args.path.now ≤ 65536 = subst (λ (m : Sofar). count_with m c.args.path.now ≤ 65536) (sym c.self.view_is) c.requires.few in
    let is : c.in_ok-paths.paths ≡ with_path i.paths c.args.path.now (File c.args.bytes) = c.in_ok-paths.ensures s.above s.at ∙ spot-added i.paths c.args.path.now c.args.spot.folder c.args.spot.name.now s (File c.args.bytes) in
    let fits = subst (λ (m : Sofar). m.bytes + length c.args.bytes ≤ 67108864) (sym c.self.view_is) c.requires.fits in
    let grown : c.in_ok-paths.paths ≡ with_node i.paths s.above c.args.spot.name.now (File c.args.bytes) = c.in_ok-paths.ensures s.above s.at in
    let held = total-node file_length i.paths s.above c.args.spot.name.now (File c.args.bytes) in (
      room i.before.nodes i.paths c.in_ok-paths.paths c.args.path.now (File c.args.bytes) is few,
      omega (arith, fits, c.len-more.ensures),
      omega (arith, c.self.invariant.2, c.len-more.ensures, held, ap (total_in file_length) grown),
      subst AreLegal (sym grown) (added IsLegal i.paths s.above c.args.spot.name.now (File c.args.bytes) c.self.invariant.3
          (spot-legal i.paths c.args.path.now c.args.spot.folder c.args.spot.name.now s (File c.args.bytes) c.requires.place tt)),
      c.self.invariant.4,
    )

pub returns : goal.returns
returns c =
    let i = c.self.inside in
    let s : IsSpot i.paths c.args.path.now c.args.spot.folder c.args.spot.name.now = subst (λ (m : Sofar). IsSpot m.there c.args.path.now c.args.spot.folder c.args.spot.name.now) (sym c.self.view_is) c.requires.spot in
    let is : c.in_ok-paths.paths ≡ with_path i.paths c.args.path.now (File c.args.bytes) = c.in_ok-paths.ensures s.above s.at ∙ spot-added i.paths c.args.path.now c.args.spot.folder c.args.spot.name.now s (File c.args.bytes) in
    ap₂ (λ n (es : List Entry). record { before = i.before; bytes = i.bytes + n; there = es }) c.len-more.ensures is ∙ ap (λ (m : Sofar). with_file m c.args.path.now c.args.bytes) c.self.view_is
