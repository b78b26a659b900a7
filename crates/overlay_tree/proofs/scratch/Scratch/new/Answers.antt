use Rattle.std.proofs.Common.{◌*◌, ℕ, ◌∙◌, refl, ap, None, Option, length, arith}
use Rattle.std.proofs.lemmas.List.{length-replicate}
use Rattle.overlay_tree.specs.Pieces.{Entry, blocks_in}
use Rattle.overlay_tree.proofs.PieceLemmas.{blocks_free, pieces_free}
use Rattle.overlay_tree.proofs.scratch.Scratch.new.Goals as goal

pub invariant_of-result : goal.invariant_of-result
invariant_of-result c = record {
  quota = ap length c.in_ok-space.ensures ∙ length-replicate {A = ℕ} (c.args.blocks * 4096) 0;
  within = omega (arith, ap blocks_in c.in_ok-slots.ensures, blocks_free c.args.files);
  few = c.ranges.blocks.fits;
  numbered = omega (arith, ap length c.in_ok-slots.ensures, length-replicate {A = Option Entry} c.args.files None, c.ranges.files.fits);
}

pub returns : goal.returns
returns c = rw (c.in_ok-slots.ensures, pieces_free) refl
