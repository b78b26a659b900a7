use Rattle.std.proofs.Common.{◌<◌, ◌^◌, length, subst, arith}
use Rattle.tree_table.specs.Scratches.{content_at}
use Rattle.overlay_tree.specs.Pieces.{map_of}
use Rattle.overlay_tree.proofs.PieceLemmas.{length_pieces}
use Rattle.overlay_tree.proofs.ByteLemmas.{AreBytes, content_bytes}
use Rattle.overlay_tree.proofs.scratch.Scratch.contents_are_bytes.Goals as goal

pub returns-clause-small : goal.returns-clause-small
returns-clause-small c = λ number.
    let v = c.self.inside in
    let are : AreBytes v.space = (c.are_bytes.ensures.small, c.are_bytes.ensures.count) in
    (subst (λ m. AreBytes (content_at m number)) c.self.view_is (content_bytes v.blocks v.slots.items v.space number are)).0

pub returns-clause-count : goal.returns-clause-count
returns-clause-count c = λ number.
    let v = c.self.inside in
    let are : AreBytes v.space = (c.are_bytes.ensures.small, c.are_bytes.ensures.count) in
    (subst (λ m. AreBytes (content_at m number)) c.self.view_is (content_bytes v.blocks v.slots.items v.space number are)).1

pub returns-clause-files : goal.returns-clause-files
returns-clause-files c =
    let v = c.self.inside in
    let few : length (map_of v.blocks v.slots.items v.space).files < 2 ^ 64 = omega (arith, length_pieces v.slots.items v.space, c.self.invariant.numbered) in
    subst (λ m. length m.files < 2 ^ 64) c.self.view_is few
