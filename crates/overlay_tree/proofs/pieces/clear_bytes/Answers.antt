use Rattle.std.proofs.Common.{◌≡◌, ◌+◌, ℕ, ◌∙◌, sym, ap, subst, length, arith}
use Rattle.std.proofs.lemmas.List.{length-replicate}
use Rattle.std.specs.Prelude.{replicate}
use Rattle.std.specs.List.{splice}
use Rattle.tree_table.specs.Scratches.{content_at, with_content}
use Rattle.overlay_tree.specs.Pieces.{map_of}
use Rattle.overlay_tree.proofs.ReplaceLemmas.{replaced_code}
use Rattle.overlay_tree.proofs.pieces.clear_bytes.Goals as goal

pub returns-clause-files : goal.returns-clause-files
returns-clause-files c b =
    let zeros = replicate c.args.len 0 in
    let old = c.args.space.now in
    let new = c.clear.new.self in
    let start = c.start_of-start.result in
    let long : length zeros ≡ c.args.len = length-replicate {A = ℕ} c.args.len 0 in
    let cleared = c.clear.ensures ∙ ap (λ k. splice old (start + c.args.at) (start + c.args.at + k) zeros) (sym long) in
    subst (λ k. map_of b c.args.slots.now new ≡ with_content (map_of b c.args.slots.now old) c.args.number (splice (content_at (map_of b c.args.slots.now old) c.args.number) c.args.at (c.args.at + k) zeros)) long
    (replaced_code c.args.slots.now old new zeros c.args.number c.args.at b start c.requires.number c.requires.live c.requires.within (omega (arith, c.requires.long, long)) c.start_of-start.ensures.value cleared)
