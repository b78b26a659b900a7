use Rattle.std.proofs.Common.{◌≡◌, ◌≤◌, ◌+◌, ◌-◌, min, None, get_or, ◌∙◌, sym, ap, ◌++◌, drop, length, take, rules, arith}
use Rattle.std.proofs.lemmas.Grind.{common_steps}
use Rattle.std.proofs.lemmas.List.{length-take-le, length-drop}
use Rattle.overlay_tree.specs.Pieces.{len_of}
use Rattle.overlay_tree.proofs.PieceLemmas.{len_within}
use Rattle.overlay_tree.proofs.ReplaceLemmas.{read_piece}
use Rattle.overlay_tree.proofs.pieces.read_file.Goals as goal

pub returns-clause-count : goal.returns-clause-count
returns-clause-count c b =
    let es = c.args.slots.now in
    let bs = c.args.space.now in
    let n = c.args.number in
    let len : c.len-len.result ≡ len_of (get_or es n None) = search (rules, common_steps) in
    let from : c.min-from.result ≡ min c.args.at c.len-len.result = search (rules, common_steps) in
    let count : c.min-count.result ≡ min (c.len-len.result - c.min-from.result) (length c.args.out.now) = search (rules, common_steps) in
    let read = read_piece es bs n c.args.at (length c.args.out.now) c.len-len.result c.min-from.result c.min-count.result c.start_of.result b c.requires.number c.requires.within len from count c.start_of.ensures.value (len_within (get_or es n None)) in
    let inside : c.min-count.result ≤ length (drop (c.start_of.result + c.min-from.result) bs) = omega (arith, length-drop (c.start_of.result + c.min-from.result) bs, c.start_of.ensures.ends, c.requires.within, len_within (get_or es n None), len, from, count) in
    sym (ap length read ∙ length-take-le c.min-count.result (drop (c.start_of.result + c.min-from.result) bs) inside)

pub returns-clause-read : goal.returns-clause-read
returns-clause-read c b =
    let es = c.args.slots.now in
    let bs = c.args.space.now in
    let n = c.args.number in
    let len : c.len-len.result ≡ len_of (get_or es n None) = search (rules, common_steps) in
    let from : c.min-from.result ≡ min c.args.at c.len-len.result = search (rules, common_steps) in
    let count : c.min-count.result ≡ min (c.len-len.result - c.min-from.result) (length c.args.out.now) = search (rules, common_steps) in
    let read = read_piece es bs n c.args.at (length c.args.out.now) c.len-len.result c.min-from.result c.min-count.result c.start_of.result b c.requires.number c.requires.within len from count c.start_of.ensures.value (len_within (get_or es n None)) in
    let size : length (take c.min-count.result c.args.out.now) ≡ c.min-count.result = length-take-le c.min-count.result c.args.out.now (omega (arith, count)) in
    let copied : c.read.new.out ≡ take c.min-count.result (drop (c.start_of.result + c.min-from.result) bs) = c.read.ensures ∙ ap (λ k. take k (drop (c.start_of.result + c.min-from.result) bs)) size in
    ap (λ xs. xs ++ drop c.min-count.result c.args.out.now) (copied ∙ sym read)
