use Rattle.std.proofs.Common.{ℕ, Bool, ◌≡◌, ◌<◌, ◌≤◌, length, map, [], ◌∷◌, ◌++◌, ap, ◌∙◌, arith}
use Rattle.std.proofs.Math.Path.{ap₂}
use Rattle.std.proofs.lemmas.Grind.{common_steps}
use Rattle.wit_types.specs.PlainValue.{plain_values}
use Rattle.reference_step.specs.Handles.{content_of, is_host}
use Rattle.reference_step.specs.Values.{id_in, items, nth}
use Rattle.ref_answers.specs.Seen.{live_in}
use Rattle.ref_virtual.proofs.PollLemmas.{one_more, all_values}
use Rattle.ref_virtual.proofs.polling.hosts_among.Goals as goal

pub loop-place-preserved : goal.loop-place-preserved
loop-place-preserved c = λ f.
    let vs = plain_values c.args.values.now in
    let of_id : ℕ → Bool = λ id. is_host (content_of (live_in f c.args.live.now.handles) id) in
    let less : c.loop-place.place < length (items vs) = grind (arith, common_steps, c.loop-place-test.true, c.count_of-place-end.ensures) in
    let bit : c.is_host.result ≡ of_id (id_in (nth c.loop-place.place vs)) = c.is_host.ensures f ∙ ap of_id (c.id_of.ensures ∙ ap id_in c.part_at.ensures) in
    c.in_ok-push.ensures.items ∙ ap₂ (λ xs b. xs ++ b ∷ []) (c.loop-place.invariant f) bit ∙ one_more (λ v. of_id (id_in v)) vs c.loop-place.place less

pub returns : goal.returns
returns c = λ f.
    let vs = plain_values c.args.values.now in
    let past : length (items vs) ≤ c.loop-place.place = grind (arith, common_steps, c.loop-place-test.false, c.count_of-place-end.ensures) in
    c.loop-place.invariant f ∙ ap (map (λ v. is_host (content_of (live_in f c.args.live.now.handles) (id_in v)))) (all_values vs c.loop-place.place past)
