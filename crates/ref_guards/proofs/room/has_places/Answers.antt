use Rattle.std.proofs.Common.{◌≡◌, ◌+◌, ℕ, arith, sym, ap, ◌∙◌}
use Rattle.reference_step.specs.Handles.{live_of_kind}
use Rattle.ref_answers.specs.Seen.{live_in}
use Rattle.ref_answers.proofs.SeenLaws.{seen_of_kind}
use Rattle.ref_guards.proofs.HandleLemmas.{halted, went_on}
use Rattle.ref_guards.proofs.RoomLemmas.{next_kind, no_more_kinds, too_many, few_enough}
use Rattle.ref_guards.proofs.room.has_places.Goals as goal

pub returns-then-owned-kind : goal.returns-then-owned-kind
returns-then-owned-kind c = λ p f ty slots all.
    let k : ℕ = c.loop-kind.kind in
    let is : c.room.result + live_of_kind k (live_in f c.args.live.now.handles) ≡ p.slots = ap (λ n. c.room.result + n) (seen_of_kind f k c.args.live.now.handles) ∙ c.room.ensures ∙ sym slots in
    halted _ _ _ _ (next_kind p (live_in f c.args.live.now.handles) ty c.args.owned.now k c.room.result _ c.loop-kind-test.true is (omega (arith, c.room.ensures, c.requires)) all) (too_many _ _ c.if-owned-kind.true) (c.loop-kind.invariant p f ty slots all)

pub loop-kind-preserved : goal.loop-kind-preserved
loop-kind-preserved c = λ p f ty slots all.
    let k : ℕ = c.loop-kind.kind in
    let is : c.room.result + live_of_kind k (live_in f c.args.live.now.handles) ≡ p.slots = ap (λ n. c.room.result + n) (seen_of_kind f k c.args.live.now.handles) ∙ c.room.ensures ∙ sym slots in
    went_on _ _ _ _ (next_kind p (live_in f c.args.live.now.handles) ty c.args.owned.now k c.room.result _ c.loop-kind-test.true is (omega (arith, c.room.ensures, c.requires)) all) (few_enough _ _ c.if-owned-kind.false) (c.loop-kind.invariant p f ty slots all)

pub returns : goal.returns
returns c = λ p f ty slots all. sym (no_more_kinds _ c.loop-kind.kind c.loop-kind-test.false) ∙ c.loop-kind.invariant p f ty slots all
