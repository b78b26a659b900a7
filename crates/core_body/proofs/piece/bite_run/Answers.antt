use Rattle.std.proofs.Common.{refl, sym, ◌∙◌, true≢false}
use Rattle.core_body.specs.Views.{context_of}
use Rattle.core_body.proofs.PieceLemmas.{meet-run, never-run}
use Rattle.core_body.proofs.piece.bite_run.Goals as goal

pub returns-then-same_ends : goal.returns-then-same_ends
returns-then-same_ends c =
    meet-run (context_of c.args.scope.now) c.args.run c.args.due c.front-held.result.now c.front-want.result.now c.saturating_sub-kept.result c.saturating_sub-left.result
    c.front-held.ensures c.front-want.ensures c.saturating_sub-kept.ensures c.saturating_sub-left.ensures
    (sym c.split_at.ensures.back ∙ c.if-same_ends.ensures.0 refl ∙ c.split_at-2.ensures.back)

pub returns-else-same_ends : goal.returns-else-same_ends
returns-else-same_ends c =
    never-run (context_of c.args.scope.now) c.args.run c.args.due c.front-held.result.now c.front-want.result.now c.saturating_sub-kept.result c.saturating_sub-left.result
    c.front-held.ensures c.front-want.ensures c.saturating_sub-kept.ensures c.saturating_sub-left.ensures
    (λ e. true≢false (sym (c.if-same_ends.ensures.1 (c.split_at.ensures.back ∙ e ∙ sym c.split_at-2.ensures.back))))
