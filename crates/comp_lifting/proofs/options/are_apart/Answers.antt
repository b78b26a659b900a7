use Rattle.std.proofs.Common.{◌∙◌, ap}
use Rattle.comp_types.specs.Rules.{is_same_option}
use Rattle.comp_indexes.proofs.DifferLemmas.{are_new, starts_new, goes_on, was_new}
use Rattle.comp_lifting.specs.Met.{has_met}
use Rattle.comp_lifting.proofs.options.are_apart.Goals as goal

pub loop-option-init : goal.loop-option-init
loop-option-init c = starts_new is_same_option (has_met c.none-met.result) c.none-met.ensures c.args.options.now

pub loop-option-preserved : goal.loop-option-preserved
loop-option-preserved c =
    c.loop-option.invariant
    ∙ (ap (λ xs. are_new is_same_option (has_met c.loop-option.met) xs) c.in-Some.ensures.cases.0
    ∙ goes_on is_same_option (has_met c.loop-option.met) (has_met c.add.new.self) c.in-Some.option.now c.in-Some.more.now c.add.ensures.added
    (was_new (has_met c.loop-option.met c.in-Some.option.now) c.add.result c.add.ensures.new c.if-not-add.false))
