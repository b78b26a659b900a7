use Rattle.std.proofs.Common.{◌∙◌, ap}
use Rattle.comp_types.specs.Rules.{lift_options}
use Rattle.comp_types.specs.Spaces.{kind_at}
use Rattle.comp_types.specs.Types.{func_in}
use Rattle.comp_lifting.proofs.CanonLemmas.{same_funcs}
use Rattle.comp_lifting.proofs.lifts.options_are_sound.Goals as goal

pub returns : goal.returns
returns c = λ s h.
    c.lift_options.ensures (func_in (kind_at s c.args.ty)) (c.facts_at.ensures s h)
    ∙ ap (λ at. lift_options at (func_in (kind_at s c.args.ty)) c.args.options.now) (same_funcs s c.args.scope.now.core h.core)
