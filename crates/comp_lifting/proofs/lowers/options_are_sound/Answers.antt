use Rattle.std.proofs.Common.{◌∙◌, ap, subst}
use Rattle.wit_types.specs.Plain.{PlainFunc}
use Rattle.comp_facts.specs.Facts.{IsFuncFactsOf}
use Rattle.comp_types.specs.Rules.{if_there, lower_options}
use Rattle.comp_types.specs.Spaces.{core_func_at}
use Rattle.comp_lifting.proofs.CanonLemmas.{same_funcs}
use Rattle.comp_lifting.proofs.lowers.options_are_sound.Goals as goal

pub returns-in-Some : goal.returns-in-Some
returns-in-Some c = λ s h.
    c.lower_options.ensures c.in-Some.ty.now.value (subst (λ (t : PlainFunc). IsFuncFactsOf t c.facts.result.now) c.deref.ensures c.facts.ensures)
    ∙ (ap (λ at. lower_options at c.in-Some.ty.now.value c.args.options.now) (same_funcs s c.args.scope.now.core h.core)
    ∙ ap (if_there (λ (ty : PlainFunc). lower_options (core_func_at s) ty c.args.options.now)) (c.in-Some.ensures s h))
