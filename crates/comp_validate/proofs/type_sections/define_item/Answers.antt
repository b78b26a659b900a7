use Rattle.std.proofs.Common.{◌≡◌, ◌∙◌, sym, subst, ap, List, ℕ, ◌∷◌}
use Rattle.std.proofs.lemmas.Result.{IfOk-weaker}
use Rattle.comp_validate.specs.Rest.{Rest, Leads, Step, in_front}
use Rattle.comp_validate.specs.Stack.{one_less}
use Rattle.comp_validate.proofs.StepLemmas.{step_alone, step_open}
use Rattle.comp_validate.proofs.type_sections.define_item.Goals as goal

pub returns-in-None : goal.returns-in-None
returns-in-None c =
    IfOk-weaker c.define_alone.result _ _ (λ rule k ready around s ds h.
    subst (λ (cs : List ℕ). Step (Rest c.args.counts.now around s (in_front c.args.item.now ds)) cs ds c.define_alone.new.scopes rule) (sym c.in_ok-take_one.ensures)
    (step_alone c.args.counts.now around s c.args.item.now ds c.define_alone.new.scopes rule ready (sym c.item_count.ensures ∙ c.in-None.is) (k around s h))) c.define_alone.ensures

pub returns-in_ok-push-in-Some : goal.returns-in_ok-push-in-Some
returns-in_ok-push-in-Some c = λ ready around s ds h.
    subst (λ (cs : List ℕ). Leads (Rest c.args.counts.now around s (in_front c.args.item.now ds)) cs ds c.open_type.new.self) (sym (c.in_ok-push-in-Some.ensures ∙ ap (λ cs. c.in-Some.count ∷ cs) c.in_ok-take_one.ensures))
    (step_open c.in-Some.count c.args.counts.now around s c.args.item.now ds c.open_type.new.self ready (sym c.item_count.ensures ∙ c.in-Some.is) (c.in_ok-open_type-in-Some.ensures around s h))
