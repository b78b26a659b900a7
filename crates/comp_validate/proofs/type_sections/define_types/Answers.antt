use Rattle.std.proofs.Common.{◌≡◌, ◌∙◌, sym, subst, ap, List, ℕ, [], Some, None}
use Rattle.std.proofs.lemmas.List.{nil_from_length}
use Rattle.std.proofs.lemmas.Result.{IfOk-weaker}
use Rattle.comp_types.specs.Declarations.{Declarations, Done, grouped}
use Rattle.comp_validate.specs.Rest.{Rest, Leads, Step, in_front}
use Rattle.comp_validate.proofs.RestLemmas.{front_grouped}
use Rattle.comp_validate.proofs.StepLemmas.{joined, leads_here, finished}
use Rattle.comp_validate.proofs.type_sections.define_types.Goals as goal

pub loop-item-init : goal.loop-item-init
loop-item-init c = λ around s h.
    subst (λ (cs : List ℕ). Leads (Rest [] around s (grouped c.args.items.now)) cs (grouped c.args.items.now) c.args.scopes.now) (sym c.none-counts.ensures) (leads_here [] around s (grouped c.args.items.now) c.args.scopes.now h)

pub loop-item-preserved : goal.loop-item-preserved
loop-item-preserved c = λ around s h.
    let e : grouped c.loop-item.rest.now ≡ in_front c.in-Some.item.now (grouped c.in-Some.more.now) = ap grouped c.in-Some.ensures.cases.0 ∙ front_grouped c.in-Some.item.now c.in-Some.more.now in
    joined (Rest [] around s (grouped c.args.items.now)) c.loop-item.counts c.pass.new.counts (grouped c.in-Some.more.now) (grouped c.loop-item.rest.now) c.loop-item.scopes c.pass.new.scopes None (c.loop-item.invariant around s h)
    (λ outer t stand. subst (λ (all : Declarations). Step (Rest c.loop-item.counts outer t all) c.pass.new.counts (grouped c.in-Some.more.now) c.pass.new.scopes None) (sym e)
    (subst (Step (Rest c.loop-item.counts outer t (in_front c.in-Some.item.now (grouped c.in-Some.more.now))) c.pass.new.counts (grouped c.in-Some.more.now) c.pass.new.scopes) c.in_default-2.is (c.in_ok-rule.ensures outer t (grouped c.in-Some.more.now) stand)))

pub returns-in-Some-2 : goal.returns-in-Some-2
returns-in-Some-2 c = λ around s h.
    let e : grouped c.loop-item.rest.now ≡ in_front c.in-Some.item.now (grouped c.in-Some.more.now) = ap grouped c.in-Some.ensures.cases.0 ∙ front_grouped c.in-Some.item.now c.in-Some.more.now in
    joined (Rest [] around s (grouped c.args.items.now)) c.loop-item.counts c.pass.new.counts (grouped c.in-Some.more.now) (grouped c.loop-item.rest.now) c.loop-item.scopes c.pass.new.scopes (Some c.in-Some-2.rule) (c.loop-item.invariant around s h)
    (λ outer t stand. subst (λ (all : Declarations). Step (Rest c.loop-item.counts outer t all) c.pass.new.counts (grouped c.in-Some.more.now) c.pass.new.scopes (Some c.in-Some-2.rule)) (sym e)
    (subst (Step (Rest c.loop-item.counts outer t (in_front c.in-Some.item.now (grouped c.in-Some.more.now))) c.pass.new.counts (grouped c.in-Some.more.now) c.pass.new.scopes) c.in-Some-2.is (c.in_ok-rule.ensures outer t (grouped c.in-Some.more.now) stand)))
    c.pass.new.scopes

pub returns : goal.returns
returns c =
    IfOk-weaker c.close_all.result _ _ (λ rule k around s h.
    finished (Rest [] around s (grouped c.args.items.now)) c.close_all.new.scopes rule
    (joined (Rest [] around s (grouped c.args.items.now)) c.loop-item.counts [] Done Done c.loop-item.scopes c.close_all.new.scopes rule
    (subst (λ (all : Declarations). Leads (Rest [] around s (grouped c.args.items.now)) c.loop-item.counts all c.loop-item.scopes) (ap grouped (nil_from_length c.loop-item.rest.now c.in_default.ensures.cases)) (c.loop-item.invariant around s h)) k)) c.close_all.ensures
