use Rattle.std.proofs.Common.{◌≡◌, ap, subst, map, List, ◌∷◌, []}
use Rattle.std.proofs.lemmas.List.{nil_from_length}
use Rattle.comp_types.specs.Definitions.{Definition}
use Rattle.comp_defining.specs.Judged.{JudgedIn}
use Rattle.comp_validate.proofs.EachLemmas.{LeadsAll, leads_all, one_more, one_breaks, all_led}
use Rattle.comp_validate.proofs.definitions.define_all.Goals as goal

pub loop-item-init : goal.loop-item-init
loop-item-init g c = λ around s h. leads_all around s (map g.T.Defines.definition c.args.items.now) c.args.scopes.now h

pub loop-item-preserved : goal.loop-item-preserved
loop-item-preserved g c = λ around s h.
    let all = map g.T.Defines.definition c.args.items.now in
    let l = subst (λ (left : List Definition). LeadsAll around s all left c.loop-item.scopes) (ap (map g.T.Defines.definition) c.in-Some.ensures.cases.0) (c.loop-item.invariant around s h) in
    one_more around s all (g.T.Defines.definition c.in-Some.item.now) (map g.T.Defines.definition c.in-Some.more.now) c.loop-item.scopes c.define_counted.new.scopes l
    (subst (JudgedIn around l.inner (g.T.Defines.definition c.in-Some.item.now) c.define_counted.new.scopes) c.in_default-2.is (c.in_ok-rule.ensures around l.inner l.stand))

pub returns-in-Some-2 : goal.returns-in-Some-2
returns-in-Some-2 g c = λ around s h.
    let all = map g.T.Defines.definition c.args.items.now in
    let l = subst (λ (left : List Definition). LeadsAll around s all left c.loop-item.scopes) (ap (map g.T.Defines.definition) c.in-Some.ensures.cases.0) (c.loop-item.invariant around s h) in
    one_breaks around s all (g.T.Defines.definition c.in-Some.item.now) (map g.T.Defines.definition c.in-Some.more.now) c.loop-item.scopes c.define_counted.new.scopes c.in-Some-2.rule l
    (subst (JudgedIn around l.inner (g.T.Defines.definition c.in-Some.item.now) c.define_counted.new.scopes) c.in-Some-2.is (c.in_ok-rule.ensures around l.inner l.stand))

pub returns : goal.returns
returns g c = λ around s h.
    let all = map g.T.Defines.definition c.args.items.now in
    all_led around s all c.loop-item.scopes
    (subst (λ (left : List Definition). LeadsAll around s all left c.loop-item.scopes) (ap (map g.T.Defines.definition) (nil_from_length c.loop-item.rest.now c.in_default.ensures.cases)) (c.loop-item.invariant around s h))
