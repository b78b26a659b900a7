use Rattle.std.proofs.Common.{◌≡◌, sym, subst, refl, List, [], reverse, length, arith}
use Rattle.comp_scopes.specs.Stands.{Stands}
use Rattle.comp_defining.specs.declared.scopes.Level.{Level}
use Rattle.comp_defining.specs.Around.{StandEach}
use Rattle.comp_defining.proofs.AroundLemmas.{empty_is, popped, none_popped, some_popped}
use Rattle.comp_defining.proofs.scopes.Scopes.close.Goals as goal

pub returns-in-None-clause-closed : goal.returns-in-None-clause-closed
returns-in-None-clause-closed c = λ around t s h.
    let e : length c.args.self.now.outer.items ≡ 0 = omega (arith, c.in-None.ensures.cases.0, c.args.self.now.outer.ok.0) in
    absurd (none_popped around t s c.args.self.now h (empty_is c.args.self.now.outer.items e))

pub returns-in-None-clause-alone : goal.returns-in-None-clause-alone
returns-in-None-clause-alone c = λ s h.
    let e : length c.pop.new.self.items ≡ 0 = omega (arith, c.in-None.ensures.cases.1, c.pop.new.self.ok.0) in
    (refl, record { inner = h.inner; inside = h.inside; outer = subst (λ (xs : List Level). StandEach [] (reverse xs)) (sym (empty_is c.pop.new.self.items e)) tt; covered = h.covered })

pub returns-in-Some-clause-closed : goal.returns-in-Some-clause-closed
returns-in-Some-clause-closed c = λ around t s h.
    let k = popped around t s c.args.self.now c.pop.new.self.items c.in-Some.level h c.in-Some.ensures.items in
    ((subst (Stands s) (sym c.replace.ensures.value) h.inner, h.covered.0), record { inner = subst (Stands t) (sym c.replace.ensures.after) k.0; inside = k.1; outer = k.2; covered = h.covered.1 })

pub returns-in-Some-clause-alone : goal.returns-in-Some-clause-alone
returns-in-Some-clause-alone c = λ s h. absurd (some_popped s c.args.self.now c.pop.new.self.items c.in-Some.level h c.in-Some.ensures.items)
