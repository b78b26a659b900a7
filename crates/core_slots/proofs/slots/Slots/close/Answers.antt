use Rattle.std.proofs.Common.{◌≡◌, ◌∷◌, ◌∙◌, ap, sym, subst}
use Rattle.std.specs.Prelude.{ℕ, List, reverse}
use Rattle.std.proofs.lemmas.List.{reverse-append}
use Rattle.core_slots.specs.declared.slots.Base.{Base}
use Rattle.core_slots.specs.Layout.{stacked, IsLaid}
use Rattle.core_slots.proofs.WordLaws.{close_at}
use Rattle.core_slots.proofs.slots.Slots.close.Goals as goal

pub returns : goal.returns
returns c k ks h =
    let bs = reverse c.pop.new.self.items in
    let e : reverse c.self.inside.callers.items ≡ c.in-Some.base ∷ bs = ap reverse c.in-Some.ensures.items ∙ reverse-append c.pop.new.self.items _ in
    let laid = subst (λ (xs : List Base). IsLaid c.self.inside.words.items c.self.inside.locals c.self.inside.operands xs) e c.self.invariant in
    ap (λ (xs : List ℕ). stacked xs c.in-Some.base.locals c.in-Some.base.operands bs) c.lower.ensures
    ∙ close_at _ _ _ _ c.in-Some.base bs _ k ks laid (ap (stacked c.self.inside.words.items c.self.inside.locals c.self.inside.operands) (sym e) ∙ c.self.view_is) h c.requires.results
