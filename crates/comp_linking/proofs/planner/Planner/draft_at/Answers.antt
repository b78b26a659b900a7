use Rattle.std.proofs.Common.{◌≡◌, ◌∙◌, ◌<◌, ◌+◌, ap, sym, subst, slice_get, arith, ◌∷◌, ℕ, length, Option, Some, None}
use Rattle.std.specs.Prelude.{option_map}
use Rattle.comp_scopes.proofs.EachLemmas.{got}
use Rattle.comp_linking.specs.Walks.{At, made}
use Rattle.comp_linking.specs.Names.{AreNamed}
use Rattle.comp_linking.proofs.DraftAt.{draft_found, draft_past}
use Rattle.comp_linking.proofs.planner.Planner.draft_at.Goals as goal

pub returns-then-count-eq0 : goal.returns-then-count-eq0
returns-then-count-eq0 c = λ ms todo outer a h.
    let x = c.args.self.now in
    subst (λ (k : ℕ). AreNamed ms (made ms x.components.items) (slice_get (a ∷ outer) k) (Some x.inner)) (sym c.if-count-eq0.true) h.inner

pub returns-in_default : goal.returns-in_default
returns-in_default c = λ ms todo outer a h.
    let x = c.args.self.now in
    let cs = made ms x.components.items in
    let lt : length x.outer.items < c.args.count = omega (arith, c.in_default.ensures) in
    subst (λ (o : Option At). AreNamed ms cs o None) (sym (draft_past ms cs outer a x.outer.items c.args.count h.outer lt)) tt

pub returns : goal.returns
returns c = λ ms todo outer a h.
    let x = c.args.self.now in
    let i = c.in-Some.index in
    let e : i + c.args.count ≡ length x.outer.items = omega (arith, c.in-Some.ensures) in
    let lt : 0 < c.args.count = omega arith in
    let g : option_map (λ k. k.now) c.get.result ≡ slice_get x.outer.items i =
    got c.get.result c.deref.result.now i c.get.ensures.lookup.0 c.get.ensures.lookup.1 ∙ ap (λ xs. slice_get xs i) c.deref.ensures.value in
    subst (AreNamed ms (made ms x.components.items) (slice_get (a ∷ outer) c.args.count)) (sym g) (draft_found ms (made ms x.components.items) outer a x.outer.items c.args.count i h.outer e lt)
