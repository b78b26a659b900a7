use Rattle.std.proofs.Common.{◌≡◌, ◌∙◌, ◌<◌, ◌+◌, ap, sym, subst, slice_get, arith, ◌∷◌, ℕ, length, Option, Some, None}
use Rattle.std.specs.Prelude.{option_map}
use Rattle.comp_scopes.specs.Found.{EachSome}
use Rattle.comp_scopes.proofs.EachLemmas.{got}
use Rattle.comp_types.specs.Spaces.{Space}
use Rattle.comp_scopes.specs.Stands.{Stands}
use Rattle.comp_defining.specs.declared.scopes.Level.{Level}
use Rattle.comp_defining.proofs.AroundLemmas.{scope_found, scope_past}
use Rattle.comp_defining.proofs.scopes.Scopes.scope_at.Goals as goal

pub returns-then-count-eq0 : goal.returns-then-count-eq0
returns-then-count-eq0 c = λ around s h. subst (λ (k : ℕ). EachSome Stands (slice_get (s ∷ around) k) (Some c.args.self.now.inner)) (sym c.if-count-eq0.true) h.inner

pub returns-in_default : goal.returns-in_default
returns-in_default c = λ around s h.
    let lt : length c.args.self.now.outer.items < c.args.count = omega (arith, c.in_default.ensures) in
    subst (λ (o : Option Space). EachSome Stands o None) (sym (scope_past around s c.args.self.now c.args.count h lt)) tt

pub returns-in-None : goal.returns-in-None
returns-in-None c = λ around s h.
    let x = c.args.self.now in
    let i = c.in-Some.index in
    let e : i + c.args.count ≡ length x.outer.items = omega (arith, c.in-Some.ensures) in
    let lt : 0 < c.args.count = omega arith in
    let g : option_map (λ k. k.now) c.get.result ≡ slice_get x.outer.items i =
    got c.get.result c.deref.result.now i c.get.ensures.lookup.0 c.get.ensures.lookup.1 ∙ ap (λ xs. slice_get xs i) c.deref.ensures.value in
    subst (λ (o : Option Level). EachSome Stands (slice_get (s ∷ around) c.args.count) (option_map (λ (l : Level). l.scope) o)) (sym g ∙ ap (option_map (λ k. k.now)) c.in-None.is) (scope_found around s x c.args.count i h e lt)

pub returns-in-Some-get : goal.returns-in-Some-get
returns-in-Some-get c = λ around s h.
    let x = c.args.self.now in
    let i = c.in-Some.index in
    let e : i + c.args.count ≡ length x.outer.items = omega (arith, c.in-Some.ensures) in
    let lt : 0 < c.args.count = omega arith in
    let g : option_map (λ k. k.now) c.get.result ≡ slice_get x.outer.items i =
    got c.get.result c.deref.result.now i c.get.ensures.lookup.0 c.get.ensures.lookup.1 ∙ ap (λ xs. slice_get xs i) c.deref.ensures.value in
    subst (λ (o : Option Level). EachSome Stands (slice_get (s ∷ around) c.args.count) (option_map (λ (l : Level). l.scope) o)) (sym g ∙ ap (option_map (λ k. k.now)) c.in-Some-get.is) (scope_found around s x c.args.count i h e lt)
