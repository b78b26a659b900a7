use Rattle.std.proofs.Common.{◌≡◌, ◌∙◌, ap, sym, subst, slice_get}
use Rattle.std.specs.Prelude.{option_map}
use Rattle.comp_scopes.specs.Found.{EachSome}
use Rattle.comp_scopes.proofs.EachLemmas.{each_get, got}
use Rattle.comp_scopes.specs.Stands.{IsNested}
use Rattle.comp_scopes.proofs.scope.Scope.component_at.Goals as goal

pub returns : goal.returns
returns c = λ s h.
    let e : option_map (λ k. k.now) c.get.result ≡ slice_get c.args.self.now.components.items c.args.index =
    got c.get.result c.deref.result.now c.args.index c.get.ensures.lookup.0 c.get.ensures.lookup.1 ∙ ap (λ xs. slice_get xs c.args.index) c.deref.ensures.value in
    subst (EachSome IsNested (slice_get s.components c.args.index)) (sym e) (each_get IsNested s.components c.args.self.now.components.items h.rest.components c.args.index)
