use Rattle.std.proofs.Common.{sym, subst, slice_get, ◌∷◌}
use Rattle.comp_scopes.proofs.EachLemmas.{none_of, some_of}
use Rattle.comp_scopes.specs.Found.{IsKnownModule}
use Rattle.comp_scopes.specs.Stands.{Stands}
use Rattle.comp_types.specs.Spaces.{Space}
use Rattle.comp_defining.proofs.OuterLemmas.{found_none, found_nothing, found_some}
use Rattle.comp_defining.proofs.outer.module_at.Goals as goal

pub returns-in_default : goal.returns-in_default
returns-in_default c = λ around s h. found_none IsKnownModule (λ (t : Space). slice_get t.core_modules c.args.index) (slice_get (s ∷ around) c.args.count) (none_of Stands (slice_get (s ∷ around) c.args.count) (c.in_default.ensures around s h))

pub returns-in-None : goal.returns-in-None
returns-in-None c = λ around s h.
    let t = some_of Stands (slice_get (s ∷ around) c.args.count) c.in-Some.scope.now (c.in-Some.ensures around s h) in
    found_nothing IsKnownModule (λ (t : Space). slice_get t.core_modules c.args.index) (slice_get (s ∷ around) c.args.count) t.0 t.1 (none_of IsKnownModule (slice_get t.0.core_modules c.args.index) (c.in-None.ensures t.0 t.2.core))

pub returns-in_ok-share-in-Some-module_at : goal.returns-in_ok-share-in-Some-module_at
returns-in_ok-share-in-Some-module_at c = λ around s h.
    let t = some_of Stands (slice_get (s ∷ around) c.args.count) c.in-Some.scope.now (c.in-Some.ensures around s h) in
    let k = some_of IsKnownModule (slice_get t.0.core_modules c.args.index) c.in-Some-module_at.known.now (c.in-Some-module_at.ensures t.0 t.2.core) in
    found_some IsKnownModule (λ (t : Space). slice_get t.core_modules c.args.index) (slice_get (s ∷ around) c.args.count) t.0 k.0 c.in_ok-share-in-Some-module_at.field-0 t.1 k.1 (subst (IsKnownModule k.0) (sym c.in_ok-share-in-Some-module_at.ensures) k.2)
