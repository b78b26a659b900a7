use Rattle.std.proofs.Common.{◌∙◌, slice_get, ◌∷◌}
use Rattle.comp_scopes.proofs.EachLemmas.{none_of, some_of}
use Rattle.comp_scopes.specs.Stands.{IsEntry, Stands}
use Rattle.comp_types.specs.Spaces.{Space}
use Rattle.comp_defining.proofs.OuterLemmas.{found_none, found_nothing, found_some}
use Rattle.comp_defining.proofs.outer.type_at.Goals as goal

pub returns-in_default : goal.returns-in_default
returns-in_default c = λ around s h. found_none IsEntry (λ (t : Space). slice_get t.types c.args.index) (slice_get (s ∷ around) c.args.count) (none_of Stands (slice_get (s ∷ around) c.args.count) (c.in_default.ensures around s h))

pub returns-in_default-entry_at : goal.returns-in_default-entry_at
returns-in_default-entry_at c = λ around s h.
    let t = some_of Stands (slice_get (s ∷ around) c.args.count) c.in-Some.scope.now (c.in-Some.ensures around s h) in
    found_nothing IsEntry (λ (t : Space). slice_get t.types c.args.index) (slice_get (s ∷ around) c.args.count) t.0 t.1 (none_of IsEntry (slice_get t.0.types c.args.index) (c.in_default-entry_at.ensures t.0 t.2))

pub returns : goal.returns
returns c = λ around s h.
    let t = some_of Stands (slice_get (s ∷ around) c.args.count) c.in-Some.scope.now (c.in-Some.ensures around s h) in
    let e = some_of IsEntry (slice_get t.0.types c.args.index) c.in-Some-entry_at.entry.now (c.in-Some-entry_at.ensures t.0 t.2) in
    found_some IsEntry (λ (t : Space). slice_get t.types c.args.index) (slice_get (s ∷ around) c.args.count) t.0 e.0 _ t.1 e.1 (record { kind = c.in_ok-kind.ensures ∙ e.2.kind; depth = e.2.depth })
