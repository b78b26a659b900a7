use Rattle.std.proofs.Common.{◌∙◌, ap, sym, min, slice_get}
use Rattle.comp_scopes.proofs.EachLemmas.{none_of, some_of}
use Rattle.comp_types.specs.Added.{depth_in}
use Rattle.comp_scopes.specs.Stands.{IsEntry}
use Rattle.comp_instances.proofs.declares.depth_at.Goals as goal

pub returns-in-None : goal.returns-in-None
returns-in-None c = λ s h. sym (ap (λ o. min (depth_in o) 101) (none_of IsEntry (slice_get s.types c.args.index) (c.in-None.ensures s h)))

pub returns-in-Some : goal.returns-in-Some
returns-in-Some c = λ s h.
    let x = some_of IsEntry (slice_get s.types c.args.index) c.in-Some.entry.now (c.in-Some.ensures s h) in
    x.2.depth ∙ sym (ap (λ o. min (depth_in o) 101) x.1)
