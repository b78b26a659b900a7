use Rattle.std.proofs.Common.{sym, subst, slice_get}
use Rattle.comp_scopes.proofs.EachLemmas.{none_of, some_of}
use Rattle.comp_types.specs.Added.{and_some_type}
use Rattle.comp_scopes.specs.Stands.{IsEntry, Stands}
use Rattle.comp_instances.proofs.again.add_type_again.Goals as goal

pub returns-in_default : goal.returns-in_default
returns-in_default c = λ s h.
    subst (λ o. Stands (and_some_type s o) c.args.scope.now) (sym (none_of IsEntry (slice_get s.types c.args.index) (c.in_default.ensures s h))) h

pub returns : goal.returns
returns c = λ s h.
    let x = some_of IsEntry (slice_get s.types c.args.index) c.in-Some.entry.now (c.in-Some.ensures s h) in
    subst (λ o. Stands (and_some_type s o) c.add_entry.new.self) (sym x.1) (c.in_ok-add_entry.ensures s x.0 h (c.in_ok-copy.ensures x.0 x.2))
