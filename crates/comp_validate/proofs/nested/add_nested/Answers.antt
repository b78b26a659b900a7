use Rattle.std.proofs.Common.{subst, ℕ, sym}
use Rattle.comp_types.specs.Added.{and_component, nested_of}
use Rattle.comp_scopes.specs.Stands.{Stands, IsNested}
use Rattle.comp_validate.proofs.NestedLemmas.{with_next}
use Rattle.comp_validate.proofs.nested.add_nested.Goals as goal

pub returns : goal.returns
returns c = λ t s h k covers.
    with_next t (nested_of s) c.add_component.new.self s.next c.args.inner.next (c.in_ok-add_component.ensures t (nested_of s) h (subst (IsNested (nested_of s)) (sym c.in_ok-new.ensures) (c.in_ok-known.ensures s k covers))) k.rest.next
