use Rattle.std.proofs.Common.{◌≡◌, ◌∙◌, sym, subst, refl, ℕ, true, false}
use Rattle.std.specs.Prelude.{IsTrue}
use Rattle.std.proofs.lemmas.Bool.{false≢true}
use Rattle.comp_types.specs.Added.{and_depth, instance_type}
use Rattle.comp_types.specs.Spaces.{and_type}
use Rattle.comp_scopes.specs.Stands.{Stands}
use Rattle.comp_validate.proofs.instance_types.close_inner.Goals as goal

pub returns-in_ok-add_entry : goal.returns-in_ok-add_entry
returns-in_ok-add_entry c = λ t s h k.
    let e = c.in_ok-entry.ensures s k in (
      sym (c.is_small.ensures (instance_type s) e) ∙ c.if-is_small.true,
      subst (λ (n : ℕ). Stands (and_depth (record (and_type t (instance_type s)) { next = n }) (instance_type s).depth) c.add_entry.new.scope) k.rest.next (c.in_ok-add_entry.ensures t (instance_type s) h e),
    )

pub returns-else-is_small : goal.returns-else-is_small
returns-else-is_small c = λ t s h k. (refl, λ within. false≢true (sym c.if-is_small.false ∙ (c.is_small.ensures (instance_type s) (c.in_ok-entry.ensures s k) ∙ within)))
