use Rattle.std.proofs.Common.{refl, subst, Option, true}
use Rattle.std.specs.Prelude.{option_map}
use Rattle.std.specs.Bool.{Decides}
use Rattle.comp_types.specs.Items.{Kind}
use Rattle.comp_types.specs.Views.{item_of}
use Rattle.comp_types.specs.Rules.{IsKind}
use Rattle.comp_instances.proofs.TableLemmas.{kind_given}
use Rattle.comp_instances.proofs.stated.is_stated_type.Goals as goal

pub returns-in-None : goal.returns-in-None
returns-in-None c = λ s h t has.
    subst (λ (o : Option Kind). Decides true (IsKind (option_map item_of c.args.given.now) o)) (c.in-None.ensures s h) (λ e. tt, λ p. refl)

pub returns-in_ok-same-in-Some : goal.returns-in_ok-same-in-Some
returns-in_ok-same-in-Some c = λ s h t has.
    subst (λ (o : Option Kind). Decides c.in_ok-same-in-Some.same (IsKind (option_map item_of c.args.given.now) o)) (c.in-Some.ensures s h)
    (c.in_ok-same-in-Some.ensures has (kind_given c.args.types.now s c.args.index _ t (c.in-Some.ensures s h)))
