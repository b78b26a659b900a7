use Rattle.std.proofs.Common.{subst, true}
use Rattle.std.specs.Prelude.{Option, Some}
use Rattle.std.specs.Bool.{Decides}
use Rattle.comp_types.specs.Items.{InstanceItem, Kind}
use Rattle.comp_types.specs.Rules.{IsInstanceOf}
use Rattle.comp_types.specs.Types.{instance_in}
use Rattle.comp_instances.proofs.TableLemmas.{kind_given}
use Rattle.comp_instances.proofs.StatedLemmas.{decides_nothing}
use Rattle.comp_instances.proofs.stated.is_instance_at.Goals as goal

pub returns-in-None : goal.returns-in-None
returns-in-None c = λ s h t a.
    subst (λ (o : Option Kind). Decides true (IsInstanceOf (Some (InstanceItem c.args.given.now.entries)) (instance_in o))) (c.in-None.ensures s h) (decides_nothing c.args.given.now.entries)

pub returns-in_ok-fits-in-Some : goal.returns-in_ok-fits-in-Some
returns-in_ok-fits-in-Some c = λ s h t a.
    subst (λ (o : Option Kind). Decides c.in_ok-fits-in-Some.fits (IsInstanceOf (Some (InstanceItem c.args.given.now.entries)) (instance_in o))) (c.in-Some.ensures s h)
    (c.in_ok-fits-in-Some.ensures a (kind_given c.args.types.now s c.args.index _ t (c.in-Some.ensures s h)))
