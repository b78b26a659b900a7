use Rattle.std.proofs.Common.{sym, subst, Some, ◌++◌}
use Rattle.std.specs.Option.{option_map}
use Rattle.comp_types.specs.Views.{item_of}
use Rattle.comp_link.specs.Linking.{bound_if}
use Rattle.instance_making.specs.Shown.{SamePartners}
use Rattle.instance_making.proofs.bound.bind_stated.Goals as goal

pub returns-in_ok-bind-in-Some : goal.returns-in_ok-bind-in-Some
returns-in_ok-bind-in-Some c = λ before g k e.
    subst (λ s. SamePartners c.bind.new.resources (c.args.resources.now ++ bound_if (Some g) (option_map item_of s))) (sym c.in-Some.is) (c.in_ok-bind-in-Some.ensures before (Some g) k e)
