use Rattle.std.proofs.Common.{ap, sym, subst, append-nil, ◌∙◌}
use Rattle.std.specs.Option.{option_map}
use Rattle.comp_link.specs.Plans.{Lowers}
use Rattle.comp_link.specs.Linking.{Making, with_canon, link_item}
use Rattle.instance_state.specs.Targets.{func_of}
use Rattle.instance_making.specs.Made.{AreMade}
use Rattle.instance_making.specs.Shown.{Stands}
use Rattle.comp_calls.specs.Moments.{at}
use Rattle.comp_interp.proofs.Gathering.{unchanged_made}
use Rattle.comp_interp.proofs.Failing.{makes_as}
use Rattle.comp_interp.proofs.Lowering.{none_lowered, some_lowered, same_unchanged, same_type}
use Rattle.comp_interp.proofs.assembly.Assembly.lower.Goals as goal

pub returns-in-None : goal.returns-in-None
returns-in-None g c = λ before gm stages ga idle e.
    let same = none_lowered gm c.args.func c.args.options.now c.args.ty.now (ap (option_map func_of) (sym c.in-None.is) ∙ c.in_ok-lowered.ensures before gm ga.stands) in
    let made = c.args.self.now.made.items in
    unchanged_made g.H.Host.step before _ made made (at g.H.Host.kept c.args.self.now.world) c.args.making.now c.args.making.now gm (link_item (Lowers c.args.func c.args.options.now c.args.ty.now) gm) stages ga idle (same_unchanged gm _ same)
    (subst (AreMade made) (sym (append-nil before)) ga.made)
    (subst (λ all. Stands all c.args.making.now (link_item (Lowers c.args.func c.args.options.now c.args.ty.now) gm)) (sym (append-nil before)) (subst (Stands before c.args.making.now) (sym same) ga.stands)) e

pub returns-in_ok-ty-in-Some : goal.returns-in_ok-ty-in-Some
returns-in_ok-ty-in-Some g c =
    makes_as g.H.Host.step (λ (m : Making). with_canon m c.in_ok-ty-in-Some.ty (func_of c.in-Some.canon)) (λ (m : Making). link_item (Lowers c.args.func c.args.options.now c.args.ty.now) m) _ _ _ _ _ _ _
    (λ before m stands.
    some_lowered m c.args.func c.args.options.now c.args.ty.now (func_of c.in-Some.canon) (ap (option_map func_of) (sym c.in-Some.is) ∙ c.in_ok-lowered.ensures before m stands)
    ∙ ap (λ ty. with_canon m ty (func_of c.in-Some.canon)) (sym (c.in_ok-ty-in-Some.ensures ∙ same_type c.as_slice.result.now c.as_slice-in-Some.result.now c.args.ty.now c.as_slice.ensures c.as_slice-in-Some.ensures))) c.provide.ensures
