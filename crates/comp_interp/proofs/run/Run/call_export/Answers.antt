use Rattle.std.proofs.Common.{◌∙◌, ap, sym, subst, refl}
use Rattle.std.specs.Option.{option_map}
use Rattle.wit_types.specs.PlainValue.{plain_values}
use Rattle.call_moments.specs.Outside.{RunsCall}
use Rattle.comp_link.specs.Groups.{making_of}
use Rattle.instance_state.specs.Targets.{target_of}
use Rattle.comp_calls.specs.Moments.{at}
use Rattle.comp_interp.proofs.Coming.{if_ok}
use Rattle.comp_interp.proofs.Serving.{call_left, nothing_left}
use Rattle.comp_interp.proofs.run.Run.call_export.Goals as goal

pub returns-in_default : goal.returns-in_default
returns-in_default g c = λ serves may.
    nothing_left g.H.Host.step g.H.Host.kept c.args.self.now c.args.self.now refl c.args.name.now (plain_values c.args.args.now)
    (sym (c.in_ok-found.ensures serves.before (making_of c.args.self.now.linked).exports serves.made serves.holds) ∙ ap (option_map target_of) c.in_default.is) refl _ refl

pub returns : goal.returns
returns g c = if_ok c.end_of.result (λ end e serves may.
    let old = c.args.self.now in
    let new = record old { assembly = record old.assembly { world = c.call_from_outside.new.self } } in
    let target = target_of c.in-Some.target in
    let is = sym (c.in_ok-found.ensures serves.before (making_of old.linked).exports serves.made serves.holds) ∙ ap (option_map target_of) c.in-Some.is in
    call_left g.H.Host.step g.H.Host.kept old new refl serves (plain_values c.args.args.now) refl refl c.args.name.now target is (may target is) c.call_from_outside.result
    (subst (λ vs. RunsCall g.H.Host.step (at g.H.Host.kept old.assembly.world) target vs c.call_from_outside.result (at g.H.Host.kept c.call_from_outside.new.self)) c.in_ok-args.ensures c.call_from_outside.ensures.comes) end e)
    c.end_of.ensures
