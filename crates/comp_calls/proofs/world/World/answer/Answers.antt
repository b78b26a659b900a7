use Rattle.std.proofs.Common.{◌∙◌, Some, Err, sym, ap}
use Rattle.std.specs.Prelude.{option_map}
use Rattle.instance_state.specs.Targets.{func_of}
use Rattle.instance_state.specs.declared.canon.Canon.TheVariants as canons
use Rattle.call_moments.specs.declared.end.Stop.TheVariants as stops
use Rattle.call_moments.specs.Shown.{depth_of}
use Rattle.comp_calls.specs.Moments.{at}
use Rattle.call_moments.proofs.Ending.{answer_stops, answer_none, answer_leads}
use Rattle.comp_calls.proofs.world.World.answer.Goals as goal

pub returns-in_err-depth-clause-leads : goal.returns-in_err-depth-clause-leads
returns-in_err-depth-clause-leads g c =
    answer_stops g.H.Host.step (at g.H.Host.kept c.args.self.now) (at g.H.Host.kept c.begin_call.new.self) c.args.number c.args.asked c.args.calls c.args.args c.from_residual.result c.in_err-depth.field-0.0 c.in_err-depth.ensures.begins
    (ap g.H.Host.kept c.in_err-depth.ensures.host) c.from_residual.ensures.1

pub returns-in-None-clause-leads : goal.returns-in-None-clause-leads
returns-in-None-clause-leads g c =
    let mid = at g.H.Host.kept c.begin_call.new.self in
    answer_none g.H.Host.step (at g.H.Host.kept c.args.self.now) mid c.args.number c.args.asked c.args.calls c.args.args (Err stops.Trapped) mid c.in_ok-depth.depth c.in_ok-depth.ensures.begins (ap (at g.H.Host.kept) c.in_ok-depth.ensures.same)
    (sym (ap (option_map func_of) c.in-None.is) ∙ c.in_ok-canon.ensures)

pub returns-in-Some-New-clause-leads : goal.returns-in-Some-New-clause-leads
returns-in-Some-New-clause-leads g c =
    let depth = c.in_ok-depth.depth in
    let is = c.in-Some-New.is ∙ ap (λ x. Some x) c.in-Some-New.field-0-is in
    answer_leads g.H.Host.step (at g.H.Host.kept c.args.self.now) (at g.H.Host.kept c.new_resource.new.self) c.args.number c.args.asked c.args.calls c.args.args c.new_resource.result (at g.H.Host.kept c.begin_call.new.self) depth
    c.in_ok-depth.ensures.begins (ap (at g.H.Host.kept) c.in_ok-depth.ensures.same) (canons.New c.in-Some-New.resource) (sym (ap (option_map func_of) is) ∙ c.in_ok-canon.ensures) (c.new_resource.ensures.leads (depth_of depth))

pub returns-in-Some-Rep-clause-leads : goal.returns-in-Some-Rep-clause-leads
returns-in-Some-Rep-clause-leads g c =
    let depth = c.in_ok-depth.depth in
    let is = c.in-Some-Rep.is ∙ ap (λ x. Some x) c.in-Some-Rep.field-0-is in
    answer_leads g.H.Host.step (at g.H.Host.kept c.args.self.now) (at g.H.Host.kept c.resource_rep.new.self) c.args.number c.args.asked c.args.calls c.args.args c.resource_rep.result (at g.H.Host.kept c.begin_call.new.self) depth
    c.in_ok-depth.ensures.begins (ap (at g.H.Host.kept) c.in_ok-depth.ensures.same) (canons.Rep c.in-Some-Rep.resource) (sym (ap (option_map func_of) is) ∙ c.in_ok-canon.ensures) (c.resource_rep.ensures.leads (depth_of depth))

pub returns-in-Some-Drop-clause-leads : goal.returns-in-Some-Drop-clause-leads
returns-in-Some-Drop-clause-leads g c =
    let depth = c.in_ok-depth.depth in
    let is = c.in-Some-Drop.is ∙ ap (λ x. Some x) c.in-Some-Drop.field-0-is in
    answer_leads g.H.Host.step (at g.H.Host.kept c.args.self.now) (at g.H.Host.kept c.drop_resource.new.self) c.args.number c.args.asked c.args.calls c.args.args c.drop_resource.result (at g.H.Host.kept c.begin_call.new.self) depth
    c.in_ok-depth.ensures.begins (ap (at g.H.Host.kept) c.in_ok-depth.ensures.same) (canons.Drop c.in-Some-Drop.resource) (sym (ap (option_map func_of) is) ∙ c.in_ok-canon.ensures) c.drop_resource.ensures.leads

pub returns-clause-leads : goal.returns-clause-leads
returns-clause-leads g c =
    let depth = c.in_ok-depth.depth in
    let is = c.in-Some-Lowered.is ∙ ap (λ x. Some x) c.in-Some-Lowered.field-0-is in
    answer_leads g.H.Host.step (at g.H.Host.kept c.args.self.now) (at g.H.Host.kept c.call.new.self) c.args.number c.args.asked c.args.calls c.args.args c.call.result (at g.H.Host.kept c.begin_call.new.self) depth c.in_ok-depth.ensures.begins
    (ap (at g.H.Host.kept) c.in_ok-depth.ensures.same) (canons.Lowered c.in-Some-Lowered.target c.in-Some-Lowered.options) (sym (ap (option_map func_of) is) ∙ c.in_ok-canon.ensures) c.call.ensures.leads
