use Rattle.std.proofs.Common.{Ok, Err, ap, subst}
use Rattle.wit_types.specs.PlainValue.{plain_value, plain_values}
use Rattle.wit_types.specs.declared.value.Value.TheVariants.{Record}
use Rattle.wit_types.proofs.ValueLemmas.{plain_value-Record}
use Rattle.instance_state.specs.declared.target.Target.TheVariants.{Mine, Theirs}
use Rattle.comp_calls.specs.Moments.{at}
use Rattle.comp_calls.proofs.Hosts.{runs_call_at}
use Rattle.call_moments.specs.Canonical.{AsksHost}
use Rattle.call_moments.proofs.Outer.{own_stops, own_done, own_wrong, own_ends, host_stops, host_ends, host_answers}
use Rattle.comp_calls.proofs.world.World.call_from_outside.Goals as goal

pub returns-in_err-begin_call-in-Theirs : goal.returns-in_err-begin_call-in-Theirs
returns-in_err-begin_call-in-Theirs g c =
    let h = g.H.Host.step in
    let old = at g.H.Host.kept c.args.self.now in
    let args = plain_values c.args.args in
    let value = plain_value (Record c.args.args) in
    let new = at g.H.Host.kept c.begin_call.new.self in
    let comes = host_stops h old args c.in-Theirs.import.value new c.in_err-begin_call-in-Theirs.field-0.0 c.from_residual.result c.in_err-begin_call-in-Theirs.ensures.begins (ap g.H.Host.kept c.in_err-begin_call-in-Theirs.ensures.host) c.from_residual.ensures.1 in
    record { comes = runs_call_at h old new c.args.target (Theirs c.in-Theirs.import) args (c.from_residual.result) c.in-Theirs.is comes }

pub returns-in_err-ask_host-in-Theirs : goal.returns-in_err-ask_host-in-Theirs
returns-in_err-ask_host-in-Theirs g c =
    let h = g.H.Host.step in
    let old = at g.H.Host.kept c.args.self.now in
    let args = plain_values c.args.args in
    let value = plain_value (Record c.args.args) in
    let mid = at g.H.Host.kept c.begin_call.new.self in
    let new = at g.H.Host.kept c.ask_host.new.self in
    let comes = host_ends h old args c.in-Theirs.import.value mid c.in_ok-begin_call-in-Theirs.field-0 c.in_ok-begin_call-in-Theirs.ensures.begins (ap (at g.H.Host.kept) c.in_ok-begin_call-in-Theirs.ensures.same) value (plain_value-Record c.args.args) new c.in_err-ask_host-in-Theirs.field-0.0 c.from_residual-in_err-ask_host-in-Theirs.result (subst (λ i. AsksHost h mid i value (Err c.in_err-ask_host-in-Theirs.field-0.0) new) c.deref.ensures c.in_err-ask_host-in-Theirs.ensures.asks) c.from_residual-in_err-ask_host-in-Theirs.ensures.1 in
    record { comes = runs_call_at h old new c.args.target (Theirs c.in-Theirs.import) args (c.from_residual-in_err-ask_host-in-Theirs.result) c.in-Theirs.is comes }

pub returns-in_ok-ask_host-in-Theirs : goal.returns-in_ok-ask_host-in-Theirs
returns-in_ok-ask_host-in-Theirs g c =
    let h = g.H.Host.step in
    let old = at g.H.Host.kept c.args.self.now in
    let args = plain_values c.args.args in
    let value = plain_value (Record c.args.args) in
    let mid = at g.H.Host.kept c.begin_call.new.self in
    let new = at g.H.Host.kept c.ask_host.new.self in
    let comes = host_answers h old args c.in-Theirs.import.value mid c.in_ok-begin_call-in-Theirs.field-0 c.in_ok-begin_call-in-Theirs.ensures.begins (ap (at g.H.Host.kept) c.in_ok-begin_call-in-Theirs.ensures.same) value (plain_value-Record c.args.args) new c.in_ok-ask_host-in-Theirs.field-0 c.out_of_tuple.result (subst (λ i. AsksHost h mid i value (Ok c.in_ok-ask_host-in-Theirs.field-0) new) c.deref.ensures c.in_ok-ask_host-in-Theirs.ensures.asks) c.out_of_tuple.ensures in
    record { comes = runs_call_at h old new c.args.target (Theirs c.in-Theirs.import) args (Ok c.out_of_tuple.result) c.in-Theirs.is comes }

pub returns-in_err-value-in-Mine : goal.returns-in_err-value-in-Mine
returns-in_err-value-in-Mine g c =
    let h = g.H.Host.step in
    let old = at g.H.Host.kept c.args.self.now in
    let args = plain_values c.args.args in
    let value = plain_value (Record c.args.args) in
    let new = at g.H.Host.kept c.call_lifted.new.self in
    let comes = own_stops h old args c.in-Mine.instance c.in-Mine.lifting c.none-depth.result c.none-depth.ensures value (plain_value-Record c.args.args) new c.in_err-value-in-Mine.field-0.0 c.from_residual-in_err-value-in-Mine.result c.in_err-value-in-Mine.ensures.leads c.from_residual-in_err-value-in-Mine.ensures.1 in
    record { comes = runs_call_at h old new c.args.target (Mine c.in-Mine.instance c.in-Mine.lifting) args (c.from_residual-in_err-value-in-Mine.result) c.in-Mine.is comes }

pub returns-in-Done : goal.returns-in-Done
returns-in-Done g c =
    let h = g.H.Host.step in
    let old = at g.H.Host.kept c.args.self.now in
    let args = plain_values c.args.args in
    let value = plain_value (Record c.args.args) in
    let new = at g.H.Host.kept c.call_lifted.new.self in
    let comes = own_done h old args c.in-Mine.instance c.in-Mine.lifting c.none-depth.result c.none-depth.ensures value (plain_value-Record c.args.args) new c.in_ok-value-in-Mine.field-0 c.in-Done.value c.answer_in.result c.in_ok-value-in-Mine.ensures.leads c.in-Done.is c.answer_in.ensures in
    record { comes = runs_call_at h old new c.args.target (Mine c.in-Mine.instance c.in-Mine.lifting) args (Ok c.answer_in.result) c.in-Mine.is comes }

pub returns-in_err-go_on-in-Goes : goal.returns-in_err-go_on-in-Goes
returns-in_err-go_on-in-Goes g c =
    let h = g.H.Host.step in
    let old = at g.H.Host.kept c.args.self.now in
    let args = plain_values c.args.args in
    let value = plain_value (Record c.args.args) in
    let mid = at g.H.Host.kept c.call_lifted.new.self in
    let new = at g.H.Host.kept c.go_on.new.self in
    let comes = own_wrong h old args c.in-Mine.instance c.in-Mine.lifting c.none-depth.result c.none-depth.ensures value (plain_value-Record c.args.args) mid c.in_ok-value-in-Mine.field-0 c.in_ok-value-in-Mine.ensures.leads c.in-Goes.is new c.in_err-go_on-in-Goes.field-0.0 c.from_residual-in_err-go_on-in-Goes.result c.in_err-go_on-in-Goes.ensures.ends c.from_residual-in_err-go_on-in-Goes.ensures.1 in
    record { comes = runs_call_at h old new c.args.target (Mine c.in-Mine.instance c.in-Mine.lifting) args (c.from_residual-in_err-go_on-in-Goes.result) c.in-Mine.is comes }

pub returns-in_ok-go_on-in-Goes : goal.returns-in_ok-go_on-in-Goes
returns-in_ok-go_on-in-Goes g c =
    let h = g.H.Host.step in
    let old = at g.H.Host.kept c.args.self.now in
    let args = plain_values c.args.args in
    let value = plain_value (Record c.args.args) in
    let mid = at g.H.Host.kept c.call_lifted.new.self in
    let new = at g.H.Host.kept c.go_on.new.self in
    let comes = own_ends h old args c.in-Mine.instance c.in-Mine.lifting c.none-depth.result c.none-depth.ensures value (plain_value-Record c.args.args) mid c.in_ok-value-in-Mine.field-0 c.in_ok-value-in-Mine.ensures.leads c.in-Goes.is new c.in_ok-go_on-in-Goes.field-0 c.answer_in-in-Goes.result c.in_ok-go_on-in-Goes.ensures.ends c.answer_in-in-Goes.ensures in
    record { comes = runs_call_at h old new c.args.target (Mine c.in-Mine.instance c.in-Mine.lifting) args (Ok c.answer_in-in-Goes.result) c.in-Mine.is comes }
