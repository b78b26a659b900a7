use Rattle.std.proofs.Common.{ap}
use Rattle.wit_types.specs.PlainValue.{plain_value}
use Rattle.host_port.specs.Calls.{plain_call, plain_answer, plain_option}
use Rattle.comp_calls.specs.Moments.{at}
use Rattle.comp_calls.proofs.Hosts.{value_asked, trap_asked, end_asked, bad_asked}
use Rattle.comp_calls.proofs.world.World.ask_host.Goals as goal

pub returns-in_ok-in_tuple-in-Value-clause-asks : goal.returns-in_ok-in_tuple-in-Value-clause-asks
returns-in_ok-in_tuple-in-Value-clause-asks g c =
    value_asked g.H.Host.step (at g.H.Host.kept c.args.self.now) c.args.import.now (plain_value c.args.args) (plain_call c.in_ok-call.call) c.in_ok-call.ensures (plain_answer c.in_ok-value.field-0) c.in_ok-value.ensures.answer (g.H.Host.kept c.call.new.self)
    c.in_ok-value.ensures.next (plain_option c.in-Value.value) (ap plain_answer c.in-Value.is) c.in_ok-value.ensures.typed c.in_ok-in_tuple-in-Value.field-0 c.in_ok-in_tuple-in-Value.ensures

pub returns-in-Trap-clause-asks : goal.returns-in-Trap-clause-asks
returns-in-Trap-clause-asks g c =
    trap_asked g.H.Host.step (at g.H.Host.kept c.args.self.now) c.args.import.now (plain_value c.args.args) (plain_call c.in_ok-call.call) c.in_ok-call.ensures (plain_answer c.in_ok-value.field-0) c.in_ok-value.ensures.answer (g.H.Host.kept c.call.new.self)
    c.in_ok-value.ensures.next (ap plain_answer c.in-Trap.is)

pub returns-in-Ended-clause-asks : goal.returns-in-Ended-clause-asks
returns-in-Ended-clause-asks g c =
    end_asked g.H.Host.step (at g.H.Host.kept c.args.self.now) c.args.import.now (plain_value c.args.args) (plain_call c.in_ok-call.call) c.in_ok-call.ensures (plain_answer c.in_ok-value.field-0) c.in_ok-value.ensures.answer (g.H.Host.kept c.call.new.self)
    c.in_ok-value.ensures.next (ap plain_answer c.in-Ended.is)

pub returns-in-Bad-clause-asks : goal.returns-in-Bad-clause-asks
returns-in-Bad-clause-asks g c =
    bad_asked g.H.Host.step (at g.H.Host.kept c.args.self.now) c.args.import.now (plain_value c.args.args) (plain_call c.in_ok-call.call) c.in_ok-call.ensures (plain_answer c.in_ok-value.field-0) c.in_ok-value.ensures.answer (g.H.Host.kept c.call.new.self)
    c.in_ok-value.ensures.next (ap plain_answer c.in-Bad.is)
