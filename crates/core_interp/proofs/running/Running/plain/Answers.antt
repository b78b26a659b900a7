use Rattle.std.proofs.Common.{true, false}
use Rattle.core_interp.proofs.AtHand.{names_held, did_held}
use Rattle.core_interp.proofs.Stepping.{plain_leads, plain_trapped, plain_needs}
use Rattle.core_interp.proofs.running.Running.plain.Goals as goal

pub operate-requires-clause-operands : goal.operate-requires-clause-operands
operate-requires-clause-operands c = (plain_needs c.requires.before.0 c.args.self.now c.args.store.now c.args.op c.requires.before.1 c.requires.before.2).0

pub operate-requires-clause-names : goal.operate-requires-clause-names
operate-requires-clause-names c = names_held c.args.spaces.now c.args.self.now c.args.store.now c.args.op c.requires.spaces (plain_needs c.requires.before.0 c.args.self.now c.args.store.now c.args.op c.requires.before.1 c.requires.before.2).1

pub returns-then-went-clause-leads : goal.returns-then-went-clause-leads
returns-then-went-clause-leads c =
    plain_leads c.requires.before.0 c.args.self.now c.args.store.now _ c.args.op _ c.requires.before.1 c.requires.before.2
    (did_held c.args.spaces.now c.args.self.now c.args.store.now c.operate.new.store c.operate.new.slots c.args.op _ true c.requires.spaces c.if-went.true c.in_ok-went.ensures.did)

pub returns-clause-leads : goal.returns-clause-leads
returns-clause-leads c rs n =
    plain_trapped c.requires.before.0 c.args.self.now c.args.store.now c.args.op rs n c.requires.before.1 c.requires.before.2
    ((did_held c.args.spaces.now c.args.self.now c.args.store.now c.operate.new.store c.operate.new.slots c.args.op _ false c.requires.spaces c.if-went.false c.in_ok-went.ensures.did).0 rs)

pub returns-clause-scene : goal.returns-clause-scene
returns-clause-scene c = (did_held c.args.spaces.now c.args.self.now c.args.store.now c.operate.new.store c.operate.new.slots c.args.op _ false c.requires.spaces c.if-went.false c.in_ok-went.ensures.did).1.scene
