use Rattle.abi_layout.proofs.FlatLemmas.{push-some, push-none}
use Rattle.abi_layout.proofs.flat_types.Flat.push.Goals as goal

pub returns-then-self-lt16 : goal.returns-then-self-lt16
returns-then-self-lt16 c = push-some _ _ _ c.args.self.now.whole c.if-self-lt16.true

pub returns-else-self-lt16 : goal.returns-else-self-lt16
returns-else-self-lt16 c = push-none _ _ _ c.args.self.now.whole c.if-self-lt16.false
