use Rattle.comp_grammar.specs.Trees.{plain}
use Rattle.plug_compose.proofs.PlugLaws.{holds_both}
use Rattle.plug_compose.proofs.plugging.put_together.Goals as goal

pub returns : goal.returns
returns c = holds_both (plain c.args.first) (plain c.args.second) c.args.first_bytes.now c.args.second_bytes.now c.in_ok-size.size c.in_ok-front.front c.in_ok-assembled.assembled
    c.requires.second c.in_ok-size.ensures c.in_ok-front.ensures.front c.in_ok-front.ensures.placed c.in_ok-assembled.ensures.whole c.in_ok-assembled.ensures.head
