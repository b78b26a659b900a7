use Rattle.comp_grammar.specs.Trees.{plain, plain_sections}
use Rattle.comp_pair.proofs.AssembleLaws.{whole_spelled, whole_inside}
use Rattle.comp_pair.proofs.assembled.assemble.Goals as goal

pub returns : goal.returns
returns c = record {
  whole = λ adapter is_front. record {
    spelled = λ bytes size app. whole_spelled c.args.front.sections.items c.push.new.sections.items c.put_all.new.sections.items c.nested.result (plain c.args.second) c.put_component_head.new.out.items c.new-back.result.items c.put_all.new.out.items bytes
        c.in_ok-push.ensures c.nested.ensures c.new-back.ensures.items c.in_ok-put_all.ensures
        (c.in_ok-put_component_head.ensures.spelled (plain_sections c.args.front.sections.items) (plain c.args.second) bytes size app is_front.spelled);
    components = whole_inside c.args.front.sections.items c.push.new.sections.items c.put_all.new.sections.items c.nested.result adapter (plain c.args.second) c.new-back.result.items c.put_all.new.out.items
        is_front.components c.in_ok-push.ensures c.nested.ensures c.in_ok-put_all.ensures;
    before = c.args.front.bytes.items;
    front = c.in_ok-put_component_head.ensures.added;
  };
  head = c.in_ok-put_component_head.ensures.added;
}
