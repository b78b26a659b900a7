use Rattle.virt_output.specs.Bytes.{section_bytes}
use Rattle.comp_grammar.specs.Trees.{plain}
use Rattle.comp_pair.proofs.AssembleLaws.{front_spelled, front_inside, placed_in}
use Rattle.comp_pair.proofs.assembled.front_of.Goals as goal

pub returns : goal.returns
returns c = record {
  front = record {
    spelled = front_spelled c.new-sections.result.items c.put_all.new.sections.items c.put_component.new.sections.items c.put_all-2.new.sections.items c.in_ok-out.out.items c.put_all.new.out.items c.put_component.new.out.items c.put_all-2.new.out.items
        (plain c.args.first) c.new-sections.ensures.items c.in_ok-out.ensures.spelled c.in_ok-put_all.ensures c.in_ok-put_component.ensures.held c.in_ok-put_all-2.ensures;
    components = front_inside c.new-sections.result.items c.put_all.new.sections.items c.put_component.new.sections.items c.put_all-2.new.sections.items c.in_ok-out.out.items c.put_all.new.out.items c.put_component.new.out.items c.put_all-2.new.out.items
        (plain c.args.first) c.new-sections.ensures.items c.in_ok-put_all.ensures c.in_ok-put_component.ensures.held c.in_ok-put_all-2.ensures;
  };
  placed = placed_in c.put_all.new.out.items c.put_component.new.out.items c.put_all-2.new.out.items (section_bytes 4 c.args.bytes.now) c.in_ok-put_all-2.ensures.bytes c.in_ok-put_component.ensures.placed c.in_ok-put_all-2.ensures.longer;
}
