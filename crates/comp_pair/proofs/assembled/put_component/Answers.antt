use Rattle.std.proofs.Common.{refl}
use Rattle.comp_grammar.specs.Trees.{plain}
use Rattle.comp_grammar.specs.Components.{no_span}
use Rattle.virt_output.specs.declared.piece.Piece.TheVariants as pieces
use Rattle.comp_pair.proofs.AssembleLaws.{holds_more}
use Rattle.comp_pair.proofs.assembled.put_component.Goals as goal

pub returns-in_ok-push-in-Ok : goal.returns-in_ok-push-in-Ok
returns-in_ok-push-in-Ok c = record {
  held = holds_more (pieces.Component c.args.bytes) c.nested.result (plain c.args.component) c.args.sections.now.items c.push.new.sections.items c.args.out.now.items c.put.new.out.items
      c.in-Ok.ensures c.nested.ensures (no_span, plain c.args.component, refl, c.requires) c.in_ok-push-in-Ok.ensures;
  placed = c.in-Ok.ensures.added;
}
