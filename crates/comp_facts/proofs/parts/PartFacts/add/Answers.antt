use Rattle.std.proofs.Common.{◌∙◌, ap, sym, arith}
use Rattle.std.specs.Prelude.{◌||◌}
use Rattle.abi_layout.specs.Flat.{types_of}
use Rattle.comp_facts.specs.Handles.{has_borrow_in, has_handle_in}
use Rattle.comp_facts.specs.Needs.{is_pointed_in}
use Rattle.comp_facts.specs.Keys.{and_number, and_name, key_of_parts}
use Rattle.comp_facts.proofs.PartLemmas.{depth-and, parts-and, borrows-and, handles-and, pointed-and, fields-flat, cases-flat}
use Rattle.comp_facts.proofs.KeyLemmas.{key-and}
use Rattle.comp_facts.proofs.parts.PartFacts.add.Goals as goal

pub returns : goal.returns
returns c = λ ps t h k. let n = c.args.name.now in record {
  depth = omega (arith, depth-and ps n t, h.depth, k.depth, c.max.ensures);
  parts = omega (arith, parts-and ps n t, h.parts, k.parts, c.min.ensures);
  borrows = c.either.ensures ∙ (ap (λ b. b || c.args.ty.now.borrows) h.borrows ∙ (ap (λ b. has_borrow_in ps || b) k.borrows ∙ sym (borrows-and ps n t)));
  handles = c.either-2.ensures ∙ (ap (λ b. b || c.args.ty.now.handles) h.handles ∙ (ap (λ b. has_handle_in ps || b) k.handles ∙ sym (handles-and ps n t)));
  pointed = c.either-3.ensures ∙ (ap (λ b. b || c.args.ty.now.pointed) h.pointed ∙ (ap (λ b. is_pointed_in ps || b) k.pointed ∙ sym (pointed-and ps n t)));
  fields = fields-flat ps n t (types_of c.args.self.now.fields) (types_of c.args.ty.now.flat) (types_of c.append.new.self) c.append.ensures h.fields k.flat;
  cases = cases-flat ps n t (types_of c.args.self.now.cases) (types_of c.args.ty.now.flat) (types_of c.joined.result) c.joined.ensures h.cases k.flat;
  key = c.and_number.ensures ∙ (ap (λ x. and_number x c.args.ty.now.key) (c.and_name.ensures ∙ ap (λ x. and_name x n) h.key) ∙ (ap (and_number (and_name (key_of_parts ps) n)) k.key ∙ sym (key-and 0 ps n t)));
}
