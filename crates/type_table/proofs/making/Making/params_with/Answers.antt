use Rattle.std.proofs.Common.{◌≡◌, ◌<◌, ◌∙◌, arith, ap, length, get_or}
use Rattle.wit_types.specs.declared.types.Field.{out-Field}
use Rattle.wit_types.specs.Plain.{plain, fields_of}
use Rattle.comp_facts.specs.Facts.{and_part}
use Rattle.comp_facts.specs.Keys.{key_of}
use Rattle.comp_types.specs.Substitution.{partner_in, value_with}
use Rattle.type_table.proofs.HasLaws.{grew_then, has-grew, parts-grew}
use Rattle.type_table.proofs.ParamLaws.{keys-count, key-of_field, has-field}
use Rattle.type_table.proofs.MakingLemmas.{param-made, param-has}
use Rattle.type_table.proofs.making.Making.params_with.Goals as goal

pub bounds-keys-index : goal.bounds-keys-index
bounds-keys-index c = omega (arith, c.loop-index-test.true, ap length c.requires, keys-count c.args.params.now)

pub loop-index-preserved : goal.loop-index-preserved
loop-index-preserved c =
    let old = c.args.self.now in
    let mid = c.loop-index.self in
    let new = c.keyed_with.new.self in
    let f = partner_in old.by in
    let xs = c.args.params.now in
    let i = c.loop-index.index in
    let x = c.index-params-index.result in
    let is : x ≡ get_or xs i x = c.index-params-index.is in
    let lt : i < length xs = c.loop-index-test.true in
    let key : get_or c.args.keys.now i 0 ≡ key_of (plain (out-Field x).ty) = ap (λ ks. get_or ks i 0) c.requires ∙ key-of_field xs i x 0 lt is in
    let items = fields_of c.loop-index.items.items in
    let value = c.in_ok-new.new.value in
    let more : fields_of c.add_field.new.fields.items ≡ and_part items (out-Field x).name value = c.in_ok-add_field.ensures.fields ∙ ap (and_part items (out-Field x).name) c.deref.ensures in
    record {
      by = c.keyed_with.ensures.by ∙ c.loop-index.invariant.by;
      grew = λ s. let g = c.loop-index.invariant.grew s in grew_then old.types mid.types new.types g (c.keyed_with.ensures.grew (g.sound s));
      kept = c.in_ok-add_field.ensures.kept c.loop-index.invariant.kept;
      made = λ s h.
          let has = has-grew old.types mid.types (plain (out-Field x).ty) (c.loop-index.invariant.grew s) (has-field old.types xs i x lt is h) in
          param-made xs i x lt is items (fields_of c.add_field.new.fields.items) value more f
          ((c.in_ok-new.ensures.made key has).0 ∙ ap (λ by. value_with (partner_in by) (plain (out-Field x).ty)) c.loop-index.invariant.by) (c.loop-index.invariant.made s h);
      has = λ s h.
          let g = c.loop-index.invariant.grew s in
          let has = has-grew old.types mid.types (plain (out-Field x).ty) g (has-field old.types xs i x lt is h) in
          param-has xs i x lt is items (fields_of c.add_field.new.fields.items) value more new.types
          (parts-grew mid.types new.types items (c.keyed_with.ensures.grew (g.sound s)) (c.loop-index.invariant.has s h)) (c.in_ok-new.ensures.made key has).1;
    }
