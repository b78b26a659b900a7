use Rattle.std.proofs.Common.{◌≡◌, ◌∙◌, ◌+◌, ap, sym, subst, length, arith, Some}
use Rattle.std.proofs.lemmas.List.{nil_from_length}
use Rattle.wit_types.specs.declared.types.Field.{out-Field}
use Rattle.wit_types.specs.Plain.{Parts, plain, fields_of}
use Rattle.type_table.specs.Retyped.{values_of, part_value}
use Rattle.type_table.proofs.RebuiltLemmas.{AreRetyped, retyped-some, retyped-part, retyped-all}
use Rattle.type_table.proofs.rebuilt.fields_as.Goals as goal

pub unreachable-requires : goal.unreachable-requires
unreachable-requires c =
    let whole = fields_of c.args.fields.now in
    let tys = values_of c.args.parts.now in
    let made = fields_of c.loop-field.items.items in
    let i = c.loop-field.index in
    let r = subst (λ (ps : Parts). AreRetyped whole tys made ps i) (ap fields_of c.in-Some.ensures.cases.0) c.loop-field.invariant.retyped in
    retyped-some whole tys made (out-Field c.in-Some.field.now).name (plain (out-Field c.in-Some.field.now).ty) (fields_of c.in-Some.more.now) i r c.in_default-part_at.ensures

pub loop-field-preserved : goal.loop-field-preserved
loop-field-preserved c =
    let whole = fields_of c.args.fields.now in
    let tys = values_of c.args.parts.now in
    let made = fields_of c.loop-field.items.items in
    let more = fields_of c.in-Some.more.now in
    let i = c.loop-field.index in
    let r = subst (λ (ps : Parts). AreRetyped whole tys made ps i) (ap fields_of c.in-Some.ensures.cases.0) c.loop-field.invariant.retyped in
    let some : Some c.deref.result.now ≡ part_value tys i = ap Some c.deref.ensures ∙ c.in-Some-part_at.ensures in
    let next = retyped-part whole tys made (out-Field c.in-Some.field.now).name (plain (out-Field c.in-Some.field.now).ty) c.deref.result.now more i some r in
    record {
      count = omega (arith, ap length c.in-Some.ensures.cases.0, c.loop-field.invariant.count);
      retyped = subst (λ (ps : Parts). AreRetyped whole tys ps more (i + 1)) (sym c.in_ok-add_field.ensures.fields) next;
      kept = c.in_ok-add_field.ensures.kept c.loop-field.invariant.kept;
    }

pub returns-clause-fields : goal.returns-clause-fields
returns-clause-fields c =
    let whole = fields_of c.args.fields.now in
    let tys = values_of c.args.parts.now in
    let made = fields_of c.loop-field.items.items in
    let i = c.loop-field.index in
    let none = nil_from_length c.loop-field.rest.now c.in_default.ensures.cases in
    retyped-all whole tys made i (subst (λ (ps : Parts). AreRetyped whole tys made ps i) (ap fields_of none) c.loop-field.invariant.retyped)
