use Rattle.std.proofs.Common.{◌≡◌, ◌∙◌, ◌+◌, ap, sym, subst, length, arith, Some, []}
use Rattle.std.proofs.lemmas.List.{nil_from_length}
use Rattle.wit_types.specs.Plain.{Parts, plain, types_of}
use Rattle.type_table.specs.Retyped.{values_of, part_value}
use Rattle.type_table.proofs.RebuiltLemmas.{AreRetyped, retyped-some, retyped-part, retyped-all}
use Rattle.type_table.proofs.rebuilt.types_as.Goals as goal

pub unreachable-requires : goal.unreachable-requires
unreachable-requires c =
    let whole = types_of c.args.types.now in
    let tys = values_of c.args.parts.now in
    let made = types_of c.loop-first.items.items in
    let i = c.loop-first.index in
    let r = subst (λ (ps : Parts). AreRetyped whole tys made ps i) (ap types_of c.in-Some.ensures.cases.0) c.loop-first.invariant.retyped in
    retyped-some whole tys made [] (plain c.in-Some._first.now) (types_of c.in-Some.more.now) i r c.in_default-part_at.ensures

pub loop-first-preserved : goal.loop-first-preserved
loop-first-preserved c =
    let whole = types_of c.args.types.now in
    let tys = values_of c.args.parts.now in
    let made = types_of c.loop-first.items.items in
    let more = types_of c.in-Some.more.now in
    let i = c.loop-first.index in
    let r = subst (λ (ps : Parts). AreRetyped whole tys made ps i) (ap types_of c.in-Some.ensures.cases.0) c.loop-first.invariant.retyped in
    let some : Some c.deref.result.now ≡ part_value tys i = ap Some c.deref.ensures ∙ c.in-Some-part_at.ensures in
    let next = retyped-part whole tys made [] (plain c.in-Some._first.now) c.deref.result.now more i some r in
    record {
      count = omega (arith, ap length c.in-Some.ensures.cases.0, c.loop-first.invariant.count);
      retyped = subst (λ (ps : Parts). AreRetyped whole tys ps more (i + 1)) (sym c.in_ok-add_type.ensures.types) next;
      kept = c.in_ok-add_type.ensures.kept c.loop-first.invariant.kept;
    }

pub returns-clause-types : goal.returns-clause-types
returns-clause-types c =
    let whole = types_of c.args.types.now in
    let tys = values_of c.args.parts.now in
    let made = types_of c.loop-first.items.items in
    let i = c.loop-first.index in
    let none = nil_from_length c.loop-first.rest.now c.in_default.ensures.cases in
    retyped-all whole tys made i (subst (λ (ps : Parts). AreRetyped whole tys made ps i) (ap types_of none) c.loop-first.invariant.retyped)
