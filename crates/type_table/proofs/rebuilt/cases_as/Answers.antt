use Rattle.std.proofs.Common.{◌∙◌, ◌+◌, ap, sym, subst, length, arith}
use Rattle.std.proofs.lemmas.List.{nil_from_length}
use Rattle.wit_types.specs.declared.types.Case.{out-Case}
use Rattle.wit_types.specs.Plain.{Parts, payload_of, cases_of}
use Rattle.type_table.specs.Retyped.{values_of, and_slot}
use Rattle.type_table.proofs.RebuiltLemmas.{AreRetyped, retyped-next, retyped-all}
use Rattle.type_table.proofs.rebuilt.cases_as.Goals as goal

pub loop-case-preserved : goal.loop-case-preserved
loop-case-preserved c =
    let whole = cases_of c.args.cases.now in
    let tys = values_of c.args.parts.now in
    let made = cases_of c.loop-case.items.items in
    let more = cases_of c.in-Some.more.now in
    let i = c.loop-case.index in
    let x = out-Case c.in-Some.case.now in
    let r = subst (λ (ps : Parts). AreRetyped whole tys made ps i) (ap cases_of c.in-Some.ensures.cases.0) c.loop-case.invariant.retyped in
    let next = retyped-next whole tys made x.name (payload_of x.ty) more i r in
    record {
      count = omega (arith, ap length c.in-Some.ensures.cases.0, c.loop-case.invariant.count);
      retyped = subst (λ (ps : Parts). AreRetyped whole tys ps more (i + 1)) (sym (c.in_ok-add_case.ensures.cases ∙ ap (and_slot made x.name) c.part_at.ensures)) next;
      kept = c.in_ok-add_case.ensures.kept c.loop-case.invariant.kept;
    }

pub returns-clause-cases : goal.returns-clause-cases
returns-clause-cases c =
    let whole = cases_of c.args.cases.now in
    let tys = values_of c.args.parts.now in
    let made = cases_of c.loop-case.items.items in
    let i = c.loop-case.index in
    let none = nil_from_length c.loop-case.rest.now c.in_default.ensures.cases in
    retyped-all whole tys made i (subst (λ (ps : Parts). AreRetyped whole tys made ps i) (ap cases_of none) c.loop-case.invariant.retyped)
