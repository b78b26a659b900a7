use Rattle.std.proofs.Common.{◌≡◌, sym, subst, Option}
use Rattle.std.specs.Prelude.{IfOk}
use Rattle.wit_types.specs.Plain.{Plain, payload_of}
use Rattle.abi_store.proofs.PartLemmas.{case_type-past, case_type-cases_of}
use Rattle.abi_store.proofs.cases.case_payload.Goals as goal

pub returns-in-None : goal.returns-in-None
returns-in-None c = case_type-past c.args.cases.now c.args.number c.in-None.ensures.lookup.3

pub returns-in-Some : goal.returns-in-Some
returns-in-Some c =
    subst (λ (o : Option Plain). IfOk c.copy_payload.result (λ ty. payload_of ty ≡ o)) (sym (case_type-cases_of c.args.cases.now c.args.number c.in-Some.case.now c.in-Some.ensures.lookup.3.0 c.in-Some.ensures.lookup.1)) c.copy_payload.ensures
