use Rattle.std.proofs.Common.{subst, arith}
use Rattle.core_store.specs.State.{memory_at}
use Rattle.wit_types.specs.Plain.{plain, payload_of}
use Rattle.wit_types.specs.PlainValue.{plain_value, payload_of as value_payload_of}
use Rattle.abi_store.specs.Parts.{cases_in}
use Rattle.core_memory.specs.Number.{bytes_of}
use Rattle.abi_store.specs.declared.work.Written.{Written}
use Rattle.abi_store.specs.Flows.{Leads}
use Rattle.abi_store.specs.Works.{begun_lowered, written_lowered, write_at}
use Rattle.abi_store.proofs.Begins.{case_few, cases_few, variant_goes, variant_refused}
use Rattle.abi_store.proofs.beginning.begin_variant.Goals as goal

pub begin_payload-requires-clause-small : goal.begin_payload-requires-clause-small
begin_payload-requires-clause-small c =
    let few = case_few (cases_in (plain c.args.ty.now)) c.in-Some.number (payload_of c.in_ok-payload_ty-in-Some.payload_ty) c.in_ok-payload_ty-in-Some.ensures in
    let all = cases_few (plain c.args.ty.now) in
    let small = c.requires.small in
    omega arith

pub begin_payload-requires-clause-low : goal.begin_payload-requires-clause-low
begin_payload-requires-clause-low c =
    let few = case_few (cases_in (plain c.args.ty.now)) c.in-Some.number (payload_of c.in_ok-payload_ty-in-Some.payload_ty) c.in_ok-payload_ty-in-Some.ensures in
    let low = c.requires.low in
    let most = c.payload_place.ensures.most in
    omega arith

pub returns-in-Done-clause-took : goal.returns-in-Done-clause-took
returns-in-Done-clause-took c = (
  variant_goes (memory_at c.args.store.now c.args.memory) (memory_at c.put.new.store c.args.memory) (cases_in (plain c.args.ty.now)) (plain_value c.args.value) c.in-Some.number (value_payload_of c.in-Some.payload)
      (payload_of c.in_ok-payload_ty-in-Some.payload_ty) c.args.at c.number_width.result c.payload_place.result (begun_lowered c.begin_payload.result) c.in-Some.ensures.some c.number_width.ensures.value
      c.payload_place.ensures.value c.in_ok-payload_ty-in-Some.ensures (subst (λ (w : Written). Leads (memory_at c.args.store.now c.args.memory) (write_at c.args.at (bytes_of c.number_width.result c.in-Some.number)) (memory_at c.put.new.store c.args.memory) (written_lowered w)) c.in-Done.is c.in_ok-put-in-Some.ensures.0) c.begin_payload.ensures.value,
  c.in_ok-put-in-Some.ensures.1,
)

pub returns-in-Past-clause-took : goal.returns-in-Past-clause-took
returns-in-Past-clause-took c = (
  variant_refused (memory_at c.args.store.now c.args.memory) (memory_at c.put.new.store c.args.memory) (cases_in (plain c.args.ty.now)) (plain_value c.args.value) c.in-Some.number (value_payload_of c.in-Some.payload)
      c.args.at c.number_width.result c.in-Some.ensures.some c.number_width.ensures.value (subst (λ (w : Written). Leads (memory_at c.args.store.now c.args.memory) (write_at c.args.at (bytes_of c.number_width.result c.in-Some.number)) (memory_at c.put.new.store c.args.memory) (written_lowered w)) c.in-Past.is c.in_ok-put-in-Some.ensures.0),
  c.in_ok-put-in-Some.ensures.1,
)
