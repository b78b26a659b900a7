use Rattle.std.proofs.Common.{◌+◌, refl, arith}
use Rattle.wit_types.specs.Plain.{payload_of}
use Rattle.abi_load.specs.Loaded.{bytes_at}
use Rattle.abi_load.proofs.Payloads.{result_chosen, result_offset}
use Rattle.abi_load.proofs.loading.find_result_case.Goals as goal

pub returns-clause-ok : goal.returns-clause-ok
returns-clause-ok c =
    let offset = result_offset (payload_of c.args.ok.now) (payload_of c.args.err.now) _ _ _ c.payload_offset.result c.layout_of_payload.ensures.align c.layout_of_payload-2.ensures.align c.max-align.ensures c.payload_offset.ensures.value in
    result_chosen (bytes_at c.args.store.now c.args.memory) (payload_of c.args.ok.now) (payload_of c.args.err.now) c.args.at c.in_ok-number.number (c.args.at + c.payload_offset.result) c.payload_offset.result
    c.in_ok-number.ensures.ok (omega arith) refl offset
