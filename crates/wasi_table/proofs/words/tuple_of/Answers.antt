use Rattle.std.proofs.Common.{◌∙◌, sym, ap, take, drop, Some, ◌+◌, ◌-◌}
use Rattle.wit_types.specs.Plain.{RecordType, AsTuple, types_of}
use Rattle.wit_types.proofs.PlainLemmas.{plain-Tuple}
use Rattle.wasi_table.specs.Plain.{IsType}
use Rattle.wasi_table.specs.Before.{types_before}
use Rattle.wasi_table.specs.Words.{operands, types_in, type_in, with_type}
use Rattle.wasi_table.proofs.OperandLemmas.{taken, dropped, all_taken}
use Rattle.wasi_table.proofs.words.tuple_of.Goals as goal

pub loop-preserved : goal.loop-preserved
loop-preserved c = (
  ap (λ os. types_before c.push_type.new.types.items (types_in (take (c.args.size - (c.loop.counter + 1)) os))) c.take_first.ensures.rest
      ∙ taken c.args.size c.loop.counter (operands c.loop.stack.items) c.loop.items.items c.push_type.new.types.items c.loop-test.true
      (λ rest. c.in_ok-push_type.ensures rest ∙ ap (λ t. types_before c.loop.items.items (with_type t rest)) (c.type_of.ensures ∙ ap type_in c.take_first.ensures.value))
      ∙ c.loop.invariant.0,
  ap (λ os. drop (c.args.size - (c.loop.counter + 1)) os) c.take_first.ensures.rest ∙ dropped c.args.size c.loop.counter (operands c.loop.stack.items) c.loop-test.true ∙ c.loop.invariant.1,
)

pub returns-clause-value : goal.returns-clause-value
returns-clause-value c =
    ap (λ p. Some (IsType p)) (plain-Tuple _ ∙ ap (λ ts. RecordType AsTuple (types_of ts.items.items)) c.in_ok-types.ensures.ok ∙ ap (RecordType AsTuple) (sym (all_taken c.args.size c.loop.counter (operands c.loop.stack.items) c.loop.items.items c.loop-test.false) ∙ c.loop.invariant.0))
