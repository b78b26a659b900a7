use Rattle.std.proofs.Common.{◌∙◌, ap, sym, subst, arith}
use Rattle.wit_types.specs.Plain.{Plain, plain, StringType, ListType, RecordType, AsRecord, AsTuple}
use Rattle.wit_types.specs.PlainValue.{plain_value}
use Rattle.wit_types.proofs.PlainLemmas.{plain-Str, plain-List, plain-Record, plain-Tuple}
use Rattle.abi_store.specs.declared.parts.Parts.TheVariants.{Fields as FieldParts, Types as TypeParts}
use Rattle.abi_store.specs.Parts.{parts_from}
use Rattle.abi_store.proofs.PartLemmas.{record_whole, tuple_whole}
use Rattle.abi_store.specs.Works.{Took, begun_lowered, value_lowered}
use Rattle.abi_store.proofs.Stores.{took_pure}
use Rattle.abi_store.proofs.Begins.{pure_result, variant_result, variant_form}
use Rattle.abi_store.proofs.Only.{four_bytes}
use Rattle.abi_store.proofs.TurnLemmas.{turns_some, ends_fewer}
use Rattle.abi_store.proofs.beginning.begin.Goals as goal

pub returns-in-Str-clause-took : goal.returns-in-Str-clause-took
returns-in-Str-clause-took c =
    subst (λ (t : Plain). Took c.args.store.now c.args.store.now c.args.memory (value_lowered t (plain_value c.args.value) c.args.at) (begun_lowered c.begin_string.result)) (sym (ap plain c.in-Str.is ∙ plain-Str))
    (took_pure c.args.store.now c.args.memory (value_lowered StringType (plain_value c.args.value) c.args.at) (begun_lowered c.begin_string.result) c.begin_string.ensures.leads)

pub returns-in-List-clause-took : goal.returns-in-List-clause-took
returns-in-List-clause-took c =
    pure_result c.args.store.now c.args.memory c.begin_list.result (plain c.args.ty.now) (ListType (plain c.in-List.item.value)) (plain_value c.args.value) c.args.at (ap plain c.in-List.is ∙ plain-List c.in-List.item) c.begin_list.ensures.leads

pub returns-in_ok-clone-in-Record-clause-took : goal.returns-in_ok-clone-in-Record-clause-took
returns-in_ok-clone-in-Record-clause-took c =
    pure_result c.args.store.now c.args.memory c.begin_record.result (plain c.args.ty.now) (RecordType AsRecord (parts_from (FieldParts c.in_ok-clone-in-Record.field-0) 0)) (plain_value c.args.value) c.args.at
    (ap plain c.in-Record.is ∙ plain-Record c.in-Record.fields ∙ record_whole c.in-Record.fields c.in_ok-clone-in-Record.field-0 c.in_ok-clone-in-Record.ensures.cases) c.begin_record.ensures.leads

pub returns-in_ok-clone-in-Tuple-clause-took : goal.returns-in_ok-clone-in-Tuple-clause-took
returns-in_ok-clone-in-Tuple-clause-took c =
    pure_result c.args.store.now c.args.memory c.begin_record-in-Tuple.result (plain c.args.ty.now) (RecordType AsTuple (parts_from (TypeParts c.in_ok-clone-in-Tuple.field-0) 0)) (plain_value c.args.value) c.args.at
    (ap plain c.in-Tuple.is ∙ plain-Tuple c.in-Tuple.types ∙ tuple_whole c.in-Tuple.types c.in_ok-clone-in-Tuple.field-0 c.in_ok-clone-in-Tuple.ensures.cases) c.begin_record-in-Tuple.ensures.leads

pub returns-in-Flags-clause-fewer : goal.returns-in-Flags-clause-fewer
returns-in-Flags-clause-fewer c = ends_fewer c.store_number.result (plain_value c.args.value) c.store_number.ensures.ends

pub returns-in-S64-clause-fewer : goal.returns-in-S64-clause-fewer
returns-in-S64-clause-fewer c = ends_fewer c.store_number-in-S64.result (plain_value c.args.value) c.store_number-in-S64.ensures.ends

pub returns-in_default-clause-fewer : goal.returns-in_default-clause-fewer
returns-in_default-clause-fewer c = ends_fewer c.store_number-in_default.result (plain_value c.args.value) c.store_number-in_default.ensures.ends

pub returns-in_default-clause-took : goal.returns-in_default-clause-took
returns-in_default-clause-took c =
    four_bytes c.args.store.now c.store_number-in_default.new.store c.args.memory c.args.at c.store_number-in_default.result (plain_value c.args.value) c.args.ty.now
    c.in_default.not-Bool c.in_default.not-S8 c.in_default.not-U8 c.in_default.not-S16 c.in_default.not-U16 c.in_default.not-S64 c.in_default.not-U64 c.in_default.not-Str c.in_default.not-Record c.in_default.not-Tuple c.in_default.not-Variant c.in_default.not-List c.in_default.not-Flags c.in_default.not-Enum c.in_default.not-Option c.in_default.not-Result
    c.store_number-in_default.ensures.took

pub returns-in-S16-clause-fewer : goal.returns-in-S16-clause-fewer
returns-in-S16-clause-fewer c = ends_fewer c.store_number-in-S16.result (plain_value c.args.value) c.store_number-in-S16.ensures.ends

pub returns-in-Bool-clause-fewer : goal.returns-in-Bool-clause-fewer
returns-in-Bool-clause-fewer c = ends_fewer c.store_number-in-Bool.result (plain_value c.args.value) c.store_number-in-Bool.ensures.ends

pub returns-in-List-clause-fewer : goal.returns-in-List-clause-fewer
returns-in-List-clause-fewer c = ends_fewer c.begin_list.result (plain_value c.args.value) c.begin_list.ensures.ends

pub returns-in-Str-clause-fewer : goal.returns-in-Str-clause-fewer
returns-in-Str-clause-fewer c = let some = turns_some (plain_value c.args.value) in let ends = c.begin_string.ensures.ends in omega arith

pub returns-in-Variant-clause-took : goal.returns-in-Variant-clause-took
returns-in-Variant-clause-took c =
    let kind = variant_form c.args.ty.now c.in-Variant.is in
    variant_result c.args.store.now c.begin_variant.new.store c.args.memory c.begin_variant.result (plain c.args.ty.now) kind.0 kind.1 (plain_value c.args.value) c.args.at kind.2 c.begin_variant.ensures.took
