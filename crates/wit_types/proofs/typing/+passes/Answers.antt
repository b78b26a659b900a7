use Rattle.std.proofs.Common.{refl, sym, ◌∙◌}
use Rattle.std.proofs.lemmas.Bool.{le-ltb}
use Rattle.wit_types.specs.Plain.{AsEnum}
use Rattle.wit_types.specs.PlainValue.{plain_value}
use Rattle.wit_types.proofs.PlainLemmas.{plain-Bool, plain-S8, plain-U8, plain-S16, plain-U16, plain-S32, plain-U32, plain-S64, plain-U64, plain-Char, plain-Str, plain-Record, plain-Tuple, plain-Variant, plain-List, plain-Flags, plain-Enum, plain-Option, plain-Result}
use Rattle.wit_types.proofs.ValueLemmas.{plain_value-Variant}
use Rattle.wit_types.proofs.TypingLemmas.{are_of-fields_of, are_of-types_of, is_of-bare, is_of_case-cases_of, is_of_case-past}
use Rattle.wit_types.proofs.typing.+passes.Goals as goal

pub are_fields_each-returns-then-values-fields : goal.are_fields_each-returns-then-values-fields
are_fields_each-returns-then-values-fields t c = sym (are_of-fields_of _ _ c.if-values-fields.true)

pub are_types_each-returns-then-values-types : goal.are_types_each-returns-then-values-types
are_types_each-returns-then-values-types t c = sym (are_of-types_of _ _ c.if-values-types.true)

pub is_variant-returns-then-number-cases : goal.is_variant-returns-then-number-cases
is_variant-returns-then-number-cases t c =
    rw (c.in-Variant.is, plain_value-Variant) (c.is_payload.ensures ∙ sym (is_of_case-cases_of _ _ _ _ c.if-number-cases.true))

pub is_variant-returns-else-number-cases : goal.is_variant-returns-else-number-cases
is_variant-returns-else-number-cases t c =
    rw (c.in-Variant.is, plain_value-Variant, is_of_case-past _ _ _ c.if-number-cases.false, le-ltb _ _ c.if-number-cases.false) refl

pub passes-returns-in-Bool : goal.passes-returns-in-Bool
passes-returns-in-Bool t c = rw (c.in-Bool.is, plain-Bool) c.is_bool.ensures

pub passes-returns-in-S8 : goal.passes-returns-in-S8
passes-returns-in-S8 t c = rw (c.in-S8.is, plain-S8) c.is_integer.ensures

pub passes-returns-in-U8 : goal.passes-returns-in-U8
passes-returns-in-U8 t c = rw (c.in-U8.is, plain-U8) c.is_integer-in-U8.ensures

pub passes-returns-in-S16 : goal.passes-returns-in-S16
passes-returns-in-S16 t c = rw (c.in-S16.is, plain-S16) c.is_integer-in-S16.ensures

pub passes-returns-in-U16 : goal.passes-returns-in-U16
passes-returns-in-U16 t c = rw (c.in-U16.is, plain-U16) c.is_integer-in-U16.ensures

pub passes-returns-in-S32 : goal.passes-returns-in-S32
passes-returns-in-S32 t c = rw (c.in-S32.is, plain-S32) c.is_integer-in-S32.ensures

pub passes-returns-in-U32 : goal.passes-returns-in-U32
passes-returns-in-U32 t c = rw (c.in-U32.is, plain-U32) c.is_integer-in-U32.ensures

pub passes-returns-in-S64 : goal.passes-returns-in-S64
passes-returns-in-S64 t c = rw (c.in-S64.is, plain-S64) c.is_integer-in-S64.ensures

pub passes-returns-in-U64 : goal.passes-returns-in-U64
passes-returns-in-U64 t c = rw (c.in-U64.is, plain-U64) c.is_integer-in-U64.ensures

pub passes-returns-in-Char : goal.passes-returns-in-Char
passes-returns-in-Char t c = rw (c.in-Char.is, plain-Char) c.is_char.ensures

pub passes-returns-in-Str : goal.passes-returns-in-Str
passes-returns-in-Str t c = rw (c.in-Str.is, plain-Str) c.is_string.ensures

pub passes-returns-in-Record : goal.passes-returns-in-Record
passes-returns-in-Record t c = rw (c.in-Record.is, plain-Record, sym c.deref.ensures, sym c.deref-in-Record.ensures.value) c.is_record.ensures

pub passes-returns-in-Tuple : goal.passes-returns-in-Tuple
passes-returns-in-Tuple t c = rw (c.in-Tuple.is, plain-Tuple, sym c.deref-in-Tuple.ensures, sym c.deref-in-Tuple-2.ensures.value) c.is_tuple.ensures

pub passes-returns-in-Variant : goal.passes-returns-in-Variant
passes-returns-in-Variant t c = rw (c.in-Variant.is, plain-Variant, sym c.deref-in-Variant.ensures, sym c.deref-in-Variant-2.ensures.value) c.is_variant.ensures

pub passes-returns-in-List : goal.passes-returns-in-List
passes-returns-in-List t c = rw (c.in-List.is, plain-List, sym c.deref-in-List.ensures) c.is_list.ensures

pub passes-returns-in-Flags : goal.passes-returns-in-Flags
passes-returns-in-Flags t c = rw (c.in-Flags.is, plain-Flags) (rw (sym c.deref-in-Flags.ensures, sym c.len.ensures) c.is_flags.ensures)

pub passes-returns-in-Enum : goal.passes-returns-in-Enum
passes-returns-in-Enum t c =
    rw (c.in-Enum.is, plain-Enum) (c.is_enum.ensures ∙ rw (c.len-in-Enum.ensures, c.deref-in-Enum.ensures) (is_of-bare AsEnum _ (plain_value c.args.value.now)))

pub passes-returns-in-Option : goal.passes-returns-in-Option
passes-returns-in-Option t c = rw (c.in-Option.is, plain-Option, sym c.deref-in-Option.ensures) c.is_option.ensures

pub passes-returns-in-Result : goal.passes-returns-in-Result
passes-returns-in-Result t c = rw (c.in-Result.is, plain-Result) c.is_result.ensures
