use Rattle.std.proofs.Common.{◌≡◌, ap, refl, sym}
use Rattle.std.proofs.lemmas.Result.{IfOk-from_err}
use Rattle.wit_types.specs.Plain.{plain}
use Rattle.wit_types.proofs.PlainLemmas.{plain-Record, plain-Tuple, plain-Variant, plain-List, plain-Flags, plain-Enum, plain-Option, plain-Result}
use Rattle.wit_types.proofs.type_copies.copy_type.Goals as goal

pub returns-in_err-clone-in-Record : goal.returns-in_err-clone-in-Record
returns-in_err-clone-in-Record c = IfOk-from_err _ _ c.from_residual.ensures.0

pub returns-in_err-clone-in-Tuple : goal.returns-in_err-clone-in-Tuple
returns-in_err-clone-in-Tuple c = IfOk-from_err _ _ c.from_residual-in_err-clone-in-Tuple.ensures.0

pub returns-in_err-clone-in-Variant : goal.returns-in_err-clone-in-Variant
returns-in_err-clone-in-Variant c = IfOk-from_err _ _ c.from_residual-in_err-clone-in-Variant.ensures.0

pub returns-in_err-clone-in-List : goal.returns-in_err-clone-in-List
returns-in_err-clone-in-List c = IfOk-from_err _ _ c.from_residual-in_err-clone-in-List.ensures.0

pub returns-in_err-clone-in-Flags : goal.returns-in_err-clone-in-Flags
returns-in_err-clone-in-Flags c = IfOk-from_err _ _ c.from_residual-in_err-clone-in-Flags.ensures.0

pub returns-in_err-clone-in-Enum : goal.returns-in_err-clone-in-Enum
returns-in_err-clone-in-Enum c = IfOk-from_err _ _ c.from_residual-in_err-clone-in-Enum.ensures.0

pub returns-in_err-clone-in-Option : goal.returns-in_err-clone-in-Option
returns-in_err-clone-in-Option c = IfOk-from_err _ _ c.from_residual-in_err-clone-in-Option.ensures.0

pub returns-in_err-copy_payload-in-Result : goal.returns-in_err-copy_payload-in-Result
returns-in_err-copy_payload-in-Result c = IfOk-from_err _ _ c.from_residual-in_err-copy_payload-in-Result.ensures.0

pub returns-in_err-copy_payload-in-Result-2 : goal.returns-in_err-copy_payload-in-Result-2
returns-in_err-copy_payload-in-Result-2 c = IfOk-from_err _ _ c.from_residual-in_err-copy_payload-in-Result-2.ensures.0

pub returns-in-Bool : goal.returns-in-Bool
returns-in-Bool c = ap plain (sym c.in-Bool.is)

pub returns-in-S8 : goal.returns-in-S8
returns-in-S8 c = ap plain (sym c.in-S8.is)

pub returns-in-U8 : goal.returns-in-U8
returns-in-U8 c = ap plain (sym c.in-U8.is)

pub returns-in-S16 : goal.returns-in-S16
returns-in-S16 c = ap plain (sym c.in-S16.is)

pub returns-in-U16 : goal.returns-in-U16
returns-in-U16 c = ap plain (sym c.in-U16.is)

pub returns-in-S32 : goal.returns-in-S32
returns-in-S32 c = ap plain (sym c.in-S32.is)

pub returns-in-U32 : goal.returns-in-U32
returns-in-U32 c = ap plain (sym c.in-U32.is)

pub returns-in-S64 : goal.returns-in-S64
returns-in-S64 c = ap plain (sym c.in-S64.is)

pub returns-in-U64 : goal.returns-in-U64
returns-in-U64 c = ap plain (sym c.in-U64.is)

pub returns-in-Char : goal.returns-in-Char
returns-in-Char c = ap plain (sym c.in-Char.is)

pub returns-in-Str : goal.returns-in-Str
returns-in-Str c = ap plain (sym c.in-Str.is)

pub returns-in-Own : goal.returns-in-Own
returns-in-Own c = ap plain (sym c.in-Own.is)

pub returns-in-Borrow : goal.returns-in-Borrow
returns-in-Borrow c = ap plain (sym c.in-Borrow.is)

pub returns-in_ok-clone-in-Record : goal.returns-in_ok-clone-in-Record
returns-in_ok-clone-in-Record c = rw (c.in-Record.is, plain-Record, plain-Record, c.in_ok-clone-in-Record.ensures.cases) refl

pub returns-in_ok-clone-in-Tuple : goal.returns-in_ok-clone-in-Tuple
returns-in_ok-clone-in-Tuple c = rw (c.in-Tuple.is, plain-Tuple, plain-Tuple, c.in_ok-clone-in-Tuple.ensures.cases) refl

pub returns-in_ok-clone-in-Variant : goal.returns-in_ok-clone-in-Variant
returns-in_ok-clone-in-Variant c = rw (c.in-Variant.is, plain-Variant, plain-Variant, c.in_ok-clone-in-Variant.ensures.cases) refl

pub returns-in_ok-clone-in-List : goal.returns-in_ok-clone-in-List
returns-in_ok-clone-in-List c = rw (c.in-List.is, plain-List, plain-List, c.in_ok-clone-in-List.ensures.cases) refl

pub returns-in_ok-clone-in-Flags : goal.returns-in_ok-clone-in-Flags
returns-in_ok-clone-in-Flags c = rw (c.in-Flags.is, plain-Flags, plain-Flags, c.in_ok-clone-in-Flags.ensures.cases) refl

pub returns-in_ok-clone-in-Enum : goal.returns-in_ok-clone-in-Enum
returns-in_ok-clone-in-Enum c = rw (c.in-Enum.is, plain-Enum, plain-Enum, c.in_ok-clone-in-Enum.ensures.cases) refl

pub returns-in_ok-clone-in-Option : goal.returns-in_ok-clone-in-Option
returns-in_ok-clone-in-Option c = rw (c.in-Option.is, plain-Option, plain-Option, c.in_ok-clone-in-Option.ensures.cases) refl

pub returns-in_ok-copy_payload-in-Result-2 : goal.returns-in_ok-copy_payload-in-Result-2
returns-in_ok-copy_payload-in-Result-2 c = rw (c.in-Result.is, plain-Result, plain-Result, c.in_ok-copy_payload-in-Result.ensures, c.in_ok-copy_payload-in-Result-2.ensures) refl
