use Rattle.abi_load.proofs.Only.{no_number}
use Rattle.abi_load.proofs.number.short_value.Goals as goal

pub returns-in_default : goal.returns-in_default
returns-in_default c =
    no_number _ _ c.in_default.not-Bool c.in_default.not-S8 c.in_default.not-U8 c.in_default.not-S16 c.in_default.not-U16 c.in_default.not-S32 c.in_default.not-U32 c.in_default.not-S64 c.in_default.not-U64
    c.in_default.not-Char c.in_default.not-Flags c.in_default.not-Own c.in_default.not-Borrow
