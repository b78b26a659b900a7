use Rattle.comp_types.proofs.Primitives.{no_primitive}
use Rattle.comp_types.proofs.value_matching.primitive_number.Goals as goal

pub returns-in_default : goal.returns-in_default
returns-in_default c =
    no_primitive _ c.in_default.not-Bool c.in_default.not-S8 c.in_default.not-U8 c.in_default.not-S16 c.in_default.not-U16 c.in_default.not-S32 c.in_default.not-U32 c.in_default.not-S64 c.in_default.not-U64 c.in_default.not-Char c.in_default.not-Str
