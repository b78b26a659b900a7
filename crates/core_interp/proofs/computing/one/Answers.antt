use Rattle.std.proofs.Common.{refl}
use Rattle.core_interp.proofs.Totals.{no_trap, did_one}
use Rattle.core_interp.proofs.computing.one.Goals as goal

pub unreachable-requires : goal.unreachable-requires
unreachable-requires c = no_trap c.args.code _ _ c.in-Err.field-0 c.integer.result c.requires.total c.integer.ensures.value c.in-Err.is

pub returns : goal.returns
returns c sp s =
    did_one c.args.code c.in-Ok.value _ c.args.ty c.integer.result c.args.slots.now c.set_top.new.self c.top.result c.operand.result sp s refl
    c.requires.kind c.top.ensures c.operand.ensures.value c.integer.ensures.value c.in-Ok.is c.set_top.ensures
