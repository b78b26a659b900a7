use Rattle.std.proofs.Common.{◌≡◌, true, subst, take}
use Rattle.std.specs.List.{All}
use Rattle.std.proofs.lemmas.List.{take_all}
use Rattle.std.proofs.lemmas.List.Elements.{All-more}
use Rattle.virt_base.specs.declared.core_type.CoreType.TheVariants.{I32}
use Rattle.adapter_stubs.specs.Widths.{IsFlat}
use Rattle.adapter_rows.proofs.sound.are_flat.Goals as goal

pub loop-ty-preserved : goal.loop-ty-preserved
loop-ty-preserved c = All-more IsFlat c.args.types.now c.loop-ty.ty-index I32 c.loop-ty-test.true c.loop-ty.invariant (c.is_flat.ensures c.if-not-is_flat.false)

pub returns : goal.returns
returns c = λ _. subst (All IsFlat) (take_all c.loop-ty.ty-index c.args.types.now c.loop-ty-test.false) c.loop-ty.invariant
