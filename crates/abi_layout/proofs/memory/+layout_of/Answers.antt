use Rattle.std.proofs.Common.{◌≡◌, rules, arith, refl, ◌∙◌}
use Rattle.std.proofs.lemmas.Grind.{common_steps}
use Rattle.wit_types.specs.Plain.{plain}
use Rattle.wit_types.specs.Layout.{size}
use Rattle.wit_types.proofs.PlainLemmas.{plain-Record, plain-Tuple}
use Rattle.wit_types.specs.declared.types.WitType.TheFolds.{the_lemmas}
use Rattle.abi_layout.proofs.LayoutLemmas.{few-Record, few-Tuple, few-Variant, few-Option, few-Result, size_most, result_size, result_alignment}
use Rattle.abi_layout.proofs.memory.+layout_of.Goals as goal

pub layout_of-layout_of_fields-requires : goal.layout_of-layout_of_fields-requires
layout_of-layout_of_fields-requires t c = (search (rules, the_lemmas), few-Record _ c.in-Record.fields _ _ _ c.in-Record.is c.deref.ensures c.deref-in-Record.ensures.value c.requires)

pub layout_of-layout_of_types-requires : goal.layout_of-layout_of_types-requires
layout_of-layout_of_types-requires t c = (search (rules, the_lemmas), few-Tuple _ c.in-Tuple.types _ _ _ c.in-Tuple.is c.deref-in-Tuple.ensures c.deref-in-Tuple-2.ensures.value c.requires)

pub layout_of-layout_of_cases-requires : goal.layout_of-layout_of_cases-requires
layout_of-layout_of_cases-requires t c = (search (rules, the_lemmas), few-Variant _ c.in-Variant.cases _ _ _ c.in-Variant.is c.deref-in-Variant-2.ensures c.deref-in-Variant-3.ensures.value c.requires)

pub layout_of-layout_of-requires : goal.layout_of-layout_of-requires
layout_of-layout_of-requires t c = (search (rules, the_lemmas), rw c.deref-in-Option.ensures (few-Option _ c.in-Option.some _ c.in-Option.is c.requires))

pub layout_of-layout_of_payload-requires : goal.layout_of-layout_of_payload-requires
layout_of-layout_of_payload-requires t c = (search (rules, the_lemmas), (few-Result _ _ _ _ c.in-Result.is c.requires).0)

pub layout_of-layout_of_payload-requires-in-Result : goal.layout_of-layout_of_payload-requires-in-Result
layout_of-layout_of_payload-requires-in-Result t c = (search (rules, the_lemmas), (few-Result _ _ _ _ c.in-Result.is c.requires).1)

pub layout_of-returns-in-Record-clause-most : goal.layout_of-returns-in-Record-clause-most
layout_of-returns-in-Record-clause-most t c =
    let is : c.layout_of_fields.result.size ≡ size (plain c.args.ty.now) = rw (c.in-Record.is, plain-Record) (grind (arith, common_steps)) in
    omega (arith, size_most (plain c.args.ty.now))

pub layout_of-returns-in-Tuple-clause-most : goal.layout_of-returns-in-Tuple-clause-most
layout_of-returns-in-Tuple-clause-most t c =
    let is : c.layout_of_types.result.size ≡ size (plain c.args.ty.now) = rw (c.in-Tuple.is, plain-Tuple) (grind (arith, common_steps)) in
    omega (arith, size_most (plain c.args.ty.now))

pub layout_of-returns-in-Result-clause-size : goal.layout_of-returns-in-Result-clause-size
layout_of-returns-in-Result-clause-size t c =
    c.variant-in-Result.ensures.size ∙ result_size _ _ _ c.in-Result.is _ _ _ refl (omega arith) (omega arith)

pub layout_of-returns-in-Result-clause-align : goal.layout_of-returns-in-Result-clause-align
layout_of-returns-in-Result-clause-align t c =
    c.variant-in-Result.ensures.align ∙ result_alignment _ _ _ c.in-Result.is _ _ refl (omega arith)

pub layout_of-returns-in-Result-clause-most : goal.layout_of-returns-in-Result-clause-most
layout_of-returns-in-Result-clause-most t c =
    let is : c.variant-in-Result.result.size ≡ size (plain c.args.ty.now) = layout_of-returns-in-Result-clause-size t c in
    omega (arith, size_most (plain c.args.ty.now))
