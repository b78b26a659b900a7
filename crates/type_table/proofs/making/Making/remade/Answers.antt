use Rattle.std.proofs.Common.{◌∙◌, sym, subst}
use Rattle.wit_types.specs.Plain.{plain}
use Rattle.type_table.specs.Tables.{Has}
use Rattle.type_table.specs.Retyped.{values_of}
use Rattle.type_table.proofs.MakingLemmas.{rebuilt-has}
use Rattle.type_table.proofs.making.Making.remade.Goals as goal

pub returns-clause-grew : goal.returns-clause-grew
returns-clause-grew c = λ s h.
    (c.in_ok-new-2.ensures.has (rebuilt-has c.args.self.now.types (plain c.args.ty.now) c.in_ok-new.new (values_of c.args.parts.now) c.requires h s c.in_ok-new.ensures)).0

pub returns-clause-made : goal.returns-clause-made
returns-clause-made c = λ s h.
    c.in_ok-new-2.ensures.value (rebuilt-has c.args.self.now.types (plain c.args.ty.now) c.in_ok-new.new (values_of c.args.parts.now) c.requires h s c.in_ok-new.ensures) ∙ c.in_ok-new.ensures

pub returns-clause-has : goal.returns-clause-has
returns-clause-has c = λ s h.
    let own = rebuilt-has c.args.self.now.types (plain c.args.ty.now) c.in_ok-new.new (values_of c.args.parts.now) c.requires h s c.in_ok-new.ensures in
    subst (Has c.add.new.self.types) (sym (c.in_ok-new-2.ensures.value own)) (c.in_ok-new-2.ensures.has own).1
