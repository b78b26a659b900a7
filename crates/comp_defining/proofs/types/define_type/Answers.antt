use Rattle.std.proofs.Common.{◌∙◌, sym, subst}
use Rattle.comp_types.specs.Types.{kind_of as kind_due}
use Rattle.type_table.specs.Tables.{HasKind}
use Rattle.type_table.specs.Anew.{HasPartsOf}
use Rattle.type_table.proofs.HasLaws.{grew_same, some_none}
use Rattle.type_table.proofs.DefinedLaws.{parts_of_def}
use Rattle.comp_defining.proofs.TypeLemmas.{broken_type, valid_type}
use Rattle.comp_defining.proofs.types.define_type.Goals as goal

pub returns-in-Some : goal.returns-in-Some
returns-in-Some c = λ around s h covers.
    (broken_type around s c.args.def.now c.args.scope.now c.in-Some.rule (sym c.in-Some.is ∙ c.in_ok-rule.ensures around s h (c.in_ok-kind.ensures s h)), (grew_same c.args.types.now, λ e. some_none e))

pub returns-in_ok-add_type-in-None : goal.returns-in_ok-add_type-in-None
returns-in_ok-add_type-in-None c = λ around s h covers.
    let due = c.in_ok-kind.ensures s h in
    let made = c.in_ok-keep_type-in-None.ensures (subst (HasPartsOf c.args.types.now) (sym due) (parts_of_def c.args.types.now s c.args.def.now covers)) in
    (valid_type around s c.args.def.now c.add_type.new.scope (sym c.in-None.is ∙ c.in_ok-rule.ensures around s h due) (c.in_ok-add_type-in-None.ensures around s h due), (made.0, λ e. subst (HasKind c.keep_type.new.types) due made.1))
