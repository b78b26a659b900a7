use Rattle.std.proofs.Common.{sym, subst}
use Rattle.wit_types.specs.Plain.{fields_of, plain_func}
use Rattle.type_table.specs.Tables.{IsSound, HasParts}
use Rattle.type_table.proofs.HasLaws.{sound_none, parts-grew}
use Rattle.type_relations.proofs.calls.table_of.Goals as goal

pub returns : goal.returns
returns c =
    let so = c.in_ok-add_params.ensures (subst IsSound (sym c.none-types.ensures) sound_none) in
    let params = subst (λ l. HasParts c.add_params.new.types (fields_of l)) c.deref.ensures.value so.1 in
    let answer = c.in_ok-add_answer.ensures so.0 in
    (parts-grew c.add_params.new.types c.add_answer.new.types (plain_func c.args.ty.now).params answer.0 params, answer.1)
