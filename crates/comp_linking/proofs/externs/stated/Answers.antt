use Rattle.std.proofs.Common.{◌∙◌, ap, sym, Some}
use Rattle.std.specs.Option.{option_map}
use Rattle.comp_types.specs.Added.{described}
use Rattle.type_table.proofs.HasLaws.{grew_same}
use Rattle.comp_linking.proofs.externs.stated.Goals as goal

pub returns-in-None : goal.returns-in-None
returns-in-None c = λ s h covers. (sym (ap (option_map (described s)) c.in-None.is), grew_same c.args.types.now)

pub returns-in_ok-item-in-Some : goal.returns-in_ok-item-in-Some
returns-in_ok-item-in-Some c = λ s h covers.
    let d = c.in_ok-item-in-Some.ensures s h covers in
    (ap Some d.0 ∙ sym (ap (option_map (described s)) c.in-Some.is), d.1)
