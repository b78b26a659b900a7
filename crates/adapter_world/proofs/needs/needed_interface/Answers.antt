use Rattle.std.proofs.Common.{◌∙◌, ap, map}
use Rattle.std.specs.List.{flat_map}
use Rattle.wasi_table.specs.declared.interface.Use.{Use}
use Rattle.wasi_table.specs.Plain.{PlainNamed, plain_interface, plain_named, plain_named_func}
use Rattle.adapter_world.specs.Needed.{func_name, needed_from}
use Rattle.adapter_world.specs.Names.{if_among}
use Rattle.adapter_world.proofs.Imported.{import_is}
use Rattle.adapter_world.proofs.needs.needed_interface.Goals as goal

pub returns : goal.returns
returns c =
    let p = c.args.policy.now in
    let uses = c.args.uses.now in
    let types = c.args.types.now in
    let number = c.args.number in
    import_is p uses types number (plain_interface c.in_ok-interface.interface) c.in_ok-name.name c.in_ok-shown.shown c.in_ok-own.own c.in_ok-names.names c.in_ok-interface.ensures
    c.in_ok-name.ensures (c.in_ok-shown.ensures ∙ ap (flat_map (λ (u : Use). if_among types number u.name)) c.as_slice.ensures)
    (c.in_ok-own.ensures ∙ ap (λ ts. flat_map (λ (t : PlainNamed). if_among types number t.name) (map plain_named ts)) c.as_slice-2.ensures)
    (c.in_ok-names.ensures ∙ ap (λ fs. map func_name (needed_from p uses number 0 (map plain_named_func fs))) c.as_slice-functions.ensures)
