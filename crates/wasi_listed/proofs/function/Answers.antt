use Rattle.std.proofs.Common.{◌≡◌, ◌∙◌, Some, map, get_or, ap, sym}
use Rattle.std.proofs.Math.ListN.{get_or-map}
use Rattle.wasi_table.specs.Plain.{PlainNamedFunc, plain_named_func}
use Rattle.wasi_listed.specs.Listed.{PlainListed, described}
use Rattle.wasi_listed.proofs.function.Goals as goal

pub returns : goal.returns
returns c =
    let i = c.place_of-interface.result.0 in
    let p = c.place_of-interface.result.1 in
    let found = c.swap_remove-function.result in
    let d = plain_named_func found in
    let with_function : PlainNamedFunc → PlainListed = λ f. record { interface = i; place = p; function = f } in
    let functions : map plain_named_func c.in_ok-describe.field-0.functions ≡ (described i).functions = ap (λ x. x.functions) c.in_ok-describe.ensures in
    let read : get_or (map plain_named_func c.in_ok-describe.field-0.functions) p d ≡ plain_named_func (get_or c.in_ok-describe.field-0.functions p found) =
    get_or-map plain_named_func c.in_ok-describe.field-0.functions p found in
    let value : get_or c.in_ok-describe.field-0.functions p found ≡ found = ap (λ xs. get_or xs p found) (sym c.into_vec-functions.ensures) ∙ sym c.swap_remove-function.ensures.value in
    c.place_of-interface.ensures.is d ∙ ap (λ f. Some (with_function f)) (ap (λ fs. get_or fs p d) (sym functions) ∙ read ∙ ap plain_named_func value)
