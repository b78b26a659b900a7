use Rattle.std.proofs.Common.{◌≡◌, ◌∙◌, sym, ap, Some, None, get_or}
use Rattle.std.specs.Prelude.{position}
use Rattle.std.specs.Str.{bytes_eq}
use Rattle.wasi_table.specs.declared.interface.NamedType.{NamedType}
use Rattle.wasi_match.proofs.FoundLemmas.{find_none, find_some}
use Rattle.wasi_match.proofs.offered.take_named.Goals as goal

pub returns-in-None : goal.returns-in-None
returns-in-None c =
    let none : position (λ (t : NamedType). bytes_eq t.name c.args.name.now) c.args.types ≡ None =
    ap (position (λ (t : NamedType). bytes_eq t.name c.args.name.now)) (sym c.as_slice.ensures) ∙ sym c.place_by-place.ensures.place ∙ c.in-None.is in
    sym (find_none (λ (t : NamedType). bytes_eq t.name c.args.name.now) c.args.types none)

pub returns : goal.returns
returns c =
    let found = c.swap_remove.result in
    let some : position (λ (t : NamedType). bytes_eq t.name c.args.name.now) c.args.types ≡ Some c.in-Some.place =
    ap (position (λ (t : NamedType). bytes_eq t.name c.args.name.now)) (sym c.as_slice.ensures) ∙ sym c.place_by-place.ensures.place ∙ c.in-Some.is in
    let value : get_or c.args.types c.in-Some.place found ≡ found =
    ap (λ ts. get_or ts c.in-Some.place found) (sym c.into_vec-types.ensures) ∙ sym c.swap_remove.ensures.value in
    sym (find_some (λ (t : NamedType). bytes_eq t.name c.args.name.now) c.args.types c.in-Some.place found some value)
