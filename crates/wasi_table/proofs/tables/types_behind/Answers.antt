use Rattle.std.proofs.Common.{◌≡◌, ◌∙◌, ap, sym, map, drop}
use Rattle.std.proofs.lemmas.List.{drop-map}
use Rattle.wasi_table.specs.Plain.{plain_known}
use Rattle.wasi_table.proofs.tables.types_behind.Goals as goal

pub returns : goal.returns
returns c =
    let e : drop c.args.count (map plain_known c.args.known.items) ≡ map plain_known c.in_ok-behind.behind.items
    = drop-map plain_known c.args.count c.args.known.items ∙ ap (map plain_known) (sym c.in_ok-behind.ensures.tail) in
    rw e c.types_from.ensures
