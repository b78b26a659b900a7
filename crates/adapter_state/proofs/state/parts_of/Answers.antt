use Rattle.std.proofs.Common.{◌≡◌, ◌≤◌, ◌++◌, [], length, ap, ◌∙◌, arith}
use Rattle.adapter_state.specs.State.{each_kind, drop_import}
use Rattle.adapter_state.proofs.EachKind.{each_length, one_import}
use Rattle.adapter_state.proofs.state.parts_of.Goals as goal

pub overflow_cast-imported : goal.overflow_cast-imported
overflow_cast-imported c =
    let few = each_length drop_import 0 c.args.kinds.now one_import in
    let imports = ap length (c.in_ok-put_drop_imports.ensures ∙ ap (λ l. l ++ each_kind drop_import 0 c.args.kinds.now) c.empty-imports.ensures) in
    omega (arith, few, imports, c.len-imported.ensures, c.requires.kinds)
