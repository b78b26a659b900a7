use Rattle.std.proofs.Common.{ap, sym, ◌∙◌}
use Rattle.reference_step.specs.Rows.{handle}
use Rattle.ref_virtual.specs.Methods.{method_row, row_by}
use Rattle.ref_virtual.proofs.NameLemmas.{all_methods}
use Rattle.ref_virtual.proofs.methods.method_named.Goals as goal

pub returns : goal.returns
returns c = λ v a. all_methods c.args.function.now v a ∙ ap (λ m. row_by method_row m v (handle v 0 a) a) (sym c.method_among.ensures)
