use Rattle.std.proofs.lemmas.Result.{IfOk-weaker}
use Rattle.comp_types.specs.Definitions.{AnExport}
use Rattle.comp_defining.proofs.Inner.{judged_inner}
use Rattle.comp_validate.proofs.definitions.ComponentExportDefines.define.Goals as goal

pub returns : goal.returns
returns c =
    IfOk-weaker c.define_export.result _ _ (λ rule k around s h.
    let both = k around s h.inner h.covered.0 in
    judged_inner around s (AnExport c.args.self.now) c.args.scopes.now c.define_export.new.scope c.define_export.new.types rule h both.1 both.0) c.define_export.ensures
