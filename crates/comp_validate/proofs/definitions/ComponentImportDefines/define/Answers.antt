use Rattle.std.proofs.lemmas.Result.{IfOk-weaker}
use Rattle.comp_types.specs.Definitions.{AnImport}
use Rattle.comp_defining.proofs.Inner.{judged_inner}
use Rattle.comp_validate.proofs.definitions.ComponentImportDefines.define.Goals as goal

pub returns : goal.returns
returns c =
    IfOk-weaker c.define_import.result _ _ (λ rule k around s h.
    let both = k around s h.inner h.covered.0 in
    judged_inner around s (AnImport c.args.self.now) c.args.scopes.now c.define_import.new.scope c.define_import.new.types rule h both.1 both.0) c.define_import.ensures
