use Rattle.comp_defining.proofs.TypeLemmas.{stands-depth}
use Rattle.comp_defining.proofs.types.and_depth.Goals as goal

pub returns : goal.returns
returns c = λ s deep h e. stands-depth s c.args.scope.now deep c.args.depth c.max-scope.result h e c.max-scope.ensures
