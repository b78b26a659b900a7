use Rattle.std.proofs.Common.{arith}
use Rattle.comp_defining.proofs.TypeLemmas.{stands-resource}
use Rattle.comp_defining.proofs.types.add_resource.Goals as goal

pub returns : goal.returns
returns c = λ s destructor h. stands-resource s c.args.scope.now destructor c.in-Some.next c.push.new.self h (c.in_ok-push.ensures s.defined h.rest.defined) (omega (arith, c.in-Some.ensures))
