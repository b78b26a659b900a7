use Rattle.comp_calls.specs.Moments.{at}
use Rattle.comp_interp.proofs.Importing.{imported_so}
use Rattle.comp_interp.proofs.assembly.Assembly.imports.Goals as goal

pub returns : goal.returns
returns g c = λ none fresh.
    imported_so c.args.linked.now.imports (at g.H.Host.kept c.args.self.now.world) c.args.self.now.made.items c.outside.new.made.items c.in_ok-given.given c.outside.new.resources c.new.result c.new-2.result none fresh c.in_ok-given.ensures.given
    (c.in_ok-given.ensures.known _ c.none-host.ensures) c.new.ensures.items c.new-2.ensures.first c.new-2.ensures.none
