use Rattle.std.proofs.Common.{◌≡◌, List, Option, None, option_map, get_or, sym, ap}
use Rattle.ref_rules.specs.declared.content.Handle.{Handle}
use Rattle.ref_rules.specs.Lives.{standing_for}
use Rattle.reference_host.proofs.RowLemmas.{becomes_none}
use Rattle.reference_host.proofs.performing.stand_for.Goals as goal

pub returns-in-None : goal.returns-in-None
returns-in-None c =
    let none : get_or c.args.live.now.handles c.args.id None ≡ None = sym c.in-None.ensures.value in
    ap (λ (hs : List (Option Handle)). record c.args.live.now { handles = hs }) (becomes_none c.args.live.now.handles c.args.id _ none (ap (option_map (standing_for c.args.content)) none))
