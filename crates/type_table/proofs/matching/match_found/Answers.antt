use Rattle.std.proofs.Common.{sym, subst, length}
use Rattle.wit_types.specs.Plain.{plain}
use Rattle.type_table.specs.Nodes.{IsBelow}
use Rattle.type_table.specs.Tables.{trees}
use Rattle.type_table.proofs.NodeLemmas.{below-some, leads-placed}
use Rattle.type_table.proofs.matching.match_found.Goals as goal

pub match_parts-requires : goal.match_parts-requires
match_parts-requires c = subst (λ n. IsBelow n c.place-at.result) (sym c.len.ensures.length) (below-some (length c.args.types.now) c.place-at.result c.place-at.ensures.within)

pub returns-clause-met : goal.returns-clause-met
returns-clause-met c = λ is other has others.
    let tys = trees c.args.types.now in
    c.in_ok-same.ensures.met has.0 (leads-placed tys c.place-at.result (plain c.args.a.now) (c.place-at.ensures.one is has)) (leads-placed tys c.place-to.result (plain c.args.b.now) (c.place-to.ensures.one other others))
