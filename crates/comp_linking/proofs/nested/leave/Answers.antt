use Rattle.std.proofs.Common.{◌∙◌, ap, sym, subst}
use Rattle.std.proofs.lemmas.Result.{on_ok_weaker}
use Rattle.comp_types.specs.GivenResources.{without, distinct, named_in}
use Rattle.type_table.specs.Tables.{HasEntries}
use Rattle.comp_linking.specs.Walks.{spaces}
use Rattle.comp_linking.proofs.nested.leave.Goals as goal

pub returns : goal.returns
returns c = on_ok_weaker c.keep_plan.result (λ k ms todo outer t a h.
    let stands = h.scopes.inner in
    let e = c.entries-exports.ensures a.space.exports stands.rest.exports in
    let has = subst (HasEntries c.args.planner.now.scopes.types) (sym e) h.scopes.covered.0.exports in
    k ms todo outer t a (record {
      scopes = c.in_ok-close_nested.ensures (spaces outer) t.space a.space h.scopes;
      rest = h.rest;
      inner = h.inner;
      outer = h.outer;
      own = c.in_ok-own.ensures has a.space.imported stands.rest.imported ∙ ap (λ es. without a.space.imported (distinct (named_in es))) e;
    })) c.keep_plan.ensures
