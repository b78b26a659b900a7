use Rattle.std.proofs.Common.{◌∙◌, ap, sym, subst}
use Rattle.comp_types.specs.GivenResources.{without, distinct, named_in}
use Rattle.type_table.specs.Tables.{HasEntries}
use Rattle.comp_validate.proofs.nested.known_component.Goals as goal

pub returns : goal.returns
returns c = λ s h covers.
    let e = c.into_entries-exports.ensures s.exports h.rest.exports in
    record {
      imports = c.into_entries-imports.ensures s.imports h.rest.imports;
      exports = e;
      own = c.in_ok-own.ensures (subst (HasEntries c.args.types.now) (sym e) covers.exports) s.imported h.rest.imported ∙ ap (λ es. without s.imported (distinct (named_in es))) e;
    }
