use Rattle.std.proofs.Common.{◌∙◌, ap}
use Rattle.std.specs.List.{list_all}
use Rattle.comp_types.specs.GivenResources.{is_among}
use Rattle.comp_types.specs.Rules.{named_in_desc}
use Rattle.comp_instances.proofs.AmongLemmas.{all-distinct}
use Rattle.comp_instances.proofs.imports.names_imported.Goals as goal

pub returns : goal.returns
returns c = λ s h t.
    c.are_among.ensures s.imported h.rest.imported
    ∙ (ap (list_all (is_among s.imported)) (c.as_slice.ensures ∙ c.in_ok-found.ensures s h t)
    ∙ all-distinct (is_among s.imported) (named_in_desc s c.args.desc))
