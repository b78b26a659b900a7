use Rattle.std.proofs.Common.{drop}
use Rattle.wit_types.specs.Plain.{fields_of}
use Rattle.comp_types.specs.GivenResources.{named_in_parts}
use Rattle.type_table.specs.Tables.{trees, HasParts}
use Rattle.type_relations.proofs.SearchLemmas.{Going}
use Rattle.type_relations.proofs.nodes.add_params.Given as goal

abbrev pub invariant-loop-index : goal.invariant-loop-index
invariant-loop-index l = HasParts l.types (fields_of l.params) → Going (trees l.types) l.fn.search l.search (named_in_parts (fields_of l.params)) (named_in_parts (fields_of (drop l.index l.params)))
