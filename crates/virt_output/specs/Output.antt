-- The output of an application that imports nothing (Component Model, Binary.md, "Component Definitions"): the application unchanged,
-- an instance of it, an alias of each thing that the instance exports, and an export of each alias under the same name.
use Rattle.std.specs.Prelude.{List, [], ◌∷◌, None}
use Rattle.wasm_ast.specs.declared.component.Instance.{Instance}
use Rattle.wasm_ast.specs.declared.component.Instance.TheVariants.{Instantiate}
use Rattle.wasm_ast.specs.declared.component.Alias.{Alias}
use Rattle.wasm_ast.specs.declared.component.Alias.TheVariants.{Export}
use Rattle.wasm_ast.specs.declared.component.ComponentExport.{ComponentExport}
use Rattle.comp_types.specs.Items.{Entries, End, More}
use Rattle.comp_grammar.specs.Trees.{Tree, Nested, Instances, Aliases, Exports, End as NoSection, More as Section}
use Rattle.comp_grammar.specs.Components.{no_span}
use Rattle.virt_output.specs.declared.counts.Counts.{Counts}
use Rattle.virt_output.specs.Counts.{sort_of, count_of, and_one}

-- the application is component 0, and is given nothing
abbrev pub one_instance : List Instance
one_instance = Instantiate 0 [] ∷ []

-- each export of instance 0, in order
abbrev pub aliases_of : Entries → List Alias
aliases_of End = []
aliases_of (More name item rest) = Export (sort_of item) 0 name ∷ aliases_of rest

-- each alias, in order, under its name in the instance
abbrev pub exports_from : Counts → Entries → List ComponentExport
exports_from c End = []
exports_from c (More name item rest) = record { name = name; sort = sort_of item; index = count_of c (sort_of item); desc = None } ∷ exports_from (and_one c (sort_of item)) rest

-- the application's instance is instance 0
abbrev pub behind_instance : Counts
behind_instance = record { functions = 0; types = 0; instances = 1 }

abbrev pub exports_of : Entries → List ComponentExport
exports_of exports = exports_from behind_instance exports

-- two sections, or none where nothing is exported
abbrev pub exporting : Entries → Tree
exporting End = NoSection
exporting (More name item rest) = Section (Aliases (aliases_of (More name item rest))) (Section (Exports (exports_of (More name item rest))) NoSection)

-- the output of an application that exports these
abbrev pub output_tree : Tree → Entries → Tree
output_tree app exports = Section (Nested no_span app) (Section (Instances one_instance) (exporting exports))
