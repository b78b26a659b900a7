-- How an output is written: what stands before the application's bytes, and what stands after them.
use Rattle.std.specs.Prelude.{◌≡◌, ℕ, ◌<◌, ◌^◌, List, [], ◌∷◌, ◌++◌, length, Result, Ok, Err, Vec}
use Rattle.std.specs.List.{AllByRecursion}
use Rattle.std.specs.declared.alloc.Global.{Global}
use Rattle.wasm_format.specs.Format.{vec, sized, anything}
use Rattle.wasm_ast.specs.ComponentItems.{instance, alias, component_export}
use Rattle.comp_types.specs.Items.{Entries, End, More, names}
use Rattle.comp_grammar.specs.Components.{preamble}
use Rattle.virt_output.specs.Pieces.{head_of_component}
use Rattle.virt_output.specs.declared.fault.PieceFault.{PieceFault}
use Rattle.virt_output.specs.declared.fault.PieceFault.TheVariants.{NoMemory, TooLong}
use Rattle.virt_output.specs.declared.around.Around.{Around}
use Rattle.virt_output.specs.Output.{one_instance, aliases_of, exports_of}

-- before that many bytes of a component
abbrev pub front_bytes : ℕ → List ℕ
front_bytes size = preamble ++ head_of_component size

abbrev pub section_bytes : ℕ → List ℕ → List ℕ
section_bytes id content = id ∷ (sized anything).write content

abbrev pub alias_content : Entries → List ℕ
alias_content exports = (vec alias).write (aliases_of exports)

abbrev pub export_content : Entries → List ℕ
export_content exports = (vec component_export).write (exports_of exports)

abbrev pub exporting_bytes : Entries → List ℕ
exporting_bytes End = []
exporting_bytes (More name item rest) = section_bytes 6 (alias_content (More name item rest)) ++ section_bytes 11 (export_content (More name item rest))

abbrev pub back_bytes : Entries → List ℕ
back_bytes exports = section_bytes 5 ((vec instance).write one_instance) ++ exporting_bytes exports

-- ---- what sizes of 32 bits can say

abbrev pub AreShort : Entries → Type 0
AreShort exports = AllByRecursion (λ name. length name < 2 ^ 32) (names exports)

-- how many exports there are, and how long each name is
pub record CanBeNamed (exports : Entries) : Type 0 where
  pub count : length (names exports) < 2 ^ 32
  pub short : AreShort exports

-- how long the sections of aliases and of exports are
pub record CanBeSized (exports : Entries) : Type 0 where
  pub aliases : length (alias_content exports) < 2 ^ 32
  pub exported : length (export_content exports) < 2 ^ 32

-- the items of both sections may be written
pub record AreWritable (exports : Entries) : Type 0 where
  pub aliases : (vec alias).Fits (aliases_of exports)
  pub exported : (vec component_export).Fits (exports_of exports)

-- ---- what is answered

-- of the sections that stand for the exports, added to bytes
abbrev pub AddsExports : Entries → List ℕ → List ℕ → Result (Unit {0}) PieceFault → Type 0
AddsExports exports old new (Ok done) = CanBeSized exports × AreWritable exports × (new ≡ old ++ exporting_bytes exports)
AddsExports exports old new (Err TooLong) = CanBeSized exports → ⊥
AddsExports exports old new (Err NoMemory) = Unit {0}

-- of what stands after an application with these exports
abbrev pub Ends : Entries → Result (Vec ℕ Global) PieceFault → Type 0
Ends exports (Ok back) = CanBeSized exports × AreWritable exports × (back.items ≡ back_bytes exports)
Ends exports (Err TooLong) = CanBeSized exports → ⊥
Ends exports (Err NoMemory) = Unit {0}

-- of what stands around an application of that many bytes with these exports
abbrev pub Surrounds : ℕ → Entries → Result Around PieceFault → Type 0
Surrounds size exports (Ok around) = (size < 2 ^ 32) × CanBeNamed exports × CanBeSized exports × (around.front.items ≡ front_bytes size) × (around.back.items ≡ back_bytes exports)
Surrounds size exports (Err TooLong) = size < 2 ^ 32 → CanBeNamed exports → CanBeSized exports → ⊥
Surrounds size exports (Err NoMemory) = Unit {0}
