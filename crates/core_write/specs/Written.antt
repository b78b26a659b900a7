-- What is written for a module (WebAssembly Core 2.0, section 5.5.16): the preamble, and a section for each list that is not empty.
use Rattle.std.specs.Prelude.{◌≡◌, ℕ, List, [], ◌∷◌, ◌++◌, length, ◌≤◌, Option, Some, None}
use Rattle.wasm_format.specs.Format.{Format, AreBytes, vec, sized, u32_format}
use Rattle.wasm_ast.specs.declared.module.Module.{Module}
use Rattle.wasm_ast.specs.Types.{core_func, limits, table_type}
use Rattle.wasm_ast.specs.Items.{import, export, global, elements, body, segment}
use Rattle.wasm_ast.specs.Modules.{preamble, SpellsModule}

-- The text spells the module and no other, and no bytes that spell it are fewer.
pub record IsShortestOf (m : Module) (text : List ℕ) : Type 0 where
  pub spelled : SpellsModule m text
  pub only : (other : Module) → SpellsModule other text → other ≡ m
  pub least : (other : List ℕ) → AreBytes other → SpellsModule m other → length text ≤ length other

-- ---- section by section

-- a section that holds a list, which is left out where the list is empty
abbrev pub list_section : {A : Type 0} → ℕ → Format A → List A → List ℕ
list_section id F [] = []
list_section id F (a ∷ items) = id ∷ (sized (vec F)).write (a ∷ items)

abbrev pub ListFits : {A : Type 0} → Format A → List A → Type 0
ListFits F [] = Unit {0}
ListFits F (a ∷ items) = (sized (vec F)).Fits (a ∷ items)

-- a section that holds a number, if it is there
abbrev pub number_section : ℕ → Option ℕ → List ℕ
number_section id None = []
number_section id (Some n) = id ∷ (sized u32_format).write n

abbrev pub NumberFits : Option ℕ → Type 0
NumberFits None = Unit {0}
NumberFits (Some n) = (sized u32_format).Fits n

abbrev pub front_bytes : Module → List ℕ
front_bytes m =
    list_section 1 core_func m.types ++ (list_section 2 import m.imports ++ (list_section 3 u32_format m.functions ++ (
    list_section 4 table_type m.tables ++ (list_section 5 limits m.memories ++ list_section 6 global m.globals))))

abbrev pub back_bytes : Module → List ℕ
back_bytes m =
    list_section 7 export m.exports ++ (number_section 8 m.start ++ (list_section 9 elements m.elements ++ (
    number_section 12 m.data_count ++ (list_section 10 (sized body) m.code ++ list_section 11 segment m.segments))))

abbrev pub module_bytes : Module → List ℕ
module_bytes m = preamble ++ (front_bytes m ++ back_bytes m)

-- each list may be written
pub record ModuleFits (m : Module) : Type 0 where
  pub types : ListFits core_func m.types
  pub imports : ListFits import m.imports
  pub functions : ListFits u32_format m.functions
  pub tables : ListFits table_type m.tables
  pub memories : ListFits limits m.memories
  pub globals : ListFits global m.globals
  pub exports : ListFits export m.exports
  pub start : NumberFits m.start
  pub elements : ListFits elements m.elements
  pub data_count : NumberFits m.data_count
  pub code : ListFits (sized body) m.code
  pub segments : ListFits segment m.segments

-- as many as a count says, if there is one
abbrev pub IsCounted : Option ℕ → ℕ → Type 0
IsCounted None n = Unit {0}
IsCounted (Some count) n = n ≡ count

-- a module that may be written: each of its lists may, there are as many bodies as functions, and as many segments as a data
-- count says
pub record IsWritable (m : Module) : Type 0 where
  pub fits : ModuleFits m
  pub bodies : length m.code ≡ length m.functions
  pub segments : IsCounted m.data_count (length m.segments)
