-- The clock reader, plugged to a component that answers the clock by a value of its own.
use Rattle.std.specs.Prelude.{◌≡◌, ℕ, List, [], ◌∷◌, pos, codes, Some, None}
use Rattle.wasm_ast.specs.declared.instr.Instr.TheVariants.{Plain}
use Rattle.wasm_ast.specs.declared.instr.Op.TheVariants.{I32Const}
use Rattle.wasm_ast.specs.declared.component.CoreInstance.TheVariants as core_instances
use Rattle.wasm_ast.specs.declared.component.NamedItem.{NamedItem}
use Rattle.wasm_ast.specs.declared.component.Sort.TheVariants as sorts
use Rattle.wasm_ast.specs.declared.component.Instance.TheVariants as instances
use Rattle.wasm_ast.specs.declared.component.Alias.TheVariants as aliases
use Rattle.wasm_ast.specs.declared.component.TypeDef.TheVariants as defs
use Rattle.wasm_ast.specs.declared.component.TypeItem.TheVariants as items
use Rattle.wasm_ast.specs.declared.component.Canon.TheVariants as canons
use Rattle.wit_types.specs.PlainValue.{IntValue}
use Rattle.host_port.specs.Calls.{PlainObservation, Returned, Spent}
use Rattle.comp_grammar.specs.Trees.{Tree, CoreInstances, Instances, Aliases, Types, Canons, Exports}
use Rattle.comp_worlds.specs.Observed.{obs}
use Rattle.comp_link.specs.Linking.{group_of}
use Rattle.comp_joins.specs.Joining.{Joint, joining, Fits, Agree, itself, Closed}
use Rattle.comp_joins.specs.Laws.{in_a_step}
use Rattle.link_rows.specs.Trees.{tree, somewhere, a_number, core_type, module_of, instance_type, import_h, func_of, core_func_of, exports_f, reader}
use Rattle.link_rows.specs.Rows.{clock, f, runs}

-- it imports the clock, and does not read it
abbrev pub adapter : Tree
adapter = tree (
    instance_type (codes "now") [] (Some a_number)
    ∷ import_h
    ∷ module_of (core_type 0 1 ∷ []) [] (Plain (I32Const (pos 42)) ∷ [])
    ∷ CoreInstances (core_instances.Instantiate 0 [] ∷ [])
    ∷ Aliases (core_func_of 0 ∷ [])
    ∷ Types (items.Define (defs.Func [] (Some a_number)) ∷ [])
    ∷ Canons (canons.Lift 0 [] 1 ∷ [])
    ∷ Instances (instances.Inline (record { name = codes "now"; sort = sorts.Func; index = 0 } ∷ []) ∷ [])
    ∷ Exports (record { name = codes "h"; sort = sorts.Instance; index = 1; desc = None } ∷ [])
    ∷ [])

abbrev pub as_h : ℕ → List NamedItem
as_h instance = record { name = codes "h"; sort = sorts.Instance; index = instance } ∷ []

abbrev pub joint : Joint
joint = record {
  front = instance_type (codes "now") [] (Some a_number) ∷ import_h ∷ [];
  first_span = somewhere;
  first_args = as_h 0;
  between = Aliases (aliases.Export sorts.Instance 1 (codes "h") ∷ []) ∷ [];
  second_span = somewhere;
  second_args = as_h 2;
  behind = Aliases (func_of 3 (codes "f") ∷ []) ∷ exports_f 0 ∷ [];
}

abbrev pub plugged : Tree
plugged = joining joint adapter reader

-- the reader over the adapter, each made in one step more
abbrev pub parts : ℕ → List PlainObservation
parts n = obs (in_a_step (group_of reader)) (in_a_step (group_of adapter) ∷ []) clock 5 (f ∷ []) n

abbrev pub answered : List PlainObservation
answered = Returned (Some (IntValue (pos 42))) ∷ []

pub record PluggedExamples : Type 0 where
  -- two components and two modules; the lifted function, `call` and the lowered function; the other lifted function and its instruction
  pub whole : runs plugged 9 ≡ answered
  pub fewer : runs plugged 8 ≡ Spent ∷ []
  pub over : parts 9 ≡ answered
  pub fewer_over : parts 8 ≡ Spent ∷ []

-- no resource needs another number
pub record PluggedPremises : Type 0 where
  pub fits : Fits joint adapter reader itself itself
  pub agree : Agree plugged adapter reader itself itself
  pub closed : Closed plugged adapter reader itself
