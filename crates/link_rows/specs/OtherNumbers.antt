-- Two components that make a handle of each of two resources. They import the resources in another order, and so know them by other
-- numbers.
use Rattle.std.specs.Prelude.{◌≡◌, ℕ, List, [], ◌∷◌, map, pos, codes, Some, None}
use Rattle.wasm_ast.specs.declared.instr.Instr.TheVariants.{Plain, Call}
use Rattle.wasm_ast.specs.declared.instr.Op.TheVariants.{Drop}
use Rattle.wasm_ast.specs.declared.component.ValType.TheVariants as values
use Rattle.wasm_ast.specs.declared.component.ExternDesc.TheVariants as descs
use Rattle.wasm_ast.specs.declared.component.TypeDef.TheVariants as defs
use Rattle.wasm_ast.specs.declared.component.TypeItem.TheVariants as items
use Rattle.wasm_ast.specs.declared.component.Canon.TheVariants as canons
use Rattle.wit_types.specs.Plain.{Name, Plain as PlainType, OwnType, End as NoParts}
use Rattle.wit_types.specs.PlainValue.{End as NoValues}
use Rattle.host_port.specs.Calls.{PlainObservation, Called, Returned}
use Rattle.host_port.specs.Hosts.{HostStep}
use Rattle.host_port.specs.Untyped.{Number}
use Rattle.host_port.specs.Scripts.{AValue, Script, script}
use Rattle.comp_grammar.specs.Trees.{Part, Tree, Aliases, Types, Canons, Imports}
use Rattle.comp_link.specs.Components.{component_obs}
use Rattle.output_same.specs.Shown.{untyped, showing}
use Rattle.link_rows.specs.Trees.{tree, core_type, from_h, module_of, func_of, core_func_of, core_named, given_core, with_core, exports_f}
use Rattle.link_rows.specs.Rows.{f}

-- an instance with a resource and what makes a handle of it
abbrev pub maker : Part
maker = Types (items.Define (defs.Instance 4) ∷ items.Export (codes "r") descs.Resource ∷ items.Define (defs.Own 0) ∷ items.Define (defs.Func [] (Some (values.Index 1))) ∷ items.Export (codes "make") (descs.Func 2) ∷ [])

abbrev pub import_as : Name → ℕ → Part
import_as name type = Imports (record { name = name; desc = descs.Instance type } ∷ [])

-- it imports the one and then the other, and makes a handle of the instance a and then one of b
abbrev pub makers : (first second : Name) → (a b : ℕ) → Tree
makers first second a b = tree (
    maker
    ∷ import_as first 0
    ∷ maker
    ∷ import_as second 1
    ∷ Aliases (func_of a (codes "make") ∷ func_of b (codes "make") ∷ [])
    ∷ Canons (canons.Lower 0 [] ∷ canons.Lower 1 [] ∷ [])
    ∷ given_core (core_named (codes "one") 0 ∷ core_named (codes "two") 1 ∷ [])
    ∷ module_of (core_type 0 1 ∷ core_type 0 1 ∷ core_type 0 0 ∷ []) (from_h (codes "one") 0 ∷ from_h (codes "two") 1 ∷ []) (Call 0 ∷ Plain Drop ∷ Call 1 ∷ Plain Drop ∷ [])
    ∷ with_core 0 0
    ∷ Aliases (core_func_of 1 ∷ [])
    ∷ Types (items.Define (defs.Func [] None) ∷ [])
    ∷ Canons (canons.Lift 2 [] 2 ∷ [])
    ∷ exports_f 2
    ∷ [])

abbrev pub app : Tree
app = makers (codes "a") (codes "b") 0 1

abbrev pub output : Tree
output = makers (codes "b") (codes "a") 1 0

abbrev pub two_handles : Script
two_handles = AValue (Number (pos 7)) ∷ AValue (Number (pos 8)) ∷ []

abbrev pub made : Name → PlainType → PlainObservation
made interface ty = Called (record { interface = interface; function = codes "make"; params = NoParts; args = NoValues; answer = Some ty })

abbrev pub makes : Tree → HostStep Script → List PlainObservation
makes c h = component_obs c h two_handles (f ∷ []) 100

-- what both are seen to do, without types
abbrev pub made_without : Name → PlainObservation
made_without interface = Called (record { interface = interface; function = codes "make"; params = NoParts; args = NoValues; answer = None })

abbrev pub without_types : List PlainObservation
without_types = made_without (codes "a") ∷ made_without (codes "b") ∷ Returned None ∷ []

pub record KindsExamples : Type 0 where
  -- each by its own numbers
  pub by_app : makes app script ≡ made (codes "a") (OwnType 1) ∷ made (codes "b") (OwnType 3) ∷ Returned None ∷ []
  pub by_output : makes output script ≡ made (codes "a") (OwnType 3) ∷ made (codes "b") (OwnType 1) ∷ Returned None ∷ []
  -- without types they are seen to do the same, and so they are over the host that shows none
  pub alike : map untyped (makes app script) ≡ map untyped (makes output script)
  pub shown_by_app : makes app (showing untyped script) ≡ without_types
  pub shown_by_output : makes output (showing untyped script) ≡ without_types
