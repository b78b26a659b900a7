-- The definitions on small components: what each of them must say.
use Rattle.std.proofs.Common.{◌≡◌, ℕ, zero, suc, List, [], ◌∷◌, Option, Some, None, refl, inl, inr}
use Rattle.std.specs.Prelude.{codes}
use Rattle.wasm_ast.specs.declared.component.Span.{Span}
use Rattle.wasm_ast.specs.declared.component.Alias.TheVariants as aliases
use Rattle.wasm_ast.specs.declared.component.OuterSort.TheVariants as outer_sorts
use Rattle.wasm_ast.specs.declared.component.Sort.TheVariants as sorts
use Rattle.wasm_ast.specs.declared.component.Instance.TheVariants as instances
use Rattle.wasm_ast.specs.declared.component.Primitive.TheVariants as primitives
use Rattle.wasm_ast.specs.declared.component.ValType.{ValType}
use Rattle.wasm_ast.specs.declared.component.ValType.TheVariants as values
use Rattle.wasm_ast.specs.declared.component.LabelType.{LabelType}
use Rattle.wasm_ast.specs.declared.component.ExternDesc.{ExternDesc}
use Rattle.wasm_ast.specs.declared.component.ExternDesc.TheVariants as descs
use Rattle.wasm_ast.specs.declared.component.TypeDef.TheVariants as defs
use Rattle.wasm_ast.specs.declared.component.TypeItem.TheVariants as items
use Rattle.wasm_ast.specs.declared.component.Canon.TheVariants as canons
use Rattle.wasm_ast.specs.declared.component.ComponentImport.{ComponentImport}
use Rattle.wasm_ast.specs.declared.component.ComponentExport.{ComponentExport}
use Rattle.wit_types.specs.Plain.{Plain, UnsignedType, OneByte, ListType}
use Rattle.comp_types.specs.Items.{ValueKind}
use Rattle.comp_grammar.specs.Trees.{Part, Tree, Instances, Aliases, Types, Canons, Imports, Exports, Nested, End, More}
use Rattle.comp_types.specs.Declarations.{ATypeDef}
use Rattle.comp_types.specs.Spaces.{Space, and_type, entry_of}
use Rattle.comp_types.specs.Definitions.{AType}
use Rattle.comp_types.specs.Added.{root, entered, after_part}
use Rattle.comp_types.specs.Faults.{fault}
use Rattle.comp_types.specs.Validity.{BreaksComponent, IsValidComponent}
use Rattle.comp_types.proofs.FaultLaws.{all_hold, least_fails, arguments_fail}
use Rattle.comp_types.proofs.VerdictLaws.{sound_tree}

abbrev a_byte : ValType
a_byte = values.Primitive primitives.U8

abbrev labelled : List ℕ → ValType → LabelType
labelled label ty = record { label = label; ty = ty }

abbrev only : Part → Tree
only part = More part End

abbrev two : Part → Part → Tree
two a b = More a (only b)

abbrev three : Part → Part → Part → Tree
three a b c = More a (two b c)

abbrev import_of : List ℕ → ExternDesc → ComponentImport
import_of name desc = record { name = name; desc = desc }

abbrev export_of : List ℕ → ℕ → Option ExternDesc → ComponentExport
export_of name index desc = record { name = name; sort = sorts.Type; index = index; desc = desc }

abbrev somewhere : Span
somewhere = record { from = 0; to = 0 }

-- ---- indexes and outer aliases

far_away : BreaksComponent (only (Aliases (aliases.Outer outer_sorts.Type 1 0 ∷ []))) 8 0
far_away = inl (refl, inl (least_fails _ _ _ 8 refl tt tt))

not_there : BreaksComponent (only (Aliases (aliases.Outer outer_sorts.Type 0 0 ∷ []))) 3 0
not_there = inl (refl, inl (least_fails _ _ _ 3 refl tt tt))

-- a resource leaves its component by an outer alias
carried_out : BreaksComponent (two (Types (items.Define (defs.Resource None) ∷ [])) (Nested somewhere (only (Aliases (aliases.Outer outer_sorts.Type 1 0 ∷ []))))) 2 1
carried_out =
    let s = after_part [] root (Types (items.Define (defs.Resource None) ∷ [])) in
    inr (
      (all_hold _ _ _ refl tt tt, tt),
      (
        0,
        refl,
        inl (
          refl,
          (
            refl,
            λ valid.
                sound_tree (s ∷ []) (entered s) (only (Aliases (aliases.Outer outer_sorts.Type 1 0 ∷ []))) 8 0 valid (inl (refl, inl (least_fails _ _ _ 8 refl tt tt))),
          ),
        ),
      ),
    )

-- what names no resource may
not_carried : IsValidComponent (two (Types (items.Define (defs.Primitive primitives.U8) ∷ [])) (Nested somewhere (only (Aliases (aliases.Outer outer_sorts.Type 1 0 ∷ [])))))
not_carried = ((all_hold _ _ _ refl tt tt, tt), (((all_hold _ _ _ refl tt tt, tt), tt), tt))

-- ---- types

-- a repeated label, and an index that passes its space
label_and_index : BreaksComponent (only (Types (items.Define (defs.Record (labelled (codes "a") (values.Index 5) ∷ labelled (codes "a") a_byte ∷ [])) ∷ []))) 3 0
label_and_index = inl (refl, inl (least_fails _ _ _ 3 refl tt tt))

-- labels in another case
labels_alike : BreaksComponent (only (Types (items.Define (defs.Record (labelled (codes "a") a_byte ∷ labelled (codes "A") a_byte ∷ [])) ∷ []))) 9 0
labels_alike = inl (refl, inl (least_fails _ _ _ 9 refl tt tt))

own_of_a_byte : BreaksComponent (only (Types (items.Define (defs.Primitive primitives.U8) ∷ items.Define (defs.Own 0) ∷ []))) 12 0
own_of_a_byte = inl (refl, inr (all_hold _ _ _ refl tt tt, inl (least_fails _ _ _ 12 refl tt tt)))

borrow_in_result : BreaksComponent (only (Types (items.Define (defs.Resource None) ∷ items.Define (defs.Borrow 0) ∷ items.Define (defs.Func [] (Some (values.Index 1))) ∷ []))) 13 0
borrow_in_result = inl (refl, inr (all_hold _ _ _ refl tt tt, inr (all_hold _ _ _ refl tt tt, inl (least_fails _ _ _ 13 refl tt tt))))

-- lists in one another, around a byte
abbrev lists : ℕ → Plain
lists zero = UnsignedType OneByte
lists (suc n) = ListType (lists n)

abbrev with_lists : ℕ → Space
with_lists n = and_type root (entry_of (ValueKind (lists n)))

deep_list : fault [] (with_lists 98) (AType (ATypeDef (defs.List (values.Index 0)))) ≡ None
deep_list = refl

too_deep_list : fault [] (with_lists 99) (AType (ATypeDef (defs.List (values.Index 0)))) ≡ Some 10
too_deep_list = refl

deep_function : fault [] (with_lists 98) (AType (ATypeDef (defs.Func (labelled (codes "a") (values.Index 0) ∷ []) None))) ≡ None
deep_function = refl

too_deep_function : fault [] (with_lists 99) (AType (ATypeDef (defs.Func (labelled (codes "a") (values.Index 0) ∷ []) None))) ≡ Some 10
too_deep_function = refl

-- ---- instance types

-- a repeated name, and after it an index that passes its space
name_then_index : BreaksComponent (only (Types (items.Define (defs.Instance 3) ∷ items.Export (codes "a") descs.Resource ∷ items.Export (codes "A") descs.Resource ∷ items.Export (codes "b") (descs.Func 9) ∷ []))) 15 0
name_then_index = inl (refl, inl (inl (inr (all_hold _ _ _ refl tt tt, inl (least_fails _ _ _ 15 refl tt tt)))))

resource_in_instance_type : BreaksComponent (only (Types (items.Define (defs.Instance 1) ∷ items.Define (defs.Resource None) ∷ []))) 14 0
resource_in_instance_type = inl (refl, inl (inl (inl (least_fails _ _ _ 14 refl tt tt))))

destructor_in_instance_type : BreaksComponent (only (Types (items.Define (defs.Instance 1) ∷ items.Define (defs.Resource (Some 0)) ∷ []))) 3 0
destructor_in_instance_type = inl (refl, inl (inl (inl (least_fails _ _ _ 3 refl tt tt))))

-- ---- imports and exports

names_alike : BreaksComponent (only (Imports (import_of (codes "a") descs.Resource ∷ import_of (codes "A") descs.Resource ∷ []))) 19 0
names_alike = inl (refl, inr (all_hold _ _ _ refl tt tt, inl (least_fails _ _ _ 19 refl tt tt)))

digit_first : BreaksComponent (only (Imports (import_of (codes "a-1") descs.Resource ∷ []))) 20 0
digit_first = inl (refl, inl (least_fails _ _ _ 20 refl tt tt))

any_version : IsValidComponent (only (Imports (import_of (codes "a:b/c@...") descs.Resource ∷ [])))
any_version = ((all_hold _ _ _ refl tt tt, tt), tt)

-- a resource of the component's own in the type of an import
own_resource_imported : BreaksComponent (two (Types (items.Define (defs.Resource None) ∷ items.Define (defs.Own 0) ∷ items.Define (defs.Func (labelled (codes "a") (values.Index 1) ∷ []) None) ∷ []))
    (Imports (import_of (codes "f") (descs.Func 2) ∷ []))) 8 1
own_resource_imported = inr ((all_hold _ _ _ refl tt tt, (all_hold _ _ _ refl tt tt, (all_hold _ _ _ refl tt tt, tt))), (0, refl, inl (refl, inl (least_fails _ _ _ 8 refl tt tt))))

-- a method that takes its resource away
method_takes_own : BreaksComponent (three (Imports (import_of (codes "r") descs.Resource ∷ [])) (Types (items.Define (defs.Own 0) ∷ items.Define (defs.Func (labelled (codes "self") (values.Index 1) ∷ []) None) ∷ []))
    (Imports (import_of (codes "[method]r.m") (descs.Func 2) ∷ []))) 24 2
method_takes_own = inr ((all_hold _ _ _ refl tt tt, tt), (1, refl, inr ((all_hold _ _ _ refl tt tt, (all_hold _ _ _ refl tt tt, tt)), (0, refl, inl (refl, inl (least_fails _ _ _ 24 refl tt tt))))))

-- ---- resources of others

new_of_imported : BreaksComponent (two (Imports (import_of (codes "r") descs.Resource ∷ [])) (Canons (canons.ResourceNew 0 ∷ []))) 18 1
new_of_imported = inr ((all_hold _ _ _ refl tt tt, tt), (0, refl, inl (refl, inl (least_fails _ _ _ 18 refl tt tt))))

-- an export that states no type leaves a resource what it is, and one that states a fresh resource does not
new_of_exported : IsValidComponent (three (Types (items.Define (defs.Resource None) ∷ [])) (Exports (export_of (codes "r") 0 None ∷ [])) (Canons (canons.ResourceNew 1 ∷ [])))
new_of_exported = ((all_hold _ _ _ refl tt tt, tt), ((all_hold _ _ _ refl tt tt, tt), ((all_hold _ _ _ refl tt tt, tt), tt)))

new_of_abstract : BreaksComponent (three (Types (items.Define (defs.Resource None) ∷ [])) (Exports (export_of (codes "r") 0 (Some descs.Resource) ∷ [])) (Canons (canons.ResourceNew 1 ∷ []))) 18 2
new_of_abstract = inr ((all_hold _ _ _ refl tt tt, tt), (1, refl, inr ((all_hold _ _ _ refl (0, refl) tt, tt), (0, refl, inl (refl, inl (least_fails _ _ _ 18 refl tt tt))))))

-- ---- instantiation

-- an import without an argument
without_argument : BreaksComponent (two (Nested somewhere (only (Imports (import_of (codes "r") descs.Resource ∷ [])))) (Instances (instances.Instantiate 0 [] ∷ []))) 23 1
without_argument = inr (((all_hold _ _ _ refl tt tt, tt), tt), (0, refl, inl (refl, inl (arguments_fail _ _ _ refl tt (λ fits. let h = fits.1.1.1 in cc)))))
