-- When the items of a section of types may be written.
use Rattle.std.proofs.Common.{rules, ◌≡◌, ◌∙◌, refl, sym, ap, subst, ℕ, zero, suc, ◌+◌, ◌-◌, ◌<◌, ◌^◌, List, [], ◌∷◌, ◌++◌, length, Bool, true, false, Option, None, Some, arith}
use Rattle.std.specs.Prelude.{◌==◌, ◌&&◌, if◌then◌else◌}
use Rattle.std.proofs.lemmas.Bool.{ne_eqb}
use Rattle.std.specs.List.{AllByRecursion}
use Rattle.wasm_format.specs.Format.{vec, u32_format, name}
use Rattle.wasm_format.specs.Numbers.{s33_index, s33_format}
use Rattle.wasm_format.specs.Until.{UntilFits}
use Rattle.wasm_format.proofs.LeastLaws.{BeginsAs}
use Rattle.wasm_format.proofs.LeastNumbers.{begins_s33_index}
use Rattle.wasm_ast.specs.ComponentItems.{extern_name, extern_desc}
use Rattle.wasm_ast.specs.KeptTypes.{declaration_count}
use Rattle.wasm_ast.specs.declared.component.Primitive.{Primitive}
use Rattle.wasm_ast.specs.declared.component.Primitive.TheVariants as primitives
use Rattle.wasm_ast.specs.declared.component.ValType.{ValType}
use Rattle.wasm_ast.specs.declared.component.ValType.TheVariants as values
use Rattle.wasm_ast.specs.declared.component.LabelType.{LabelType}
use Rattle.wasm_ast.specs.declared.component.CaseType.{CaseType}
use Rattle.wasm_ast.specs.declared.component.TypeDef.{TypeDef}
use Rattle.wasm_ast.specs.declared.component.TypeDef.TheVariants as defs
use Rattle.wasm_ast.specs.declared.component.ExternDesc.{ExternDesc}
use Rattle.wasm_ast.specs.declared.component.TypeAlias.{TypeAlias}
use Rattle.wasm_ast.specs.declared.component.TypeAlias.TheVariants as aliases
use Rattle.wasm_ast.specs.declared.component.TypeItem.{TypeItem}
use Rattle.wasm_ast.specs.declared.component.TypeItem.TheVariants as items
use Rattle.comp_grammar.specs.Types.{primitive, primitive_of, val_type, maybe_type, label_type, case_type, func_result, destructor, aggregate_def, other_def, type_def, declarations_in}
use Rattle.comp_grammar.specs.TypeSections.{type_alias, definition, declaration, declarations_of, type_walk, type_items, own_types, all_due, after_item, open_after, opened, declared, Due}
use Rattle.comp_pieces.specs.Typing.{IsPlainDef, IsDefined, IsDeclared}

-- ---- value types

primitive_def_law : (p : Primitive) → type_def.Fits (defs.Primitive p)
unfolding type_def primitive_of
primitive_def_law primitives.Bool = (refl, refl)
primitive_def_law primitives.S8 = (refl, refl)
primitive_def_law primitives.U8 = (refl, refl)
primitive_def_law primitives.S16 = (refl, refl)
primitive_def_law primitives.U16 = (refl, refl)
primitive_def_law primitives.S32 = (refl, refl)
primitive_def_law primitives.U32 = (refl, refl)
primitive_def_law primitives.S64 = (refl, refl)
primitive_def_law primitives.U64 = (refl, refl)
primitive_def_law primitives.Char = (refl, refl)
primitive_def_law primitives.String = (refl, refl)

pub primitive_law : (p : Primitive) → val_type.Fits (values.Primitive p)
unfolding val_type primitive primitive_of
primitive_law primitives.Bool = ((refl, refl), refl)
primitive_law primitives.S8 = ((refl, refl), refl)
primitive_law primitives.U8 = ((refl, refl), refl)
primitive_law primitives.S16 = ((refl, refl), refl)
primitive_law primitives.U16 = ((refl, refl), refl)
primitive_law primitives.S32 = ((refl, refl), refl)
primitive_law primitives.U32 = ((refl, refl), refl)
primitive_law primitives.S64 = ((refl, refl), refl)
primitive_law primitives.U64 = ((refl, refl), refl)
primitive_law primitives.Char = ((refl, refl), refl)
primitive_law primitives.String = ((refl, refl), refl)

s33_law : (n : ℕ) → u32_format.Fits n → s33_index.Fits n
unfolding s33_index s33_format u32_format
s33_law n low = (refl, (refl, search rules))

pub index_law : (n : ℕ) → u32_format.Fits n → val_type.Fits (values.Index n)
unfolding val_type
index_law n low = let h = s33_law n low in ((refl, h), begins_s33_index.begins n h)

pub absent_law : maybe_type.Fits None
unfolding maybe_type
absent_law = refl

pub present_law : (t : ValType) → val_type.Fits t → maybe_type.Fits (Some t)
unfolding maybe_type
present_law t h = (refl, h)

pub no_answer_law : func_result.Fits None
unfolding func_result
no_answer_law = (refl, (refl, refl))

pub answer_law : (t : ValType) → val_type.Fits t → func_result.Fits (Some t)
unfolding func_result
answer_law t h = (refl, h)

pub no_destructor_law : destructor.Fits None
unfolding destructor
no_destructor_law = refl

pub destructor_law : (f : ℕ) → u32_format.Fits f → destructor.Fits (Some f)
unfolding destructor
destructor_law f h = (refl, h)

pub label_law : (l : LabelType) → name.Fits l.label → val_type.Fits l.ty → label_type.Fits l
unfolding label_type
label_law l n t = (refl, (n, t))

pub case_law : (c : CaseType) → name.Fits c.label → maybe_type.Fits c.ty → case_type.Fits c
unfolding case_type
case_law c n t = (refl, (n, (refl, (t, refl))))

-- ---- definitions

pub primitive_plain : (p : Primitive) → IsPlainDef (defs.Primitive p)
primitive_plain p = record { fits = primitive_def_law p; none = refl }

pub record_plain : (fields : List LabelType) → (vec label_type).Fits fields → IsPlainDef (defs.Record fields)
unfolding type_def aggregate_def
record_plain fields h = record { fits = (refl, h); none = refl }

pub variant_plain : (cases : List CaseType) → (vec case_type).Fits cases → IsPlainDef (defs.Variant cases)
unfolding type_def aggregate_def
variant_plain cases h = record { fits = (refl, h); none = refl }

pub list_plain : (t : ValType) → val_type.Fits t → IsPlainDef (defs.List t)
unfolding type_def aggregate_def
list_plain t h = record { fits = (refl, h); none = refl }

pub tuple_plain : (types : List ValType) → (vec val_type).Fits types → IsPlainDef (defs.Tuple types)
unfolding type_def aggregate_def
tuple_plain types h = record { fits = (refl, h); none = refl }

pub flags_plain : (labels : List (List ℕ)) → (vec name).Fits labels → IsPlainDef (defs.Flags labels)
unfolding type_def aggregate_def
flags_plain labels h = record { fits = (refl, h); none = refl }

pub enum_plain : (labels : List (List ℕ)) → (vec name).Fits labels → IsPlainDef (defs.Enum labels)
unfolding type_def aggregate_def
enum_plain labels h = record { fits = (refl, h); none = refl }

pub option_plain : (t : ValType) → val_type.Fits t → IsPlainDef (defs.Option t)
unfolding type_def other_def
option_plain t h = record { fits = (refl, h); none = refl }

pub result_plain : (ok err : Option ValType) → maybe_type.Fits ok → maybe_type.Fits err → IsPlainDef (defs.Result ok err)
unfolding type_def other_def
result_plain ok err h k = record { fits = (refl, (h, k)); none = refl }

pub own_plain : (r : ℕ) → u32_format.Fits r → IsPlainDef (defs.Own r)
unfolding type_def other_def
own_plain r h = record { fits = (refl, h); none = refl }

pub borrow_plain : (r : ℕ) → u32_format.Fits r → IsPlainDef (defs.Borrow r)
unfolding type_def other_def
borrow_plain r h = record { fits = (refl, h); none = refl }

pub func_plain : (params : List LabelType) (answer : Option ValType) → (vec label_type).Fits params → func_result.Fits answer → IsPlainDef (defs.Func params answer)
unfolding type_def other_def
func_plain params answer h k = record { fits = (refl, (h, k)); none = refl }

pub resource_plain : (f : Option ℕ) → destructor.Fits f → IsPlainDef (defs.Resource f)
unfolding type_def other_def
resource_plain f h = record { fits = (refl, (refl, (refl, h))); none = refl }

instance_fits : (n : ℕ) → u32_format.Fits n → type_def.Fits (defs.Instance n)
unfolding type_def other_def
instance_fits n h = (refl, h)

-- ---- items

pub alias_export_law : (i : ℕ) (n : List ℕ) → u32_format.Fits i → name.Fits n → IsDeclared (items.Alias (aliases.Export i n))
unfolding declaration type_alias
alias_export_law i n low h = record { fits = (refl, (refl, (refl, (refl, (low, h))))); none = refl }

pub alias_outer_law : (c i : ℕ) → u32_format.Fits c → u32_format.Fits i → IsDeclared (items.Alias (aliases.Outer c i))
unfolding declaration type_alias
alias_outer_law c i low h = record { fits = (refl, (refl, (refl, (refl, (low, h))))); none = refl }

pub export_declared : (n : List ℕ) (d : ExternDesc) → name.Fits n → extern_desc.Fits d → IsDeclared (items.Export n d)
unfolding declaration extern_name
export_declared n d h k = record { fits = (refl, (h, k)); none = refl }

pub define_declared : (d : TypeDef) → IsPlainDef d → IsDeclared (items.Define d)
unfolding declaration
define_declared d h = record { fits = (refl, h.fits); none = h.none }

pub define_defined : (d : TypeDef) → IsPlainDef d → IsDefined (items.Define d)
unfolding definition
define_defined d h = record { fits = (refl, h.fits); none = h.none }

-- ---- whole sections

not_zero : (k : ℕ) → (suc k == 0) ≡ false
not_zero k = ne_eqb (suc k) 0 (λ e. absurd (omega (arith, e)))

not_one : (k : ℕ) → (suc (suc k) == 1) ≡ false
not_one k = ne_eqb (suc (suc k)) 1 (λ e. absurd (omega (arith, e)))

one_less : (k : ℕ) → suc k - 1 ≡ k
one_less k = omega arith

opened_none : (n : ℕ) (open_now : List ℕ) → n ≡ 0 → opened n open_now ≡ open_now
opened_none n open_now e = subst (λ (k : ℕ). opened k open_now ≡ open_now) (sym e) refl

opened_some : (k : ℕ) → opened (suc k) [] ≡ suc k ∷ []
opened_some k = ap (λ (b : Bool). if b then [] else (suc k ∷ [])) (not_zero k)

declared_some : (k : ℕ) → declared (suc (suc k) ∷ []) ≡ suc k ∷ []
declared_some k = ap (λ (b : Bool). if b then [] else ((suc (suc k) - 1) ∷ [])) (not_one k) ∙ ap (λ (n : ℕ). n ∷ []) (one_less (suc k))

-- what is open after one that is declared
open_behind : (item : TypeItem) (k : ℕ) → IsDeclared item → open_after (suc (suc k) ∷ []) item ≡ suc k ∷ []
open_behind item k h = opened_none (declarations_of item) (declared (suc (suc k) ∷ [])) h.none ∙ declared_some k

none_behind : (item : TypeItem) → IsDeclared item → open_after (1 ∷ []) item ≡ []
none_behind item h = opened_none (declarations_of item) [] h.none

own_defined : (list : List TypeItem) → AllByRecursion IsDefined list → own_types [] list ≡ length list
own_defined [] h = refl
own_defined (item ∷ rest) h =
    ap (λ (o : List ℕ). 1 + own_types o rest) (opened_none (declarations_of item) [] h.0.none) ∙ omega (arith, own_defined rest h.1)

due_behind : (item : TypeItem) (k : ℕ) → IsDefined item → after_item (all_due (suc k)) item ≡ all_due k
due_behind item k h =
    ap (λ (n : ℕ). let d : Due = record { types = n; open_types = opened (declarations_of item) [] } in d) (one_less k)
    ∙ ap (λ (o : List ℕ). let d : Due = record { types = k; open_types = o } in d) (opened_none (declarations_of item) [] h.none)

until_defined : (list : List TypeItem) → AllByRecursion IsDefined list → UntilFits type_walk (all_due (length list)) list
unfolding type_walk
until_defined [] h = refl
until_defined (item ∷ rest) h = (
  ap (λ (b : Bool). b && true) (not_zero (length rest)),
  h.0.fits,
  subst (λ (d : Due). UntilFits type_walk d rest) (sym (due_behind item (length rest) h.0)) (until_defined rest h.1),
)

pub definitions_law : (list : List TypeItem) → length list < 2 ^ 32 → AllByRecursion IsDefined list → type_items.Fits list
unfolding type_items
definitions_law list few h =
    let e = own_defined list h in
    (subst (λ (k : ℕ). k < 2 ^ 32) (sym e) few, subst (λ (k : ℕ). UntilFits type_walk (all_due k) list) (sym e) (until_defined list h))

-- what is due in an instance type that is open
abbrev inside : List ℕ → Due
inside open_now = record { types = 0; open_types = open_now }

own_declared : (item : TypeItem) (list : List TypeItem) → IsDeclared item → AllByRecursion IsDeclared list → own_types (suc (length list) ∷ []) (item ∷ list) ≡ 0
own_declared item [] one h = ap (λ (o : List ℕ). 0 + own_types o []) (none_behind item one)
own_declared item (next ∷ rest) one h =
    ap (λ (o : List ℕ). 0 + own_types o (next ∷ rest)) (open_behind item (length rest) one) ∙ omega (arith, own_declared next rest h.0 h.1)

until_declared : (item : TypeItem) (list : List TypeItem) → IsDeclared item → AllByRecursion IsDeclared list → UntilFits type_walk (inside (suc (length list) ∷ [])) (item ∷ list)
unfolding type_walk
until_declared item [] one h = (refl, one.fits, subst (λ (o : List ℕ). UntilFits type_walk (inside o) []) (sym (none_behind item one)) refl)
until_declared item (next ∷ rest) one h =
    (refl, one.fits, subst (λ (o : List ℕ). UntilFits type_walk (inside o) (next ∷ rest)) (sym (open_behind item (length rest) one)) (until_declared next rest h.0 h.1))

-- an instance type with all that it declares
own_opened : (n : ℕ) (list : List TypeItem) → n ≡ length list → AllByRecursion IsDeclared list → own_types (opened n []) list ≡ 0
own_opened n [] e h = subst (λ (k : ℕ). own_types (opened k []) [] ≡ 0) (sym e) refl
own_opened n (item ∷ list) e h =
    subst (λ (k : ℕ). own_types (opened k []) (item ∷ list) ≡ 0) (sym e)
    (ap (λ (o : List ℕ). own_types o (item ∷ list)) (opened_some (length list)) ∙ own_declared item list h.0 h.1)

until_opened : (n : ℕ) (list : List TypeItem) → n ≡ length list → AllByRecursion IsDeclared list → UntilFits type_walk (inside (opened n [])) list
unfolding type_walk
until_opened n [] e h = subst (λ (k : ℕ). UntilFits type_walk (inside (opened k [])) []) (sym e) refl
until_opened n (item ∷ list) e h =
    subst (λ (k : ℕ). UntilFits type_walk (inside (opened k [])) (item ∷ list)) (sym e)
    (subst (λ (o : List ℕ). UntilFits type_walk (inside o) (item ∷ list)) (sym (opened_some (length list))) (until_declared item list h.0 h.1))

pub instance_law : (n : ℕ) (list : List TypeItem) → n ≡ length list → u32_format.Fits n → AllByRecursion IsDeclared list → type_items.Fits (items.Define (defs.Instance n) ∷ list)
unfolding type_items type_walk definition
instance_law n list e low h =
    let own : own_types [] (items.Define (defs.Instance n) ∷ list) ≡ 1 = ap (λ (k : ℕ). 1 + k) (own_opened n list e h) in
    let fits : UntilFits type_walk (all_due 1) (items.Define (defs.Instance n) ∷ list) = (refl, (refl, instance_fits n low), until_opened n list e h) in
    (subst (λ (k : ℕ). k < 2 ^ 32) (sym own) (omega arith), subst (λ (k : ℕ). UntilFits type_walk (all_due k) (items.Define (defs.Instance n) ∷ list)) (sym own) fits)

pub counted : (d : TypeDef) (n : ℕ) → declaration_count d ≡ Some n → d ≡ defs.Instance n
counted (defs.Instance m) n e = cc
counted (defs.Primitive p) n e = cc
counted (defs.Record fields) n e = cc
counted (defs.Variant cases) n e = cc
counted (defs.List t) n e = cc
counted (defs.Tuple types) n e = cc
counted (defs.Flags labels) n e = cc
counted (defs.Enum labels) n e = cc
counted (defs.Option t) n e = cc
counted (defs.Result ok err) n e = cc
counted (defs.Own r) n e = cc
counted (defs.Borrow r) n e = cc
counted (defs.Func params answer) n e = cc
counted (defs.Resource f) n e = cc
