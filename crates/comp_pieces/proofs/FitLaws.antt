-- When items of sections may be written.
use Rattle.std.proofs.Common.{rules, ◌≡◌, refl, ℕ, ◌<◌, ◌^◌, List, [], ◌∷◌, ◌++◌, length, true, Option, None, Some, arith}
use Rattle.std.specs.List.{AllByRecursion}
use Rattle.std.specs.Prelude.{IsUtf8}
use Rattle.std.proofs.lemmas.Str.{is_utf8-from_IsUtf8}
use Rattle.wasm_format.specs.Format.{vec, u32_format, name}
use Rattle.wasm_ast.specs.ComponentItems.{sort, extern_name, argument, instance, alias, type_alias_format, core_alias_format, extern_desc, type_bound, stated_desc, component_export}
use Rattle.wasm_ast.specs.declared.component.Sort.{Sort}
use Rattle.wasm_ast.specs.declared.component.Sort.TheVariants as sorts
use Rattle.wasm_ast.specs.declared.component.CoreSort.{CoreSort}
use Rattle.wasm_ast.specs.declared.component.CoreSort.TheVariants as core_sorts
use Rattle.wasm_ast.specs.declared.component.CoreArg.{CoreArg}
use Rattle.wasm_ast.specs.declared.component.CoreExport.{CoreExport}
use Rattle.wasm_ast.specs.declared.component.CoreInstance.{CoreInstance}
use Rattle.wasm_ast.specs.declared.component.CoreInstance.TheVariants as core_instances
use Rattle.wasm_ast.specs.declared.component.NamedItem.{NamedItem}
use Rattle.wasm_ast.specs.declared.component.Instance.{Instance}
use Rattle.wasm_ast.specs.declared.component.Instance.TheVariants as instances
use Rattle.wasm_ast.specs.declared.component.Alias.{Alias}
use Rattle.wasm_ast.specs.declared.component.Alias.TheVariants as aliases
use Rattle.wasm_ast.specs.declared.component.ExternDesc.{ExternDesc}
use Rattle.wasm_ast.specs.declared.component.ExternDesc.TheVariants as descs
use Rattle.wasm_ast.specs.declared.component.ComponentImport.{ComponentImport}
use Rattle.wasm_ast.specs.declared.component.ComponentExport.{ComponentExport}
use Rattle.wasm_ast.specs.declared.component.CanonOption.{CanonOption}
use Rattle.wasm_ast.specs.declared.component.CanonOption.TheVariants as options
use Rattle.wasm_ast.specs.declared.component.Canon.{Canon}
use Rattle.wasm_ast.specs.declared.component.Canon.TheVariants as canons
use Rattle.comp_grammar.specs.CoreInstances.{core_sort, core_arg, core_export, core_instance}
use Rattle.comp_grammar.specs.Items.{canon_option, canon, component_import}

pub text_law : (n : List ℕ) → IsUtf8 n → length n < 2 ^ 32 → name.Fits n
unfolding name
text_law n u short = (is_utf8-from_IsUtf8 n u, (short, tt))

pub number_law : (n : ℕ) → n < 2 ^ 32 → u32_format.Fits n
unfolding u32_format
number_law n low = low

extern_fits : (n : List ℕ) → name.Fits n → extern_name.Fits n
unfolding extern_name
extern_fits n h = h

sort_fits : (s : Sort) → sort.Fits s
unfolding sort
sort_fits sorts.Func = refl
sort_fits sorts.Type = refl
sort_fits sorts.Instance = refl

core_sort_fits : (s : CoreSort) → core_sort.Fits s
unfolding core_sort
core_sort_fits core_sorts.Func = refl
core_sort_fits core_sorts.Table = refl
core_sort_fits core_sorts.Memory = refl
core_sort_fits core_sorts.Global = refl

-- ---- core instances

pub core_arg_law : (a : CoreArg) → name.Fits a.name → u32_format.Fits a.instance → core_arg.Fits a
unfolding core_arg
core_arg_law a n i = (refl, (n, (refl, (refl, i))))

pub core_export_law : (e : CoreExport) → name.Fits e.name → u32_format.Fits e.index → core_export.Fits e
unfolding core_export
core_export_law e n i = (refl, (n, (core_sort_fits e.sort, i)))

pub core_given_law : (m : ℕ) (args : List CoreArg) → u32_format.Fits m → (vec core_arg).Fits args → core_instance.Fits (core_instances.Instantiate m args)
unfolding core_instance
core_given_law m args i all = (refl, (i, all))

pub core_inline_law : (exports : List CoreExport) → (vec core_export).Fits exports → core_instance.Fits (core_instances.Inline exports)
unfolding core_instance
core_inline_law exports all = (refl, all)

-- ---- instances

pub argument_law : (a : NamedItem) → name.Fits a.name → u32_format.Fits a.index → argument.Fits a
unfolding argument
argument_law a n i = (refl, (n, (sort_fits a.sort, i)))

pub given_law : (c : ℕ) (args : List NamedItem) → u32_format.Fits c → (vec argument).Fits args → instance.Fits (instances.Instantiate c args)
unfolding instance
given_law c args i all = (refl, (i, all))

-- ---- aliases

pub alias_law : (s : Sort) (i : ℕ) (n : List ℕ) → u32_format.Fits i → name.Fits n → alias.Fits (aliases.Export s i n)
unfolding alias type_alias_format
alias_law sorts.Func i n low h = (refl, (refl, (refl, (low, h))))
alias_law sorts.Type i n low h = (refl, (low, h))
alias_law sorts.Instance i n low h = (refl, (refl, (refl, (low, h))))

pub core_alias_law : (s : CoreSort) (i : ℕ) (n : List ℕ) → u32_format.Fits i → name.Fits n → alias.Fits (aliases.CoreExport s i n)
unfolding alias core_alias_format
core_alias_law core_sorts.Func i n low h = (refl, (refl, (refl, (low, h))))
core_alias_law core_sorts.Table i n low h = (refl, (refl, (refl, (low, h))))
core_alias_law core_sorts.Memory i n low h = (refl, (refl, (refl, (low, h))))
core_alias_law core_sorts.Global i n low h = (refl, (refl, (refl, (low, h))))

-- ---- canonical functions

pub memory_law : (n : ℕ) → u32_format.Fits n → canon_option.Fits (options.Memory n)
unfolding canon_option
memory_law n low = (refl, low)

pub realloc_law : (n : ℕ) → u32_format.Fits n → canon_option.Fits (options.Realloc n)
unfolding canon_option
realloc_law n low = (refl, low)

pub post_law : (n : ℕ) → u32_format.Fits n → canon_option.Fits (options.PostReturn n)
unfolding canon_option
post_law n low = (refl, low)

pub utf8_law : canon_option.Fits options.Utf8
unfolding canon_option
utf8_law = refl

pub lift_law : (f : ℕ) (os : List CanonOption) (ty : ℕ) → u32_format.Fits f → (vec canon_option).Fits os → u32_format.Fits ty → canon.Fits (canons.Lift f os ty)
unfolding canon
lift_law f os ty low all ok = (refl, (refl, (refl, (low, (all, ok)))))

pub lower_law : (f : ℕ) (os : List CanonOption) → u32_format.Fits f → (vec canon_option).Fits os → canon.Fits (canons.Lower f os)
unfolding canon
lower_law f os low all = (refl, (refl, (refl, (low, all))))

pub new_law : (ty : ℕ) → u32_format.Fits ty → canon.Fits (canons.ResourceNew ty)
unfolding canon
new_law ty low = (refl, low)

pub drop_law : (ty : ℕ) → u32_format.Fits ty → canon.Fits (canons.ResourceDrop ty)
unfolding canon
drop_law ty low = (refl, low)

pub rep_law : (ty : ℕ) → u32_format.Fits ty → canon.Fits (canons.ResourceRep ty)
unfolding canon
rep_law ty low = (refl, low)

-- ---- imports and exports

pub func_law : (ty : ℕ) → u32_format.Fits ty → extern_desc.Fits (descs.Func ty)
unfolding extern_desc
func_law ty low = (refl, low)

pub equal_law : (ty : ℕ) → u32_format.Fits ty → extern_desc.Fits (descs.TypeEq ty)
unfolding extern_desc type_bound
equal_law ty low = (refl, low)

pub resource_law : extern_desc.Fits descs.Resource
unfolding extern_desc type_bound
resource_law = refl

pub instance_law : (ty : ℕ) → u32_format.Fits ty → extern_desc.Fits (descs.Instance ty)
unfolding extern_desc
instance_law ty low = (refl, low)

pub import_law : (i : ComponentImport) → name.Fits i.name → extern_desc.Fits i.desc → component_import.Fits i
unfolding component_import
import_law i n d = (refl, (extern_fits i.name n, d))

pub stated_law : (d : ExternDesc) → extern_desc.Fits d → stated_desc.Fits (Some d)
unfolding stated_desc
stated_law d h = (refl, h)

pub unstated_law : stated_desc.Fits None
unfolding stated_desc
unstated_law = refl

pub export_law : (e : ComponentExport) → name.Fits e.name → u32_format.Fits e.index → stated_desc.Fits e.desc → component_export.Fits e
unfolding component_export
export_law e n i d = (refl, (extern_fits e.name n, (sort_fits e.sort, (i, d))))
