-- A function is lowered, where one stands at the index.
use Rattle.std.proofs.Common.{◌≡◌, ◌∙◌, ap, sym, refl, ℕ, List, Option, Some, None, slice_get}
use Rattle.std.specs.Option.{option_map, option_and_then}
use Rattle.std.proofs.lemmas.Option.{none-some}
use Rattle.virt_base.specs.declared.core_type.CoreType.{CoreType}
use Rattle.wasm_ast.specs.declared.module.CoreFunc.{CoreFunc}
use Rattle.wasm_ast.specs.declared.component.CanonOption.{CanonOption}
use Rattle.comp_worlds.specs.Groups.{Target, Func, LoweredFunc}
use Rattle.comp_link.specs.Plans.{Lowers}
use Rattle.comp_link.specs.Linking.{Making, options_in, with_canon, with_lowered, link_item}
use Rattle.comp_interp.proofs.Gathering.{Unchanged}

abbrev func_at : Making → List CanonOption → Option Target → Option Func
func_at g os o = option_map (λ target. LoweredFunc target (options_in g os)) o

none_mapped : (g : Making) (os : List CanonOption) (o : Option Target) → None ≡ func_at g os o → o ≡ None
none_mapped g os None e = refl
none_mapped g os (Some target) e = absurd (none-some _ e)

pub none_lowered : (g : Making) (func : ℕ) (os : List CanonOption) (ty : CoreFunc) → None ≡ func_at g os (option_and_then (λ o. o) (slice_get g.functions func)) → link_item (Lowers func os ty) g ≡ g
none_lowered g func os ty e = ap (with_lowered g ty os) (none_mapped g os (option_and_then (λ o. o) (slice_get g.functions func)) e)

some_mapped : (g : Making) (os : List CanonOption) (ty : CoreFunc) (f : Func) (o : Option Target) → Some f ≡ func_at g os o → with_lowered g ty os o ≡ with_canon g ty f
some_mapped g os ty f None e = absurd (none-some f (sym e))
some_mapped g os ty f (Some target) e = let same : f ≡ LoweredFunc target (options_in g os) = cc in ap (with_canon g ty) (sym same)

pub some_lowered : (g : Making) (func : ℕ) (os : List CanonOption) (ty : CoreFunc) (f : Func) → Some f ≡ func_at g os (option_and_then (λ o. o) (slice_get g.functions func)) → link_item (Lowers func os ty) g ≡ with_canon g ty f
some_lowered g func os ty f e = some_mapped g os ty f (option_and_then (λ o. o) (slice_get g.functions func)) e

pub same_unchanged : (m m' : Making) → m' ≡ m → Unchanged m m'
same_unchanged m m' e = record { whole = ap (λ (x : Making). x.whole) e; instance = ap (λ (x : Making). x.instance) e; shadow = ap (λ (x : Making). x.shadow) e; canons = ap (λ (x : Making). x.canons) e }

pub same_type : (params results : List CoreType) (ty : CoreFunc) → params ≡ ty.params → results ≡ ty.results → ◌≡◌ {A = CoreFunc} (record { params = params; results = results }) ty
same_type params results ty e f =
    ap (λ p. let t : CoreFunc = record { params = p; results = results } in t) e ∙ ap (λ r. let t : CoreFunc = record { params = ty.params; results = r } in t) f
