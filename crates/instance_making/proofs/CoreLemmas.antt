-- Core items under their names.
use Rattle.std.proofs.Common.{◌≡◌, ◌∙◌, ap, refl, ℕ, zero, suc, List, [], ◌∷◌, ◌++◌, Bool, true, false, Option, Some, None, cond, slice_get}
use Rattle.std.specs.Option.{option_or, option_and_then}
use Rattle.wasm_ast.specs.declared.component.CoreArg.{CoreArg}
use Rattle.wasm_ast.specs.declared.component.CoreExport.{CoreExport}
use Rattle.wasm_ast.specs.declared.module.Import.{Import as ModuleImport}
use Rattle.core_instance.specs.declared.external.Extern.{Extern}
use Rattle.core_instance.specs.declared.external.NamedExtern.{NamedExtern}
use Rattle.wit_types.specs.Plain.{Name}
use Rattle.comp_types.specs.Items.{same_name}
use Rattle.comp_link.specs.Linking.{Making as GroupMaking, core_item, core_find, named_core, arg_instance, extern_for}
use Rattle.instance_making.specs.declared.named.Named.{Named}
use Rattle.instance_making.specs.Named.{found, named_item, of_some}
use Rattle.instance_making.specs.Shown.{IsCoreInstance, AreCoreInstances}

pub or_if : {T : Type 0} (b : Bool) (x : T) (o p : Option T) → cond b (Some x) (option_or o p) ≡ option_or (cond b (Some x) o) p
or_if true x o p = refl
or_if false x o p = refl

pub core_last : (q : Name) (es : List NamedExtern) (e : NamedExtern) → core_find q (es ++ e ∷ []) ≡ option_or (core_find q es) (cond (same_name e.name q) (Some e.item) None)
core_last q [] e = refl
core_last q (x ∷ es) e = ap (λ o. cond (same_name x.name q) (Some x.item) o) (core_last q es e) ∙ or_if (same_name x.name q) x.item (core_find q es) (cond (same_name e.name q) (Some e.item) None)

abbrev pub named_one : GroupMaking → CoreExport → NamedExtern
named_one g e = record { name = e.name; item = core_item g e.sort e.index }

pub named_last : (g : GroupMaking) (es : List CoreExport) (e : CoreExport) → named_core g (es ++ e ∷ []) ≡ named_core g es ++ named_one g e ∷ []
named_last g [] e = refl
named_last g (x ∷ es) e = ap (λ r. named_one g x ∷ r) (named_last g es e)

pub cores_and : (is : List (Named Extern)) (es : List (List NamedExtern)) (i : Named Extern) (e : List NamedExtern) → AreCoreInstances is es → IsCoreInstance i e → AreCoreInstances (is ++ i ∷ []) (es ++ e ∷ [])
cores_and [] [] i e h k = (k, tt)
cores_and (x ∷ is) (y ∷ es) i e h k = (h.0, cores_and is es i e h.1 k)
cores_and [] (y ∷ es) i e h k = absurd h
cores_and (x ∷ is) [] i e h k = absurd h

-- what stands under a name in the instance of a number
pub core_there : (is : List (Named Extern)) (es : List (List NamedExtern)) (n : ℕ) (q : Name) → AreCoreInstances is es
    → option_and_then (λ (i : Named Extern). found i q) (slice_get is n) ≡ option_and_then (core_find q) (slice_get es n)
core_there [] [] n q h = refl
core_there (x ∷ is) (y ∷ es) zero q h = h.0 q
core_there (x ∷ is) (y ∷ es) (suc n) q h = core_there is es n q h.1
core_there [] (y ∷ es) n q h = absurd h
core_there (x ∷ is) [] n q h = absurd h

-- ---- arguments

abbrev pub arg_number : Name → List CoreArg → Option ℕ
arg_number q [] = None
arg_number q (a ∷ args) = cond (same_name a.name q) (Some a.instance) (arg_number q args)

pub arg_last : (q : Name) (args : List CoreArg) (a : CoreArg) → arg_number q (args ++ a ∷ []) ≡ option_or (arg_number q args) (cond (same_name a.name q) (Some a.instance) None)
arg_last q [] a = refl
arg_last q (x ∷ args) a = ap (λ o. cond (same_name x.name q) (Some x.instance) o) (arg_last q args a) ∙ or_if (same_name x.name q) x.instance (arg_number q args) (cond (same_name a.name q) (Some a.instance) None)

get_if : {T : Type 0} (xs : List T) (b : Bool) (n : ℕ) (o : Option ℕ) → option_and_then (λ k. slice_get xs k) (cond b (Some n) o) ≡ cond b (slice_get xs n) (option_and_then (λ k. slice_get xs k) o)
get_if xs true n o = refl
get_if xs false n o = refl

pub arg_is : (g : GroupMaking) (q : Name) (args : List CoreArg) → option_and_then (λ k. slice_get g.core_instances k) (arg_number q args) ≡ arg_instance g q args
arg_is g q [] = refl
arg_is g q (a ∷ args) = get_if g.core_instances (same_name a.name q) a.instance (arg_number q args) ∙ ap (λ o. cond (same_name a.name q) (slice_get g.core_instances a.instance) o) (arg_is g q args)

argument_at : (is : List (Named Extern)) (es : List (List NamedExtern)) (n : Option ℕ) (q : Name) → AreCoreInstances is es
    → named_item is n q ≡ option_and_then (core_find q) (option_and_then (λ k. slice_get es k) n)
argument_at is es None q h = refl
argument_at is es (Some n) q h = core_there is es n q h

pub argument_is : (is : List (Named Extern)) (g : GroupMaking) (args : List CoreArg) (m q : Name) (n : Option ℕ) → AreCoreInstances is g.core_instances → n ≡ arg_number m args
    → named_item is n q ≡ option_and_then (core_find q) (arg_instance g m args)
argument_is is g args m q n h e = argument_at is g.core_instances n q h ∙ ap (option_and_then (core_find q)) (ap (option_and_then (λ k. slice_get g.core_instances k)) e ∙ arg_is g m args)

extern_if : (o : Option Extern) → of_some o ≡ elim o [ None ↦ [] | Some e ↦ e ∷ [] ]
extern_if None = refl
extern_if (Some e) = refl

pub extern_is : (g : GroupMaking) (args : List CoreArg) (i : ModuleImport) → of_some (option_and_then (core_find i.name) (arg_instance g i.«module» args)) ≡ extern_for g args i
extern_is g args i = extern_if (option_and_then (core_find i.name) (arg_instance g i.«module» args))
