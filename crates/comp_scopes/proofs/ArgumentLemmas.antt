-- What the rules say of an import, by the instance that is given under its module's name.
use Rattle.std.proofs.Common.{◌≡◌, ◌∙◌, ap, refl, ℕ, List, [], ◌∷◌, Bool, true, false, Option, Some, None, is_some, slice_get}
use Rattle.std.specs.Prelude.{if◌then◌else◌, ◌||◌, ◌&&◌}
use Rattle.std.specs.List.{filter}
use Rattle.std.specs.Option.{option_and_then}
use Rattle.wasm_ast.specs.declared.component.CoreArg.{CoreArg}
use Rattle.core_validate.specs.declared.item.CoreImport.{CoreImport}
use Rattle.core_validate.specs.declared.item.CoreExport.{CoreExport}
use Rattle.comp_types.specs.CoreMatching.{same_text, core_look_up, meets}
use Rattle.comp_types.specs.Spaces.{Space}
use Rattle.comp_types.specs.Rules.{if_there, argument_for, is_given, core_import_given, core_import_met}
use Rattle.comp_scopes.specs.Arguments.{instance_named}

first_where : {E : Type 0} (get : ℕ → Option E) (b : Bool) (x : CoreArg) (rest : List CoreArg) (o : Option ℕ)
    → option_and_then (λ (a : CoreArg). get a.instance) (slice_get rest 0) ≡ option_and_then get o
    → option_and_then (λ (a : CoreArg). get a.instance) (slice_get (if b then x ∷ rest else rest) 0) ≡ option_and_then get (if b then Some x.instance else o)
first_where get true x rest o h = refl
first_where get false x rest o h = h

pub argument_is : (s : Space) (name : List ℕ) (args : List CoreArg) → argument_for s name args ≡ option_and_then (slice_get s.core_instances) (instance_named args name)
argument_is s name [] = refl
argument_is s name (a ∷ args) =
    first_where (slice_get s.core_instances) (same_text a.name name) a (filter (λ (x : CoreArg). same_text x.name name) args) (instance_named args name) (argument_is s name args)

some_more : (b : Bool) (i : ℕ) (c : Bool) (o : Option ℕ) → c ≡ is_some o → (b || c) ≡ is_some (if b then Some i else o)
some_more true i c o h = refl
some_more false i c o h = h

pub given_is : (name : List ℕ) (args : List CoreArg) → is_given name args ≡ is_some (instance_named args name)
given_is name [] = refl
given_is name (a ∷ args) = some_more (same_text a.name name) a.instance (is_given name args) (instance_named args name) (given_is name args)

-- ---- an import

abbrev pub given_in : Space → List ℕ → Option ℕ → Bool
given_in s name None = false
given_in s name (Some k) = if_there (λ (exports : List CoreExport). is_some (core_look_up name exports)) (slice_get s.core_instances k)

abbrev pub met_in : Space → CoreImport → Option ℕ → Bool
met_in s i None = true
met_in s i (Some k) = if_there (λ item. meets item i.item) (option_and_then (core_look_up i.name) (slice_get s.core_instances k))

both : (s : Space) (name : List ℕ) (o : Option ℕ) → (is_some o && if_there (λ exports. is_some (core_look_up name exports)) (option_and_then (slice_get s.core_instances) o)) ≡ given_in s name o
both s name None = refl
both s name (Some k) = refl

pub import_given : (s : Space) (args : List CoreArg) (i : CoreImport) → core_import_given s args i ≡ given_in s i.name (instance_named args i.«module»)
import_given s args i =
    ap (λ b. b && if_there (λ exports. is_some (core_look_up i.name exports)) (argument_for s i.«module» args)) (given_is i.«module» args)
    ∙ (ap (λ o. is_some (instance_named args i.«module») && if_there (λ exports. is_some (core_look_up i.name exports)) o) (argument_is s i.«module» args)
    ∙ both s i.name (instance_named args i.«module»))

either : (s : Space) (i : CoreImport) (o : Option ℕ) → if_there (λ item. meets item i.item) (option_and_then (core_look_up i.name) (option_and_then (slice_get s.core_instances) o)) ≡ met_in s i o
either s i None = refl
either s i (Some k) = refl

pub import_met : (s : Space) (args : List CoreArg) (i : CoreImport) → core_import_met s args i ≡ met_in s i (instance_named args i.«module»)
import_met s args i =
    ap (λ o. if_there (λ item. meets item i.item) (option_and_then (core_look_up i.name) o)) (argument_is s i.«module» args) ∙ either s i (instance_named args i.«module»)
