-- What is found under a name among items in order: the first counts, so the last gives way to what stands before it.
use Rattle.std.proofs.Common.{◌≡◌, refl, ℕ, List, [], ◌∷◌, ◌++◌, Bool, true, false, Option, Some, None}
use Rattle.std.specs.Prelude.{if◌then◌else◌}
use Rattle.std.specs.Option.{option_or}
use Rattle.wasm_ast.specs.declared.component.CoreArg.{CoreArg}
use Rattle.wasm_ast.specs.declared.component.CoreExport.{CoreExport as CoreNamed}
use Rattle.core_validate.specs.declared.item.CoreItem.{CoreItem}
use Rattle.core_validate.specs.declared.item.CoreExport.{CoreExport}
use Rattle.comp_types.specs.CoreMatching.{same_text, core_look_up}
use Rattle.comp_types.specs.Spaces.{Space, core_item_at}
use Rattle.comp_types.specs.Added.{and_core_named, core_named}
use Rattle.comp_scopes.specs.Arguments.{instance_named}

one_of : {A : Type 0} (b : Bool) (i : A) (r : Option A) → option_or (if b then Some i else None) r ≡ (if b then Some i else r)
one_of true i r = refl
one_of false i r = refl

more_of : {A : Type 0} (b : Bool) (i : A) (u v r s : Option A) → option_or u r ≡ option_or v s → option_or (if b then Some i else u) r ≡ option_or (if b then Some i else v) s
more_of true i u v r s h = refl
more_of false i u v r s h = h

pub look_last : (q : List ℕ) (es : List CoreExport) (e : CoreExport) (r : Option CoreItem)
    → option_or (core_look_up q (es ++ e ∷ [])) r ≡ option_or (core_look_up q es) (if same_text e.name q then Some e.item else r)
look_last q [] e r = one_of (same_text e.name q) e.item r
look_last q (x ∷ es) e r = more_of (same_text x.name q) x.item _ _ r _ (look_last q es e r)

pub arg_last : (q : List ℕ) (es : List CoreArg) (e : CoreArg) (r : Option ℕ)
    → option_or (instance_named (es ++ e ∷ []) q) r ≡ option_or (instance_named es q) (if same_text e.name q then Some e.instance else r)
arg_last q [] e r = one_of (same_text e.name q) e.instance r
arg_last q (x ∷ es) e r = more_of (same_text x.name q) x.instance _ _ r _ (arg_last q es e r)

and_more : (o : Option CoreItem) (name : List ℕ) (us vs : List CoreExport) (q : List ℕ) (r s : Option CoreItem)
    → option_or (core_look_up q us) r ≡ option_or (core_look_up q vs) s → option_or (core_look_up q (and_core_named o name us)) r ≡ option_or (core_look_up q (and_core_named o name vs)) s
and_more None name us vs q r s h = h
and_more (Some item) name us vs q r s h = more_of (same_text name q) item _ _ r s h

pub named_last : (s : Space) (q : List ℕ) (es : List CoreNamed) (e : CoreNamed) (r : Option CoreItem)
    → option_or (core_look_up q (core_named s (es ++ e ∷ []))) r ≡ option_or (core_look_up q (core_named s es)) (option_or (core_look_up q (core_named s (e ∷ []))) r)
named_last s q [] e r = refl
named_last s q (x ∷ es) e r = and_more (core_item_at s x.sort x.index) x.name (core_named s (es ++ e ∷ [])) (core_named s es) q r _ (named_last s q es e r)
