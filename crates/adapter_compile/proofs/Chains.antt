-- Runs that ask for effects one after another.
use Rattle.std.proofs.Common.{◌≡◌, ℕ, List, [], ◌∷◌, ◌++◌, ap, ◌∙◌}
use Rattle.handle_space.specs.HandleMap.{HandleMap}
use Rattle.core_store.specs.declared.value.CoreValue.TheVariants.{I32}
use Rattle.core_store.specs.Config.{Reply, Outcome, Asks}
use Rattle.adapter_code.specs.declared.state.Effect.{Effect}
use Rattle.adapter_compile.specs.Handles.{Numbers, Refused, MakesNone, DropsNone, Follows, question, answer}

-- where P holds the run goes on to Q
pub follows_on : (numbers : Numbers) (A : Type 0) (over : Outcome → A) (X : List Reply → A) (h : HandleMap ℕ) (es fs : List Effect) (P Q : (List Reply → A) → HandleMap ℕ → Type 0) →
    Follows numbers A over X h es P → ((Y : List Reply → A) (h' : HandleMap ℕ) → P Y h' → Follows numbers A over Y h' fs Q) → Follows numbers A over X h (es ++ fs) Q
follows_on numbers A over X h [] fs P Q p next = next X h p
follows_on numbers A over X h (e ∷ es) fs P Q (t, left, h', asks, grants, p) next =
    (t, left, h', asks, grants, follows_on numbers A over (λ rs. X (answer e t ∷ rs)) h' es fs P Q p next)

-- a run seen through a function that keeps questions
pub follows_map : (numbers : Numbers) (A B : Type 0) (over : Outcome → A) (over' : Outcome → B) (f : A → B) (X : List Reply → A) (h : HandleMap ℕ) (es : List Effect) (P : (List Reply → A) → HandleMap ℕ → Type 0) (Q : (List Reply → B) → HandleMap ℕ → Type 0) →
    ((o : Outcome) → f (over o) ≡ over' o) → Follows numbers A over X h es P → ((Y : List Reply → A) (h' : HandleMap ℕ) → P Y h' → Q (λ rs. f (Y rs)) h') →
    Follows numbers B over' (λ rs. f (X rs)) h es Q
follows_map numbers A B over over' f X h [] P Q keeps p next = next X h p
follows_map numbers A B over over' f X h (e ∷ es) P Q keeps (t, left, h', asks, grants, p) next =
    (t, left, h', ap f asks ∙ keeps (question numbers e t left), grants, follows_map numbers A B over over' f (λ rs. X (answer e t ∷ rs)) h' es P Q keeps p next)

pub refused_map : (numbers : Numbers) (A B : Type 0) (over : Outcome → A) (over' : Outcome → B) (f : A → B) (X : List Reply → A) (h : HandleMap ℕ) → ((o : Outcome) → f (over o) ≡ over' o) → Refused numbers A over X h → Refused numbers B over' (λ rs. f (X rs)) h
refused_map numbers A B over over' f X h keeps (MakesNone kind rep t left asks full) = MakesNone kind rep t left (ap f asks ∙ keeps (Asks (numbers.makes kind) (I32 rep ∷ []) t left)) full
refused_map numbers A B over over' f X h keeps (DropsNone kind index t left asks none) = DropsNone kind index t left (ap f asks ∙ keeps (Asks (numbers.drops kind) (I32 index ∷ []) t left)) none
