-- `realloc` answered, and what is left is stored.
use Rattle.std.proofs.Common.{◌≡◌, ℕ, List, [], ◌∷◌, Option, Some, None, true, false, refl, sym, ap, ◌∙◌}
use Rattle.std.specs.Prelude.{Result}
use Rattle.virt_base.specs.declared.core_type.CoreType.TheVariants.{I32}
use Rattle.core_store.specs.Words.{words, HaveTypes}
use Rattle.core_store.specs.declared.value.CoreValue.{CoreValue}
use Rattle.core_store.specs.declared.value.CoreValue.TheVariants as values
use Rattle.wit_types.specs.PlainValue.{PlainValue}
use Rattle.abi_store.specs.Plan.{Due, is_due}
use Rattle.host_port.specs.Hosts.{HostStep}
use Rattle.comp_worlds.specs.Acts.{Out}
use Rattle.comp_worlds.specs.Groups.{Group, World}
use Rattle.comp_worlds.specs.Hosts.{hosted}
use Rattle.comp_frames.specs.Running.{running}
use Rattle.comp_frames.specs.Left.{goes_granted, does_due}
use Rattle.comp_frames.specs.Frames.{Awaiting}
use Rattle.instance_state.specs.Passed.{options_of}
use Rattle.call_moments.specs.Words.{only_word_in}
use Rattle.call_moments.specs.declared.end.Stop.{Stop}
use Rattle.call_moments.specs.declared.frame.Flow.{Flow}
use Rattle.call_moments.specs.declared.frame.Storing.{Storing}
use Rattle.call_moments.specs.Shown.{depth_of, storing_of, grants_of}
use Rattle.call_moments.specs.Leads.{Moment, so_far, Leads}
use Rattle.call_moments.specs.Functions.{Stores, IsGranted, behind, storing_so}
use Rattle.call_moments.proofs.Following.{leads_by}
use Rattle.call_moments.proofs.Serves.{stays}

-- one word alone is what was asked for
pub word_alone : (vs : List CoreValue) (w : ℕ) → HaveTypes (I32 ∷ []) vs → only_word_in vs ≡ Some w → words vs ≡ w ∷ []
word_alone [] w t e = absurd t
word_alone (values.I32 n ∷ []) w t e = let same : n ≡ w = cc in ap (λ (x : ℕ). x ∷ []) same
word_alone (values.I64 n ∷ []) w t e = absurd t.0
word_alone (values.Ref r ∷ []) w t e = absurd t.0
word_alone (v ∷ x ∷ vs) w t e = absurd t.1

pub word_there : (vs : List CoreValue) → HaveTypes (I32 ∷ []) vs → only_word_in vs ≡ None → ⊥
word_there [] t e = t
word_there (values.I32 n ∷ []) t e = absurd (cc)
word_there (values.I64 n ∷ []) t e = t.0
word_there (values.Ref r ∷ []) t e = t.0
word_there (v ∷ x ∷ vs) t e = t.1

module _ {S : Type 0} (h : HostStep S) (s : Storing) (old new : Moment S) (results : List CoreValue) (result : Result Flow Stop) where
  pub granting_none : only_word_in results ≡ None → IsGranted h old s results result new
  granting_none e = λ G waiting can fits typed. absurd (word_there results typed e)

  pub granting_leads : (place : ℕ) → only_word_in results ≡ Some place → Stores h old s (Some place) result new → IsGranted h old s results result new
  granting_leads place e r = λ G waiting can fits typed.
      let left : Out (World S) (Option PlainValue) = so_far old (storing_so h G waiting s (does_due G (hosted h) (running G (hosted h)) (depth_of s.depth) s.instance (options_of s.options) s.plan.due s.plan.left (Some place))) in
      leads_by h G _ left old old new result
      (ap (λ (d : Due). so_far old (behind h G waiting s.instance (grants_of (storing_of s) d s.plan) results)) fits.due
      ∙ ap (λ ws. so_far old (storing_so h G waiting s (goes_granted G (hosted h) (running G (hosted h)) (depth_of s.depth) s.instance (options_of s.options) fits.align fits.len s.plan.left ws))) (word_alone results place typed e)
      ∙ sym (ap (λ (d : Due). so_far old (storing_so h G waiting s (does_due G (hosted h) (running G (hosted h)) (depth_of s.depth) s.instance (options_of s.options) d s.plan.left (Some place)))) fits.due))
      (stays h old)
      (r G waiting can (λ w. fits.memory) (λ w. let asked : is_due s.plan.due ≡ true = ap is_due fits.due in let writes : s.writes ≡ true = s.due asked in absurd (cc)))
