-- Of each call one status is due.
use Rattle.std.proofs.Common.{◌≡◌, ◌∙◌, sym, subst, ℕ, List, Option, Some, None, inl, inr}
use Rattle.outside.specs.Files.{Held}
use Rattle.policy_data.specs.declared.policy.Policy.{Policy}
use Rattle.component_judge.specs.Applications.{IsApplicationRefusal}
use Rattle.component_judge.specs.declared.limits.Purpose.TheVariants.{Virt}
use Rattle.component_judge.proofs.Refusals.{one_application_refusal}
use Rattle.component_judge.proofs.Verdicts.{one_application}
use Rattle.virt_engine.specs.declared.status.Status.{Status}
use Rattle.virt_engine.specs.declared.status.Status.TheVariants.{Done}
use Rattle.virt_engine.specs.Command.{Command, command_of}
use Rattle.virt_engine.specs.Apps.{IsAppFile}
use Rattle.virt_engine.specs.RunDue.{IsVerdictBy}
use Rattle.virt_engine.specs.Plan.{IsDue, IsDueFor, IsDueOf, IsDueUnder}
use Rattle.virt_engine.proofs.PolicyLaws.{policy_stands, one_policy}
use Rattle.virt_engine.proofs.RunDue.{AreOnes, one_file, file_stands}

-- ---- the application

are_ones : AreOnes (IsApplicationRefusal Virt)
are_ones = record { one = one_application_refusal Virt }

one_app : (file : Option (List ℕ)) (name : List ℕ) (a b : Status) → IsVerdictBy (IsApplicationRefusal Virt) file name a → IsVerdictBy (IsApplicationRefusal Virt) file name b → a ≡ b
one_app file name a b h g = one_file (IsApplicationRefusal Virt) are_ones file name a b h g

-- an application's file is not refused
pub app_stands : (held : Held) (name bytes : List ℕ) (status : Status) → IsAppFile held name bytes → IsVerdictBy (IsApplicationRefusal Virt) (held.file name) name status → ⊥
app_stands held name bytes status app h =
    file_stands (IsApplicationRefusal Virt) (held.file name) name bytes status app.there (λ refusal some r. one_application Virt bytes app.tree app.uses refusal app.application some r) h

-- ---- all together

under : (held : Held) (c : Command) (policy : Policy) (a b : Status) → IsDueUnder held c policy a → IsDueUnder held c policy b → a ≡ b
under held c policy a b (inl h) (inl g) = one_app (held.file c.app) c.app a b h g
under held c policy a b (inl h) (inr g) = absurd (app_stands held c.app g.0 a g.1 h)
under held c policy a b (inr h) (inl g) = absurd (app_stands held c.app h.0 b h.1 g)
under held c policy a b (inr h) (inr g) = sym h.2 ∙ g.2

of_command : (held : Held) (c : Command) (a b : Status) → IsDueOf held c a → IsDueOf held c b → a ≡ b
of_command held c a b (inl h) (inl g) = sym (h (λ p. Done)) ∙ g (λ p. Done)
of_command held c a b (inl h) (inr g) = absurd (policy_stands held c.policy g.0 a g.1 h)
of_command held c a b (inr h) (inl g) = absurd (policy_stands held c.policy h.0 b h.1 g)
of_command held c a b (inr h) (inr g) =
    let same = one_policy held c.policy g.0 h.0 g.1 h.1 in
    under held c h.0 a b h.2 (subst (λ (p : Policy). IsDueUnder held c p b) same g.2)

of_words : (held : Held) (command : Option Command) (a b : Status) → IsDueFor held command a → IsDueFor held command b → a ≡ b
of_words held None a b h g = h ∙ sym g
of_words held (Some c) a b h g = of_command held c a b h g

pub one_status : (held : Held) (words : List (List ℕ)) (a b : Status) → IsDue held words a → IsDue held words b → a ≡ b
one_status held words a b h g = of_words held (command_of words) a b h g
