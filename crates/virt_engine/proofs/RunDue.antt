-- Of each run one refusal is due, and of one that is accepted none.
use Rattle.std.proofs.Common.{◌≡◌, ◌≢◌, ◌∙◌, refl, sym, ap, subst, ℕ, ◌≤◌, List, length, inl, inr, arith, Ok, Err}
use Rattle.std.specs.Prelude.{Option, Some, None, Result}
use Rattle.outside.specs.Files.{Held}
use Rattle.policy_data.specs.declared.policy.Policy.{Policy}
use Rattle.mount_tree.specs.declared.fault.TreeFault.{TreeFault}
use Rattle.mount_tree.specs.declared.forest.Forest.{Forest}
use Rattle.mount_tree.specs.Building.{trees_due}
use Rattle.comp_types.specs.Items.{Entries}
use Rattle.comp_grammar.specs.Trees.{Tree}
use Rattle.comp_types.specs.Added.{type_of}
use Rattle.host_script.specs.Script.{PlainScript, due_script, json_in}
use Rattle.host_script.specs.declared.fault.ScriptFault.{ScriptFault}
use Rattle.host_script.specs.declared.fault.ScriptFault.TheVariants as faults
use Rattle.component_judge.specs.Callable.{callable}
use Rattle.component_judge.specs.declared.refusal.Refusal.{Refusal}
use Rattle.component_judge.specs.declared.refusal.Refusal.TheVariants as refusals
use Rattle.component_judge.specs.Components.{IsRefusal, IsRunnable}
use Rattle.component_judge.specs.Applications.{IsApplicationRefusal}
use Rattle.component_judge.specs.declared.limits.Purpose.TheVariants.{Run}
use Rattle.component_judge.specs.Limits.{script_limit}
use Rattle.component_judge.proofs.Verdicts.{one_verdict, one_application}
use Rattle.component_judge.proofs.Refusals.{one_refusal, one_application_refusal}
use Rattle.component_judge.specs.declared.unready.Unready.TheVariants as unready
use Rattle.component_judge.specs.Inputs.{Fitting, IsListedBy, RefusesScript}
use Rattle.virt_engine.specs.declared.status.Status.{Status}
use Rattle.virt_engine.specs.declared.status.Status.TheVariants.{Done, Usage}
use Rattle.virt_engine.specs.Command.{RunCommand}
use Rattle.virt_engine.specs.Fetching.{unready_as}
use Rattle.virt_engine.specs.PolicyTrees.{with_trees, trees_verdict, IsTreesVerdict}
use Rattle.virt_engine.specs.RunDue.{HoldsComponent, HoldsScript, Refusing, IsVerdictBy, AreInputsRefused, IsRefusedUnder, IsRefusedBy, IsRunRefused, IsAcceptedUnder, IsAcceptedBy, CanBeRun}
use Rattle.virt_engine.proofs.PolicyLaws.{policy_stands, one_policy}

-- ---- scripts

ok_or_err : (script : PlainScript) (fault : ScriptFault) → ◌≡◌ {A = Result PlainScript ScriptFault} (Ok script) (Err fault) → ⊥
ok_or_err script fault e = cc

bad_same : (a b : List ℕ) → ◌≡◌ {A = Result PlainScript ScriptFault} (Err (faults.BadScript a)) (Err (faults.BadScript b)) → a ≡ b
bad_same a b e = cc

one_script : (exports : Entries) (bytes : List ℕ) (a b : Refusal) → a ≢ refusals.NoMemory → b ≢ refusals.NoMemory → RefusesScript exports bytes a → RefusesScript exports bytes b → a ≡ b
one_script exports bytes refusals.NoMemory b x y h g = absurd (x refl)
one_script exports bytes (refusals.Refused fault) b x y h g = absurd h
one_script exports bytes (refusals.BadScript path) refusals.NoMemory x y h g = absurd (y refl)
one_script exports bytes (refusals.BadScript path) (refusals.Refused fault) x y h g = absurd g
one_script exports bytes (refusals.BadScript path) (refusals.BadScript other) x y h g = ap refusals.BadScript (bad_same path other (sym h.1 ∙ g.1))
one_script exports bytes (refusals.BadScript path) (refusals.OverLimit what value) x y h g = absurd (omega (arith, h.0, g.1))
one_script exports bytes (refusals.OverLimit what value) refusals.NoMemory x y h g = absurd (y refl)
one_script exports bytes (refusals.OverLimit what value) (refusals.Refused fault) x y h g = absurd g
one_script exports bytes (refusals.OverLimit what value) (refusals.BadScript path) x y h g = absurd (omega (arith, g.0, h.1))
one_script exports bytes (refusals.OverLimit what value) (refusals.OverLimit other v) x y h g = λ i. refusals.OverLimit ((h.0 ∙ sym g.0) i) ((h.2 ∙ sym g.2) i)

script_stands : (exports : Entries) (bytes : List ℕ) (script : PlainScript) (refusal : Refusal) → length bytes ≤ script_limit → due_script (callable exports) (json_in bytes) ≡ Ok script
    → refusal ≢ refusals.NoMemory → RefusesScript exports bytes refusal → ⊥
script_stands exports bytes script refusals.NoMemory short due x h = x refl
script_stands exports bytes script (refusals.Refused fault) short due x h = h
script_stands exports bytes script (refusals.BadScript path) short due x h = ok_or_err script (faults.BadScript path) (sym due ∙ h.1)
script_stands exports bytes script (refusals.OverLimit what value) short due x h = omega (arith, short, h.1)

-- ---- files

same_some : (a b : List ℕ) → Some a ≡ Some b → a ≡ b
same_some a b e = cc

-- how refusals speak of bytes
pub record AreOnes (Refuses : Refusing) : Type 0 where
  pub one : (bytes : List ℕ) (a b : Refusal) → a ≢ refusals.NoMemory → b ≢ refusals.NoMemory → Refuses bytes a → Refuses bytes b → a ≡ b

pub one_file : (Refuses : Refusing) → AreOnes Refuses → (file : Option (List ℕ)) (name : List ℕ) (a b : Status) → IsVerdictBy Refuses file name a → IsVerdictBy Refuses file name b → a ≡ b
one_file Refuses ones None name a b h g = h ∙ sym g
one_file Refuses ones (Some bytes) name a b h g = h.3 ∙ ap (λ r. unready_as (unready.Refused r)) (ones.one bytes h.0 g.0 h.1 g.1 h.2 g.2) ∙ sym g.3

-- bytes that will do are not refused
pub file_stands : (Refuses : Refusing) (file : Option (List ℕ)) (name bytes : List ℕ) (status : Status) → file ≡ Some bytes
    → ((refusal : Refusal) → refusal ≢ refusals.NoMemory → Refuses bytes refusal → ⊥) → IsVerdictBy Refuses file name status → ⊥
file_stands Refuses file name bytes status there stands h =
    let v = subst (λ (o : Option (List ℕ)). IsVerdictBy Refuses o name status) there h in
    stands v.0 v.1 v.2

scripts_are_ones : (exports : Entries) → AreOnes (RefusesScript exports)
scripts_are_ones exports = record { one = one_script exports }

script_file_stands : (held : Held) (name : List ℕ) (exports : Entries) (status : Status) → HoldsScript held name exports → IsVerdictBy (RefusesScript exports) (held.file name) name status → ⊥
script_file_stands held name exports status h v =
    file_stands (RefusesScript exports) (held.file name) name h.bytes status h.there (λ refusal some r. script_stands exports h.bytes h.script refusal h.short h.due some r) v

-- ---- a component and its script

-- how what will do and what is refused speak of bytes
pub record IsKind (Refuses : Refusing) (Fits : Fitting) : Type 0 where
  pub ones : AreOnes Refuses
  pub stands : (bytes : List ℕ) (tree : Tree) (refusal : Refusal) → Fits bytes tree → refusal ≢ refusals.NoMemory → Refuses bytes refusal → ⊥
  pub one_tree : (bytes : List ℕ) (a b : Tree) → Fits bytes a → Fits bytes b → a ≡ b

module _ (Refuses : Refusing) (Fits : Fitting) (kind : IsKind Refuses Fits) (held : Held) (c : RunCommand) where
  component_stands : (tree : Tree) (status : Status) → HoldsComponent Fits held c.component tree → IsVerdictBy Refuses (held.file c.component) c.component status → ⊥
  component_stands tree status h v =
      file_stands Refuses (held.file c.component) c.component h.bytes status h.there (λ refusal some r. kind.stands h.bytes tree refusal h.fits some r) v

  pub one_component : (a b : Tree) → HoldsComponent Fits held c.component a → HoldsComponent Fits held c.component b → a ≡ b
  one_component a b h g =
      let same : h.bytes ≡ g.bytes = same_some h.bytes g.bytes (sym h.there ∙ g.there) in
      kind.one_tree g.bytes a b (subst (λ (bytes : List ℕ). Fits bytes a) same h.fits) g.fits

  one_input : (a b : Status) → AreInputsRefused Refuses Fits held c a → AreInputsRefused Refuses Fits held c b → a ≡ b
  one_input a b (inl h) (inl g) = one_file Refuses kind.ones (held.file c.component) c.component a b h g
  one_input a b (inl h) (inr g) = absurd (component_stands g.0 a g.1 h)
  one_input a b (inr h) (inl g) = absurd (component_stands h.0 b h.1 g)
  one_input a b (inr h) (inr g) =
      let same : g.0 ≡ h.0 = one_component g.0 h.0 g.1 h.1 in
      let other = subst (λ (tree : Tree). IsVerdictBy (RefusesScript (type_of tree).exports) (held.file c.script) c.script b) same g.2 in
      one_file (RefusesScript (type_of h.0).exports) (scripts_are_ones (type_of h.0).exports) (held.file c.script) c.script a b h.2 other

  -- both files do
  both_stand : (tree : Tree) (status : Status) → HoldsComponent Fits held c.component tree → HoldsScript held c.script (type_of tree).exports → AreInputsRefused Refuses Fits held c status → ⊥
  both_stand tree status h s (inl v) = component_stands tree status h v
  both_stand tree status h s (inr v) =
      let same : v.0 ≡ tree = one_component v.0 tree v.1 h in
      script_file_stands held c.script (type_of tree).exports status s (subst (λ (u : Tree). IsVerdictBy (RefusesScript (type_of u).exports) (held.file c.script) c.script status) same v.2)

pub alone : IsKind IsRefusal IsRunnable
alone = record {
  ones = record { one = one_refusal };
  stands = λ bytes tree refusal fits some h. one_verdict bytes tree refusal fits some h;
  one_tree = λ bytes a b h g. g.sound.small.spelled.1 a h.sound.small.spelled.0.0;
}

pub listed : IsKind (IsApplicationRefusal Run) IsListedBy
listed = record {
  ones = record { one = one_application_refusal Run };
  stands = λ bytes tree refusal fits some h. one_application Run bytes tree fits.0 refusal fits.1 some h;
  one_tree = λ bytes a b h g. g.1.sound.small.spelled.1 a h.1.sound.small.spelled.0.0;
}

-- ---- under a policy

done_or_usage : Done ≡ Usage → ⊥
done_or_usage h = cc

-- trees that can be made are not refused
trees_stand : (held : Held) (policy : Policy) (forest : Forest) (status : Status) → (trees_due held policy).answer ≡ Ok forest → IsTreesVerdict held policy status → ⊥
trees_stand held policy forest status made v =
    let taken : (next : Status) → trees_verdict held policy next ≡ next = λ next. ap (λ (r : Result Forest TreeFault). with_trees r next) made in
    done_or_usage (sym (taken Done) ∙ v Done ∙ sym (v Usage) ∙ taken Usage)

one_under : (held : Held) (c : RunCommand) (policy : Policy) (a b : Status) → IsRefusedUnder held c policy a → IsRefusedUnder held c policy b → a ≡ b
one_under held c policy a b (inl h) (inl g) = one_input (IsApplicationRefusal Run) IsListedBy listed held c a b h g
one_under held c policy a b (inl h) (inr g) = absurd (both_stand (IsApplicationRefusal Run) IsListedBy listed held c g.0 a g.1 g.2 h)
one_under held c policy a b (inr h) (inl g) = absurd (both_stand (IsApplicationRefusal Run) IsListedBy listed held c h.0 b h.1 h.2 g)
one_under held c policy a b (inr h) (inr g) = sym (h.3 Done) ∙ g.3 Done

one_by : (held : Held) (c : RunCommand) (policy : Option (List ℕ)) (a b : Status) → IsRefusedBy held c policy a → IsRefusedBy held c policy b → a ≡ b
one_by held c None a b h g = one_input IsRefusal IsRunnable alone held c a b h g
one_by held c (Some name) a b (inl h) (inl g) = sym (h (λ p. Done)) ∙ g (λ p. Done)
one_by held c (Some name) a b (inl h) (inr g) = absurd (policy_stands held name g.0 a g.1 h)
one_by held c (Some name) a b (inr h) (inl g) = absurd (policy_stands held name h.0 b h.1 g)
one_by held c (Some name) a b (inr h) (inr g) =
    let same = one_policy held name g.0 h.0 g.1 h.1 in
    one_under held c h.0 a b h.2 (subst (λ (p : Policy). IsRefusedUnder held c p b) same g.2)

pub one_run_refusal : (held : Held) (c : RunCommand) (a b : Status) → IsRunRefused held c a → IsRunRefused held c b → a ≡ b
one_run_refusal held c a b h g = one_by held c c.policy a b h g

under_stands : (held : Held) (c : RunCommand) (name : List ℕ) (u : IsAcceptedUnder held c name) (status : Status) → IsRefusedUnder held c u.policy status → ⊥
under_stands held c name u status (inl h) = both_stand (IsApplicationRefusal Run) IsListedBy listed held c u.inputs.tree status u.inputs.component u.inputs.script h
under_stands held c name u status (inr h) = trees_stand held u.policy u.forest status u.trees h.3

stands_by : (held : Held) (c : RunCommand) (policy : Option (List ℕ)) (status : Status) → IsAcceptedBy held c policy → IsRefusedBy held c policy status → ⊥
stands_by held c None status u h = both_stand IsRefusal IsRunnable alone held c u.tree status u.component u.script h
stands_by held c (Some name) status u (inl h) = policy_stands held name u.policy status u.policy_file h
stands_by held c (Some name) status u (inr h) =
    let same = one_policy held name h.0 u.policy h.1 u.policy_file in
    under_stands held c name u status (subst (λ (p : Policy). IsRefusedUnder held c p status) same h.2)

pub runs_stand : (held : Held) (c : RunCommand) (status : Status) → CanBeRun held c → IsRunRefused held c status → ⊥
runs_stand held c status u h = stands_by held c c.policy status u h
