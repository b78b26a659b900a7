-- A whole run of which a machine runs the core code at hand: what was seen of it, and what is left.
use Rattle.std.proofs.Common.{◌≡◌, ℕ, List, [], ◌∙◌, ap}
use Rattle.core_store.specs.State.{State}
use Rattle.core_store.specs.declared.value.CoreValue.{CoreValue}
use Rattle.core_store.specs.Config.{Reply}
use Rattle.core_interp.specs.declared.machine.Machine.{Machine}
use Rattle.core_interp.specs.declared.machine.Pause.{Pause}
use Rattle.core_interp.specs.declared.machine.Pause.TheVariants as pauses
use Rattle.core_interp.specs.Session.{IsAnswer, awaited, resumed, Follows, Pauses}
use Rattle.host_port.specs.Calls.{PlainObservation}
use Rattle.comp_worlds.specs.Acts.{Trapped, TooDeep, Out, Over, Spent, seen_before, Act, ◌>>◌}
use Rattle.comp_worlds.specs.Groups.{Nesting, store_at, Group, World, Ports}
use Rattle.comp_worlds.proofs.Fair.{Fair}
use Rattle.comp_frames.specs.Running.{stored, running, driving}
use Rattle.comp_frames.specs.Pausing.{IsRunBy, asks, LeadsTo}
use Rattle.comp_frames.proofs.Heads.{before_over, before_spent, after_unseen, after_over, after_spent, then_at}
use Rattle.comp_frames.proofs.Unfolding.{running_here}
use Rattle.comp_frames.proofs.Pausing.{pauses_lead}

module _ {S B : Type 0} (G : Group) (p : Ports S) (fair : Fair p) (d : Nesting) (k : ℕ) (rest : List CoreValue → Act (World S) B) (whole : Out (World S) B) (o : List PlainObservation) where
  -- core code begins
  pub run_begins : (f : ℕ) (args : List CoreValue) (first : State) (m : Machine) (w : World S) (n : ℕ) → store_at d (w.configs k).store ≡ first → Follows first f args [] 0 m first →
      whole ≡ seen_before o ((running G p d k f args >> rest) w n) →
      (act : Act (World S) (List CoreValue)) × (whole ≡ seen_before o ((act >> rest) w n)) × IsRunBy G p d k m first act
  run_begins f args first m w n is follows so = (
    driving G p d k f args first [],
    so ∙ ap (seen_before o) (then_at _ _ rest w w n n (running_here G p fair d k f args w n ∙ ap (λ s. driving G p d k f args s [] w n) is)),
    (pauses_lead G p fair).starts d k f args first m follows,
  )

  -- what is left of the whole, where the machine pauses so
  abbrev pub WholeLeads : World S → (left : ℕ) → Pause → Machine → State → Type 0
  WholeLeads w left (pauses.Done values) m s = whole ≡ seen_before o (rest values (stored w k s) left)
  WholeLeads w left pauses.Trapped m s = whole ≡ Over o Trapped
  WholeLeads w left (pauses.AtHost number args) m s =
      (resume : Reply → Act (World S) (List CoreValue))
      × (whole ≡ seen_before o ((asks G p d k number args s.nesting resume >> rest) (stored w k s) left))
      × ((r : Reply) → IsAnswer (awaited m) s r → IsRunBy G p d k (resumed m r.results) r.store (resume r))
  WholeLeads w left pauses.Spent m s = whole ≡ Spent o
  WholeLeads w left pauses.TooDeep m s = whole ≡ Over o TooDeep

  -- core code comes to a pause
  pub run_pauses : (act : Act (World S) (List CoreValue)) (w : World S) (b left : ℕ) (m m' : Machine) (s s' : State) (pause : Pause) → IsRunBy G p d k m s act → Pauses m s b pause m' s' left →
      whole ≡ seen_before o ((act >> rest) w b) → WholeLeads w left pause m' s'
  run_pauses act w b left m m' s s' pause by h so = at pause ((pauses_lead G p fair).leads d k m s act b pause m' s' left by h)
    where
      at : (pause : Pause) → LeadsTo G p d k act b left pause m' s' → WholeLeads w left pause m' s'
      at (pauses.Done values) leads = so ∙ ap (seen_before o) (after_unseen act rest w b left (stored w k s') values (leads w))
      at pauses.Trapped leads = so ∙ ap (seen_before o) (after_over act rest w b [] Trapped (leads w)) ∙ before_over o Trapped
      at (pauses.AtHost number args) leads = (leads.0, so ∙ ap (seen_before o) (then_at act (asks G p d k number args s'.nesting leads.0) rest w (stored w k s') b left (leads.1 w)), leads.2)
      at pauses.Spent leads = so ∙ ap (seen_before o) (after_spent act rest w b [] (leads.0 w)) ∙ before_spent o
      at pauses.TooDeep leads = so ∙ ap (seen_before o) (after_over act rest w b [] TooDeep (leads w)) ∙ before_over o TooDeep
