-- Core code of an instance runs as the definition's.
use Rattle.std.proofs.Common.{◌≡◌, ℕ, List, [], Some, sym, ap, ◌∙◌, subst}
use Rattle.core_store.specs.State.{State}
use Rattle.core_store.specs.declared.value.CoreValue.{CoreValue}
use Rattle.core_store.specs.Config.{Reply}
use Rattle.core_store.specs.Scene.{CameBack}
use Rattle.host_port.specs.Hosts.{HostStep}
use Rattle.comp_worlds.specs.Acts.{◌>>◌}
use Rattle.comp_worlds.specs.Groups.{store_at, Group, World}
use Rattle.comp_worlds.specs.Calls.{store_of}
use Rattle.comp_worlds.specs.Hosts.{hosted}
use Rattle.comp_worlds.proofs.Fair.{host_fair}
use Rattle.comp_worlds.proofs.Whole.{nothing_before}
use Rattle.comp_frames.specs.Running.{driving}
use Rattle.comp_frames.proofs.Unfolding.{running_here}
use Rattle.comp_frames.proofs.Pausing.{pauses_lead}
use Rattle.call_moments.specs.CodeLaws.{nested, Code, CodeBegins, CodeGoes, CodeGetsResults}

-- the store that the definition takes is the machine's
same_depth : (s : State) (calls : ℕ) → s.deepest ≡ Some 65536 → store_at (nested calls) s ≡ record s { nesting = calls }
same_depth s calls deep = ap (λ x. record s { nesting = calls; deepest = x }) (sym deep)

module _ {S : Type 0} (h : HostStep S) (G : Group) where
  pub code_begins : CodeBegins h G
  code_begins k f args calls old new deep b =
      record {
        machine = b.machine;
        last = b.calls;
        code = driving G (hosted h) (nested calls) k f args new.store [];
        runs = (pauses_lead G (hosted h) (host_fair h)).starts (nested calls) k f args new.store b.machine b.follows;
        is = λ w n e.
            running_here G (hosted h) (host_fair h) (nested calls) k f args w n
            ∙ ap (λ s. driving G (hosted h) (nested calls) k f args s [] w n) (ap (store_at (nested calls)) e ∙ same_depth old.store calls deep ∙ sym b.store);
      }

  pub code_goes : CodeGoes h G
  code_goes d k code outer call old new before after pause last going runs goes =
      let ran = goes outer call last going in
      record {
        machine = ran.0.machine;
        last = ran.0.calls;
        going = ran.1;
        leads = (pauses_lead G (hosted h) (host_fair h)).leads d k call.machine old.store code before pause ran.0.machine new.store after runs ran.0.pauses;
      }

  gets_at : (d k : ℕ) (now : ℕ) (old : State) (results : List CoreValue) (resume : Reply → Code h G) → old.deepest ≡ Some 65536 → (w : World S) (n : ℕ) → (w.configs k).store ≡ old →
      (store_of k >> λ store. resume (record { results = results; store = record (store_at (nested d) store) { nesting = now } })) w n ≡ resume (record { results = results; store = record old { nesting = now } }) w n
  unfolding ◌>>◌ store_of
  gets_at d k now old results resume deep w n e =
      nothing_before (resume (record { results = results; store = record (store_at (nested d) (w.configs k).store) { nesting = now } }) w n)
      ∙ ap (λ (s : State). resume (record { results = results; store = record (store_at (nested d) s) { nesting = now } }) w n) e
      ∙ ap (λ (s : State). resume (record { results = results; store = record s { nesting = now } }) w n) (same_depth old d deep)

  pub code_gets_results : CodeGetsResults h G
  code_gets_results d k outer inner since old new results resume deep last awaits many back resumes =
      let got = resumes outer inner last in
      let reply_at = λ (s : State). (let r : Reply = record { results = results; store = s } in r) in
      record {
        last = got.calls;
        going = got.going;
        runs = awaits (reply_at new.store) (record { results = many; back = subst (λ s. CameBack since s) (sym got.store) back });
        is = λ w n e. gets_at d k inner.nesting old.store results resume deep w n e ∙ ap (λ (s : State). resume (reply_at s) w n) (sym got.store);
      }
