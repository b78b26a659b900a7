-- A post-return empties the transfer area.
use Rattle.std.proofs.Common.{◌≡◌, ◌∙◌, refl, ap, ℕ, suc, ◌+◌, List, [], Some, false, true, arith}
use Rattle.core_store.specs.declared.value.CoreValue.{CoreValue}
use Rattle.core_store.specs.State.{State}
use Rattle.adapter_code.specs.Layout.{transfer_at}
use Rattle.adapter_transfer.specs.Transfer.{result_values, with_end}
use Rattle.host_port.specs.Hosts.{HostStep}
use Rattle.comp_worlds.specs.Acts.{Next, then_do, Act, ◌>>◌}
use Rattle.comp_worlds.specs.Groups.{Endless, Config, Group, World}
use Rattle.comp_worlds.specs.Locals.{close, reopen, with_store}
use Rattle.comp_worlds.specs.Calls.{on, post_returns}
use Rattle.comp_worlds.specs.Hosts.{hosted}
use Rattle.comp_frames.specs.Running.{running}
use Rattle.comp_frames.specs.RunsLaws.{Unfolds, GoesByItsRest}
use Rattle.adapter_calls.specs.Instance.{standing, IsQuiet}
use Rattle.adapter_calls.specs.Leaving.{PostReturns}
use Rattle.adapter_calls.proofs.Instance.{seen_none, on_k, begins, runs_alone}

abbrev closed_as : Config ℕ → Config ℕ
closed_as c = record { store = c.store; map = c.map; entered = c.entered; closed = true }

module _ {S : Type 0} (h : HostStep S) (G : Group) (unfolds : Unfolds G (hosted h)) (by : GoesByItsRest G (hosted h)) (w : World S) (k : ℕ) where
  -- in that many steps, where core code alone takes these
  pub returned : (f : ℕ) (results : List CoreValue) (c : Config ℕ) (t : State) (s : S) (n m : ℕ) → IsQuiet c.store → running G (hosted h) Endless k f results (standing w k (closed_as c) s) n ≡ Next [] m (standing w k (with_store (closed_as c) t) s) [] →
      post_returns G (hosted h) (running G (hosted h)) Endless k results (Some f) (standing w k c s) (suc n) ≡ Next [] m (standing w k (record { store = t; map = c.map; entered = c.entered; closed = false }) s) tt
  unfolding ◌>>◌
  returned f results c t s n m quiet runs =
      let run = running G (hosted h) in
      let last : List CoreValue → Act (World S) (Unit {0}) = λ rs. on k reopen in
      ap (λ o. then_do o (λ u. on k close >> λ x. run Endless k f results >> last)) (begins (standing w k c s) n)
      ∙ seen_none ((on k close >> λ x. run Endless k f results >> last) (standing w k c s) n)
      ∙ ap (λ o. then_do o (λ x. run Endless k f results >> last)) (on_k w k close c (closed_as c) s tt n refl)
      ∙ seen_none ((run Endless k f results >> last) (standing w k (closed_as c) s) n)
      ∙ ap (λ o. then_do o last) runs
      ∙ seen_none (on k reopen (standing w k (with_store (closed_as c) t) s) m)
      ∙ on_k w k reopen (with_store (closed_as c) t) (record { store = t; map = c.map; entered = c.entered; closed = false }) s tt m refl

three : (n : ℕ) → 3 + n ≡ suc (2 + n)
three n = omega arith

pub post_returns_law : {S : Type 0} → (h : HostStep S) → ((G : Group) → Unfolds G (hosted h)) → ((G : Group) → GoesByItsRest G (hosted h)) → PostReturns h
post_returns_law h unfolds by G k l result body spaces w c s f global at v is_reset quiet stands used n =
    ap (λ z. post_returns G (hosted h) (running G (hosted h)) Endless k (result_values result v) (Some f) (standing w k c s) z) (three n)
    ∙ returned h G (unfolds G) (by G) w k f (result_values result v) c (with_end c.store global (transfer_at l)) s (2 + n) n quiet
    (runs_alone G (hosted h) (unfolds G) (by G) w k f (result_values result v) [] (closed_as c) (with_end c.store global (transfer_at l)) s (2 + n) n quiet (is_reset spaces c.store f global at stands used v [] n))
