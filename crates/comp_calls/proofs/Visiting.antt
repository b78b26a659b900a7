-- A destructor runs in the instance that drops the handle, or in another one, which was entered for it.
use Rattle.std.proofs.Common.{◌≡◌, ◌≢◌, ◌⊎◌, ℕ, inl, inr, subst, arith}
use Rattle.std.specs.Prelude.{Result}
use Rattle.std.proofs.lemmas.Bool.Decides.{nat_tests}
use Rattle.host_port.specs.Hosts.{HostStep}
use Rattle.comp_worlds.specs.Locals.{enter}
use Rattle.instance_state.specs.declared.owners.Owner.{Owner}
use Rattle.call_moments.specs.declared.depth.Depth.{Depth}
use Rattle.call_moments.specs.declared.end.Stop.{Stop}
use Rattle.call_moments.specs.declared.frame.Flow.{Flow}
use Rattle.call_moments.specs.declared.frame.Visit.{Visit}
use Rattle.call_moments.specs.declared.frame.Visit.TheVariants.{Own, Other}
use Rattle.call_moments.specs.Leads.{Moment}
use Rattle.call_moments.specs.Functions.{IsChanged}
use Rattle.call_moments.specs.Canonical.{Destroys}
use Rattle.call_moments.proofs.Dropping.{RunsDestructor, destroys_own, destroys_other}

module _ {S : Type 0} (h : HostStep S) (old : Moment S) (k : ℕ) (depth : Depth) (owner : Owner) (rep : ℕ) (visit : Visit) (mid : Moment S) where
  abbrev pub Entered : Type 0
  Entered = ((visit ≡ Own) × (owner.instance ≡ k) × (mid ≡ old)) ⊎ ((visit ≡ Other) × (owner.instance ≢ k) × IsChanged enter owner.instance old mid)

  abbrev Runs : Visit → Moment S → Result Flow Stop → Moment S → Type 0
  Runs v m result new = RunsDestructor h k owner.instance v depth rep m owner.destructor result new

  pub destroys_by : Entered → (new : Moment S) (result : Result Flow Stop) → Runs visit mid result new → Destroys h old k depth owner rep result new
  destroys_by (inl e) new result runs =
      let same : owner.instance ≡ k = e.1 in
      destroys_own h old k depth owner rep new result (grind (arith, nat_tests, same)) same (subst (λ m. Runs Own m result new) e.2 (subst (λ v. Runs v mid result new) e.0 runs))
  destroys_by (inr e) new result runs =
      let differ : owner.instance ≢ k = e.1 in
      destroys_other h old k depth owner rep new result (grind (arith, nat_tests, differ)) mid e.2 (subst (λ v. Runs v mid result new) e.0 runs)
