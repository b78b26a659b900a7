-- What is made so far fits what core code asks for, within the group of the whole component.
use Rattle.std.proofs.Common.{◌≡◌, ◌∙◌, ◌⊎◌, inl, inr, ap, sym, refl, subst, ℕ, ◌+◌, ◌≤◌, ◌<◌, nat_eq, nat_lt, cond, List, [], ◌∷◌, Option, Some, None, Bool, true, false, arith}
use Rattle.std.proofs.lemmas.Bool.{eqb-false, ltb-true, ltb-false}
use Rattle.std.proofs.lemmas.Option.{none-some}
use Rattle.indexmap.specs.IndexMap.{get}
use Rattle.wit_types.specs.Plain.{PlainFunc}
use Rattle.host_port.specs.Hosts.{HostStep}
use Rattle.comp_types.specs.GivenResources.{named_in_func}
use Rattle.comp_worlds.specs.Groups.{Target, Mine, Theirs, Func, LoweredFunc, ResourceNew, ResourceDrop, ResourceRep, Owner}
use Rattle.comp_worlds.specs.Calls.{owned_by, number_if, borrowed, plainly}
use Rattle.comp_link.specs.Linking.{Known, Owned, Whole, Making, all_known, behind_known, known_in, canon_in, owner_in}
use Rattle.comp_link.specs.declared.linked.Linked.{Linked}
use Rattle.comp_link.specs.Planned.{plan_in}
use Rattle.comp_inside.specs.Linked.{Each}
use Rattle.comp_joins.specs.Holding.{Holds}
use Rattle.comp_joins.specs.Joining.{IsKnown}
use Rattle.comp_joins.proofs.Held.{plan_held, all_outside_held, each_known, canon_held}
use Rattle.comp_joins.proofs.Names.{each_then}
use Rattle.comp_joins.specs.Growing.{AreFrom, Grows}
use Rattle.comp_joins.specs.Settled.{TargetNames, FuncNames, IsOwnedAlike}
use Rattle.comp_joins.proofs.Growing.{plan_grows}
use Rattle.comp_joins.proofs.Passing.{pass_alike}
use Rattle.comp_joins.proofs.Standing.{settled}
use Rattle.comp_joins.specs.Sound.{at_first}
use Rattle.instance_state.specs.Owning.{owner_in as owner_known, plain_for}
use Rattle.call_moments.specs.Fits.{scenes_of, PassesAlike, TargetFits, OwnerFits, FuncFits, Fits}
use Rattle.call_moments.specs.Leads.{Moment, IsAtRest}
use Rattle.instance_making.specs.declared.named.Named.{Named}
use Rattle.instance_making.specs.declared.given.Given.{Given}
use Rattle.instance_making.specs.Outside.{first_known}
use Rattle.comp_interp.specs.declared.level.Level.{Level}
use Rattle.comp_interp.specs.Sound.{CanBeMade}
use Rattle.comp_link.specs.Groups.{making_of, linked_group}
use Rattle.comp_interp.specs.Standing.{TargetStands, FuncStands, OwnerStands}
use Rattle.comp_interp.specs.Between.{Between}
use Rattle.comp_interp.proofs.Completing.{left_grows}

-- ---- resources of imports

-- numbers one after the other have owners
owned_from : (a b : ℕ) (os : List Owned) → AreFrom a os b → (r : ℕ) → a ≤ r → r < b → owner_in os r ≡ None → ⊥
owned_from a b [] from r lo hi none = omega (arith, from, lo, hi)
owned_from a b (o ∷ os) from r lo hi none = go (nat_eq o.resource r) refl none (nat_lt a r) refl (λ le n. owned_from (a + 1) b os from.1 r le hi n)
  where
    go : (t : Bool) → nat_eq o.resource r ≡ t → cond t (Some o.owner) (owner_in os r) ≡ None → (later : Bool) → nat_lt a r ≡ later → (a + 1 ≤ r → owner_in os r ≡ None → ⊥) → ⊥
    go true e n later l rest = none-some o.owner (sym n)
    go false e n true l rest = let up : a < r = ltb-true a r l in rest (omega (arith, up)) n
    go false e n false l rest = let down : r ≤ a = ltb-false a r l in let same : o.resource ≡ a = from.0 in eqb-false o.resource r e (omega (arith, same, down, lo))

known_named : (ks : List Known) (r : ℕ) → IsKnown ks r → first_known ks r ≡ Some (known_in ks r)
known_named [] r is = absurd is
known_named (k ∷ ks) r is = go (nat_eq k.number r) refl is (λ later. known_named ks r later)
  where
    go : (t : Bool) → nat_eq k.number r ≡ t → (k.number ≡ r) ⊎ IsKnown ks r → (IsKnown ks r → first_known ks r ≡ Some (known_in ks r)) → cond t (Some k.resource) (first_known ks r) ≡ Some (cond t k.resource (known_in ks r))
    go true e either rest = refl
    go false e (inl same) rest = absurd (eqb-false k.number r e same)
    go false e (inr later) rest = rest later

module _ (linked : Linked) (can : CanBeMade linked) where
  abbrev whole : Whole
  whole = (making_of linked).whole

  abbrev known : List Known
  known = all_known [] linked.imports

  -- what is dropped and has no owner is a resource of the imports
  dropped_known : (k n r : ℕ) → canon_in whole.canons k n ≡ Some (ResourceDrop r) → owner_in whole.owners r ≡ None → IsKnown known r
  dropped_known k n r is none = go (canon_held P T whole.canons k n (ResourceDrop r) all.4 is)
    where
      P : ℕ → Type 0
      P z = IsKnown known z ⊎ ((behind_known known ≤ z) × (z < whole.next_resource))

      T : Target → Type 0
      T t = Unit {0}

      all : Holds P T (making_of linked)
      all =
          plan_held P T (λ z. z) (behind_known known) whole.next_resource (λ z lo hi. inr (lo, hi)) (λ m func os ty brought held. tt) (plan_in linked) (at_first linked.imports) can.knows (omega arith) (omega arith)
          (all_outside_held P T (λ i. tt) [] linked.imports (each_known P T known (λ z is'. inl is')), tt, tt, tt, tt, tt)

      go : P r → IsKnown known r
      go (inl is') = is'
      go (inr range) =
          let grows : Grows (at_first linked.imports).whole whole = plan_grows (plan_in linked) (at_first linked.imports) in
          absurd (owned_from (behind_known known) whole.next_resource grows.owners grows.numbers r range.0 range.1 (sym (ap (λ os. owner_in os r) grows.owners_behind) ∙ none))

-- ---- the group so far

module _ {S : Type 0} (linked : Linked) (listed : List (Named Given)) (hs : List Level) (l : Level) (m : Moment S) (b : Between linked listed hs l m) where
  abbrev final : Whole
  final = (making_of linked).whole

  pub so_far_grows : Grows b.g.whole final
  so_far_grows = subst (λ (x : Making). Grows b.g.whole x.whole) b.complete (left_grows linked hs b.gs l b.g)

  owned : (r : ℕ) → IsOwnedAlike b.g.whole final r → owner_known m.group.owners r ≡ (linked_group linked).owner r
  owned r e = b.gathers.whole.owners r ∙ e

  passes : (k : ℕ) (ty : PlainFunc) → Each (IsOwnedAlike b.g.whole final) (named_in_func ty) → PassesAlike (scenes_of m.instances) (linked_group linked) m.group.owners k ty
  passes k ty each passed c =
      pass_alike (plain_for m.group.owners (Some k)) (borrowed (linked_group linked) plainly k) ty
      (each_then (IsOwnedAlike b.g.whole final) (λ r. (x : ℕ) → plain_for m.group.owners (Some k) r x ≡ borrowed (linked_group linked) plainly k r x) (λ r e x. ap (λ o. number_if (owned_by o k) x) (owned r e)) (named_in_func ty) each) passed c

  pub target_fits : (t : Target) → TargetStands (scenes_of m.instances) t → TargetNames (IsOwnedAlike b.g.whole final) t → TargetFits (scenes_of m.instances) (linked_group linked) m.group.owners t
  target_fits (Mine k lifting) h names = (h, passes k lifting.ty names)
  target_fits (Theirs import) h names = tt

  owner_fits : (k n r : ℕ) → canon_in final.canons k n ≡ Some (ResourceDrop r) → IsOwnedAlike b.g.whole final r →
      OwnerFits (scenes_of m.instances) (linked_group linked) m.group.owners (λ z. get nat_eq m.group.imported z) r ((linked_group linked).owner r)
  owner_fits k n r is alike = go (owner_in final.owners r) refl
    where
      go : (o : Option Owner) → owner_in final.owners r ≡ o → OwnerFits (scenes_of m.instances) (linked_group linked) m.group.owners (λ z. get nat_eq m.group.imported z) r o
      go None e = b.imported r ∙ known_named (all_known [] linked.imports) r (dropped_known linked b.can k n r is e)
      go (Some o) e = subst (OwnerStands (scenes_of m.instances)) (alike ∙ e) (b.stand.owners r)

  func_fits : (k n : ℕ) (f : Func) → canon_in final.canons k n ≡ Some f → FuncStands (scenes_of m.instances) k f → FuncNames (IsOwnedAlike b.g.whole final) f →
      FuncFits (scenes_of m.instances) (linked_group linked) m.group.owners (λ z. get nat_eq m.group.imported z) k f
  func_fits k n (LoweredFunc target options) is stands names = (target_fits target stands.0 names, stands.1)
  func_fits k n (ResourceNew r) is stands names = ap (λ o. owned_by o k) (owned r names)
  func_fits k n (ResourceRep r) is stands names = ap (λ o. owned_by o k) (owned r names)
  func_fits k n (ResourceDrop r) is stands names = (owned r names, owner_fits k n r is names)

  pub group_fits : Fits (linked_group linked) m.group (scenes_of m.instances)
  group_fits = record {
    canons = λ k n f known'.
        let is : canon_in b.g.whole.canons k n ≡ Some f = sym (b.gathers.whole.canons k n) ∙ known' in
        let s = (settled b.g (making_of linked) b.below so_far_grows).canons k n f is in (s.0, func_fits k n f s.0 (b.stand.funcs k n f is) s.1);
    provided = λ k place n w ty at found.
        let p = b.stand.provided k place n w ty at found in record { func = p.func; is = b.gathers.whole.canons k n ∙ p.is; params = p.params; results = p.results };
    deepest = b.stand.deepest;
  }

  pub is_at_rest : (h : HostStep S) → IsAtRest h (linked_group linked) m
  is_at_rest h = record { fits = group_fits; still = b.idle.still; calls = b.idle.calls; frames = b.idle.frames; lend = b.idle.lend }
