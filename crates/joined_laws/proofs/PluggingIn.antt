-- Two valid components meet what the law of plugged components asks, by the first's own numbers.
use Rattle.std.proofs.Common.{◌≡◌, ◌∙◌, sym, ap, subst, ℕ, ◌+◌, ◌≤◌, ◌<◌, max, List, [], ◌∷◌, inl, inr, Option, Some, arith}
use Rattle.std.proofs.Math.Nat.{le-max_left, le-max_right}
use Rattle.std.specs.Option.{option_map}
use Rattle.host_port.specs.Hosts.{HostStep}
use Rattle.comp_grammar.specs.Trees.{Tree}
use Rattle.comp_types.specs.Added.{after_part, root}
use Rattle.comp_worlds.specs.Groups.{Target}
use Rattle.comp_worlds.specs.Observed.{Call}
use Rattle.comp_link.specs.Plans.{no_scope, plan_of}
use Rattle.comp_link.specs.Linking.{Known, all_known, behind_known, target_in, resource_of, exported, group_of}
use Rattle.comp_inside.specs.Linked.{unmade}
use Rattle.comp_inside.specs.Renaming.{target_with}
use Rattle.comp_inside.proofs.Whole.{valid_stay}
use Rattle.comp_joins.specs.Joining.{joining, instance_of, with_first, behind_second, one_scope, both_scope, hosted, or_else, Fits, first_own, behind_own, IsKnown, known_by, Agree, itself, Closed}
use Rattle.comp_joins.specs.Laws.{SeenJoined}
use Rattle.comp_joins.proofs.Order.{plan_new, known_in_order}
use Rattle.comp_joins.proofs.Known.{names_known}
use Rattle.comp_joins.proofs.Made.{target_itself}
use Rattle.comp_joins.proofs.AgreesNumbers.{once, begins, next_one, not_before}
use Rattle.comp_joins.proofs.Same.{plugged_do_same}
use Rattle.comp_joined.specs.Form.{IsJoining}
use Rattle.joined_laws.specs.Behaves.{GivesBoth, IsValidSpelled}
use Rattle.joined_laws.specs.PluggedIn.{after_first, IsPluggedIn, PluggedInDoesSame}
use Rattle.comp_joined.proofs.Naming.{parts_join}

pub known_below : (ks : List Known) (r : ℕ) → IsKnown ks r → r < behind_known ks
known_below [] r is = absurd is
known_below (k ∷ ks) r (inl same) = let le : k.number + 1 ≤ max (k.number + 1) (behind_known ks) = le-max_left (k.number + 1) (behind_known ks) in omega (arith, le, same)
known_below (k ∷ ks) r (inr is) =
    let less : r < behind_known ks = known_below ks r is in
    let le : behind_known ks ≤ max (k.number + 1) (behind_known ks) = le-max_right (k.number + 1) (behind_known ks) in
    omega (arith, le, less)

pub own_first : (tree : Tree) → first_own tree ≤ behind_own tree
own_first tree = plan_new (plan_of tree) (unmade tree)

-- the first exports it, so it does over the host too
exported_first : (o : Option Target) (more : Option Target) (t : Target) → o ≡ Some t → or_else (option_map (target_with itself) o) more ≡ Some t
exported_first o more t is = ap (λ (x : Option Target). or_else (option_map (target_with itself) x) more) is ∙ ap Some (target_itself t)

given_first_one : (o more : Option ℕ) (r : ℕ) → o ≡ Some r → or_else (option_map itself o) more ≡ Some r
given_first_one o more r is = ap (λ (x : Option ℕ). or_else (option_map itself x) more) is

module _ (first second : Tree) (one : IsValidSpelled first) (other : IsValidSpelled second) (seconds : List (ℕ × ℕ)) where
  abbrev to : ℕ → ℕ
  to = after_first first second seconds

  agree : (whole : Tree) → IsPluggedIn whole first second seconds → Agree whole first second itself to
  agree whole p = record {
    first_stays = valid_stay first one.valid;
    second_stays = valid_stay second other.valid;
    first_knows = names_known first one.valid one.defines;
    second_knows = known_in_order to (plan_of second) (unmade second) (names_known second other.valid other.defines) (next_one seconds (first_own second) (behind_own second) (behind_own first) (own_first second));
    first_once = λ r s same. same;
    second_once = once seconds (first_own second) (behind_own second) (behind_own first) (own_first second) p.partners;
    first_begins = ap (λ es. behind_known (all_known [] es)) (sym p.imports);
    known_before = λ r known.
        let less : r < first_own first = known_below (known_by first) r known in
        let le : first_own first ≤ behind_own first = own_first first in
        omega (arith, less, le);
    own_before = λ r lo hi. hi;
    second_begins = begins seconds (first_own second) (behind_own second) (behind_own first) (own_first second);
    behind = λ r lo. not_before seconds (first_own second) (behind_own second) (behind_own first) (own_first second) r lo p.partners;
    types = λ f is.
        let m = p.functions f is in
        (m.0, exported_first ((group_of first).exports f.interface f.function) (target_in (exported (hosted whole) f.interface f.function)) m.0 m.1, m.2);
    resources = λ r known.
        let name = (group_of second).imported r in
        given_first_one ((group_of first).given name) (resource_of (exported (hosted whole) name.interface name.name)) (to r) (p.resources r known);
  }

  closed : (whole : Tree) → IsPluggedIn whole first second seconds → Closed whole first second to
  closed whole p = record { imports = p.imports; functions = λ f is. let m = p.functions f is in (m.0, m.1); resources = p.resources }

  module _ {S : Type 0} (h : HostStep S) (whole : Tree) (is : IsJoining first second whole) where
    abbrev Does : Tree → Type 0
    Does w = IsPluggedIn w first second seconds → GivesBoth is.joint first second itself to → (s : S) (calls : List Call) → SeenJoined w second (group_of first) h s calls

    does_joining : Does (joining is.joint first second)
    does_joining p gives s calls =
        let w : Tree = joining is.joint first second in
        let fits : Fits is.joint first second itself to = record {
          front = parts_join no_scope root is.joint.front is.front;
          between = parts_join (one_scope is.joint first second) (after_part [] (with_first is.joint first second) (instance_of 0 is.joint.first_args)) is.joint.between is.between;
          behind = parts_join (both_scope is.joint first second) (behind_second is.joint first second) is.joint.behind is.behind;
          first_given = gives.first_given;
          second_given = gives.second_given;
        } in
        plugged_do_same h is.joint first second to fits (agree w p) (closed w p) s calls

    does_so : Does whole
    does_so = subst Does (sym is.is) does_joining

pub plugged_in_does_same : {S : Type 0} → (h : HostStep S) → PluggedInDoesSame h
plugged_in_does_same h whole first second is one other seconds p gives s calls = does_so first second one other seconds h whole is p gives s calls
