-- A component of the form does what its parts do.
use Rattle.std.proofs.Common.{sym, subst, ℕ, List, []}
use Rattle.host_port.specs.Hosts.{HostStep}
use Rattle.comp_grammar.specs.Trees.{Tree}
use Rattle.comp_types.specs.Added.{after_part, root}
use Rattle.comp_worlds.specs.Observed.{Call}
use Rattle.comp_link.specs.Plans.{no_scope}
use Rattle.comp_joins.specs.Joining.{joining, instance_of, with_first, behind_second, one_scope, both_scope, Fits, over_host}
use Rattle.comp_joins.specs.Numbers.{from, to}
use Rattle.comp_joins.specs.Laws.{SeenJoined}
use Rattle.comp_joins.proofs.Same.{joined_do_same}
use Rattle.comp_joins.proofs.AgreesNumbers.{valid_agree}
use Rattle.comp_joined.specs.Form.{IsJoining}
use Rattle.joined_laws.specs.Behaves.{IsValidSpelled, AreMet, JoiningDoesSame}
use Rattle.comp_joined.proofs.Naming.{parts_join}

module _ {S : Type 0} (h : HostStep S) (whole first second : Tree) (is : IsJoining first second whole) (one : IsValidSpelled first) (other : IsValidSpelled second) (firsts seconds : List (ℕ × ℕ)) where
  abbrev Does : Tree → Type 0
  Does w = AreMet is.joint w first second firsts seconds → (s : S) (calls : List Call) → SeenJoined w second (over_host w first (from w first second firsts seconds)) h s calls

  does_joining : Does (joining is.joint first second)
  does_joining met s calls =
      let w : Tree = joining is.joint first second in
      let f : ℕ → ℕ = from w first second firsts seconds in
      let t : ℕ → ℕ = to w first second firsts seconds in
      let fits : Fits is.joint first second f t = record {
        front = parts_join no_scope root is.joint.front is.front;
        between = parts_join (one_scope is.joint first second) (after_part [] (with_first is.joint first second) (instance_of 0 is.joint.first_args)) is.joint.between is.between;
        behind = parts_join (both_scope is.joint first second) (behind_second is.joint first second) is.joint.behind is.behind;
        first_given = met.gives.first_given;
        second_given = met.gives.second_given;
      } in
      joined_do_same h is.joint first second f t fits (valid_agree w first second firsts seconds one.valid one.defines other.valid other.defines met.partners) s calls

  does_so : Does whole
  does_so = subst Does (sym is.is) does_joining

pub joining_does_same : {S : Type 0} → (h : HostStep S) → JoiningDoesSame h
joining_does_same h whole first second is one other firsts seconds met s calls = does_so h whole first second is one other firsts seconds met s calls
