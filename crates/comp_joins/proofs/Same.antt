-- The whole is observed to do what the second does over the first.
use Rattle.std.proofs.Common.{◌≡◌, ℕ, ◌+◌, List, [], ◌∷◌, sym, ◌∙◌, subst}
use Rattle.host_port.specs.Hosts.{HostStep}
use Rattle.comp_grammar.specs.Trees.{Tree}
use Rattle.comp_worlds.specs.Acts.{IsPrefixOf}
use Rattle.comp_worlds.specs.Groups.{Nesting, Endless, Group}
use Rattle.comp_worlds.specs.Observed.{Call, seen, SameObservations}
use Rattle.comp_worlds.proofs.Growing.{extends_seen}
use Rattle.comp_link.specs.Linking.{group_of}
use Rattle.comp_worlds.specs.Parts.{Joins, SameAsParts}
use Rattle.comp_worlds.proofs.Whole.{same_as_parts}
use Rattle.comp_inside.proofs.Renamed.{over_groups}
use Rattle.comp_joins.specs.Joining.{Joint, joining, over_host, itself}
use Rattle.comp_joins.specs.Laws.{in_a_step, TwoStepsMore, SeenJoined, JoinedDoSame, PluggedDoSame}
use Rattle.comp_joins.proofs.Renamed.{renamed, renames}
use Rattle.comp_joins.proofs.Made.{lefts, rights, meets}
use Rattle.comp_joins.proofs.Joined.{joins}
use Rattle.comp_joins.proofs.Closed.{closed_joins}
use Rattle.comp_joins.proofs.Gains.{two_steps_more}

module _ {S : Type 0} (h : HostStep S) (s : S) (calls : List Call) where
  -- what is seen of these groups, and of the same without the two steps
  without_steps : (W A B : Group) → ((n : ℕ) → SameAsParts (in_a_step A) (in_a_step B) W [] h s Endless calls n) → SameObservations (seen W [] h s calls) (seen B (A ∷ []) h s calls)
  without_steps W A B same =
      let more : TwoStepsMore A B [] h s Endless calls = two_steps_more A B [] h s Endless calls in
      record {
        first = λ n. (n, subst (λ z. IsPrefixOf z (seen B (A ∷ []) h s calls n)) (sym (same n).seen) (extends_seen 2 _ _ (more.second n)));
        second = λ n. (2 + n, subst (IsPrefixOf (seen B (A ∷ []) h s calls n)) (sym (same (2 + n)).seen) (extends_seen 0 _ _ (more.first n)));
      }

  -- over a group of which the whole is made, with the second's group at other numbers
  joined_over : (j : Joint) (first second : Tree) (from to : ℕ → ℕ) (A : Group) (once : (x y : ℕ) → to x ≡ to y → x ≡ y)
      → Joins (in_a_step A) (in_a_step (renamed to once second)) (group_of (joining j first second)) (lefts j first second from to) (rights j first second from to) (meets j first second from to)
      → SeenJoined (joining j first second) second A h s calls
  joined_over j first second from to A once join = record { same = without_steps (group_of (joining j first second)) A (group_of second) (exact Endless); exactly = exact }
    where
      exact : (d : Nesting) (n : ℕ) → SameAsParts (in_a_step A) (in_a_step (group_of second)) (group_of (joining j first second)) [] h s d calls n
      exact d n =
          let parts = same_as_parts (in_a_step A) (in_a_step (renamed to once second)) (group_of (joining j first second)) (lefts j first second from to) (rights j first second from to) (meets j first second from to) join [] h s d calls n in
          let named = over_groups h (in_a_step (group_of second)) (in_a_step (renamed to once second)) to (renames to once second) (in_a_step A) [] s d calls n in
          record { observed = parts.observed ∙ named.observed; seen = parts.seen ∙ named.seen }

pub joined_do_same : {S : Type 0} → (h : HostStep S) → JoinedDoSame h
joined_do_same h j first second from to fits agree s calls = joined_over h s calls j first second from to (over_host (joining j first second) first from) agree.second_once (joins j first second from to fits agree)

pub plugged_do_same : {S : Type 0} → (h : HostStep S) → PluggedDoSame h
plugged_do_same h j first second to fits agree closed s calls = joined_over h s calls j first second itself to (group_of first) agree.second_once (closed_joins j first second to fits agree closed)
