-- The group of the whole is made of the groups of the two.
use Rattle.std.proofs.Common.{◌≡◌, ℕ, ◌≤◌, ◌<◌, ◌==◌, List, [], ◌∷◌, ◌++◌, map, Option, Some, None, refl, sym, ◌∙◌, ap, subst, arith, append_assoc}
use Rattle.std.specs.Option.{option_map}
use Rattle.std.proofs.Math.Path.{ap₂}
use Rattle.wit_types.specs.Plain.{Name}
use Rattle.host_port.specs.declared.call.Resource.{Resource}
use Rattle.comp_grammar.specs.Trees.{Tree}
use Rattle.comp_worlds.specs.Groups.{Import, Target, Mine, Theirs, type_of, Func, LoweredFunc, ResourceNew, ResourceDrop, ResourceRep, Owner, Begins, Group}
use Rattle.comp_worlds.specs.Calls.{owned_by, owns}
use Rattle.comp_worlds.specs.Parts.{target_to, func_to, owner_to, stages_to, IsImportOf, DropsSome, Joins}
use Rattle.comp_link.specs.Linking.{Placed, Owned, canon_in, owner_in, linked, group_of}
use Rattle.comp_inside.specs.Renaming.{target_with, canon_with}
use Rattle.comp_inside.specs.Linked.{target_in, canon_in as canon_at, placed_in, owned_in}
use Rattle.comp_joins.specs.Joining.{Joint, joining, or_else, or_nowhere, Meets, IsKnown, known_by, behind_own, Fits, owned_with, over_host, Agree}
use Rattle.comp_joins.specs.Laws.{in_a_step}
use Rattle.comp_joins.proofs.Places.{left_once, right_once, apart}
use Rattle.comp_joins.proofs.Lists.{or_none, cond_some, canon_append, owner_append, unlike, alike, canons_mapped, canons_elsewhere}
use Rattle.comp_joins.proofs.Held.{dropped_known}
use Rattle.comp_joins.proofs.Numbers.{owned_below, owned_behind}
use Rattle.comp_joins.proofs.Renamed.{renamed, owned_was, import_was, drop_was, owner_of_renamed, imported_of_renamed}
use Rattle.comp_joins.proofs.Made.{count, lefts, rights, first_at, second_at, meets, there, exports_there, whole_is}

module _ (j : Joint) (first second : Tree) (from to : ℕ → ℕ) (fits : Fits j first second from to) (agree : Agree (joining j first second) first second from to) where
  abbrev pub W : Group
  W = group_of (joining j first second)

  abbrev pub A : Group
  A = over_host (joining j first second) first from

  abbrev pub B : Group
  B = renamed to agree.second_once second

  abbrev pub left : ℕ → ℕ
  left = lefts j first second from to

  abbrev pub right : ℕ → ℕ
  right = rights j first second from to

  abbrev one : (j' k : ℕ) → left j' ≡ left k → j' ≡ k
  one = left_once (count first) (count second)

  abbrev two : (j' k : ℕ) → right j' ≡ right k → j' ≡ k
  two = right_once (count first) (count second)

  abbrev never : (j' k : ℕ) → left j' ≡ right k → ⊥
  never = apart (count first) (count second)

  abbrev import : Import → Target
  import = there j first second from to

  -- ---- the canonical functions

  abbrev firsts : List Placed
  firsts = map (placed_in (first_at j first second from to)) (linked first).whole.canons

  abbrev seconds : List Placed
  seconds = map (placed_in (second_at j first second from to)) (linked second).whole.canons

  canons_are : (k n : ℕ) → W.canons k n ≡ or_else (canon_in firsts k n) (canon_in seconds k n)
  canons_are k n = ap (λ w. canon_in w.canons k n) (whole_is j first second from to fits agree) ∙ canon_append firsts seconds k n

  first_canon : (f : Option Func) → option_map (canon_at (first_at j first second from to)) f ≡ option_map (func_to left Theirs) (option_map (canon_with from) f)
  first_canon None = refl
  first_canon (Some (LoweredFunc (Mine k l) options)) = refl
  first_canon (Some (LoweredFunc (Theirs f) options)) = refl
  first_canon (Some (ResourceNew r)) = refl
  first_canon (Some (ResourceDrop r)) = refl
  first_canon (Some (ResourceRep r)) = refl

  second_canon : (f : Option Func) → option_map (canon_at (second_at j first second from to)) f ≡ option_map (func_to right import) (option_map (canon_with to) f)
  second_canon None = refl
  second_canon (Some (LoweredFunc (Mine k l) options)) = refl
  second_canon (Some (LoweredFunc (Theirs f) options)) = refl
  second_canon (Some (ResourceNew r)) = refl
  second_canon (Some (ResourceDrop r)) = refl
  second_canon (Some (ResourceRep r)) = refl

  canons_left : (k n : ℕ) → W.canons (left k) n ≡ option_map (func_to left Theirs) (A.canons k n)
  canons_left k n =
      canons_are (left k) n
      ∙ ap₂ or_else (canons_mapped (first_at j first second from to) one (linked first).whole.canons k n) (canons_elsewhere (second_at j first second from to) (left k) (λ i same. never k i (sym same)) (linked second).whole.canons n)
      ∙ or_none (option_map (canon_at (first_at j first second from to)) ((group_of first).canons k n))
      ∙ first_canon ((group_of first).canons k n)

  canons_right : (k n : ℕ) → W.canons (right k) n ≡ option_map (func_to right import) (B.canons k n)
  canons_right k n =
      canons_are (right k) n
      ∙ ap₂ or_else (canons_elsewhere (first_at j first second from to) (right k) (λ i same. never i k same) (linked first).whole.canons n) (canons_mapped (second_at j first second from to) two (linked second).whole.canons k n)
      ∙ second_canon ((group_of second).canons k n)

  -- ---- the resources

  first_owners : (os : List Owned) (r : ℕ) → owner_in (map (owned_in (first_at j first second from to)) os) r ≡ option_map (owner_to left) (owner_in (map (owned_with from) os) r)
  first_owners [] r = refl
  first_owners (o ∷ os) r =
      cond_some (owner_to left) (from o.resource == r) o.owner (owner_in (map (owned_in (first_at j first second from to)) os) r) (owner_in (map (owned_with from) os) r) (first_owners os r)

  second_owners : (os : List Owned) (r : ℕ) → owner_in (map (owned_in (second_at j first second from to)) os) r ≡ option_map (owner_to right) (owner_in (map (owned_with to) os) r)
  second_owners [] r = refl
  second_owners (o ∷ os) r =
      cond_some (owner_to right) (to o.resource == r) o.owner (owner_in (map (owned_in (second_at j first second from to)) os) r) (owner_in (map (owned_with to) os) r) (second_owners os r)

  owner_is : (r : ℕ) → W.owner r ≡ or_else (option_map (owner_to left) (A.owner r)) (option_map (owner_to right) (B.owner r))
  owner_is r =
      ap (λ w. owner_in w.owners r) (whole_is j first second from to fits agree)
      ∙ owner_append (map (owned_in (first_at j first second from to)) (linked first).whole.owners) (map (owned_in (second_at j first second from to)) (linked second).whole.owners) r
      ∙ ap₂ or_else (first_owners (linked first).whole.owners r) (second_owners (linked second).whole.owners r)

  -- what the first defines has numbers in front of these, and what the second defines has not
  first_before : (r : ℕ) (o : Owner) → A.owner r ≡ Some o → r < from (behind_own first)
  first_before r o is =
      let was = owned_was from agree.first_once first r o is in
      subst (λ z. z < from (behind_own first)) was.1 (agree.own_before was.0 (owned_behind first was.0 o was.2) (owned_below first was.0 o was.2))

  second_behind : (r : ℕ) (o : Owner) → B.owner r ≡ Some o → from (behind_own first) ≤ r
  second_behind r o is =
      let was = owned_was to agree.second_once second r o is in
      subst (λ z. from (behind_own first) ≤ z) was.1 (agree.behind was.0 (owned_behind second was.0 o was.2))

  not_both : (r : ℕ) (o o' : Owner) → A.owner r ≡ Some o → B.owner r ≡ Some o' → ⊥
  not_both r o o' is is' =
      let less : r < from (behind_own first) = first_before r o is in
      let more : from (behind_own first) ≤ r = second_behind r o' is' in
      omega (arith, less, more)

  not_second : (r : ℕ) → r < from (behind_own first) → B.owner r ≡ None
  not_second r less = go (B.owner r) refl
    where
      go : (o : Option Owner) → B.owner r ≡ o → o ≡ None
      go None is = refl
      go (Some o) is = absurd (let more : from (behind_own first) ≤ r = second_behind r o is in omega (arith, less, more))

  -- what the first drops is none of the second's
  dropped_before : (r : ℕ) → DropsSome (group_of first) r → from r < from (behind_own first)
  dropped_before r drops = go ((group_of first).owner r) refl
    where
      go : (o : Option Owner) → (group_of first).owner r ≡ o → from r < from (behind_own first)
      go None none = agree.known_before r (dropped_known from first agree.first_knows r drops none)
      go (Some o) is = agree.own_before r (owned_behind first r o is) (owned_below first r o is)

  first_drops : (r : ℕ) → DropsSome A r → B.owner r ≡ None
  first_drops r drops =
      let was = drop_was from agree.first_once first r drops in
      not_second r (subst (λ z. z < from (behind_own first)) was.1 (dropped_before was.0 was.2))

  owner_right : (r : ℕ) (o : Owner) → B.owner r ≡ Some o → W.owner r ≡ Some (owner_to right o)
  owner_right r o is = owner_is r ∙ go (A.owner r) refl
    where
      go : (x : Option Owner) → A.owner r ≡ x → or_else (option_map (owner_to left) x) (option_map (owner_to right) (B.owner r)) ≡ Some (owner_to right o)
      go None e = ap (option_map (owner_to right)) is
      go (Some o') e = absurd (not_both r o' o e is)

  owns_left : (k r : ℕ) → owns W (left k) r ≡ owns A k r
  owns_left k r = ap (λ o. owned_by o (left k)) (owner_is r) ∙ go (A.owner r) (B.owner r)
    where
      go : (x y : Option Owner) → owned_by (or_else (option_map (owner_to left) x) (option_map (owner_to right) y)) (left k) ≡ owned_by x k
      go None None = refl
      go None (Some o) = unlike (right o.instance) (left k) (λ same. never k o.instance (sym same))
      go (Some o) y = alike left one o.instance k

  owns_right : (k r : ℕ) → owns W (right k) r ≡ owns B k r
  owns_right k r = ap (λ o. owned_by o (right k)) (owner_is r) ∙ go (A.owner r) refl (B.owner r) refl
    where
      go : (x : Option Owner) → A.owner r ≡ x → (y : Option Owner) → B.owner r ≡ y → owned_by (or_else (option_map (owner_to left) x) (option_map (owner_to right) y)) (right k) ≡ owned_by y k
      go None is None is' = refl
      go None is (Some o) is' = alike right two o.instance k
      go (Some o) is None is' = unlike (left o.instance) (right k) (never o.instance k)
      go (Some o) is (Some o') is' = absurd (not_both r o o' is is')

  below : (r : ℕ) → B.owner r ≡ None → W.owner r ≡ option_map (owner_to left) (A.owner r)
  below r none = owner_is r ∙ ap (λ y. or_else (option_map (owner_to left) (A.owner r)) (option_map (owner_to right) y)) none ∙ or_none (option_map (owner_to left) (A.owner r))

  -- what the second drops and does not define is given for what it imports
  pub resources_by : (given : Resource → Option ℕ) → ((r : ℕ) → IsKnown (known_by second) r → given ((group_of second).imported r) ≡ Some (to r)) → (r : ℕ) → DropsSome B r → B.owner r ≡ None → given (B.imported r) ≡ Some r
  resources_by given known r drops none =
      let was = drop_was to agree.second_once second r drops in
      subst (λ z. given (B.imported z) ≡ Some z) was.1
      (ap given (imported_of_renamed to agree.second_once second was.0)
      ∙ known was.0 (dropped_known to second agree.second_knows was.0 was.2 (sym (owner_of_renamed to agree.second_once second was.0) ∙ ap B.owner was.1 ∙ none)))

  -- ---- the imports and exports

  pub meets_them : (f : Import) → IsImportOf B f → (A.exports f.interface f.function ≡ Some (meets j first second from to f)) × (type_of (meets j first second from to f) ≡ f.ty)
  meets_them f is =
      let was = import_was to agree.second_once second f is in
      let m : Meets A to was.0 = agree.types was.0 was.1 in
      subst (λ z. (A.exports z.interface z.function ≡ Some (meets j first second from to z)) × (type_of (meets j first second from to z) ≡ z.ty)) was.2
      (m.1 ∙ ap (λ z. Some (or_nowhere z)) (sym m.1), ap (λ z. type_of (or_nowhere z)) m.1 ∙ m.2)

  target_there : (o : Option Target) → option_map (target_in (second_at j first second from to)) o ≡ option_map (target_to right import) (option_map (target_with to) o)
  target_there None = refl
  target_there (Some (Mine k l)) = refl
  target_there (Some (Theirs f)) = refl

  exports_are : (interface name : Name) → W.exports interface name ≡ option_map (target_to right import) (B.exports interface name)
  exports_are interface name =
      exports_there j first second from to fits agree interface name ∙ target_there ((group_of second).exports interface name)

  stages_are : W.stages ≡ stages_to left (Begins ∷ A.stages) ++ stages_to right (Begins ∷ B.stages)
  stages_are = ap (λ w. w.stages) (whole_is j first second from to fits agree) ∙ append_assoc (Begins ∷ stages_to left A.stages) (Begins ∷ []) (stages_to right B.stages)

  pub joins : Joins (in_a_step A) (in_a_step B) W left right (meets j first second from to)
  joins = record {
    lefts = record { canons = canons_left; owner = λ r o is. owner_is r ∙ ap (λ x. or_else (option_map (owner_to left) x) (option_map (owner_to right) (B.owner r))) is; owns_no_more = owns_left };
    rights = record { canons = canons_right; owner = owner_right; owns_no_more = owns_right };
    given = λ f is. (meets_them f is).0;
    types = λ f is. (meets_them f is).1;
    exports = exports_are;
    stages = stages_are;
    left_once = one;
    right_once = two;
    apart = never;
    below = below;
    drops = first_drops;
    names = λ r none none'. refl;
    resources = resources_by A.given agree.resources;
  }
