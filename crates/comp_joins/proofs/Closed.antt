-- Where the first exports all that the second imports, the whole is made of the first alone and the second.
use Rattle.std.proofs.Common.{◌≡◌, ℕ, [], Option, Some, None, refl, sym, ◌∙◌, ap, subst}
use Rattle.std.specs.Option.{option_map}
use Rattle.comp_grammar.specs.Trees.{Tree}
use Rattle.comp_worlds.specs.Groups.{Import, Theirs, Func, LoweredFunc, ResourceNew, ResourceDrop, ResourceRep}
use Rattle.comp_worlds.specs.Calls.{owned_by}
use Rattle.comp_worlds.specs.Parts.{func_to, owner_to, IsImportOf, Joins}
use Rattle.comp_link.specs.Linking.{all_known, known_in, target_in, exported, group_of}
use Rattle.comp_inside.specs.Renaming.{target_with, canon_with}
use Rattle.comp_joins.specs.Joining.{Joint, joining, or_else, or_nowhere, hosted, Fits, over_host, Agree, itself, Closed}
use Rattle.comp_joins.specs.Laws.{in_a_step}
use Rattle.comp_joins.proofs.Renamed.{import_was, owner_of_renamed}
use Rattle.comp_joins.proofs.Made.{target_itself, meets}
use Rattle.comp_joins.proofs.Joined.{W, A, B, left, right, resources_by, joins}

canon_itself : (f : Option Func) → option_map (canon_with itself) f ≡ f
canon_itself None = refl
canon_itself (Some (LoweredFunc target options)) = ap (λ t. Some (LoweredFunc t options)) (target_itself target)
canon_itself (Some (ResourceNew r)) = refl
canon_itself (Some (ResourceDrop r)) = refl
canon_itself (Some (ResourceRep r)) = refl

module _ (j : Joint) (first second : Tree) (to : ℕ → ℕ) (fits : Fits j first second itself to) (agree : Agree (joining j first second) first second itself to) (closed : Closed (joining j first second) first second to) where
  abbrev all : Joins (in_a_step (A j first second itself to fits agree)) (in_a_step (B j first second itself to fits agree)) (W j first second itself to fits agree) (left j first second itself to fits agree) (right j first second itself to fits agree) (meets j first second itself to)
  all = joins j first second itself to fits agree

  owner_same : (r : ℕ) → (over_host (joining j first second) first itself).owner r ≡ (group_of first).owner r
  owner_same r = owner_of_renamed itself (λ x y same. same) first r

  -- what it exports for an import is what meets it
  given : (f : Import) → IsImportOf (B j first second itself to fits agree) f → (group_of first).exports f.interface f.function ≡ Some (meets j first second itself to f)
  given f is =
      let was = import_was to agree.second_once second f is in
      let x = closed.functions was.0 was.1 in
      subst (λ (z : Import). (group_of first).exports z.interface z.function ≡ Some (meets j first second itself to z)) was.2
      (x.1 ∙ ap Some (sym (target_itself x.0)) ∙ ap (λ o. Some (or_nowhere (or_else (option_map (target_with itself) o) (target_in (exported (hosted (joining j first second)) was.0.interface was.0.function))))) (sym x.1))

  pub closed_joins : Joins (in_a_step (group_of first)) (in_a_step (B j first second itself to fits agree)) (W j first second itself to fits agree) (left j first second itself to fits agree) (right j first second itself to fits agree) (meets j first second itself to)
  closed_joins = record {
    lefts = record {
      canons = λ k n. all.lefts.canons k n ∙ ap (option_map (func_to (left j first second itself to fits agree) Theirs)) (canon_itself ((group_of first).canons k n));
      owner = λ r o is. all.lefts.owner r o (owner_same r ∙ is);
      owns_no_more = λ k r. all.lefts.owns_no_more k r ∙ ap (λ o. owned_by o k) (owner_same r);
    };
    rights = all.rights;
    given = given;
    types = all.types;
    exports = all.exports;
    stages = all.stages;
    left_once = all.left_once;
    right_once = all.right_once;
    apart = all.apart;
    below = λ r none. all.below r none ∙ ap (option_map (owner_to (left j first second itself to fits agree))) (owner_same r);
    drops = λ r d. all.drops r (d.0, d.1, ap (option_map (canon_with itself)) d.2);
    names = λ r none none'. ap (λ i. known_in (all_known [] i) r) closed.imports;
    resources = resources_by j first second itself to fits agree (group_of first).given closed.resources;
  }
