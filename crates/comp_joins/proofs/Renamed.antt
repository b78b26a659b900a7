-- The second component's group, where its resources have the numbers that they have in the whole.
use Rattle.std.proofs.Common.{◌≡◌, inl, inr, ℕ, nat_eq, cond, List, [], ◌∷◌, map, Option, Some, None, Bool, true, false, refl, ◌∙◌, ap}
use Rattle.std.specs.Option.{option_map}
use Rattle.std.proofs.lemmas.Bool.{eqb-true, eqb-false}
use Rattle.comp_grammar.specs.Trees.{Tree}
use Rattle.comp_worlds.specs.Groups.{Import, Target, Mine, Theirs, Func, LoweredFunc, ResourceNew, ResourceDrop, ResourceRep, Owner, Group}
use Rattle.comp_worlds.specs.Parts.{IsImportOf, DropsSome}
use Rattle.comp_link.specs.Linking.{Owned, Known, all_known, known_in, owner_in, linked, group_of}
use Rattle.comp_inside.specs.Renaming.{import_with, target_with, canon_with, Renames}
use Rattle.comp_joins.specs.Joining.{imports_of, owned_with}
use Rattle.comp_joins.specs.Laws.{in_a_step}
use Rattle.comp_joins.proofs.Lists.{alike}

module _ (to : ℕ → ℕ) (once : (r s : ℕ) → to r ≡ to s → r ≡ s) where
  abbrev known_with : Known → Known
  known_with k = record { number = to k.number; resource = k.resource }

  abbrev pub renamed : Tree → Group
  renamed tree = record {
    canons = λ k n. option_map (canon_with to) ((group_of tree).canons k n);
    owner = owner_in (map (owned_with to) (linked tree).whole.owners);
    imported = known_in (map known_with (all_known [] (imports_of tree)));
    exports = λ interface name. option_map (target_with to) ((group_of tree).exports interface name);
    given = λ r. option_map to ((group_of tree).given r);
    stages = (group_of tree).stages;
  }

  owner_with : (os : List Owned) (r : ℕ) → owner_in (map (owned_with to) os) (to r) ≡ owner_in os r
  owner_with [] r = refl
  owner_with (o ∷ os) r =
      ap (λ b. cond b (Some o.owner) (owner_in (map (owned_with to) os) (to r))) (alike to once o.resource r) ∙ ap (λ z. cond (nat_eq o.resource r) (Some o.owner) z) (owner_with os r)

  known_in_with : (ks : List Known) (r : ℕ) → known_in (map known_with ks) (to r) ≡ known_in ks r
  known_in_with [] r = refl
  known_in_with (k ∷ ks) r =
      ap (λ b. cond b k.resource (known_in (map known_with ks) (to r))) (alike to once k.number r) ∙ ap (λ z. cond (nat_eq k.number r) k.resource z) (known_in_with ks r)

  pub renames : (tree : Tree) → Renames (in_a_step (group_of tree)) (in_a_step (renamed tree)) to
  renames tree = record {
    canons = λ k n. refl;
    owner = owner_with (linked tree).whole.owners;
    imported = λ r drops. known_in_with (all_known [] (imports_of tree)) r;
    exports = λ interface name. refl;
    stages = refl;
    once = once;
  }

  -- ---- each resource and import of it has another number in the component

  abbrev Was : List Owned → ℕ → Owner → Type 0
  Was os r o = (s : ℕ) × (to s ≡ r) × (owner_in os s ≡ Some o)

  owner_was : (os : List Owned) (r : ℕ) (o : Owner) → owner_in (map (owned_with to) os) r ≡ Some o → Was os r o
  owner_was [] r o is = absurd (let q : None ≡ Some o = is in cc)
  owner_was (x ∷ os) r o is = go (nat_eq (to x.resource) r) refl is (λ is'. owner_was os r o is')
    where
      at_test : (s : ℕ) → owner_in os s ≡ Some o → (x.resource ≡ s → ⊥) → (b : Bool) → nat_eq x.resource s ≡ b → cond b (Some x.owner) (owner_in os s) ≡ Some o
      at_test s found not true e = absurd (not (eqb-true x.resource s e))
      at_test s found not false e = found

      itself : (b : Bool) → nat_eq x.resource x.resource ≡ b → Some x.owner ≡ Some o → cond b (Some x.owner) (owner_in os x.resource) ≡ Some o
      itself true e same = same
      itself false e same = absurd (eqb-false x.resource x.resource e refl)

      go : (b : Bool) → nat_eq (to x.resource) r ≡ b → cond b (Some x.owner) (owner_in (map (owned_with to) os) r) ≡ Some o → (owner_in (map (owned_with to) os) r ≡ Some o → Was os r o) → Was (x ∷ os) r o
      go true e is' later = (x.resource, eqb-true (to x.resource) r e, itself (nat_eq x.resource x.resource) refl is')
      go false e is' later =
          let was : Was os r o = later is' in
          (was.0, was.1, at_test was.0 was.2 (λ same. eqb-false (to x.resource) r e (ap to same ∙ was.1)) (nat_eq x.resource was.0) refl)

  pub owned_was : (tree : Tree) (r : ℕ) (o : Owner) → (renamed tree).owner r ≡ Some o → (s : ℕ) × (to s ≡ r) × ((group_of tree).owner s ≡ Some o)
  owned_was tree r o is = owner_was (linked tree).whole.owners r o is

  abbrev import_of : Option Func → Import → Import
  import_of (Some (LoweredFunc (Theirs f) options)) other = f
  import_of _ other = other

  abbrev import_in : Option Target → Import → Import
  import_in (Some (Theirs f)) other = f
  import_in _ other = other

  abbrev dropped_by : Option Func → ℕ
  dropped_by (Some (ResourceDrop r)) = r
  dropped_by _ = 0

  pub import_was : (tree : Tree) (f : Import) → IsImportOf (renamed tree) f → (g : Import) × IsImportOf (group_of tree) g × (import_with to g ≡ f)
  import_was tree f (inl (k, n, options, is)) = go ((group_of tree).canons k n) refl is
    where
      go : (c : Option Func) → (group_of tree).canons k n ≡ c → option_map (canon_with to) c ≡ Some (LoweredFunc (Theirs f) options) → (g : Import) × IsImportOf (group_of tree) g × (import_with to g ≡ f)
      go None e is' = absurd (let q : None ≡ Some (LoweredFunc (Theirs f) options) = is' in cc)
      go (Some (LoweredFunc (Theirs g) options')) e is' = (g, inl (k, n, options', e), ap (λ z. import_of z f) is')
      go (Some (LoweredFunc (Mine m lifting) options')) e is' = absurd (let q : Some (LoweredFunc (target_with to (Mine m lifting)) options') ≡ Some (LoweredFunc (Theirs f) options) = is' in cc)
      go (Some (ResourceNew r)) e is' = absurd (let q : Some (ResourceNew (to r)) ≡ Some (LoweredFunc (Theirs f) options) = is' in cc)
      go (Some (ResourceDrop r)) e is' = absurd (let q : Some (ResourceDrop (to r)) ≡ Some (LoweredFunc (Theirs f) options) = is' in cc)
      go (Some (ResourceRep r)) e is' = absurd (let q : Some (ResourceRep (to r)) ≡ Some (LoweredFunc (Theirs f) options) = is' in cc)
  import_was tree f (inr (interface, name, is)) = go ((group_of tree).exports interface name) refl is
    where
      go : (t : Option Target) → (group_of tree).exports interface name ≡ t → option_map (target_with to) t ≡ Some (Theirs f) → (g : Import) × IsImportOf (group_of tree) g × (import_with to g ≡ f)
      go None e is' = absurd (let q : None ≡ Some (Theirs f) = is' in cc)
      go (Some (Theirs g)) e is' = (g, inr (interface, name, e), ap (λ z. import_in z f) is')
      go (Some (Mine m lifting)) e is' = absurd (let q : Some (target_with to (Mine m lifting)) ≡ Some (Theirs f) = is' in cc)

  pub drop_was : (tree : Tree) (r : ℕ) → DropsSome (renamed tree) r → (s : ℕ) × (to s ≡ r) × DropsSome (group_of tree) s
  drop_was tree r (k, n, is) = go ((group_of tree).canons k n) refl is
    where
      go : (c : Option Func) → (group_of tree).canons k n ≡ c → option_map (canon_with to) c ≡ Some (ResourceDrop r) → (s : ℕ) × (to s ≡ r) × DropsSome (group_of tree) s
      go None e is' = absurd (let q : None ≡ Some (ResourceDrop r) = is' in cc)
      go (Some (LoweredFunc target options)) e is' = absurd (let q : Some (LoweredFunc (target_with to target) options) ≡ Some (ResourceDrop r) = is' in cc)
      go (Some (ResourceNew s)) e is' = absurd (let q : Some (ResourceNew (to s)) ≡ Some (ResourceDrop r) = is' in cc)
      go (Some (ResourceDrop s)) e is' = (s, ap dropped_by is', (k, n, e))
      go (Some (ResourceRep s)) e is' = absurd (let q : Some (ResourceRep (to s)) ≡ Some (ResourceDrop r) = is' in cc)

  pub owner_of_renamed : (tree : Tree) (r : ℕ) → (renamed tree).owner (to r) ≡ (group_of tree).owner r
  owner_of_renamed tree r = owner_with (linked tree).whole.owners r

  pub imported_of_renamed : (tree : Tree) (r : ℕ) → (renamed tree).imported (to r) ≡ (group_of tree).imported r
  imported_of_renamed tree r = known_in_with (all_known [] (imports_of tree)) r
