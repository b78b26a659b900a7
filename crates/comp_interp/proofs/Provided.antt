-- A canonical function more, or an owner more, in what stands.
use Rattle.std.proofs.Common.{◌≡◌, ◌∙◌, ◌⊎◌, inl, inr, ap, sym, refl, ℕ, ◌&&◌, nat_eq, cond, List, [], ◌∷◌, ◌++◌, length, set, Option, Some, None, Bool, true, false, Vec, arith, slice_get}
use Rattle.std.specs.Option.{option_map, option_and_then}
use Rattle.std.specs.Global.{Global}
use Rattle.std.proofs.lemmas.Bool.{eqb-true}
use Rattle.std.proofs.lemmas.Option.{none-some, slice_get_past}
use Rattle.wasm_ast.specs.declared.module.CoreFunc.{CoreFunc}
use Rattle.core_store.specs.Scene.{Scene, scene_of}
use Rattle.comp_worlds.specs.Groups.{Func, Owner}
use Rattle.comp_link.specs.Linking.{Placed, Owned, Making, with_canon, with_resource, place_at, canon_in, owner_in}
use Rattle.comp_joins.specs.Joining.{or_else}
use Rattle.comp_joins.proofs.Lists.{canon_append, owner_append}
use Rattle.instance_state.specs.declared.canon.Canon.{Canon}
use Rattle.instance_state.specs.Targets.{func_of}
use Rattle.call_moments.specs.Grouped.{canon_in as canon_known}
use Rattle.call_moments.specs.Fits.{core_type_of}
use Rattle.comp_interp.specs.Gathered.{row_at}
use Rattle.comp_interp.specs.Standing.{FuncStands, OwnerStands, Stands}
use Rattle.comp_interp.proofs.Gathering.{some_same}
use Rattle.comp_interp.proofs.Lists.{is_itself}
use Rattle.comp_interp.proofs.Standing.{provided_stands, owned_stands}

-- a row has no canonical function after its last one
pub none_behind : (rows : List (Vec Canon Global)) (k n : ℕ) → row_at rows k ≡ Some n → canon_known rows k n ≡ None
none_behind rows k n e = go (slice_get rows k) refl
  where
    go : (o : Option (Vec Canon Global)) → slice_get rows k ≡ o → canon_known rows k n ≡ None
    go None at = ap (λ o. option_map func_of (option_and_then (λ (row : Vec Canon Global). slice_get row.items n) o)) at
    go (Some row) at =
        let count : length row.items ≡ n = some_same (length row.items) n (sym (ap (option_map (λ (r : Vec Canon Global). length r.items)) at) ∙ e) in
        ap (λ o. option_map func_of (option_and_then (λ (r : Vec Canon Global). slice_get r.items n) o)) at ∙ ap (option_map func_of) (slice_get_past row.items n (omega (arith, count)))

-- ---- one more canonical function, of a number that none has

module _ (ps : List Placed) (k n : ℕ) (f : Func) (none : canon_in ps k n ≡ None) where
  abbrev one : List Placed
  one = record { instance = k; number = n; canon = f } ∷ []

  here : canon_in one k n ≡ Some f
  here = ap (λ b. cond (b && nat_eq n n) (Some f) None) (is_itself k) ∙ ap (λ b. cond b (Some f) None) (is_itself n)

  pub canon_new : canon_in (ps ++ one) k n ≡ Some f
  canon_new = canon_append ps one k n ∙ ap (λ o. or_else o (canon_in one k n)) none ∙ here

  pub canon_kept : (j i : ℕ) (g : Func) → canon_in ps j i ≡ Some g → canon_in (ps ++ one) j i ≡ Some g
  canon_kept j i g e = canon_append ps one j i ∙ ap (λ o. or_else o (canon_in one j i)) e

  pub canon_either : (j i : ℕ) (g : Func) → canon_in (ps ++ one) j i ≡ Some g → (canon_in ps j i ≡ Some g) ⊎ ((j ≡ k) × (g ≡ f))
  canon_either j i g e = go (canon_in ps j i) refl
    where
      last : (a b : Bool) → nat_eq k j ≡ a → cond (a && b) (Some f) None ≡ Some g → (j ≡ k) × (g ≡ f)
      last true true is e' = let same : f ≡ g = cc in (sym (eqb-true k j is), sym same)
      last true false is e' = absurd (none-some g e')
      last false b is e' = absurd (none-some g e')

      go : (o : Option Func) → canon_in ps j i ≡ o → (canon_in ps j i ≡ Some g) ⊎ ((j ≡ k) × (g ≡ f))
      go (Some x) at = inl (at ∙ sym (canon_append ps one j i ∙ ap (λ o. or_else o (canon_in one j i)) at) ∙ e)
      go None at = inr (last (nat_eq k j) (nat_eq n i) refl (sym (canon_append ps one j i ∙ ap (λ o. or_else o (canon_in one j i)) at) ∙ e))

module _ (ss : List Scene) (g : Making) (owner : ℕ → Option Owner) (stands : Stands ss (canon_in g.whole.canons) owner) (found : slice_get ss g.instance ≡ Some (scene_of g.shadow)) where
  pub canon_stands : (ty : CoreFunc) (f : Func) → canon_in g.whole.canons g.instance g.canons ≡ None → FuncStands ss g.instance f → ty.params ≡ (core_type_of f).params → ty.results ≡ (core_type_of f).results →
      Stands (set ss g.instance (scene_of (with_canon g ty f).shadow)) (canon_in (with_canon g ty f).whole.canons) owner
  canon_stands ty f none fits params results =
      provided_stands ss (canon_in g.whole.canons) (canon_in (with_canon g ty f).whole.canons) owner stands g.instance g.canons (scene_of g.shadow) found f ty fits params results
      (canon_new g.whole.canons g.instance g.canons f none) (canon_kept g.whole.canons g.instance g.canons f none) (canon_either g.whole.canons g.instance g.canons f none)

-- ---- one more owner

pub owner_stands : (ss : List Scene) (g : Making) (canons : ℕ → ℕ → Option Func) (resource : ℕ) (destructor : Option ℕ) → Stands ss canons (owner_in g.whole.owners) →
    OwnerStands ss (Some (record { instance = g.instance; destructor = option_map (place_at g.core_functions) destructor })) → Stands ss canons (owner_in (with_resource g resource destructor).whole.owners)
owner_stands ss g canons resource destructor stands fits = owned_stands ss canons (owner_in g.whole.owners) (owner_in (with_resource g resource destructor).whole.owners) new stands fits either
  where
    new : Owner
    new = record { instance = g.instance; destructor = option_map (place_at g.core_functions) destructor }

    one : List Owned
    one = record { resource = g.whole.next_resource; owner = new } ∷ []

    of_one : (r : ℕ) (o : Option Owner) (b : Bool) → (or_else o (cond b (Some new) None) ≡ o) ⊎ (or_else o (cond b (Some new) None) ≡ Some new)
    of_one r (Some o) b = inl refl
    of_one r None true = inr refl
    of_one r None false = inl refl

    either : (r : ℕ) → (owner_in (g.whole.owners ++ one) r ≡ owner_in g.whole.owners r) ⊎ (owner_in (g.whole.owners ++ one) r ≡ Some new)
    either r = elim (of_one r (owner_in g.whole.owners r) (nat_eq g.whole.next_resource r)) [ inl same ↦ inl (owner_append g.whole.owners one r ∙ same) | inr is ↦ inr (owner_append g.whole.owners one r ∙ is) ]
