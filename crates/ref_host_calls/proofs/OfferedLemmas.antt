-- Offers that are made one after another.
use Rattle.std.proofs.Common.{◌≡◌, ℕ, ◌+◌, ◌*◌, nat_le, nat_lt, map, arith, Bool, true, false, List, [], ◌∷◌, ◌++◌, refl, sym, ap, ◌∙◌, if◌then◌else◌, Option, Result, Ok, Err}
use Rattle.std.specs.Prelude.{IfOk}
use Rattle.std.proofs.lemmas.List.{append_assoc}
use Rattle.wit_types.specs.PlainValue.{PlainValue}
use Rattle.tree_table.specs.Tables.{Forest}
use Rattle.wit_types.specs.Layout.{align_to}
use Rattle.std.proofs.lemmas.Bool.Decides.{nat_tests}
use Rattle.host_port.specs.Calls.{PlainCall, PlainObservation, Trap}
use Rattle.reference_step.specs.Atoms.{result_atoms, weight}
use Rattle.reference_step.specs.Listed.{Listed}
use Rattle.reference_step.specs.Values.{list_in}
use Rattle.host_port.specs.Hosts.{HostStep, Kept, Loss, drops}
use Rattle.reference_step.specs.Handles as contents
use Rattle.reference_step.specs.Handles.{first_free, with_entry, Live}
use Rattle.reference_step.specs.State.{Reference}
use Rattle.reference_step.specs.Steps as reference
use Rattle.ref_answers.specs.Versions.{resource_in, version_in}
use Rattle.ref_rules.specs.Lives.{LiveTable, count_of_kind}
use Rattle.ref_answers.specs.Seen.{content_in, live_in}
use Rattle.ref_answers.proofs.SeenLaws.{seen_fresh_id, seen_of_kind, seen_with_handle}
use Rattle.ref_host_calls.specs.declared.offers.Folder.{Folder}
use Rattle.ref_host_calls.specs.declared.offers.Folders.{Folders}
use Rattle.ref_host_calls.specs.Places.{stands_for}
use Rattle.ref_host_calls.specs.Offers.{folders_at}
use Rattle.ref_host_calls.specs.Offered.{GoesOn}

-- what holds of a value holds of it in another form
pub ok_map : {A E : Type 0} (r : Result A E) (P Q : A → Type 0) → ((x : A) → P x → Q x) → IfOk r P → IfOk r Q
ok_map (Ok x) P Q go p = go x p
ok_map (Err e) P Q go p = p

pub ok_four : {A E : Type 0} (r : Result A E) (P Q R T U : A → Type 0) → ((x : A) → P x → Q x → R x → T x → U x) → IfOk r P → IfOk r Q → IfOk r R → IfOk r T → IfOk r U
ok_four (Ok x) P Q R T U go p q s t = go x p q s t
ok_four (Err e) P Q R T U go p q s t = p

if_is : {A : Type 0} (a b : Bool) (x y : A) → a ≡ b → (if a then x else y) ≡ (if b then x else y)
if_is a b x y e = ap (λ c. if c then x else y) e

module _ {S : Type 0} (h : HostStep S) (f : Forest) (r : Reference S) (folders : Folders) (live : LiveTable) (seen : List PlainObservation) (values : List PlainValue) (rest : List (reference.Offer h)) where
  abbrev at : S → Reference S
  at inner = folders_at r f folders live inner

  -- ---- a folder that is given

  module _ (folder : Folder) (name : List ℕ) (inner : S) where
    abbrev all : List (reference.Offer h)
    all = reference.Given (content_in f (stands_for folder)) name ∷ rest

    abbrev next : Reference S
    next = reference.with_folder h (at inner) (content_in f (stands_for folder))

    by_room : (fits : Bool) → fits ≡ nat_le (1 + count_of_kind 6 live.handles) folders.policy.now.slots → reference.offers h (at inner) seen values all
        ≡ (if fits then reference.offers h next seen (values ++ reference.folder_value h (contents.fresh_id (live_in f live.handles)) name ∷ []) rest else record { seen = seen; answer = Trap; next = at inner })
    by_room fits is = if_is _ fits _ _ (ap (λ n. nat_le (1 + n) folders.policy.now.slots) (seen_of_kind f 6 live.handles) ∙ sym is)

    pub given : (fits : Bool) → fits ≡ nat_le (1 + count_of_kind 6 live.handles) folders.policy.now.slots → fits ≡ true → (live' : LiveTable) (values' : List PlainValue)
        → live' ≡ record live { handles = with_entry live.handles (record { kind = 6; content = stands_for folder }) } → values' ≡ values ++ reference.folder_value h (first_free live.handles) name ∷ []
        → reference.offers h (at inner) seen values all ≡ reference.offers h (folders_at r f folders live' inner) seen values' rest
    given fits is so live' values' lives named =
        by_room fits is
        ∙ ap (λ b. if b then reference.offers h next seen (values ++ reference.folder_value h (contents.fresh_id (live_in f live.handles)) name ∷ []) rest else record { seen = seen; answer = Trap; next = at inner }) so
        ∙ ap (λ (l : Live). reference.offers h (record (at inner) { live = l }) seen (values ++ reference.folder_value h (contents.fresh_id (live_in f live.handles)) name ∷ []) rest) (sym (seen_with_handle f live.handles 6 (stands_for folder)))
        ∙ ap (λ (x : LiveTable). reference.offers h (folders_at r f folders x inner) seen (values ++ reference.folder_value h (contents.fresh_id (live_in f live.handles)) name ∷ []) rest) (sym lives)
        ∙ ap (λ (n : ℕ). reference.offers h (folders_at r f folders live' inner) seen (values ++ reference.folder_value h n name ∷ []) rest) (seen_fresh_id f live.handles)
        ∙ ap (λ (vs : List PlainValue). reference.offers h (folders_at r f folders live' inner) seen vs rest) (sym named)

    pub not_given : (fits : Bool) → fits ≡ nat_le (1 + count_of_kind 6 live.handles) folders.policy.now.slots → fits ≡ false → reference.offers h (at inner) seen values all ≡ record { seen = seen; answer = Trap; next = at inner }
    not_given fits is never = by_room fits is ∙ ap (λ b. if b then reference.offers h next seen (values ++ reference.folder_value h (contents.fresh_id (live_in f live.handles)) name ∷ []) rest else record { seen = seen; answer = Trap; next = at inner }) never

  -- ---- a handle that is dropped

  pub lost : (id : ℕ) (k k' : Kept S) (base : List PlainObservation) → k' ≡ drops h k (resource_in (version_in folders.listed.now) 6) id → k.seen ≡ base ++ seen
      → GoesOn h (at k.state) seen values (reference.Lost id ∷ rest) (at k'.state) values rest base k'.seen
  lost id k k' base is before =
      let loss : Loss S = h.drop k.state (resource_in (version_in folders.listed.now) 6) id in
      record {
        shows = seen ++ loss.seen;
        seen = ap (λ (x : Kept S). x.seen) is ∙ ap (λ os. os ++ loss.seen) before ∙ append_assoc base seen loss.seen;
        same = ap (λ (x : S). reference.offers h (at x) (seen ++ loss.seen) values rest) (sym (ap (λ (x : Kept S). x.state) is));
      }

-- ---- what is made of the host's answer

if_true : {A : Type 0} (b : Bool) (x y : A) → b ≡ true → (if b then x else y) ≡ x
if_true true x y e = refl
if_true false x y e = cc

if_false : {A : Type 0} (b : Bool) (x y : A) → b ≡ false → (if b then x else y) ≡ y
if_false false x y e = refl
if_false true x y e = cc

too_heavy : (limit args left w : ℕ) → args + left ≡ limit → nat_le w left ≡ false → nat_lt limit (args + w) ≡ true
too_heavy limit args left w e light = grind (arith, nat_tests)

not_heavy : (limit args left w : ℕ) → args + left ≡ limit → nat_le w left ≡ true → nat_lt limit (args + w) ≡ false
not_heavy limit args left w e light = grind (arith, nat_tests)

module _ {S : Type 0} (h : HostStep S) (r : Reference S) (seen : List PlainObservation) (f : Listed) (c : PlainCall) (v : Option PlainValue) (left : ℕ) (room : reference.args_weight h f c + left ≡ r.setup.policy.transfer_limit)
    (n : ℕ) (all : List (reference.Offer h)) (these : all ≡ map (λ x. reference.offer_of h r.setup.policy x) (list_in (reference.value_of h v)) ++ reference.own_offers h r.setup) (count : n ≡ reference.given_count h all) where
  abbrev offered : List (reference.Offer h)
  offered = map (λ x. reference.offer_of h r.setup.policy x) (list_in (reference.value_of h v)) ++ reference.own_offers h r.setup

  abbrev bytes : ℕ
  bytes = weight (result_atoms f.function.ty.answer v) + align_to (n * 12) 8

  as_many : weight (result_atoms f.function.ty.answer v) + reference.elements_weight h (reference.given_count h offered) 12 ≡ bytes
  as_many = ap (λ m. weight (result_atoms f.function.ty.answer v) + align_to (m * 12) 8) (sym (count ∙ ap (reference.given_count h) these))

  pub folders_heavy : nat_le bytes left ≡ false → reference.folders_gave h r seen f c v ≡ record { seen = seen; answer = Trap; next = r }
  folders_heavy light = if_true _ _ _ (ap (λ w. nat_lt r.setup.policy.transfer_limit (reference.args_weight h f c + w)) as_many ∙ too_heavy r.setup.policy.transfer_limit (reference.args_weight h f c) left bytes room light)

  pub folders_light : nat_le bytes left ≡ true → reference.folders_gave h r seen f c v ≡ reference.offers h r seen [] all
  folders_light light =
      if_false _ _ _ (ap (λ w. nat_lt r.setup.policy.transfer_limit (reference.args_weight h f c + w)) as_many ∙ not_heavy r.setup.policy.transfer_limit (reference.args_weight h f c) left bytes room light)
      ∙ ap (λ os. reference.offers h r seen [] os) (sym these)
