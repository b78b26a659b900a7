-- What is known of resources, with one more.
use Rattle.std.proofs.Common.{◌≡◌, ◌∙◌, ap, sym, refl, ℕ, ◌+◌, max, List, [], ◌∷◌, ◌++◌, Bool, true, false, Option, Some, None, cond, nat_eq, arith, append_assoc}
use Rattle.std.specs.Prelude.{is_some}
use Rattle.std.specs.Option.{option_or}
use Rattle.std.proofs.lemmas.Bool.{false≢true}
use Rattle.std.proofs.lemmas.Bool.Decides.{nat_tests}
use Rattle.wit_types.specs.Plain.{Name}
use Rattle.comp_types.specs.Items.{same_name}
use Rattle.comp_types.specs.Views.{item_of, entries_of}
use Rattle.comp_types.specs.declared.types.InstanceEntry.{InstanceEntry}
use Rattle.comp_link.specs.Linking.{Known, behind_known, known_in, no_resource, find, outside, all_outside, known, all_known}
use Rattle.host_port.specs.declared.call.Resource.{Resource}
use Rattle.instance_making.specs.Outside.{resource_at, first_known, AreKnown}
use Rattle.instance_making.specs.declared.imports.HostResources.{HostResources}
use Rattle.instance_making.proofs.CoreLemmas.{or_if}

max_last : (a b c : ℕ) → max a (max b c) ≡ max (max a b) c
max_last a b c = omega arith

pub behind_last : (ks : List Known) (k : Known) → behind_known (ks ++ k ∷ []) ≡ max (behind_known ks) (k.number + 1)
behind_last [] k = omega arith
behind_last (x ∷ ks) k = ap (max (x.number + 1)) (behind_last ks k) ∙ max_last (x.number + 1) (behind_known ks) (k.number + 1)

pub first_last : (ks : List Known) (k : Known) (r : ℕ) → first_known (ks ++ k ∷ []) r ≡ option_or (first_known ks r) (cond (nat_eq k.number r) (Some k.resource) None)
first_last [] k r = refl
first_last (x ∷ ks) k r = ap (λ o. cond (nat_eq x.number r) (Some x.resource) o) (first_last ks k r) ∙ or_if (nat_eq x.number r) x.resource (first_known ks r) (cond (nat_eq k.number r) (Some k.resource) None)

same_number : (n r : ℕ) → nat_eq n r ≡ true → n ≡ r
same_number n r h = grind (arith, nat_tests)

or_none : {T : Type 0} (o : Option T) → o ≡ option_or o None
or_none None = refl
or_none (Some x) = refl

or_some : {T : Type 0} (o : Option T) (x : T) → is_some o ≡ true → o ≡ option_or o (Some x)
or_some None x h = absurd (false≢true h)
or_some (Some y) x h = refl

not_some : {T : Type 0} (o : Option T) → is_some o ≡ false → o ≡ None
not_some None h = refl
not_some (Some x) h = absurd (false≢true (sym h))

-- a number that has a resource keeps it
known_by : {T : Type 0} (at : ℕ → Option T) (n r : ℕ) (x : T) (b : Bool) → nat_eq n r ≡ b → is_some (at n) ≡ true → at r ≡ option_or (at r) (cond b (Some x) None)
known_by at n r x true e h = or_some (at r) x (ap (λ k. is_some (at k)) (sym (same_number n r e)) ∙ h)
known_by at n r x false e h = or_none (at r)

-- and one that has none gets this
new_by : {T : Type 0} (at : ℕ → Option T) (n r : ℕ) (x : T) (b : Bool) → nat_eq n r ≡ b → is_some (at n) ≡ false → cond b (Some x) (at r) ≡ option_or (at r) (cond b (Some x) None)
new_by at n r x true e h = sym (ap (λ o. option_or o (Some x)) (ap at (sym (same_number n r e)) ∙ not_some (at n) h))
new_by at n r x false e h = or_none (at r)

pub known_still : (m n : HostResources) (ks : List Known) (k : Known) → AreKnown m ks → n.behind ≡ max m.behind (k.number + 1) → ((r : ℕ) → resource_at n r ≡ resource_at m r) → is_some (resource_at m k.number) ≡ true → AreKnown n (ks ++ k ∷ [])
known_still m n ks k h e same there = record {
  behind = e ∙ (ap (λ b. max b (k.number + 1)) h.behind ∙ sym (behind_last ks k));
  resources = λ r. same r ∙ (known_by (resource_at m) k.number r k.resource (nat_eq k.number r) refl there ∙ (ap (λ o. option_or o (cond (nat_eq k.number r) (Some k.resource) None)) (h.resources r) ∙ sym (first_last ks k r)));
}

pub known_new : (m n : HostResources) (ks : List Known) (k : Known) → AreKnown m ks → n.behind ≡ max m.behind (k.number + 1) → ((r : ℕ) → resource_at n r ≡ cond (nat_eq k.number r) (Some k.resource) (resource_at m r)) → is_some (resource_at m k.number) ≡ false → AreKnown n (ks ++ k ∷ [])
known_new m n ks k h e new lacks = record {
  behind = e ∙ (ap (λ b. max b (k.number + 1)) h.behind ∙ sym (behind_last ks k));
  resources = λ r. new r ∙ (new_by (resource_at m) k.number r k.resource (nat_eq k.number r) refl lacks ∙ (ap (λ o. option_or o (cond (nat_eq k.number r) (Some k.resource) None)) (h.resources r) ∙ sym (first_last ks k r)));
}

abbrev resource_or : Option Resource → Resource
resource_or None = no_resource
resource_or (Some x) = x

choice : (b : Bool) (x : Resource) (o : Option Resource) → cond b x (resource_or o) ≡ resource_or (cond b (Some x) o)
choice true x o = refl
choice false x o = refl

known_is : (ks : List Known) (r : ℕ) → known_in ks r ≡ resource_or (first_known ks r)
known_is [] r = refl
known_is (k ∷ ks) r = ap (λ x. cond (nat_eq k.number r) k.resource x) (known_is ks r) ∙ choice (nat_eq k.number r) k.resource (first_known ks r)

-- the definition's resource of a number that has one
pub known_first : (ks : List Known) (r : ℕ) (x : Resource) → first_known ks r ≡ Some x → known_in ks r ≡ x
known_first ks r x e = known_is ks r ∙ ap resource_or e

-- ---- entries that follow one another

pub known_last : (interface : Name) (es : List InstanceEntry) (e : InstanceEntry) → all_known interface (entries_of (es ++ e ∷ [])) ≡ all_known interface (entries_of es) ++ known interface e.name (item_of e.ty)
known_last interface [] e = nil (known interface e.name (item_of e.ty))
  where
    nil : (ks : List Known) → ks ++ [] ≡ ks
    nil [] = refl
    nil (k ∷ ks) = ap (λ xs. k ∷ xs) (nil ks)
known_last interface (x ∷ es) e =
    ap (λ ks. known interface x.name (item_of x.ty) ++ ks) (known_last interface es e)
    ∙ sym (append_assoc (known interface x.name (item_of x.ty)) (all_known interface (entries_of es)) (known interface e.name (item_of e.ty)))

pub outside_last : (q interface : Name) (es : List InstanceEntry) (e : InstanceEntry)
    → find q (all_outside interface (entries_of (es ++ e ∷ []))) ≡ option_or (find q (all_outside interface (entries_of es))) (cond (same_name e.name q) (Some (outside interface e.name (item_of e.ty))) None)
outside_last q interface [] e = refl
outside_last q interface (x ∷ es) e =
    ap (λ o. cond (same_name x.name q) (Some (outside interface x.name (item_of x.ty))) o) (outside_last q interface es e)
    ∙ or_if (same_name x.name q) (outside interface x.name (item_of x.ty)) (find q (all_outside interface (entries_of es))) (cond (same_name e.name q) (Some (outside interface e.name (item_of e.ty))) None)
