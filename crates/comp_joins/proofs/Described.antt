-- What index spaces name is known, and so is what a description says, once its new resources are.
use Rattle.std.proofs.Common.{◌≡◌, ◌⊎◌, inl, inr, ℕ, zero, suc, ◌+◌, ◌≤◌, ◌<◌, ◌||◌, nat_eq, cond, List, [], ◌∷◌, ◌++◌, map, Bool, true, false, Option, Some, None, refl, sym, ap, subst}
use Rattle.std.specs.Prelude.{slice_get}
use Rattle.std.specs.Option.{option_map}
use Rattle.std.proofs.Math.Path.{ap₂}
use Rattle.std.proofs.lemmas.Bool.{false≢true}
use Rattle.wasm_ast.specs.declared.component.ExternDesc.{ExternDesc}
use Rattle.wasm_ast.specs.declared.component.ExternDesc.TheVariants as descs
use Rattle.wit_types.specs.Plain.{Plain, Parts, PlainFunc, BoolType, SignedType, UnsignedType, CharType, StringType, ListType, RecordType, VariantType, FlagsType, OwnType, BorrowType, End as NoParts, More as Part, Bare}
use Rattle.comp_types.specs.Items.{Item, Kind, Entries, FuncItem, InstanceItem, KindItem, ResourceKind, ValueKind, FuncKind, InstanceKind, End, More}
use Rattle.comp_types.specs.Substitution.{partner_in, value_with, parts_with, answer_with, func_with, item_with, kind_with, entries_with}
use Rattle.comp_types.specs.GivenResources.{is_among, named_in_func, named_in_item, named_in, numbered}
use Rattle.comp_types.specs.Spaces.{Space, TypeEntry, NestedComponent, kind_at}
use Rattle.comp_types.specs.Types.{func_in, instance_in}
use Rattle.comp_types.specs.Added.{brought, described, kind_item, new_numbers}
use Rattle.comp_inside.specs.Linked.{Each}
use Rattle.comp_joins.proofs.Shown.{Shown, shown_with}
use Rattle.comp_joins.proofs.Names.{each_then, OwnOr, Apart, ItemNames, KindNames, AllName, Spares, item_named, all_named, item_renamed, all_renamed, numbered_apart, numbered_each}

-- ---- nothing changes where no number does

mutual
  value_same : (ty : Plain) → value_with (λ r. r) ty ≡ ty
  value_same BoolType = refl
  value_same (SignedType width) = refl
  value_same (UnsignedType width) = refl
  value_same CharType = refl
  value_same StringType = refl
  value_same (ListType item) = ap ListType (value_same item)
  value_same (RecordType form fields) = ap (RecordType form) (parts_same fields)
  value_same (VariantType form cases) = ap (VariantType form) (parts_same cases)
  value_same (FlagsType labels) = refl
  value_same (OwnType r) = refl
  value_same (BorrowType r) = refl

  parts_same : (ps : Parts) → parts_with (λ r. r) ps ≡ ps
  parts_same NoParts = refl
  parts_same (Part name ty rest) = ap₂ (Part name) (value_same ty) (parts_same rest)
  parts_same (Bare name rest) = ap (Bare name) (parts_same rest)

answer_same : (ty : Option Plain) → answer_with (λ r. r) ty ≡ ty
answer_same None = refl
answer_same (Some ty) = ap Some (value_same ty)

func_same : (ty : PlainFunc) → func_with (λ r. r) ty ≡ ty
func_same ty = ap₂ (λ ps a. record { params = ps; answer = a }) (parts_same ty.params) (answer_same ty.answer)

numbers_same : (rs : List ℕ) → map (λ r. r) rs ≡ rs
numbers_same [] = refl
numbers_same (r ∷ rs) = ap (λ z. r ∷ z) (numbers_same rs)

mutual
  item_same : (item : Item) → item_with (λ r. r) item ≡ item
  item_same (FuncItem ty) = ap FuncItem (func_same ty)
  item_same (InstanceItem entries) = ap InstanceItem (entries_same entries)
  item_same (KindItem kind) = ap KindItem (kind_same kind)

  kind_same : (kind : Kind) → kind_with (λ r. r) kind ≡ kind
  kind_same (ResourceKind r) = refl
  kind_same (ValueKind ty) = ap ValueKind (value_same ty)
  kind_same (FuncKind ty) = ap FuncKind (func_same ty)
  kind_same (InstanceKind own entries) = ap₂ InstanceKind (numbers_same own) (entries_same entries)

  entries_same : (es : Entries) → entries_with (λ r. r) es ≡ es
  entries_same End = refl
  entries_same (More name item rest) = ap₂ (More name) (item_same item) (entries_same rest)

-- More is known, but nothing in front of n.
pub record Wider (P Q : ℕ → Type 0) (n n' : ℕ) : Type 0 where
  pub behind : n ≤ n'
  pub known : (r : ℕ) → P r → Q r
  pub new : (r : ℕ) → Apart P n r → Q r → ⊥

-- a type whose names are known by others
pub item_carried : (P Q : ℕ → Type 0) (n n' : ℕ) → n ≤ n' → ((r : ℕ) → Apart P n r → Q r → ⊥) → (item : Item) → ItemNames P n item → Each Q (named_in_item item) → ItemNames Q n' item
item_carried P Q n n' le new item h e =
    subst (ItemNames Q n') (item_same item) (item_renamed (λ r. r) n n' le P Q (λ r a. (refl, new r a)) item h e)

pub item_wider : (P Q : ℕ → Type 0) (n n' : ℕ) → Wider P Q n n' → (item : Item) → ItemNames P n item → ItemNames Q n' item
item_wider P Q n n' w item h = item_carried P Q n n' w.behind w.new item h (each_then P Q w.known (named_in_item item) (item_named P n item h))

-- ---- index spaces

abbrev pub Every : {A : Type 0} → (A → Type 0) → List A → Type 0
Every P [] = Unit {0}
Every P (x ∷ xs) = P x × Every P xs

pub every_and : {A : Type 0} → (P : A → Type 0) (xs : List A) (x : A) → Every P xs → P x → Every P (xs ++ x ∷ [])
every_and P [] x h k = (k, tt)
every_and P (y ∷ xs) x h k = (h.0, every_and P xs x h.1 k)

pub every_then : {A : Type 0} → (P Q : A → Type 0) → ((x : A) → P x → Q x) → (xs : List A) → Every P xs → Every Q xs
every_then P Q f [] h = tt
every_then P Q f (x ∷ xs) h = (f x h.0, every_then P Q f xs h.1)

abbrev pub IfSome : {A : Type 0} → (A → Type 0) → Option A → Type 0
IfSome P None = Unit {0}
IfSome P (Some x) = P x

pub every_get : {A : Type 0} → (P : A → Type 0) (xs : List A) (i : ℕ) → Every P xs → IfSome P (slice_get xs i)
every_get P [] i h = tt
every_get P (x ∷ xs) zero h = h.0
every_get P (x ∷ xs) (suc i) h = every_get P xs i h.1

-- ---- components

-- what a component's exports name: its own resources, and those that stand in its imports
abbrev pub Brings : NestedComponent → ℕ → Type 0
Brings c r = (is_among c.own r ≡ true) ⊎ Shown (InstanceItem c.signature.imports) r

abbrev pub IsOwn : NestedComponent → ℕ → Type 0
IsOwn c r = (is_among c.own r ≡ true) ⊎ (is_among (named_in c.signature.imports) r ≡ true)

-- Instance types in its exports declare other resources, which are known nowhere.
abbrev pub ComponentNames : (ℕ → Type 0) → ℕ → NestedComponent → Type 0
ComponentNames P n c = AllName (λ r. IsOwn c r ⊎ P r) n c.signature.exports × Each (Brings c) (named_in c.signature.exports)

pub component_wider : (P Q : ℕ → Type 0) (n n' : ℕ) → Wider P Q n n' → (c : NestedComponent) → ComponentNames P n c → ComponentNames Q n' c
component_wider P Q n n' w c h = (item_wider (λ r. IsOwn c r ⊎ P r) (λ r. IsOwn c r ⊎ Q r) n n' (record { behind = w.behind; known = known'; new = new' }) (InstanceItem c.signature.exports) h.0, h.1)
  where
    known' : (r : ℕ) → IsOwn c r ⊎ P r → IsOwn c r ⊎ Q r
    known' r (inl own) = inl own
    known' r (inr p) = inr (w.known r p)

    new' : (r : ℕ) → Apart (λ x. IsOwn c x ⊎ P x) n r → IsOwn c r ⊎ Q r → ⊥
    new' r a (inl own) = a.1 (inl own)
    new' r a (inr q) = w.new r (a.0, λ p. a.1 (inr p)) q

-- ---- what stands at each index names what is known; known are numbers in front of n, and n is not in front of base

pub record Knowing (b : Bool) (base : ℕ) (P : ℕ → Type 0) (n : ℕ) (is : Bool) (types : List TypeEntry) (functions : List PlainFunc) (instances : List Entries) (exports imports : Entries) (imported : List ℕ) (components : List NestedComponent) : Type 0 where
  pub form : is ≡ b
  pub start : base ≤ n
  pub below : (r : ℕ) → P r → r < n
  pub kinds : Every (λ (e : TypeEntry). KindNames P n e.kind) types
  pub funcs : Every (λ ty. Each P (named_in_func ty)) functions
  pub items : Every (AllName P n) instances
  pub out : AllName P n exports
  pub ins : AllName P n imports
  pub shown : Each (Shown (InstanceItem imports)) imported
  pub nested : Every (ComponentNames P n) components

abbrev pub KnowsAt : Bool → ℕ → (ℕ → Type 0) → ℕ → Space → Type 0
KnowsAt b base P n s = Knowing b base P n s.is_component s.types s.functions s.instances s.exports s.imports s.imported s.components

abbrev pub Knows : Bool → ℕ → (ℕ → Type 0) → Space → Type 0
Knows b base P s = KnowsAt b base P s.next s

pub kind_known : {b : Bool} {base : ℕ} → (P : ℕ → Type 0) (s : Space) (i : ℕ) → Knows b base P s → IfSome (KindNames P s.next) (kind_at s i)
kind_known P s i h = go (slice_get s.types i) (every_get (λ (e : TypeEntry). KindNames P s.next e.kind) s.types i h.kinds)
  where
    go : (o : Option TypeEntry) → IfSome (λ (e : TypeEntry). KindNames P s.next e.kind) o → IfSome (KindNames P s.next) (option_map (λ (e : TypeEntry). e.kind) o)
    go None k = tt
    go (Some e) k = k

pub func_known : (P : ℕ → Type 0) (n : ℕ) (o : Option Kind) → IfSome (KindNames P n) o → Each P (named_in_func (func_in o))
func_known P n None h = tt
func_known P n (Some (ResourceKind r)) h = tt
func_known P n (Some (ValueKind ty)) h = tt
func_known P n (Some (FuncKind ty)) h = h
func_known P n (Some (InstanceKind own entries)) h = tt

-- ---- descriptions

pub new_each : (Q : ℕ → Type 0) (own : List ℕ) (next r : ℕ) → is_among own r ≡ true → Each Q (new_numbers (numbered own next)) → Q (partner_in (numbered own next) r)
new_each Q [] next r is h = absurd (false≢true is)
new_each Q (o ∷ own) next r is h = go (nat_eq o r) is (new_each Q own (next + 1) r)
  where
    go : (b : Bool) → (b || is_among own r) ≡ true → (is_among own r ≡ true → Each Q (new_numbers (numbered own (next + 1))) → Q (partner_in (numbered own (next + 1)) r)) → Q (cond b next (partner_in (numbered own (next + 1)) r))
    go true is' later = h.0
    go false is' later = later is' h.1

-- an instance type that is described: its own resources have their new numbers
instance_known : (P Q : ℕ → Type 0) (n n' : ℕ) → Wider P Q n n' → (own : List ℕ) (entries : Entries) → KindNames P n (InstanceKind own entries) → Each Q (new_numbers (numbered own n))
    → AllName Q n' (entries_with (partner_in (numbered own n)) entries)
instance_known P Q n n' w own entries h new =
    all_renamed (partner_in (numbered own n)) n n' w.behind (OwnOr own P) Q spares entries h.3
    (each_then (OwnOr own P) (λ r. Q (partner_in (numbered own n) r)) becomes (named_in entries) (all_named (OwnOr own P) n entries h.3))
  where
    known' : (r : ℕ) → P r → (b : Bool) → is_among own r ≡ b → Q (partner_in (numbered own n) r)
    known' r p true e = new_each Q own n r e new
    known' r p false e = subst Q (sym (numbered_apart own n r e)) (w.known r p)

    becomes : (r : ℕ) → OwnOr own P r → Q (partner_in (numbered own n) r)
    becomes r (inl is) = new_each Q own n r is new
    becomes r (inr p) = known' r p (is_among own r) refl

    still : (r : ℕ) → (OwnOr own P r → ⊥) → (b : Bool) → is_among own r ≡ b → partner_in (numbered own n) r ≡ r
    still r none true e = absurd (none (inl e))
    still r none false e = numbered_apart own n r e

    spares : Spares (partner_in (numbered own n)) (OwnOr own P) Q n
    spares r a = (still r a.1 (is_among own r) refl, w.new r (a.0, λ p. a.1 (inr p)))

kind_item_known : (Q : ℕ → Type 0) (n : ℕ) (o : Option Kind) → IfSome (KindNames Q n) o → ItemNames Q n (kind_item o)
kind_item_known Q n None h = tt
kind_item_known Q n (Some kind) h = h

-- of any kind that is no instance type there are no resources and no entries
instance_in_known : (P Q : ℕ → Type 0) (n n' : ℕ) → Wider P Q n n' → (o : Option Kind) → IfSome (KindNames P n) o → Each Q (new_numbers (numbered (instance_in o).0 n))
    → AllName Q n' (entries_with (partner_in (numbered (instance_in o).0 n)) (instance_in o).1)
instance_in_known P Q n n' w None h new = tt
instance_in_known P Q n n' w (Some (ResourceKind r)) h new = tt
instance_in_known P Q n n' w (Some (ValueKind ty)) h new = tt
instance_in_known P Q n n' w (Some (FuncKind ty)) h new = tt
instance_in_known P Q n n' w (Some (InstanceKind own entries)) h new = instance_known P Q n n' w own entries h new

-- What is described names what is known, once the resources that it brings are known.
pub described_known : {b : Bool} {base : ℕ} → (P Q : ℕ → Type 0) (s : Space) (n' : ℕ) (desc : ExternDesc) → Wider P Q s.next n' → Knows b base P s → Each Q (new_numbers (brought s desc)) → ItemNames Q n' (described s desc)
described_known P Q s n' (descs.Func i) w h new = each_then P Q w.known (named_in_func (func_in (kind_at s i))) (func_known P s.next (kind_at s i) (kind_known P s i h))
described_known P Q s n' (descs.TypeEq i) w h new = item_wider P Q s.next n' w (kind_item (kind_at s i)) (kind_item_known P s.next (kind_at s i) (kind_known P s i h))
described_known P Q s n' descs.Resource w h new = new.0
described_known P Q s n' (descs.Instance i) w h new = instance_in_known P Q s.next n' w (kind_at s i) (kind_known P s i h) new

-- The resources that it brings stand in it.
instance_shown : (P : ℕ → Type 0) (n : ℕ) (o : Option Kind) → IfSome (KindNames P n) o
    → Each (Shown (InstanceItem (entries_with (partner_in (numbered (instance_in o).0 n)) (instance_in o).1))) (new_numbers (numbered (instance_in o).0 n))
instance_shown P n None h = tt
instance_shown P n (Some (ResourceKind r)) h = tt
instance_shown P n (Some (ValueKind ty)) h = tt
instance_shown P n (Some (FuncKind ty)) h = tt
instance_shown P n (Some (InstanceKind own entries)) h =
    let f : ℕ → ℕ = partner_in (numbered own n) in
    let item : Item = InstanceItem (entries_with f entries) in
    numbered_each (Shown item) own n h.1 (each_then (Shown (InstanceItem entries)) (λ r. Shown item (f r)) (λ r is. shown_with f (InstanceItem entries) r is) own h.2)

pub described_shown : {b : Bool} {base : ℕ} → (P : ℕ → Type 0) (s : Space) (desc : ExternDesc) → Knows b base P s → Each (Shown (described s desc)) (new_numbers (brought s desc))
described_shown P s (descs.Func i) h = tt
described_shown P s (descs.TypeEq i) h = tt
described_shown P s descs.Resource h = (([], refl), tt)
described_shown P s (descs.Instance i) h = instance_shown P s.next (kind_at s i) (kind_known P s i h)
