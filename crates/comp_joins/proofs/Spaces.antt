-- What is added to index spaces names what is known.
use Rattle.std.proofs.Common.{◌≡◌, ◌⊎◌, inl, inr, ℕ, ◌≤◌, ◌<◌, List, [], ◌∷◌, ◌++◌, Bool, true, false, Option, Some, None, refl, arith}
use Rattle.std.specs.Prelude.{slice_get}
use Rattle.std.specs.Option.{option_map}
use Rattle.wasm_ast.specs.declared.component.Sort.{Sort}
use Rattle.wasm_ast.specs.declared.component.Sort.TheVariants as sorts
use Rattle.wasm_ast.specs.declared.component.NamedItem.{NamedItem}
use Rattle.wit_types.specs.Plain.{Name, PlainFunc}
use Rattle.comp_types.specs.Items.{Item, Kind, Entries, FuncItem, InstanceItem, KindItem, End, More, and_entry}
use Rattle.comp_types.specs.Substitution.{partner_in}
use Rattle.comp_types.specs.Subtyping.{AreGiven}
use Rattle.comp_types.specs.GivenResources.{is_among, named_in, named_in_func, renamed, given_by, numbered}
use Rattle.comp_types.specs.Spaces.{Space, TypeEntry, NestedComponent, kind_at, item_at, and_type, entry_of, and_item}
use Rattle.comp_types.specs.Added.{and_named, named_items, and_some_item, and_some_type, and_component, and_some_component, new_numbers}
use Rattle.comp_inside.specs.Linked.{Each, IsBrought}
use Rattle.comp_joins.proofs.Names.{each_then, ItemNames, KindNames, AllName, Spares, all_renamed, numbered_apart}
use Rattle.comp_joins.proofs.Described.{Wider, item_wider, every_and, every_then, every_get, IfSome, Brings, ComponentNames, component_wider, KnowsAt, Knows, kind_known, new_each}
use Rattle.comp_joins.proofs.Arguments.{EachGives, partner_gives, partner_or, partner_apart, args_give, imports_given}

-- ---- one more

pub type_more : {b : Bool} {base : ℕ} → (P : ℕ → Type 0) (n : ℕ) (s : Space) (e : TypeEntry) → KnowsAt b base P n s → KindNames P n e.kind → KnowsAt b base P n (and_type s e)
type_more P n s e h k = record { form = h.form; start = h.start; below = h.below; kinds = every_and (λ (x : TypeEntry). KindNames P n x.kind) s.types e h.kinds k; funcs = h.funcs; items = h.items; out = h.out; ins = h.ins; shown = h.shown; nested = h.nested }

pub item_more : {b : Bool} {base : ℕ} → (P : ℕ → Type 0) (n : ℕ) (s : Space) (item : Item) → KnowsAt b base P n s → ItemNames P n item → KnowsAt b base P n (and_item s item)
item_more P n s (FuncItem ty) h k = record { form = h.form; start = h.start; below = h.below; kinds = h.kinds; funcs = every_and (λ x. Each P (named_in_func x)) s.functions ty h.funcs k; items = h.items; out = h.out; ins = h.ins; shown = h.shown; nested = h.nested }
item_more P n s (InstanceItem entries) h k = record { form = h.form; start = h.start; below = h.below; kinds = h.kinds; funcs = h.funcs; items = every_and (AllName P n) s.instances entries h.items k; out = h.out; ins = h.ins; shown = h.shown; nested = h.nested }
item_more P n s (KindItem kind) h k = type_more P n s (entry_of kind) h k

pub component_more : {b : Bool} {base : ℕ} → (P : ℕ → Type 0) (n : ℕ) (s : Space) (c : NestedComponent) → KnowsAt b base P n s → ComponentNames P n c → KnowsAt b base P n (and_component s c)
component_more P n s c h k = record { form = h.form; start = h.start; below = h.below; kinds = h.kinds; funcs = h.funcs; items = h.items; out = h.out; ins = h.ins; shown = h.shown; nested = every_and (ComponentNames P n) s.components c h.nested k }

pub some_item_more : {b : Bool} {base : ℕ} → (P : ℕ → Type 0) (s : Space) (o : Option Item) → Knows b base P s → IfSome (ItemNames P s.next) o → Knows b base P (and_some_item s o)
some_item_more P s None h k = h
some_item_more P s (Some (FuncItem ty)) h k = item_more P s.next s (FuncItem ty) h k
some_item_more P s (Some (InstanceItem entries)) h k = item_more P s.next s (InstanceItem entries) h k
some_item_more P s (Some (KindItem kind)) h k = item_more P s.next s (KindItem kind) h k

pub some_type_more : {b : Bool} {base : ℕ} → (P : ℕ → Type 0) (s : Space) (o : Option TypeEntry) → Knows b base P s → IfSome (λ (e : TypeEntry). KindNames P s.next e.kind) o → Knows b base P (and_some_type s o)
some_type_more P s None h k = h
some_type_more P s (Some e) h k = type_more P s.next s e h k

pub some_component_more : {b : Bool} {base : ℕ} → (P : ℕ → Type 0) (s : Space) (o : Option NestedComponent) → Knows b base P s → IfSome (ComponentNames P s.next) o → Knows b base P (and_some_component s o)
some_component_more P s None h k = h
some_component_more P s (Some c) h k = component_more P s.next s c h k

pub entry_more : (P : ℕ → Type 0) (n : ℕ) (entries : Entries) (name : Name) (item : Item) → AllName P n entries → ItemNames P n item → AllName P n (and_entry entries name item)
entry_more P n End name item h k = (k, tt)
entry_more P n (More m i rest) name item h k = (h.0, entry_more P n rest name item h.1 k)

-- ---- what is named

pub item_known : {b : Bool} {base : ℕ} → (P : ℕ → Type 0) (s : Space) (sort : Sort) (i : ℕ) → Knows b base P s → IfSome (ItemNames P s.next) (item_at s sort i)
item_known P s sorts.Func i h = go (slice_get s.functions i) (every_get (λ ty. Each P (named_in_func ty)) s.functions i h.funcs)
  where
    go : (o : Option PlainFunc) → IfSome (λ ty. Each P (named_in_func ty)) o → IfSome (ItemNames P s.next) (option_map FuncItem o)
    go None k = tt
    go (Some ty) k = k
item_known P s sorts.Type i h = go (kind_at s i) (kind_known P s i h)
  where
    go : (o : Option Kind) → IfSome (KindNames P s.next) o → IfSome (ItemNames P s.next) (option_map KindItem o)
    go None k = tt
    go (Some kind) k = k
item_known P s sorts.Instance i h = go (slice_get s.instances i) (every_get (AllName P s.next) s.instances i h.items)
  where
    go : (o : Option Entries) → IfSome (AllName P s.next) o → IfSome (ItemNames P s.next) (option_map InstanceItem o)
    go None k = tt
    go (Some entries) k = k

and_named_known : (P : ℕ → Type 0) (n : ℕ) (o : Option Item) (name : Name) (rest : Entries) → IfSome (ItemNames P n) o → AllName P n rest → AllName P n (and_named o name rest)
and_named_known P n None name rest k h = h
and_named_known P n (Some item) name rest k h = (k, h)

pub named_known : {b : Bool} {base : ℕ} → (P : ℕ → Type 0) (s : Space) (es : List NamedItem) → Knows b base P s → AllName P s.next (named_items s es)
named_known P s [] h = tt
named_known P s (e ∷ es) h = and_named_known P s.next (item_at s e.sort e.index) e.name (named_items s es) (item_known P s e.sort e.index h) (named_known P s es h)

-- ---- more is known

pub wider_knows : {b : Bool} {base : ℕ} → (P Q : ℕ → Type 0) (n n' : ℕ) (s : Space) → Wider P Q n n' → ((r : ℕ) → Q r → r < n') → KnowsAt b base P n s → KnowsAt b base Q n' s
wider_knows {base = base} P Q n n' s w below h = record {
  form = h.form;
  start = not_less base n n' h.start w.behind;
  below = below;
  kinds = every_then (λ (e : TypeEntry). KindNames P n e.kind) (λ (e : TypeEntry). KindNames Q n' e.kind) (λ e k. item_wider P Q n n' w (KindItem e.kind) k) s.types h.kinds;
  funcs = every_then (λ ty. Each P (named_in_func ty)) (λ ty. Each Q (named_in_func ty)) (λ ty k. each_then P Q w.known (named_in_func ty) k) s.functions h.funcs;
  items = every_then (AllName P n) (AllName Q n') (λ entries k. item_wider P Q n n' w (InstanceItem entries) k) s.instances h.items;
  out = item_wider P Q n n' w (InstanceItem s.exports) h.out;
  ins = item_wider P Q n n' w (InstanceItem s.imports) h.ins;
  shown = h.shown;
  nested = every_then (ComponentNames P n) (ComponentNames Q n') (component_wider P Q n n' w) s.components h.nested;
}
  where
    not_less : (a c d : ℕ) → a ≤ c → c ≤ d → a ≤ d
    not_less a c d le more = omega (arith, le, more)

-- ---- an instantiated component

-- What it exports names what is known, where arguments do and its own resources are known by their new numbers. R holds of what the
-- component itself knows, so that instance types in its exports declare others.
pub instantiated_known : (P Q R : ℕ → Type 0) (partner : ℕ → ℕ) (c : NestedComponent) (args : Entries) (n n' : ℕ) → Wider P Q n n' → AllName P n args → AreGiven (λ x y. x ≡ partner y) args c.signature.imports
    → AllName (λ r. R r ⊎ P r) n c.signature.exports → Each (Brings c) (named_in c.signature.exports) → Each Q (new_numbers (numbered c.own n))
    → ((r : ℕ) → is_among c.own r ≡ true → R r) → ((r : ℕ) → IsBrought (given_by args c.signature.imports) r → R r)
    → AllName Q n' (renamed (given_by args c.signature.imports ++ numbered c.own n) c.signature.exports)
instantiated_known P Q R partner c args n n' w known given exports brings new owns keys =
    all_renamed (partner_in (given_by args c.signature.imports ++ numbered c.own n)) n n' w.behind (λ r. R r ⊎ P r) Q spares c.signature.exports exports (each_then (Brings c) (λ r. Q (partner_in (given_by args c.signature.imports ++ numbered c.own n) r)) becomes (named_in c.signature.exports) brings)
  where
    gives : (xs : List (ℕ × ℕ)) → EachGives P xs → EachGives Q xs
    gives [] h = tt
    gives (x ∷ xs) h = (w.known x.1 h.0, gives xs h.1)

    all : EachGives Q (given_by args c.signature.imports)
    all = gives (given_by args c.signature.imports) (args_give P n args c.signature.imports known)

    becomes : (r : ℕ) → Brings c r → Q (partner_in (given_by args c.signature.imports ++ numbered c.own n) r)
    becomes r (inl is) = partner_or Q (given_by args c.signature.imports) (numbered c.own n) r all (new_each Q c.own n r is new)
    becomes r (inr shown) = partner_gives Q (given_by args c.signature.imports) (numbered c.own n) r (imports_given (λ x y. x ≡ partner y) args c.signature.imports r given shown) all

    still : (r : ℕ) → (R r → ⊥) → (b : Bool) → is_among c.own r ≡ b → partner_in (given_by args c.signature.imports ++ numbered c.own n) r ≡ r
    still r none true e = absurd (none (owns r e))
    still r none false e = partner_apart (given_by args c.signature.imports) (numbered c.own n) r (λ b. none (keys r b)) (numbered_apart c.own n r e)

    spares : Spares (partner_in (given_by args c.signature.imports ++ numbered c.own n)) (λ r. R r ⊎ P r) Q n
    spares r a = (still r (λ b. a.1 (inl b)) (is_among c.own r) refl, w.new r (a.0, λ p. a.1 (inr p)))
