-- The resources that an instance type declares are new, differ, and stand in its exports, which name those or known ones.
use Rattle.std.proofs.Common.{◌≡◌, ◌⊎◌, inl, inr, ℕ, ◌+◌, ◌≤◌, ◌<◌, ◌||◌, ◌&&◌, nat_eq, List, [], ◌∷◌, ◌++◌, length, Bool, true, false, Option, Some, None, refl, sym, ◌∙◌, subst, arith}
use Rattle.std.specs.Prelude.{slice_get}
use Rattle.std.specs.Option.{option_map, option_and_then}
use Rattle.std.proofs.lemmas.Bool.{false≢true}
use Rattle.wasm_ast.specs.declared.component.ExternDesc.{ExternDesc}
use Rattle.wasm_ast.specs.declared.component.ExternDesc.TheVariants as descs
use Rattle.wasm_ast.specs.declared.component.OuterSort.TheVariants as outer_sorts
use Rattle.wasm_ast.specs.declared.component.TypeAlias.TheVariants as type_aliases
use Rattle.wasm_ast.specs.declared.component.TypeDef.{TypeDef}
use Rattle.wasm_ast.specs.declared.component.TypeDef.TheVariants as defs
use Rattle.wit_types.specs.Plain.{Name}
use Rattle.comp_types.specs.Items.{Item, Entries, FuncItem, InstanceItem, KindItem, ResourceKind, InstanceKind, look_up, and_entry}
use Rattle.comp_types.specs.Declarations.{Declaration, Declarations, ATypeDef, AnInstanceType, ATypeAlias, ATypeExport, Done, Then}
use Rattle.comp_types.specs.GivenResources.{is_among, numbered}
use Rattle.comp_types.specs.Spaces.{Space, TypeEntry, core_func_at, kind_at, and_item, and_type, entry_of}
use Rattle.comp_types.specs.Types.{instance_in, kind_of}
use Rattle.comp_types.specs.Added.{brought, described, kind_item, new_numbers, and_index, and_some_item, and_some_type, and_outer, and_type_export, opened, instance_type, after_declaration, after_declarations}
use Rattle.comp_types.specs.Rules.{is_new_in, if_there, is_destructor, resources_are_sound}
use Rattle.comp_types.specs.Definitions.{AType}
use Rattle.comp_types.specs.Validity.{IsValidDeclaration, AreValidDeclarations}
use Rattle.comp_inside.specs.Linked.{Each}
use Rattle.comp_link.proofs.Kept.{found_before, found_new}
use Rattle.comp_joins.proofs.Shown.{found_at, Shown, none_found}
use Rattle.comp_joins.proofs.Names.{each_then, each_both, among_each, each_among, OwnOr, Apart, Differ, ItemNames, KindNames, AllName}
use Rattle.comp_joins.proofs.Described.{Wider, IfSome, KnowsAt, Knows, every_get, described_known, described_shown}
use Rattle.comp_joins.proofs.Arguments.{found_names}
use Rattle.comp_joins.proofs.Spaces.{type_more, item_more, entry_more, wider_knows}
use Rattle.comp_joins.proofs.Scopes.{type_in, stays_of, Reach, reach_wider, reach_inner}
use Rattle.comp_joins.proofs.Defined.{is_new, kind_of_known}

-- ---- numbers among others

among_first : (xs ys : List ℕ) (r : ℕ) → is_among xs r ≡ true → is_among (xs ++ ys) r ≡ true
among_first [] ys r is = absurd (false≢true is)
among_first (x ∷ xs) ys r is = go (nat_eq x r) is (among_first xs ys r)
  where
    go : (b : Bool) → (b || is_among xs r) ≡ true → (is_among xs r ≡ true → is_among (xs ++ ys) r ≡ true) → (b || is_among (xs ++ ys) r) ≡ true
    go true is' later = refl
    go false is' later = later is'

among_second : (xs ys : List ℕ) (r : ℕ) → is_among ys r ≡ true → is_among (xs ++ ys) r ≡ true
among_second [] ys r is = is
among_second (x ∷ xs) ys r is = go (nat_eq x r) (among_second xs ys r is)
  where
    go : (b : Bool) → is_among (xs ++ ys) r ≡ true → (b || is_among (xs ++ ys) r) ≡ true
    go true later = refl
    go false later = later

among_either : (xs ys : List ℕ) (r : ℕ) → is_among (xs ++ ys) r ≡ true → (is_among xs r ≡ true) ⊎ (is_among ys r ≡ true)
among_either [] ys r is = inr is
among_either (x ∷ xs) ys r is = go (nat_eq x r) is (among_either xs ys r)
  where
    go : (b : Bool) → (b || is_among (xs ++ ys) r) ≡ true → (is_among (xs ++ ys) r ≡ true → (is_among xs r ≡ true) ⊎ (is_among ys r ≡ true)) → ((b || is_among xs r) ≡ true) ⊎ (is_among ys r ≡ true)
    go true is' later = inl refl
    go false is' later = later is'

not_among : (xs : List ℕ) (r : ℕ) → (is_among xs r ≡ true → ⊥) → is_among xs r ≡ false
not_among xs r none = go (is_among xs r) refl
  where
    go : (b : Bool) → is_among xs r ≡ b → b ≡ false
    go true e = absurd (none e)
    go false e = refl

-- ---- new numbers

abbrev Within : ℕ → ℕ → ℕ → Type 0
Within n n' r = (n ≤ r) × (r < n')

numbered_within : (own : List ℕ) (n : ℕ) → Each (Within n (n + length (numbered own n))) (new_numbers (numbered own n))
numbered_within [] n = tt
numbered_within (o ∷ own) n = ((omega arith, omega arith), each_then (Within (n + 1) (n + 1 + length (numbered own (n + 1)))) (Within n (n + length (numbered (o ∷ own) n))) wider (new_numbers (numbered own (n + 1))) (numbered_within own (n + 1)))
  where
    wider : (r : ℕ) → Within (n + 1) (n + 1 + length (numbered own (n + 1))) r → Within n (n + length (numbered (o ∷ own) n)) r
    wider r w = let lo : n + 1 ≤ r = w.0 in (let hi : r < n + 1 + length (numbered own (n + 1)) = w.1 in (omega (arith, lo), omega (arith, hi)))

length_numbered : (own : List ℕ) (n : ℕ) → length (numbered own n) ≡ length own
length_numbered [] n = refl
length_numbered (o ∷ own) n = let rest : length (numbered own (n + 1)) ≡ length own = length_numbered own (n + 1) in omega (arith, rest)

pub numbers_within : (own : List ℕ) (n : ℕ) → Each (λ r. (n ≤ r) × (r < n + length own)) (new_numbers (numbered own n))
numbers_within own n = subst (λ z. Each (Within n (n + z)) (new_numbers (numbered own n))) (length_numbered own n) (numbered_within own n)

differ_both : (n : ℕ) (xs ys : List ℕ) → Each (λ r. r < n) xs → Each (λ r. n ≤ r) ys → Differ xs → Differ ys → Differ (xs ++ ys)
differ_both n [] ys less more dx dy = dy
differ_both n (x ∷ xs) ys less more dx dy = (not_among (xs ++ ys) x (λ is. either (among_either xs ys x is)), differ_both n xs ys less.1 more dx.1 dy)
  where
    either : (is_among xs x ≡ true) ⊎ (is_among ys x ≡ true) → ⊥
    either (inl is) = false≢true (sym dx.0 ∙ is)
    either (inr is) = let le : n ≤ x = among_each (λ r. n ≤ r) ys x is more in (let lt : x < n = less.0 in omega (arith, le, lt))

numbered_differ : (own : List ℕ) (n : ℕ) → Differ (new_numbers (numbered own n))
numbered_differ [] n = tt
numbered_differ (o ∷ own) n = (not_among (new_numbers (numbered own (n + 1))) n none, numbered_differ own (n + 1))
  where
    none : is_among (new_numbers (numbered own (n + 1))) n ≡ true → ⊥
    none is = let w : Within (n + 1) (n + 1 + length (numbered own (n + 1))) n = among_each (Within (n + 1) (n + 1 + length (numbered own (n + 1)))) (new_numbers (numbered own (n + 1))) n is (numbered_within own (n + 1)) in (let lo : n + 1 ≤ n = w.0 in omega (arith, lo))

pub brought_within : (s : Space) (desc : ExternDesc) → Each (λ r. (s.next ≤ r) × (r < s.next + length (brought s desc))) (new_numbers (brought s desc))
brought_within s (descs.Func i) = tt
brought_within s (descs.TypeEq i) = tt
brought_within s descs.Resource = ((omega arith, omega arith), tt)
brought_within s (descs.Instance i) = numbered_within (instance_in (kind_at s i)).0 s.next

brought_differ : (s : Space) (desc : ExternDesc) → Differ (new_numbers (brought s desc))
brought_differ s (descs.Func i) = tt
brought_differ s (descs.TypeEq i) = tt
brought_differ s descs.Resource = (refl, tt)
brought_differ s (descs.Instance i) = numbered_differ (instance_in (kind_at s i)).0 s.next

-- ---- one entry more

pub shown_before : (entries : Entries) (name : Name) (item : Item) (r : ℕ) → Shown (InstanceItem entries) r → Shown (InstanceItem (and_entry entries name item)) r
shown_before entries name item r ([], is) = absurd (let q : Some (InstanceItem entries) ≡ Some (KindItem (ResourceKind r)) = is in cc)
shown_before entries name item r ((n ∷ path), is) = ((n ∷ path), go (look_up n entries) refl is)
  where
    go : (o : Option Item) → look_up n entries ≡ o → found_at path o ≡ Some (KindItem (ResourceKind r)) → found_at path (look_up n (and_entry entries name item)) ≡ Some (KindItem (ResourceKind r))
    go None e is' = absurd (none_found path (KindItem (ResourceKind r)) is')
    go (Some i) e is' = subst (λ z. found_at path z ≡ Some (KindItem (ResourceKind r))) (sym (found_before entries name item n i e)) is'

pub shown_new : (entries : Entries) (name : Name) (item : Item) (r : ℕ) → is_new_in entries name ≡ true → Shown item r → Shown (InstanceItem (and_entry entries name item)) r
shown_new entries name item r new shown = ((name ∷ shown.0), subst (λ z. found_at shown.0 z ≡ Some (KindItem (ResourceKind r))) (sym (found_new entries name item new)) shown.1)

pub all_shown : (entries : Entries) (name : Name) (item : Item) (old new : List ℕ) → is_new_in entries name ≡ true → Each (Shown (InstanceItem entries)) old → Each (Shown item) new → Each (Shown (InstanceItem (and_entry entries name item))) (old ++ new)
all_shown entries name item old new is h k =
    each_both (Shown (InstanceItem (and_entry entries name item))) old new (each_then (Shown (InstanceItem entries)) (Shown (InstanceItem (and_entry entries name item))) (shown_before entries name item) old h)
    (each_then (Shown item) (Shown (InstanceItem (and_entry entries name item))) (λ r shown. shown_new entries name item r is shown) new k)

-- the index of what is described
pub index_more : {b : Bool} {base : ℕ} → (P : ℕ → Type 0) (n : ℕ) (s : Space) (desc : ExternDesc) → KnowsAt b base P n s → ItemNames P n (described s desc) → KnowsAt b base P n (and_index s desc)
index_more P n s (descs.Func i) h k = item_more P n s (described s (descs.Func i)) h k
index_more P n s descs.Resource h k = item_more P n s (described s descs.Resource) h k
index_more P n s (descs.Instance i) h k = item_more P n s (described s (descs.Instance i)) h k
index_more {b} {base} P n s (descs.TypeEq i) h k = go (slice_get s.types i) k
  where
    go : (o : Option TypeEntry) → ItemNames P n (kind_item (option_map (λ (e : TypeEntry). e.kind) o)) → KnowsAt b base P n (and_some_type s o)
    go None k' = h
    go (Some e) k' = type_more P n s e h k'

-- ---- an instance type, as it is declared in a scope where P is known and n0 is the next number

abbrev pub Declaring : (ℕ → Type 0) → ℕ → Space → Type 0
Declaring P n0 t = Knows false n0 (OwnOr t.defined P) t × Each (λ r. n0 ≤ r) t.defined × Differ t.defined × Each (Shown (InstanceItem t.exports)) t.defined

module _ (P : ℕ → Type 0) (n0 : ℕ) (below : (r : ℕ) → P r → r < n0) where
  pub begins : (s : Space) → s.next ≡ n0 → Declaring P n0 (opened s)
  begins s is = (record { form = refl; start = subst (λ z. z ≤ s.next) is (omega arith); below = less; kinds = tt; funcs = tt; items = tt; out = tt; ins = tt; shown = tt; nested = tt }, tt, tt, tt)
    where
      less : (r : ℕ) → OwnOr [] P r → r < s.next
      less r (inl is') = absurd (false≢true is')
      less r (inr p) = subst (λ z. r < z) (sym is) (below r p)

  -- what stands in the scope is known by what it declares, or else outside
  own_wider : (t : Space) → Declaring P n0 t → Wider P (OwnOr t.defined P) n0 t.next
  own_wider t h = record { behind = h.0.start; known = λ r p. inr p; new = new }
    where
      new : (r : ℕ) → Apart P n0 r → OwnOr t.defined P r → ⊥
      new r a (inl is) = let le : n0 ≤ r = among_each (λ x. n0 ≤ x) t.defined r is h.1 in (let lt : r < n0 = a.0 in omega (arith, le, lt))
      new r a (inr p) = a.1 p

  -- the instance type that it is at the end
  pub instance_type_known : (t : Space) → Declaring P n0 t → KindNames P t.next (InstanceKind t.defined t.exports)
  instance_type_known t h = (each_then (λ r. is_among t.defined r ≡ true) (Apart P t.next) apart t.defined (each_among t.defined), h.2, h.3, h.0.out)
    where
      apart : (r : ℕ) → is_among t.defined r ≡ true → Apart P t.next r
      apart r is = (h.0.below r (inl is), λ p. let le : n0 ≤ r = among_each (λ x. n0 ≤ x) t.defined r is h.1 in (let lt : r < n0 = below r p in omega (arith, le, lt)))

  item_declared : (t : Space) (item : Item) → Declaring P n0 t → ItemNames (OwnOr t.defined P) t.next item → Declaring P n0 (and_item t item)
  item_declared t (FuncItem ty) h k = (item_more (OwnOr t.defined P) t.next t (FuncItem ty) h.0 k, h.1, h.2, h.3)
  item_declared t (InstanceItem entries) h k = (item_more (OwnOr t.defined P) t.next t (InstanceItem entries) h.0 k, h.1, h.2, h.3)
  item_declared t (KindItem kind) h k = (item_more (OwnOr t.defined P) t.next t (KindItem kind) h.0 k, h.1, h.2, h.3)

  some_item_declared : (t : Space) (o : Option Item) → Declaring P n0 t → IfSome (ItemNames (OwnOr t.defined P) t.next) o → Declaring P n0 (and_some_item t o)
  some_item_declared t None h k = h
  some_item_declared t (Some item) h k = item_declared t item h k

  some_type_declared : (t : Space) (o : Option TypeEntry) → Declaring P n0 t → IfSome (λ (e : TypeEntry). KindNames (OwnOr t.defined P) t.next e.kind) o → Declaring P n0 (and_some_type t o)
  some_type_declared t None h k = h
  some_type_declared t (Some e) h k = (type_more (OwnOr t.defined P) t.next t e h.0 k, h.1, h.2, h.3)

  outer_declared : (t : Space) (o : Option Space) (i : ℕ) → Declaring P n0 t → IfSome (λ (e : TypeEntry). KindNames (OwnOr t.defined P) t.next e.kind) (type_in o i) → Declaring P n0 (and_outer t outer_sorts.Type o i)
  outer_declared t None i h k = h
  outer_declared t (Some scope) i h k = some_type_declared t (slice_get scope.types i) h k

  alias_declared : (t : Space) (o : Option Entries) (name : Name) → Declaring P n0 t → IfSome (AllName (OwnOr t.defined P) t.next) o → Declaring P n0 (and_some_item t (option_and_then (look_up name) o))
  alias_declared t None name h k = h
  alias_declared t (Some entries) name h k = some_item_declared t (look_up name entries) h (found_names (OwnOr t.defined P) t.next entries name k)

  -- no resource is defined in an instance type
  no_resource : (t : Space) (destructor : Option ℕ) → t.is_component ≡ false → resources_are_sound t (AType (ATypeDef (defs.Resource destructor))) ≡ true → ⊥
  no_resource t destructor e h = go t.is_component (if_there (λ i. if_there is_destructor (core_func_at t i)) destructor) e h
    where
      go : (is also : Bool) → is ≡ false → (is && also) ≡ true → ⊥
      go true also e' h' = false≢true (sym e')
      go false also e' h' = false≢true h'

  plain_declared : (t : Space) (d : TypeDef) → is_new d ≡ false → Declaring P n0 t → KnowsAt false n0 (OwnOr t.defined P) t.next (and_type t (entry_of (kind_of t d)))
  plain_declared t d e h = type_more (OwnOr t.defined P) t.next t (entry_of (kind_of t d)) h.0 (kind_of_known false n0 (OwnOr t.defined P) t h.0 d e)

  export_declared : (t : Space) (name : Name) (desc : ExternDesc) → is_new_in t.exports name ≡ true → Declaring P n0 t → Declaring P n0 (and_type_export t name desc)
  export_declared t name desc is h =
      let new : List ℕ = new_numbers (brought t desc) in
      let n' : ℕ = t.next + length (brought t desc) in
      let item : Item = described t desc in
      let Q : ℕ → Type 0 = OwnOr (t.defined ++ new) P in
      let among : Each (λ r. is_among new r ≡ true) new = each_among new in
      let named : ItemNames Q n' item = described_known (OwnOr t.defined P) Q t n' desc wider h.0 (each_then (λ r. is_among new r ≡ true) Q (λ r a. inl (among_second t.defined new r a)) new among) in
      let k : KnowsAt false n0 Q n' (and_index t desc) = index_more Q n' t desc (wider_knows (OwnOr t.defined P) Q t.next n' t wider less h.0) named in
      let le : n0 ≤ t.next = h.0.start in (
        record { form = k.form; start = k.start; below = k.below; kinds = k.kinds; funcs = k.funcs; items = k.items; out = entry_more Q n' t.exports name item (wider_knows (OwnOr t.defined P) Q t.next n' t wider less h.0).out named; ins = k.ins; shown = k.shown; nested = k.nested },
        each_both (λ r. n0 ≤ r) t.defined new h.1 (each_then (Within t.next n') (λ r. n0 ≤ r) (λ r w. not_less n0 t.next r le w.0) new (brought_within t desc)),
        differ_both t.next t.defined new (each_then (λ r. is_among t.defined r ≡ true) (λ r. r < t.next) (λ r a. h.0.below r (inl a)) t.defined (each_among t.defined)) (each_then (Within t.next n') (λ r. t.next ≤ r) (λ r w. w.0) new (brought_within t desc)) h.2 (brought_differ t desc),
        all_shown t.exports name item t.defined new is h.3 (described_shown (OwnOr t.defined P) t desc h.0),
      )
    where
      not_less : (a b c : ℕ) → a ≤ b → b ≤ c → a ≤ c
      not_less a b c le more = omega (arith, le, more)

      less : (r : ℕ) → OwnOr (t.defined ++ new_numbers (brought t desc)) P r → r < t.next + length (brought t desc)
      less r (inl a) = either (among_either t.defined (new_numbers (brought t desc)) r a)
        where
          either : (is_among t.defined r ≡ true) ⊎ (is_among (new_numbers (brought t desc)) r ≡ true) → r < t.next + length (brought t desc)
          either (inl old) = let lt : r < t.next = h.0.below r (inl old) in omega (arith, lt)
          either (inr new) = (among_each (Within t.next (t.next + length (brought t desc))) (new_numbers (brought t desc)) r new (brought_within t desc)).1
      less r (inr p) = let lt : r < t.next = h.0.below r (inr p) in omega (arith, lt)

      wider : Wider (OwnOr t.defined P) (OwnOr (t.defined ++ new_numbers (brought t desc)) P) t.next (t.next + length (brought t desc))
      wider = record { behind = omega arith; known = known; new = none }
        where
          known : (r : ℕ) → OwnOr t.defined P r → OwnOr (t.defined ++ new_numbers (brought t desc)) P r
          known r (inl a) = inl (among_first t.defined (new_numbers (brought t desc)) r a)
          known r (inr p) = inr p

          none : (r : ℕ) → Apart (OwnOr t.defined P) t.next r → OwnOr (t.defined ++ new_numbers (brought t desc)) P r → ⊥
          none r a (inr p) = a.1 (inr p)
          none r a (inl is') = either (among_either t.defined (new_numbers (brought t desc)) r is')
            where
              either : (is_among t.defined r ≡ true) ⊎ (is_among (new_numbers (brought t desc)) r ≡ true) → ⊥
              either (inl old) = a.1 (inl old)
              either (inr new) =
                  let w : Within t.next (t.next + length (brought t desc)) r = among_each (Within t.next (t.next + length (brought t desc))) (new_numbers (brought t desc)) r new (brought_within t desc) in
                  (let lo : t.next ≤ r = w.0 in (let hi : r < t.next = a.0 in omega (arith, lo, hi)))

mutual
  declared : (P : ℕ → Type 0) (n0 : ℕ) → ((r : ℕ) → P r → r < n0) → (around : List Space) (t : Space) (d : Declaration) → IsValidDeclaration around t d → Reach P n0 around → Declaring P n0 t → Declaring P n0 (after_declaration around t d)
  declared P n0 below around t (ATypeDef (defs.Resource destructor)) v reach h = absurd (no_resource P n0 below t destructor h.0.form ((v 14).destructors refl))
  declared P n0 below around t (ATypeDef d) v reach h = (plain_declared P n0 below t d refl h, h.1, h.2, h.3)
  declared P n0 below around t (AnInstanceType ds) v reach h =
      let Q : ℕ → Type 0 = OwnOr t.defined P in
      let inner : Space = after_declarations (t ∷ around) (opened t) ds in
      let reach' : Reach Q t.next (t ∷ around) = reach_inner Q t.next t around h.0.kinds (reach_wider P Q n0 t.next around (own_wider P n0 below t h) reach) in
      let k : Declaring Q t.next inner = all_declared Q t.next h.0.below (t ∷ around) (opened t) ds v.0 reach' (begins Q t.next h.0.below t refl) in
      let kind : KindNames Q inner.next (InstanceKind inner.defined inner.exports) = instance_type_known Q t.next h.0.below inner k in
      let w : Wider Q Q t.next inner.next = record { behind = k.0.start; known = λ r q. q; new = λ r a q. a.1 q } in
      (type_more Q inner.next t (instance_type inner) (wider_knows Q Q t.next inner.next t w (λ r q. k.0.below r (inr q)) h.0) kind, h.1, h.2, h.3)
  declared P n0 below around t (ATypeAlias (type_aliases.Export i name)) v reach h = alias_declared P n0 below t (slice_get t.instances i) name h (every_get (AllName (OwnOr t.defined P) t.next) t.instances i h.0.items)
  declared P n0 below around t (ATypeAlias (type_aliases.Outer count i)) v reach h =
      outer_declared P n0 below t (slice_get (t ∷ around) count) i h
      (reach_inner (OwnOr t.defined P) t.next t around h.0.kinds (reach_wider P (OwnOr t.defined P) n0 t.next around (own_wider P n0 below t h) reach) count i (stays_of (t ∷ around) count i ((v 8).borders refl)))
  declared P n0 below around t (ATypeExport name desc) v reach h = export_declared P n0 below t name desc ((v 15).declared_names refl) h

  -- What is declared in scopes that reach what is known.
  pub all_declared : (P : ℕ → Type 0) (n0 : ℕ) → ((r : ℕ) → P r → r < n0) → (around : List Space) (t : Space) (ds : Declarations) → AreValidDeclarations around t ds → Reach P n0 around → Declaring P n0 t → Declaring P n0 (after_declarations around t ds)
  all_declared P n0 below around t Done v reach h = h
  all_declared P n0 below around t (Then d ds) v reach h = all_declared P n0 below around (after_declaration around t d) ds v.1 reach (declared P n0 below around t d v.0 reach h)
