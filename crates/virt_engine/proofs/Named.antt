-- A call of a script, whose arguments are of the parameters of a function by its name, may be made of what the component's group exports by
-- that name.
use Rattle.std.proofs.Common.{◌≡◌, ◌∙◌, ◌⊎◌, inl, inr, refl, sym, ap, subst, ℕ, suc, ◌+◌, ◌<◌, ◌&&◌, ◌||◌, not, nat_eq, [], ◌∷◌, ◌++◌, length, take, drop, Bool, true, false, cond, Option, Some, None, arith}
use Rattle.std.specs.Prelude.{nat_lt}
use Rattle.std.specs.List.{position_or_len}
use Rattle.std.specs.Str.{bytes_eq}
use Rattle.std.proofs.lemmas.Slice.Eq.{bytes_eq-Decides}
use Rattle.std.proofs.lemmas.Bool.{false≢true, false_from_ne_true}
use Rattle.std.proofs.lemmas.Bool.Decides.{nat_tests}
use Rattle.std.proofs.lemmas.Option.{none-some}
use Rattle.wit_types.specs.Plain.{Name, Parts, PlainFunc}
use Rattle.comp_facts.specs.Handles.{func_has_handle}
use Rattle.comp_types.specs.Items.{Item, Entries, FuncItem, InstanceItem, KindItem, End, More, same_name, look_up}
use Rattle.comp_types.specs.Resources.{item_has_resource, entries_have_resource}
use Rattle.comp_worlds.specs.Groups.{Target, type_of}
use Rattle.comp_link.specs.Linking.{Given, Givens, GivenFunc, GivenInstance, GivenResource, GivenType, Nothing, Giving, find, target_in, instance_in, exported}
use Rattle.comp_link.specs.Exports.{passing, Either, IsOf, Finds, AreExportsOf}
use Rattle.host_script.specs.Script.{Exports, params_named}
use Rattle.component_judge.specs.Callable.{inner_name, inner_functions, callable}
use Rattle.comp_interp.specs.Names.{is_hash, cut}

-- ---- names without `#`

-- no byte of the name is `#`
abbrev pub Lacks : Name → Type 0
Lacks [] = Unit {0}
Lacks (b ∷ bs) = (is_hash b ≡ false) × Lacks bs

-- it is not empty besides
abbrev pub StandsAlone : Name → Type 0
StandsAlone [] = ⊥
StandsAlone (b ∷ bs) = Lacks (b ∷ bs)

lacks_of : (n : Name) → StandsAlone n → Lacks n
lacks_of [] h = absurd h
lacks_of (b ∷ bs) h = h

lacks_not : (a x : Name) → Lacks (a ++ 35 ∷ x) → ⊥
lacks_not [] x h = false≢true (sym h.0)
lacks_not (b ∷ a) x h = lacks_not a x h.1

-- what stands before the first `#`, where one stands
one_front : (a b x y : Name) → Lacks a → Lacks b → a ++ 35 ∷ x ≡ b ++ 35 ∷ y → a ≡ b
one_front [] [] x y h k e = refl
one_front [] (c ∷ b) x y h k e = let first : 35 ≡ c = cc in absurd (false≢true (sym (subst (λ (z : ℕ). is_hash z ≡ false) (sym first) k.0)))
one_front (c ∷ a) [] x y h k e = let first : c ≡ 35 = cc in absurd (false≢true (sym (subst (λ (z : ℕ). is_hash z ≡ false) first h.0)))
one_front (c ∷ a) (d ∷ b) x y h k e =
    let first : c ≡ d = cc in
    let rest : a ++ 35 ∷ x ≡ b ++ 35 ∷ y = cc in
    λ i. first i ∷ one_front a b x y h.1 k.1 rest i

differ_of : (m n : Name) → (m ≡ n → ⊥) → bytes_eq m n ≡ false
differ_of m n h = false_from_ne_true (bytes_eq m n) (λ e. h ((bytes_eq-Decides m n).0 e))

same_of : (m n : Name) → bytes_eq m n ≡ true → m ≡ n
same_of m n e = (bytes_eq-Decides m n).0 e

-- ---- where a name is cut

-- so far from its front
abbrev Split : Name → ℕ → Type 0
Split name p = (Lacks name × (p ≡ length name)) ⊎ (Lacks (take p name) × (p < length name) × (name ≡ take p name ++ 35 ∷ drop (p + 1) name))

is_it : (b : ℕ) → is_hash b ≡ true → b ≡ 35
is_it b e = grind (arith, nat_tests, e)

split : (name : Name) → Split name (position_or_len is_hash name)
split [] = inl (tt, refl)
split (b ∷ bs) = at (is_hash b) refl (split bs)
  where
    later : is_hash b ≡ false → Split bs (position_or_len is_hash bs) → Split (b ∷ bs) (suc (position_or_len is_hash bs))
    later e (inl h) = inl ((e, h.0), ap suc h.1)
    later e (inr h) =
        let p : ℕ = position_or_len is_hash bs in
        let place : suc (p + 1) ≡ suc p + 1 = omega arith in
        inr ((e, h.0), omega (arith, h.1), ap (λ (z : Name). b ∷ z) h.2 ∙ ap (λ (k : ℕ). b ∷ (take p bs ++ 35 ∷ drop k (b ∷ bs))) place)

    at : (t : Bool) → is_hash b ≡ t → Split bs (position_or_len is_hash bs) → Split (b ∷ bs) (cond (not t) (1 + position_or_len is_hash bs) 0)
    at true e h = inr (tt, omega arith, ap (λ (z : ℕ). z ∷ bs) (is_it b e))
    at false e h = let one : suc (position_or_len is_hash bs) ≡ 1 + position_or_len is_hash bs = omega arith in subst (λ (k : ℕ). Split (b ∷ bs) k) one (later e h)

-- where it has none, nothing stands before
pub record IsCut (name : Name) (interface function : Name) : Type 0 where
  pub is : (Lacks function × (interface ≡ []) × (function ≡ name)) ⊎ (Lacks interface × (name ≡ interface ++ 35 ∷ function))

abbrev cut_by : Name → ℕ → Bool → Name × Name
cut_by name p b = cond b (take p name, drop (p + 1) name) ([], name)

cut_so : (name : Name) (p : ℕ) → Split name p → IsCut name (cut_by name p (nat_lt p (length name))).0 (cut_by name p (nat_lt p (length name))).1
cut_so name p (inl h) =
    let t : nat_lt p (length name) ≡ false = grind (arith, nat_tests, h.1) in
    subst (λ (b : Bool). IsCut name (cut_by name p b).0 (cut_by name p b).1) (sym t) (record { is = inl (h.0, refl, refl) })
cut_so name p (inr h) =
    let t : nat_lt p (length name) ≡ true = grind (arith, nat_tests, h.1) in
    subst (λ (b : Bool). IsCut name (cut_by name p b).0 (cut_by name p b).1) (sym t) (record { is = inr (h.0, h.2) })

pub cut_is : (name : Name) → IsCut name (cut name).0 (cut name).1
cut_is name = cut_so name (position_or_len is_hash name) (split name)

-- ---- what is exported by a name is of the type that the name has

-- a function that is found, with these parameters
pub record FitsTarget (t : Target) (ps : Parts) : Type 0 where
  pub ty : PlainFunc
  pub passes : passing (type_of t) ≡ passing ty
  pub params : ty.params ≡ ps
  pub free : func_has_handle ty ≡ false

-- no entry speaks of a resource
abbrev pub AreFree : Entries → Type 0
AreFree End = Unit {0}
AreFree (More name item rest) = (item_has_resource item ≡ false) × AreFree rest

abbrev pub StandAlone : Entries → Type 0
StandAlone End = Unit {0}
StandAlone (More name item rest) = StandsAlone name × StandAlone rest

-- none has this name
abbrev pub HaveNot : Name → Entries → Type 0
HaveNot m End = Unit {0}
HaveNot m (More name item rest) = (bytes_eq name m ≡ false) × HaveNot m rest

abbrev pub AllDiffer : Entries → Type 0
AllDiffer End = Unit {0}
AllDiffer (More name item rest) = HaveNot name rest × AllDiffer rest

no_target : (o : Option Given) (t : Target) → ((u : Target) → o ≡ Some (GivenFunc u) → ⊥) → target_in o ≡ Some t → ⊥
no_target None t h e = none-some t e
no_target (Some (GivenFunc u)) t h e = h u refl
no_target (Some (GivenInstance items)) t h e = none-some t e
no_target (Some (GivenResource r)) t h e = none-some t e
no_target (Some GivenType) t h e = none-some t e

-- what is of an item with a target is of a function
target_fits : (given : Given) (item : Item) (t : Target) (ps : Parts) → IsOf given item → ((ty : PlainFunc) → item ≡ FuncItem ty → ty.params ≡ ps) → item_has_resource item ≡ false → target_in (Some given) ≡ Some t → FitsTarget t ps
target_fits (GivenFunc u) (FuncItem ty) t ps is params free e =
    let same : u ≡ t = cc in record { ty = ty; passes = subst (λ (z : Target). passing (type_of z) ≡ passing ty) same is; params = params ty refl; free = free }
target_fits (GivenFunc u) (InstanceItem entries) t ps is params free e = absurd is
target_fits (GivenFunc u) (KindItem kind) t ps is params free e = absurd is
target_fits (GivenInstance items) item t ps is params free e = absurd (none-some t e)
target_fits (GivenResource r) item t ps is params free e = absurd (none-some t e)
target_fits GivenType item t ps is params free e = absurd (none-some t e)

-- ---- a function that the component itself exports

module _ (n : Name) (lacks : Lacks n) (ps : Parts) (t : Target) where
  no_inner : (I : Name) (es : Entries) (rest : Exports) → params_named n (inner_functions I es ++ rest) ≡ params_named n rest
  no_inner I End rest = refl
  no_inner I (More g (FuncItem ty) es) rest =
      let none : bytes_eq (inner_name I g) n ≡ false = differ_of (inner_name I g) n (λ e. lacks_not I g (subst Lacks (sym e) lacks)) in
      ap (λ (b : Bool). cond b (Some ty.params) (params_named n (inner_functions I es ++ rest))) none ∙ no_inner I es rest
  no_inner I (More g (InstanceItem entries) es) rest = no_inner I es rest
  no_inner I (More g (KindItem kind) es) rest = no_inner I es rest

  -- the first entry of the name, or those after it
  at_first : (given : Given) (gs : Givens) (ty : PlainFunc) (rest : Exports) → IsOf given (FuncItem ty) → func_has_handle ty ≡ false → (params_named n rest ≡ Some ps → target_in (find n gs) ≡ Some t → FitsTarget t ps)
      → (b : Bool) → cond b (Some ty.params) (params_named n rest) ≡ Some ps → target_in (cond b (Some given) (find n gs)) ≡ Some t → FitsTarget t ps
  at_first given gs ty rest is free later true p e = target_fits given (FuncItem ty) t ps is (λ ty' same. cc) free e
  at_first given gs ty rest is free later false p e = later p e

  at_other : (given : Given) (gs : Givens) (item : Item) → IsOf given item → item_has_resource item ≡ false → ((ty : PlainFunc) → item ≡ FuncItem ty → ⊥) → (target_in (find n gs) ≡ Some t → FitsTarget t ps)
      → (b : Bool) → target_in (cond b (Some given) (find n gs)) ≡ Some t → FitsTarget t ps
  at_other given gs item is free none later true e = target_fits given item t ps is (λ ty same. absurd (none ty same)) free e
  at_other given gs item is free none later false e = later e

  itself : (es : Entries) (gs : Givens) → AreExportsOf es gs → AreFree es → params_named n (callable es) ≡ Some ps → target_in (find n gs) ≡ Some t → FitsTarget t ps
  itself End gs a free p e = absurd (none-some ps p)
  itself (More name item rest) Nothing a free p e = absurd a
  itself (More name (FuncItem ty) rest) (Giving m given gs) a free p e =
      at_first given gs ty (callable rest) a.1 free.0 (λ q f. itself rest gs a.2 free.1 q f) (bytes_eq name n) p (subst (λ (z : Name). target_in (cond (same_name z n) (Some given) (find n gs)) ≡ Some t) a.0 e)
  itself (More name (InstanceItem entries) rest) (Giving m given gs) a free p e =
      at_other given gs (InstanceItem entries) a.1 free.0 (λ ty same. cc) (λ f. itself rest gs a.2 free.1 (sym (no_inner name entries (callable rest)) ∙ p) f) (same_name m n) e
  itself (More name (KindItem kind) rest) (Giving m given gs) a free p e =
      at_other given gs (KindItem kind) a.1 free.0 (λ ty same. cc) (λ f. itself rest gs a.2 free.1 p f) (same_name m n) e

-- ---- a function of an instance

-- the first of the name that a given instance has
abbrev FirstOf : Option Given → Item → Type 0
FirstOf o item = (given : Given) × (o ≡ Some given) × IsOf given item

at_given : (given : Given) (o : Option Given) (item : Item) (Later : Type 0) → (b : Bool) → (Later → FirstOf o item) → Either b (IsOf given item) Later → FirstOf (cond b (Some given) o) item
at_given given o item Later true later h = (given, refl, h)
at_given given o item Later false later h = later h

first_of : (items : Givens) (f : Name) (item : Item) → Finds items f item → FirstOf (find f items) item
first_of Nothing f item h = absurd h
first_of (Giving n given rest) f item h = at_given given (find f rest) item (Finds rest f item) (same_name n f) (λ k. first_of rest f item k) h

nat_itself : (b : ℕ) → nat_eq b b ≡ true
nat_itself b = grind (arith, nat_tests)

-- names of one instance are tested by what stands after its name
behind_front : (I g f : Name) → bytes_eq (inner_name I g) (inner_name I f) ≡ bytes_eq g f
behind_front [] g f = refl
behind_front (b ∷ I) g f = ap (λ (z : Bool). z && bytes_eq (inner_name I g) (inner_name I f)) (nat_itself b) ∙ behind_front I g f

module _ (I f : Name) (lacks : Lacks I) (ps : Parts) where
  abbrev n : Name
  n = inner_name I f

  -- no entry that stands alone has the name
  alone_not : (m : Name) → StandsAlone m → bytes_eq m n ≡ false
  alone_not m h = differ_of m n (λ e. lacks_not I f (subst Lacks e (lacks_of m h)))

  other_not : (m g : Name) → StandsAlone m → bytes_eq m I ≡ false → bytes_eq (inner_name m g) n ≡ false
  other_not m g h differs =
      differ_of (inner_name m g) n (λ e. false≢true (sym differs ∙ (bytes_eq-Decides m I).1 (one_front m I g f (lacks_of m h) lacks e)))

  -- no function of another instance has it
  none_there : (m : Name) (es : Entries) (rest : Exports) → StandsAlone m → bytes_eq m I ≡ false → params_named n (inner_functions m es ++ rest) ≡ params_named n rest
  none_there m End rest h differs = refl
  none_there m (More g (FuncItem ty) es) rest h differs =
      ap (λ (b : Bool). cond b (Some ty.params) (params_named n (inner_functions m es ++ rest))) (other_not m g h differs) ∙ none_there m es rest h differs
  none_there m (More g (InstanceItem entries) es) rest h differs = none_there m es rest h differs
  none_there m (More g (KindItem kind) es) rest h differs = none_there m es rest h differs

  none_later : (es : Entries) → StandAlone es → HaveNot I es → params_named n (callable es) ≡ None
  none_later End alone not_there = refl
  none_later (More name (FuncItem ty) rest) alone not_there =
      ap (λ (b : Bool). cond b (Some ty.params) (params_named n (callable rest))) (alone_not name alone.0) ∙ none_later rest alone.1 not_there.1
  none_later (More name (InstanceItem entries) rest) alone not_there = none_there name entries (callable rest) alone.0 not_there.0 ∙ none_later rest alone.1 not_there.1
  none_later (More name (KindItem kind) rest) alone not_there = none_later rest alone.1 not_there.1

  -- the entry of an instance by the function's name
  pub record IsFound (es : Entries) : Type 0 where
    pub item : Item
    pub there : look_up f es ≡ Some item
    pub params : (ty : PlainFunc) → item ≡ FuncItem ty → ty.params ≡ ps
    pub free : item_has_resource item ≡ false

  later_found : (g : Name) (item : Item) (es : Entries) → same_name g f ≡ false → IsFound es → IsFound (More g item es)
  later_found g item es e h = record { item = h.item; there = ap (λ (b : Bool). cond b (Some item) (look_up f es)) e ∙ h.there; params = h.params; free = h.free }

  here_found : (g : Name) (item : Item) (es : Entries) → same_name g f ≡ true → ((ty : PlainFunc) → item ≡ FuncItem ty → ty.params ≡ ps) → item_has_resource item ≡ false → IsFound (More g item es)
  here_found g item es e params free = record { item = item; there = ap (λ (b : Bool). cond b (Some item) (look_up f es)) e; params = params; free = free }

  abbrev FoundOr : Entries → Exports → Type 0
  FoundOr es rest = IsFound es ⊎ (params_named n rest ≡ Some ps)

  or_later : (g : Name) (item : Item) (es : Entries) (rest : Exports) → same_name g f ≡ false → FoundOr es rest → FoundOr (More g item es) rest
  or_later g item es rest e (inl h) = inl (later_found g item es e h)
  or_later g item es rest e (inr h) = inr h

  at_func : (g : Name) (ty : PlainFunc) (es : Entries) (rest : Exports) → func_has_handle ty ≡ false → (params_named n (inner_functions I es ++ rest) ≡ Some ps → FoundOr es rest)
      → (b : Bool) → same_name g f ≡ b → cond b (Some ty.params) (params_named n (inner_functions I es ++ rest)) ≡ Some ps → FoundOr (More g (FuncItem ty) es) rest
  at_func g ty es rest free later true e p = inl (here_found g (FuncItem ty) es e (λ ty' same. cc) free)
  at_func g ty es rest free later false e p = or_later g (FuncItem ty) es rest e (later p)

  at_entry : (g : Name) (item : Item) (es : Entries) (rest : Exports) → item_has_resource item ≡ false → ((ty : PlainFunc) → item ≡ FuncItem ty → ⊥) → FoundOr es rest → (b : Bool) → same_name g f ≡ b → FoundOr (More g item es) rest
  at_entry g item es rest free none later true e = inl (here_found g item es e (λ ty same. absurd (none ty same)) free)
  at_entry g item es rest free none later false e = or_later g item es rest e later

  in_entries : (es : Entries) (rest : Exports) → AreFree es → params_named n (inner_functions I es ++ rest) ≡ Some ps → FoundOr es rest
  in_entries End rest free p = inr p
  in_entries (More g (FuncItem ty) es) rest free p =
      at_func g ty es rest free.0 (λ q. in_entries es rest free.1 q) (bytes_eq g f) refl (subst (λ (b : Bool). cond b (Some ty.params) (params_named n (inner_functions I es ++ rest)) ≡ Some ps) (behind_front I g f) p)
  in_entries (More g (InstanceItem entries) es) rest free p = at_entry g (InstanceItem entries) es rest free.0 (λ ty same. cc) (in_entries es rest free.1 p) (same_name g f) refl
  in_entries (More g (KindItem kind) es) rest free p = at_entry g (KindItem kind) es rest free.0 (λ ty same. cc) (in_entries es rest free.1 p) (same_name g f) refl

neither : (a b : Bool) → (a || b) ≡ false → (a ≡ false) × (b ≡ false)
neither true b h = absurd cc
neither false b h = (refl, h)

are_free : (es : Entries) → entries_have_resource es ≡ false → AreFree es
are_free End h = tt
are_free (More name item rest) h = let both = neither (item_has_resource item) (entries_have_resource rest) h in (both.0, are_free rest both.1)

module _ (I f : Name) (lacks : Lacks I) (ps : Parts) (t : Target) where
  -- what a given instance has by the name
  by_items : (items : Givens) (entries : Entries) → IsOf (GivenInstance items) (InstanceItem entries) → IsFound I f lacks ps entries → target_in (find f items) ≡ Some t → FitsTarget t ps
  by_items items entries is found e =
      let first = first_of items f found.item (is f found.item found.there) in
      target_fits first.0 found.item t ps first.2 found.params found.free (ap target_in (sym first.1) ∙ e)

  by_given : (given : Given) (entries : Entries) → IsOf given (InstanceItem entries) → IsFound I f lacks ps entries → target_in (find f (instance_in (Some given))) ≡ Some t → FitsTarget t ps
  by_given (GivenFunc u) entries is found e = absurd is
  by_given (GivenInstance items) entries is found e = by_items items entries is found e
  by_given (GivenResource r) entries is found e = absurd is
  by_given GivenType entries is found e = absurd is

  no_instance : (given : Given) (item : Item) → IsOf given item → ((entries : Entries) → item ≡ InstanceItem entries → ⊥) → target_in (find f (instance_in (Some given))) ≡ Some t → ⊥
  no_instance (GivenFunc u) item is none e = none-some t e
  no_instance (GivenInstance items) (InstanceItem entries) is none e = none entries refl
  no_instance (GivenInstance items) (FuncItem ty) is none e = absurd is
  no_instance (GivenInstance items) (KindItem kind) is none e = absurd is
  no_instance (GivenResource r) item is none e = none-some t e
  no_instance GivenType item is none e = none-some t e

  abbrev InOthers : Givens → Type 0
  InOthers gs = target_in (find f (instance_in (find I gs))) ≡ Some t

  at_other_item : (given : Given) (gs : Givens) (item : Item) → IsOf given item → ((entries : Entries) → item ≡ InstanceItem entries → ⊥) → (InOthers gs → FitsTarget t ps)
      → (b : Bool) → target_in (find f (instance_in (cond b (Some given) (find I gs)))) ≡ Some t → FitsTarget t ps
  at_other_item given gs item is none later true e = absurd (no_instance given item is none e)
  at_other_item given gs item is none later false e = later e

  at_instance : (name : Name) (entries : Entries) (rest : Entries) (given : Given) (gs : Givens) → IsOf given (InstanceItem entries) → StandsAlone name → StandAlone rest → HaveNot name rest → AreFree entries
      → params_named (inner_name I f) (inner_functions name entries ++ callable rest) ≡ Some ps → (params_named (inner_name I f) (callable rest) ≡ Some ps → InOthers gs → FitsTarget t ps)
      → (b : Bool) → bytes_eq name I ≡ b → target_in (find f (instance_in (cond b (Some given) (find I gs)))) ≡ Some t → FitsTarget t ps
  at_instance name entries rest given gs is alone others differ free p later true same e =
      let it : name ≡ I = same_of name I same in
      here (in_entries I f lacks ps entries (callable rest) free (subst (λ (z : Name). params_named (inner_name I f) (inner_functions z entries ++ callable rest) ≡ Some ps) it p)) (subst (λ (z : Name). HaveNot z rest) it differ)
    where
      here : IsFound I f lacks ps entries ⊎ (params_named (inner_name I f) (callable rest) ≡ Some ps) → HaveNot I rest → FitsTarget t ps
      here (inl found) not_there = by_given given entries is found e
      here (inr q) not_there = absurd (none-some ps (sym (none_later I f lacks ps rest others not_there) ∙ q))
  at_instance name entries rest given gs is alone others differ free p later false same e = later (sym (none_there I f lacks ps name entries (callable rest) alone same) ∙ p) e

  within : (es : Entries) (gs : Givens) → AreExportsOf es gs → StandAlone es → AllDiffer es → AreFree es → params_named (inner_name I f) (callable es) ≡ Some ps → InOthers gs → FitsTarget t ps
  within End gs a alone differ free p e = absurd (none-some ps p)
  within (More name item rest) Nothing a alone differ free p e = absurd a
  within (More name (FuncItem ty) rest) (Giving m given gs) a alone differ free p e =
      let q : params_named (inner_name I f) (callable rest) ≡ Some ps = sym (ap (λ (b : Bool). cond b (Some ty.params) (params_named (inner_name I f) (callable rest))) (alone_not I f lacks ps name alone.0)) ∙ p in
      at_other_item given gs (FuncItem ty) a.1 (λ entries same. cc) (λ k. within rest gs a.2 alone.1 differ.1 free.1 q k) (same_name m I) e
  within (More name (InstanceItem entries) rest) (Giving m given gs) a alone differ free p e =
      at_instance name entries rest given gs a.1 alone.0 alone.1 differ.0 (are_free entries free.0) p (λ q k. within rest gs a.2 alone.1 differ.1 free.1 q k) (bytes_eq name I) refl
      (subst (λ (z : Name). target_in (find f (instance_in (cond (same_name z I) (Some given) (find I gs)))) ≡ Some t) a.0 e)
  within (More name (KindItem kind) rest) (Giving m given gs) a alone differ free p e =
      at_other_item given gs (KindItem kind) a.1 (λ entries same. cc) (λ k. within rest gs a.2 alone.1 differ.1 free.1 p k) (same_name m I) e

-- ---- by any name

none_empty : (es : Entries) → StandAlone es → HaveNot [] es
none_empty End alone = tt
none_empty (More name item rest) alone = (differ_of name [] (λ e. subst StandsAlone e alone.0), none_empty rest alone.1)

by_cut : (es : Entries) (gs : Givens) (n interface function : Name) (ps : Parts) (t : Target) → AreExportsOf es gs → StandAlone es → AllDiffer es → AreFree es → IsCut n interface function
    → params_named n (callable es) ≡ Some ps → target_in (exported gs interface function) ≡ Some t → FitsTarget t ps
by_cut es gs n interface function ps t a alone differ free c p e = go c.is
  where
    inside : (I : Name) → Lacks I → params_named (inner_name I function) (callable es) ≡ Some ps → target_in (exported gs I function) ≡ Some t → FitsTarget t ps
    inside [] lacks q k = absurd (none-some ps (sym (none_later [] function lacks ps es alone (none_empty es alone)) ∙ q))
    inside (b ∷ I) lacks q k = within (b ∷ I) function lacks ps t es gs a alone differ free q k

    go : (Lacks function × (interface ≡ []) × (function ≡ n)) ⊎ (Lacks interface × (n ≡ inner_name interface function)) → FitsTarget t ps
    go (inl h) = itself function h.0 ps t es gs a free (ap (λ (z : Name). params_named z (callable es)) h.2 ∙ p) (subst (λ (z : Name). target_in (exported gs z function) ≡ Some t) h.1 e)
    go (inr h) = inside interface h.0 (subst (λ (z : Name). params_named z (callable es) ≡ Some ps) h.1 p) e

pub named_fits : (es : Entries) (gs : Givens) (n : Name) (ps : Parts) (t : Target) → AreExportsOf es gs → StandAlone es → AllDiffer es → AreFree es
    → params_named n (callable es) ≡ Some ps → target_in (exported gs (cut n).0 (cut n).1) ≡ Some t → FitsTarget t ps
named_fits es gs n ps t a alone differ free p e = by_cut es gs n (cut n).0 (cut n).1 ps t a alone differ free (cut_is n) p e
