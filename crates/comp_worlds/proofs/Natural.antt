-- What an instance does by itself is the same whatever its handles stand for.
use Rattle.std.proofs.Common.{◌≡◌, ℕ, ◌+◌, ◌&&◌, ◌||◌, nat_le, List, [], ◌∷◌, map, length, Option, Some, None, Result, Ok, Err, Bool, true, false, not, cond, refl, ◌∙◌, ap}
use Rattle.std.specs.Option.{option_map, option_and_then}
use Rattle.std.specs.List.{list_any}
use Rattle.core_store.specs.State.{State}
use Rattle.wit_types.specs.Plain.{Plain}
use Rattle.wit_types.specs.PlainValue.{PlainValue}
use Rattle.abi_layout.specs.Loading.{is_aligned}
use Rattle.abi_layout.specs.Handles.{handles}
use Rattle.handle_space.specs.HandleMap.{Entry, HandleMap, Answered, Held, own_entry, borrow_entry, add, lend, unlend, take, take_own, rep_of, entry_over, held_over, map_over, answered_over}
use Rattle.handle_space.proofs.MapLaws.{rep_of_is, unlend-map_over, lend-map_over, take-map_over, take_own-map_over, rep_of-map_over, add-map_over}
use Rattle.comp_worlds.specs.Passing.{Handle, Own, Borrow, reps_in, Kind, IsOwn, IsBorrow, handle_by, handles_by, kinds_in, Passed, handles_of, Named, OwnAt, BorrowAt, named_in, Lifted, and_lifted, lift_handles, unlend_all, lower_borrow, and_index, add_handles, is_borrow, has_borrow, lift_words, blank}
use Rattle.comp_worlds.specs.Related.{Both, passed_over, EachHandle}
use Rattle.comp_worlds.specs.Groups.{Options, Config}
use Rattle.comp_worlds.specs.Locals.{Local, gives_in, done, also, with_map, with_store, is_open, enter, bytes_in, Args, args_of, lifts, ends_loans, lends_nothing, has_no_borrow, adds_handles, has_place, only_one, is_granted, with_bytes, writes, Numbers, one_word, new_entry, makes, reads, removed, removes, makes_module}
use Rattle.comp_worlds.proofs.Maps.{Has, made_of, found_is}

-- the same whatever it is
abbrev pub itself : {A : Type 0} → A → A
itself a = a

abbrev pub handle_over : {R Q : Type 0} → (R → Q) → Handle R → Handle Q
handle_over f (Own r x) = Own r (f x)
handle_over f (Borrow r x) = Borrow r (f x)

abbrev pub handles_over : {R Q : Type 0} → (R → Q) → List (Handle R) → List (Handle Q)
handles_over f [] = []
handles_over f (h ∷ hs) = handle_over f h ∷ handles_over f hs

abbrev pub lifted_over : {R Q : Type 0} → (R → Q) → Lifted R → Lifted Q
lifted_over f l = record { handles = handles_over f l.handles; map = map_over f l.map; loans = l.loans }

abbrev pub config_over : {R Q : Type 0} → (R → Q) → Config R → Config Q
config_over f c = record { store = c.store; map = map_over f c.map; entered = c.entered; closed = c.closed }

abbrev pub local_over : {R Q A B : Type 0} → (R → Q) → (A → B) → Local R A → Local Q B
local_over f g l = record { config = config_over f l.config; answer = g l.answer }

abbrev pub args_over : {R Q : Type 0} → (R → Q) → Args R → Args Q
args_over f a = record { passed = passed_over f a.passed; loans = a.loans }

abbrev pub pairs : Numbers Both
pairs = record { made = λ n. record { one = n; two = n }; number = λ x. x.one }

pub also_over : {A B : Type 0} → (g : A → B) (b : Bool) (o : Option A) → also b (option_map g o) ≡ option_map g (also b o)
also_over g true o = refl
also_over g false o = refl

module _ {R Q : Type 0} (f : R → Q) where
  reps_over : (hs : List (Handle R)) → reps_in (handles_over f hs) ≡ map f (reps_in hs)
  reps_over [] = refl
  reps_over (Own r x ∷ hs) = ap (λ xs. f x ∷ xs) (reps_over hs)
  reps_over (Borrow r x ∷ hs) = ap (λ xs. f x ∷ xs) (reps_over hs)

  by_over : (k : Kind) (x : R) → handle_by k (f x) ≡ handle_over f (handle_by k x)
  by_over (IsOwn r) x = refl
  by_over (IsBorrow r) x = refl

  pub handles_by_over : (ks : List Kind) (xs : List R) → handles_by ks (map f xs) ≡ handles_over f (handles_by ks xs)
  handles_by_over [] [] = refl
  handles_by_over [] (x ∷ xs) = refl
  handles_by_over (k ∷ ks) [] = refl
  handles_by_over (k ∷ ks) (x ∷ xs) = ap (λ h. h ∷ handles_by ks (map f xs)) (by_over k x) ∙ ap (λ hs. handle_over f (handle_by k x) ∷ hs) (handles_by_over ks xs)

  pub handles_of_over : (ty : Plain) (p : Passed R) → handles_of ty (passed_over f p) ≡ handles_over f (handles_of ty p)
  handles_of_over ty p = handles_by_over (kinds_in (handles ty p.value)) p.reps

  -- ---- lifting

  onto_over : (h : Handle R) (b : Bool) (i : ℕ) (o : Option (Lifted R)) → option_map (and_lifted (handle_over f h) b i) (option_map (lifted_over f) o) ≡ option_map (lifted_over f) (option_map (and_lifted h b i) o)
  onto_over h b i None = refl
  onto_over h b i (Some l) = refl

  own_on : (ns : List Named) (r i : ℕ) (o : Option (Answered R R)) → ((m : HandleMap R) → lift_handles ns (map_over f m) ≡ option_map (lifted_over f) (lift_handles ns m)) →
      option_and_then (λ (a : Answered Q Q). option_map (and_lifted (Own r a.answer) false i) (lift_handles ns a.map)) (option_map (answered_over f f) o)
      ≡ option_map (lifted_over f) (option_and_then (λ (a : Answered R R). option_map (and_lifted (Own r a.answer) false i) (lift_handles ns a.map)) o)
  own_on ns r i None h = refl
  own_on ns r i (Some a) h = ap (option_map (and_lifted (Own r (f a.answer)) false i)) (h a.map) ∙ onto_over (Own r a.answer) false i (lift_handles ns a.map)

  borrow_on : (ns : List Named) (r i : ℕ) (o : Option (Answered R (Held R))) → ((m : HandleMap R) → lift_handles ns (map_over f m) ≡ option_map (lifted_over f) (lift_handles ns m)) →
      option_and_then (λ (a : Answered Q (Held Q)). option_map (and_lifted (Borrow r a.answer.rep) a.answer.owned i) (lift_handles ns a.map)) (option_map (answered_over f (held_over f)) o)
      ≡ option_map (lifted_over f) (option_and_then (λ (a : Answered R (Held R)). option_map (and_lifted (Borrow r a.answer.rep) a.answer.owned i) (lift_handles ns a.map)) o)
  borrow_on ns r i None h = refl
  borrow_on ns r i (Some a) h = ap (option_map (and_lifted (Borrow r (f a.answer.rep)) a.answer.owned i)) (h a.map) ∙ onto_over (Borrow r a.answer.rep) a.answer.owned i (lift_handles ns a.map)

  lift_over : (ns : List Named) (m : HandleMap R) → lift_handles ns (map_over f m) ≡ option_map (lifted_over f) (lift_handles ns m)
  lift_over [] m = refl
  lift_over (OwnAt r i ∷ ns) m =
      ap (option_and_then (λ (a : Answered Q Q). option_map (and_lifted (Own r a.answer) false i) (lift_handles ns a.map))) (take_own-map_over f m i r)
      ∙ own_on ns r i (take_own m i r) (λ z. lift_over ns z)
  lift_over (BorrowAt r i ∷ ns) m =
      ap (option_and_then (λ (a : Answered Q (Held Q)). option_map (and_lifted (Borrow r a.answer.rep) a.answer.owned i) (lift_handles ns a.map))) (lend-map_over f m i r)
      ∙ borrow_on ns r i (lend m i r) (λ z. lift_over ns z)

  args_on : (ty : Plain) (v : PlainValue) (c : Config R) (o : Option (Lifted R)) → option_map (args_of ty v (config_over f c)) (option_map (lifted_over f) o) ≡ option_map (local_over f (args_over f)) (option_map (args_of ty v c) o)
  args_on ty v c None = refl
  args_on ty v c (Some l) = ap (λ xs. Some (record { config = config_over f (with_map c l.map); answer = record { passed = record { value = blank ty v; reps = xs }; loans = l.loans } })) (reps_over l.handles)

  lifts_on : (ty : Plain) (c : Config R) (o : Option PlainValue) →
      option_and_then (λ v. option_map (args_of ty v (config_over f c)) (lift_handles (named_in (handles ty v)) (map_over f c.map))) o
      ≡ option_map (local_over f (args_over f)) (option_and_then (λ v. option_map (args_of ty v c) (lift_handles (named_in (handles ty v)) c.map)) o)
  lifts_on ty c None = refl
  lifts_on ty c (Some v) = ap (option_map (args_of ty v (config_over f c))) (lift_over (named_in (handles ty v)) c.map) ∙ args_on ty v c (lift_handles (named_in (handles ty v)) c.map)

  pub lifts_over : (most : ℕ) (ty : Plain) (options : Options) (words : List ℕ) (c : Config R) → lifts most ty options words (config_over f c) ≡ option_map (local_over f (args_over f)) (lifts most ty options words c)
  lifts_over most ty options words c = lifts_on ty c (lift_words most ty (bytes_in options c.store) words)

  unlend_over : (is : List ℕ) (m : HandleMap R) → unlend_all is (map_over f m) ≡ map_over f (unlend_all is m)
  unlend_over [] m = refl
  unlend_over (i ∷ is) m = ap (unlend_all is) (unlend-map_over f m i) ∙ unlend_over is (unlend m i)

  pub ends_loans_over : (loans : List ℕ) (c : Config R) → ends_loans loans (config_over f c) ≡ option_map (local_over f itself) (ends_loans loans c)
  ends_loans_over loans c = ap (λ m. Some (done (with_map (config_over f c) m))) (unlend_over loans c.map)

  any_over : (es : List (Option (Entry R))) → list_any is_borrow (map (option_map (entry_over f)) es) ≡ list_any is_borrow es
  any_over [] = refl
  any_over (None ∷ es) = ap (λ b. false || b) (any_over es)
  any_over (Some e ∷ es) = ap (λ b. not e.owned || b) (any_over es)

  pub has_no_borrow_over : (loans : List ℕ) (c : Config R) → has_no_borrow loans (config_over f c) ≡ option_map (local_over f itself) (has_no_borrow loans c)
  has_no_borrow_over loans c =
      ap (λ b. also (lends_nothing loans && not b) (Some (done (config_over f c)))) (any_over c.map.entries)
      ∙ also_over (local_over f itself) (lends_nothing loans && not (has_borrow c.map)) (Some (done c))

  -- ---- flags

  pub is_open_over : (c : Config R) → is_open (config_over f c) ≡ option_map (local_over f itself) (is_open c)
  is_open_over c = also_over (local_over f itself) (not c.closed) (Some (done c))

  pub enter_over : (c : Config R) → enter (config_over f c) ≡ option_map (local_over f itself) (enter c)
  enter_over c = also_over (local_over f itself) (not c.entered) _

  -- ---- lowering

  lower_over : (o : Option ℕ) (r : ℕ) (x : R) (m : HandleMap R) → lower_borrow o r (f x) (map_over f m) ≡ option_map (answered_over f itself) (lower_borrow o r x m)
  lower_over (Some n) r x m = refl
  lower_over None r x m = add-map_over f m (borrow_entry r x)

  index_over : (i : ℕ) (o : Option (Answered R (List ℕ))) → option_map (and_index i) (option_map (answered_over f itself) o) ≡ option_map (answered_over f itself) (option_map (and_index i) o)
  index_over i None = refl
  index_over i (Some a) = refl

  add_on : (b : ℕ → R → Option ℕ) (b' : ℕ → Q → Option ℕ) (hs : List (Handle R)) (o : Option (Answered R ℕ)) → ((m : HandleMap R) → add_handles b' (handles_over f hs) (map_over f m) ≡ option_map (answered_over f itself) (add_handles b hs m)) →
      option_and_then (λ (a : Answered Q ℕ). option_map (and_index a.answer) (add_handles b' (handles_over f hs) a.map)) (option_map (answered_over f itself) o)
      ≡ option_map (answered_over f itself) (option_and_then (λ (a : Answered R ℕ). option_map (and_index a.answer) (add_handles b hs a.map)) o)
  add_on b b' hs None h = refl
  add_on b b' hs (Some a) h = ap (option_map (and_index a.answer)) (h a.map) ∙ index_over a.answer (add_handles b hs a.map)

  add_all_over : (b : ℕ → R → Option ℕ) (b' : ℕ → Q → Option ℕ) (hs : List (Handle R)) (m : HandleMap R) → EachHandle (λ r x. b' r (f x) ≡ b r x) hs → add_handles b' (handles_over f hs) (map_over f m) ≡ option_map (answered_over f itself) (add_handles b hs m)
  add_all_over b b' [] m h = refl
  add_all_over b b' (Own r x ∷ hs) m h =
      ap (option_and_then (λ (a : Answered Q ℕ). option_map (and_index a.answer) (add_handles b' (handles_over f hs) a.map))) (add-map_over f m (own_entry r x))
      ∙ add_on b b' hs (add m (own_entry r x)) (λ z. add_all_over b b' hs z h.1)
  add_all_over b b' (Borrow r x ∷ hs) m h =
      ap (option_and_then (λ (a : Answered Q ℕ). option_map (and_index a.answer) (add_handles b' (handles_over f hs) a.map))) (ap (λ o. lower_borrow o r (f x) (map_over f m)) h.0 ∙ lower_over (b r x) r x m)
      ∙ add_on b b' hs (lower_borrow (b r x) r x m) (λ z. add_all_over b b' hs z h.1)

  adds_on : (c : Config R) (o : Option (Answered R (List ℕ))) →
      option_map (λ (a : Answered Q (List ℕ)). record { config = with_map (config_over f c) a.map; answer = a.answer }) (option_map (answered_over f itself) o)
      ≡ option_map (local_over f itself) (option_map (λ (a : Answered R (List ℕ)). record { config = with_map c a.map; answer = a.answer }) o)
  adds_on c None = refl
  adds_on c (Some a) = refl

  pub adds_handles_over : (b : ℕ → R → Option ℕ) (b' : ℕ → Q → Option ℕ) (hs : List (Handle R)) (c : Config R) → EachHandle (λ r x. b' r (f x) ≡ b r x) hs → adds_handles b' (handles_over f hs) (config_over f c) ≡ option_map (local_over f itself) (adds_handles b hs c)
  adds_handles_over b b' hs c h =
      ap (option_map (λ (a : Answered Q (List ℕ)). record { config = with_map (config_over f c) a.map; answer = a.answer })) (add_all_over b b' hs c.map h)
      ∙ adds_on c (add_handles b hs c.map)

  pub has_place_over : (options : Options) (align len at : ℕ) (c : Config R) → has_place options align len at (config_over f c) ≡ option_map (local_over f itself) (has_place options align len at c)
  has_place_over options align len at c = also_over (local_over f itself) (is_aligned at align && nat_le (at + len) (length (bytes_in options c.store))) (Some (done c))

  granted_on : (options : Options) (align len : ℕ) (c : Config R) (o : Option ℕ) →
      option_and_then (λ at. also (is_aligned at align && nat_le (at + len) (length (bytes_in options c.store))) (Some (gives_in at (config_over f c)))) o
      ≡ option_map (local_over f itself) (option_and_then (λ at. also (is_aligned at align && nat_le (at + len) (length (bytes_in options c.store))) (Some (gives_in at c))) o)
  granted_on options align len c None = refl
  granted_on options align len c (Some at) = also_over (local_over f itself) (is_aligned at align && nat_le (at + len) (length (bytes_in options c.store))) (Some (gives_in at c))

  pub is_granted_over : (options : Options) (align len : ℕ) (results : List ℕ) (c : Config R) → is_granted options align len results (config_over f c) ≡ option_map (local_over f itself) (is_granted options align len results c)
  is_granted_over options align len results c = granted_on options align len c (only_one results)

  writes_on : (at : ℕ) (bytes : List ℕ) (c : Config R) (o : Option ℕ) →
      option_map (λ memory. done (with_store (config_over f c) (with_bytes c.store memory at bytes))) o
      ≡ option_map (local_over f itself) (option_map (λ memory. done (with_store c (with_bytes c.store memory at bytes))) o)
  writes_on at bytes c None = refl
  writes_on at bytes c (Some memory) = refl

  pub writes_over : (options : Options) (at : ℕ) (bytes : List ℕ) (c : Config R) → writes options at bytes (config_over f c) ≡ option_map (local_over f itself) (writes options at bytes c)
  writes_over options at bytes c = writes_on at bytes c options.memory

  -- ---- resources

  module _ (ns : Numbers R) (ns' : Numbers Q) where
    entry_on : (c : Config R) (o : Option (Answered R ℕ)) → option_map (new_entry (config_over f c)) (option_map (answered_over f itself) o) ≡ option_map (local_over f itself) (option_map (new_entry c) o)
    entry_on c None = refl
    entry_on c (Some a) = refl

    made_on : ((n : ℕ) → ns'.made n ≡ f (ns.made n)) → (r : ℕ) (c : Config R) (o : Option ℕ) →
        option_and_then (λ n. option_map (new_entry (config_over f c)) (add (map_over f c.map) (own_entry r (ns'.made n)))) o
        ≡ option_map (local_over f itself) (option_and_then (λ n. option_map (new_entry c) (add c.map (own_entry r (ns.made n)))) o)
    made_on made r c None = refl
    made_on made r c (Some n) =
        ap (option_map (new_entry (config_over f c))) (ap (λ x. add (map_over f c.map) (own_entry r x)) (made n) ∙ add-map_over f c.map (own_entry r (ns.made n)))
        ∙ entry_on c (add c.map (own_entry r (ns.made n)))

    pub makes_over : ((n : ℕ) → ns'.made n ≡ f (ns.made n)) → (own : Bool) (r : ℕ) (args : List ℕ) (c : Config R) → makes ns' own r args (config_over f c) ≡ option_map (local_over f itself) (makes ns own r args c)
    makes_over made own r args c =
        ap (λ o. also own (also (not c.closed) o)) (made_on made r c (only_one args))
        ∙ ap (also own) (also_over (local_over f itself) (not c.closed) _)
        ∙ also_over (local_over f itself) own _

    read_on : (c : Config R) (o : Option R) → ((x : R) → o ≡ Some x → ns'.number (f x) ≡ ns.number x) →
        option_map (λ x. one_word (config_over f c) (ns'.number x)) (option_map f o) ≡ option_map (local_over f itself) (option_map (λ x. one_word c (ns.number x)) o)
    read_on c None h = refl
    read_on c (Some x) h = ap (λ n. Some (one_word (config_over f c) n)) (h x refl)

    reads_at : (r : ℕ) (c : Config R) (o : Option ℕ) → ((b : Bool) (i : ℕ) (x : R) → Has b c.map i r x → ns'.number (f x) ≡ ns.number x) →
        option_and_then (λ i. option_map (λ x. one_word (config_over f c) (ns'.number x)) (rep_of (map_over f c.map) i r)) o
        ≡ option_map (local_over f itself) (option_and_then (λ i. option_map (λ x. one_word c (ns.number x)) (rep_of c.map i r)) o)
    reads_at r c None h = refl
    reads_at r c (Some i) h =
        ap (option_map (λ x. one_word (config_over f c) (ns'.number x))) (rep_of-map_over f c.map i r)
        ∙ read_on c (rep_of c.map i r) (λ x is. let e = rep_of_is c.map i r x is in h e.0.owned i x (e.0.lent, found_is c.map i r e.0 e.1 ∙ ap (λ z. Some (made_of e.0.owned r z e.0.lent)) e.2))

    pub reads_over : (own : Bool) (r : ℕ) (args : List ℕ) (c : Config R) → ((b : Bool) (i : ℕ) (x : R) → own ≡ true → Has b c.map i r x → ns'.number (f x) ≡ ns.number x) → reads ns' own r args (config_over f c) ≡ option_map (local_over f itself) (reads ns own r args c)
    reads_over true r args c h = reads_at r c (only_one args) (λ b i x has. h b i x refl has)
    reads_over false r args c h = refl

  owned_over : (b : Bool) (x : R) → cond b (Some (f x)) None ≡ option_map f (cond b (Some x) None)
  owned_over true x = refl
  owned_over false x = refl

  removed_on : (c : Config R) (o : Option (Answered R (Held R))) → option_map (removed (config_over f c)) (option_map (answered_over f (held_over f)) o) ≡ option_map (local_over f (option_map f)) (option_map (removed c) o)
  removed_on c None = refl
  removed_on c (Some a) = ap (λ o. Some (record { config = config_over f (with_map c a.map); answer = o })) (owned_over a.answer.owned a.answer.rep)

  removes_at : (r : ℕ) (c : Config R) (o : Option ℕ) →
      option_and_then (λ i. option_map (removed (config_over f c)) (take (map_over f c.map) i r)) o
      ≡ option_map (local_over f (option_map f)) (option_and_then (λ i. option_map (removed c) (take c.map i r)) o)
  removes_at r c None = refl
  removes_at r c (Some i) = ap (option_map (removed (config_over f c))) (take-map_over f c.map i r) ∙ removed_on c (take c.map i r)

  pub removes_over : (r : ℕ) (args : List ℕ) (c : Config R) → removes r args (config_over f c) ≡ option_map (local_over f (option_map f)) (removes r args c)
  removes_over r args c = ap (also (not c.closed)) (removes_at r c (only_one args)) ∙ also_over (local_over f (option_map f)) (not c.closed) _

  -- ---- making

  module_on : (c : Config R) (o : Result State State) →
      elim o as (λ z. Option (Local Q (Unit {0}))) [ Ok s ↦ Some (done (with_store (config_over f c) s)) | Err s ↦ None ]
      ≡ option_map (local_over f itself) (elim o as (λ z. Option (Local R (Unit {0}))) [ Ok s ↦ Some (done (with_store c s)) | Err s ↦ None ])
  module_on c (Ok s) = refl
  module_on c (Err s) = refl

  pub makes_module_over : (make : State → Result State State) (c : Config R) → makes_module make (config_over f c) ≡ option_map (local_over f itself) (makes_module make c)
  makes_module_over make c = module_on c (make c.store)
