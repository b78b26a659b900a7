-- Two items match with some partners exactly where they are equal by them.
use Rattle.std.proofs.Common.{◌≡◌, ◌∙◌, ◌⊎◌, inl, inr, ap, sym, refl, ℕ, zero, suc, List, [], ◌∷◌, Bool, true, false, Option, Some, None, cond, nat_eq, arith, ◌<◌, length, slice_index_or}
use Rattle.std.specs.Prelude.{All, Contains, IsTrue, ◌&&◌, not, is_some}
use Rattle.std.specs.Cmp.{nat_eq_equiv}
use Rattle.std.proofs.lemmas.Bool.{false≢true}
use Rattle.std.proofs.lemmas.Map.Views.{Contains-from_any, list_any-from_Contains}
use Rattle.std.proofs.lemmas.List.Elements.{All-nil, All-cons, All-head, All-tail, Contains-append_right, Contains-get_or}
use Rattle.wit_types.specs.Plain.{Name}
use Rattle.comp_types.specs.Items.{Item, Kind, Entries, FuncItem, InstanceItem, KindItem, ResourceKind, ValueKind, FuncKind, InstanceKind, End, More, same_name, look_up, names}
use Rattle.comp_types.specs.Equality.{IsSameItem, IsSameKind, HasEach, IsOneToOne, MeetsInside}
use Rattle.comp_types.specs.Subtyping.{IsArgument, AreGiven}
use Rattle.comp_types.specs.Substitution.{partner_of}
use Rattle.comp_types.specs.Matching.{Pairs, meet, onward, only_if, if_found, is_own, paired_one, paired, handed_one, handed_out, unpacked, all_named, matched_item, matched_kind, matched_entries, matched_instance, matched_argument, matched_arguments}
use Rattle.comp_types.proofs.MeetLaws.{came_from, held, is_same, equal_number, same_number, Grows, Agrees, grows-same, grows-then, agrees-before, met, AllMeet, IsFunction, meets}
use Rattle.comp_types.proofs.ValueLaws.{Goes, goes-on, name-sound, name-same, value-sound, func-sound, value-complete, func-complete}

-- ---- names

both : (a b : Bool) → (a && b) ≡ true → (a ≡ true) × (b ≡ true)
both true true h = (refl, refl)
both true false h = absurd (false≢true h)
both false b h = absurd (false≢true h)

and : (a b : Bool) → a ≡ true → b ≡ true → (a && b) ≡ true
and true true h g = refl
and true false h g = g
and false b h g = h

-- a name that is found is one of the names
found_at : (n m : Name) (item : Item) (rest : Entries) (b : Bool) → same_name m n ≡ b → (is_some (look_up n rest) ≡ true → Contains (names rest) n) → is_some (cond b (Some item) (look_up n rest)) ≡ true → Contains (m ∷ names rest) n
found_at n m item rest true e h g = rw (← name-sound m n e) (Contains-get_or (m ∷ names rest) 0 m (omega arith))
found_at n m item rest false e h g = Contains-append_right (m ∷ []) (names rest) n (h g)

pub found_name : (n : Name) (entries : Entries) → is_some (look_up n entries) ≡ true → Contains (names entries) n
found_name n End h = absurd (false≢true h)
found_name n (More m item rest) h = found_at n m item rest (same_name m n) refl (found_name n rest) h

found_first : (b : Bool) (item : Item) (o : Option Item) → (b ≡ true) ⊎ (is_some o ≡ true) → is_some (cond b (Some item) o) ≡ true
found_first true item o h = refl
found_first false item o (inl e) = absurd (false≢true e)
found_first false item o (inr e) = e

name_place : (entries : Entries) (n : Name) (k : ℕ) → k < length (names entries) → slice_index_or (names entries) k n ≡ n → is_some (look_up n entries) ≡ true
name_place End n k lt e = absurd (omega (arith, lt))
name_place (More m item rest) n zero lt e = found_first (same_name m n) item (look_up n rest) (inl (rw e (name-same n)))
name_place (More m item rest) n (suc k) lt e = found_first (same_name m n) item (look_up n rest) (inr (name_place rest n k (omega (arith, lt)) e))

pub name_found : (n : Name) (entries : Entries) → Contains (names entries) n → is_some (look_up n entries) ≡ true
name_found n entries h = name_place entries n h.0 h.1 h.2

names-sound : (others entries : Entries) → all_named others entries ≡ true → All (Contains (names entries)) (names others)
names-sound End entries h = All-nil (Contains (names entries))
names-sound (More n item rest) entries h =
    let e = both (is_some (look_up n entries)) (all_named rest entries) h in
    All-cons (Contains (names entries)) n (names rest) (found_name n entries e.0) (names-sound rest entries e.1)

names-complete : (others entries : Entries) → All (Contains (names entries)) (names others) → all_named others entries ≡ true
names-complete End entries h = refl
names-complete (More n item rest) entries h =
    and (is_some (look_up n entries)) (all_named rest entries) (name_found n entries (All-head (Contains (names entries)) n (names rest) h))
    (names-complete rest entries (All-tail (Contains (names entries)) n (names rest) h))

-- ---- resources that are declared

declares : (own : List ℕ) (r : ℕ) → is_own own r ≡ true → Contains own r
declares own r h = Contains-from_any equal_number r own h

is_declared : (own : List ℕ) (r : ℕ) → Contains own r → is_own own r ≡ true
is_declared own r h = list_any-from_Contains nat_eq_equiv r own h

undeclared : (own : List ℕ) (r : ℕ) → is_own own r ≡ false → Contains own r → ⊥
undeclared own r e h = false≢true (sym e ∙ is_declared own r h)

-- ---- pairs that were found inside

abbrev AreInside : (owned own : List ℕ) → (last : Pairs) → ℕ → ℕ → Type 0
AreInside owned own last y x = (Contains own y × Contains owned x × (partner_of last x ≡ Some y)) ⊎ ((Contains own y → ⊥) × (Contains owned x → ⊥))

module _ (owned own : List ℕ) where
  one_at : (b d : Bool) (p : ℕ × ℕ) (inner more : Pairs) → is_own own p.0 ≡ b → is_own owned p.1 ≡ d → cond b (only_if d (meet inner p.1 p.0)) (only_if (not d) (Some inner)) ≡ Some more
      → Grows inner more × AreInside owned own more p.0 p.1
  one_at true true p inner more e f h = let m = met inner more p.1 p.0 h in (m.0, inl (declares own p.0 e, declares owned p.1 f, m.1))
  one_at true false p inner more e f h = cc
  one_at false true p inner more e f h = cc
  one_at false false p inner more e f h = (grows-same inner more (is_same inner more h), inr (undeclared own p.0 e, undeclared owned p.1 f))

  inside-later : (last more : Pairs) (y x : ℕ) → Grows last more → AreInside owned own last y x → AreInside owned own more y x
  inside-later last more y x g (inl h) = inl (h.0, h.1, g x y h.2)
  inside-later last more y x g (inr h) = inr h

  first_or : (b : Bool) (p : ℕ × ℕ) (last : Pairs) (y x : ℕ) (o : Option ℕ) → nat_eq y p.0 ≡ b → AreInside owned own last p.0 p.1 → (o ≡ Some x → AreInside owned own last y x) → cond b (Some p.1) o ≡ Some x → AreInside owned own last y x
  first_or true p last y x o e here there h =
      let same : y ≡ p.0 = equal_number y p.0 e in
      let value : p.1 ≡ x = cc in
      rw (same, ← value) here
  first_or false p last y x o e here there h = there h

  paired-sound : (inner last ps : Pairs) → paired (is_own owned) (is_own own) inner ps ≡ Some last → Grows inner last × ((y x : ℕ) → partner_of ps y ≡ Some x → AreInside owned own last y x)
  paired-sound inner last [] e = (grows-same inner last (is_same inner last e), λ y x h. cc)
  paired-sound inner last (p ∷ ps) e =
      let c = came_from _ _ last e in
      let one = one_at (is_own own p.0) (is_own owned p.1) p inner c.0 refl refl c.1 in
      let r = paired-sound c.0 last ps c.2 in (
        grows-then inner c.0 last one.0 r.0,
        λ y x h. first_or (nat_eq y p.0) p last y x (partner_of ps y) refl (inside-later c.0 last p.0 p.1 r.0 one.1) (r.1 y x) h,
      )

handed_at : (b : Bool) (p : ℕ × ℕ) (by more : Pairs) → cond b (Some by) (meet by p.0 p.1) ≡ Some more → Grows by more × (b ≡ false → partner_of more p.0 ≡ Some p.1)
handed_at true p by more h = (grows-same by more (is_same by more h), λ e. absurd (false≢true (sym e)))
handed_at false p by more h = let m = met by more p.0 p.1 h in (m.0, λ e. m.1)

module _ (own : List ℕ) where
  outside_or : (b : Bool) (p : ℕ × ℕ) (more : Pairs) (y x : ℕ) (o : Option ℕ) → nat_eq y p.0 ≡ b → (is_own own p.0 ≡ false → partner_of more p.0 ≡ Some p.1) → (o ≡ Some x → partner_of more y ≡ Some x)
      → is_own own y ≡ false → cond b (Some p.1) o ≡ Some x → partner_of more y ≡ Some x
  outside_or true p more y x o e here there free h =
      let same : y ≡ p.0 = equal_number y p.0 e in
      let value : p.1 ≡ x = cc in
      let at = here (ap (is_own own) (sym same) ∙ free) in
      rw (same, ← value) at
  outside_or false p more y x o e here there free h = there h

  handed-sound : (by more ps : Pairs) → handed_out (is_own own) by ps ≡ Some more → Grows by more × ((y x : ℕ) → is_own own y ≡ false → partner_of ps y ≡ Some x → partner_of more y ≡ Some x)
  handed-sound by more [] e = (grows-same by more (is_same by more e), λ y x free h. cc)
  handed-sound by more (p ∷ ps) e =
      let c = came_from _ _ more e in
      let one = handed_at (is_own own p.0) p by c.0 c.1 in
      let r = handed-sound c.0 more ps c.2 in (
        grows-then by c.0 more one.0 r.0,
        λ y x free h. outside_or (nat_eq y p.0) p more y x (partner_of ps y) refl (λ f. r.0 p.0 p.1 (one.1 f)) (r.1 y x free) free h,
      )

-- ---- two resources that meet, as a test

abbrev pub is_that : ℕ → Option ℕ → Bool
is_that x None = false
is_that x (Some z) = nat_eq z x

-- each of them is the other's partner
abbrev are_partners : (inner inside : Pairs) → ℕ → ℕ → Bool
are_partners inner inside x y = is_that y (partner_of inner x) && is_that x (partner_of inside y)

that-is : (x : ℕ) (o : Option ℕ) → is_that x o ≡ true → o ≡ Some x
that-is x None h = absurd (false≢true h)
that-is x (Some z) h = ap Some (equal_number z x h)

is-that : (x : ℕ) (o : Option ℕ) → o ≡ Some x → is_that x o ≡ true
is-that x o e = rw e (same_number x)

one-to-one : (inner inside : Pairs) → IsOneToOne (are_partners inner inside)
one-to-one inner inside = (
  λ x y z h g.
      let a = that-is y (partner_of inner x) (both (is_that y (partner_of inner x)) (is_that x (partner_of inside y)) h).0 in
      let b = that-is z (partner_of inner x) (both (is_that z (partner_of inner x)) (is_that x (partner_of inside z)) g).0 in
      cc,
  λ x y z h g.
      let a = that-is x (partner_of inside z) (both (is_that z (partner_of inner x)) (is_that x (partner_of inside z)) h).1 in
      let b = that-is y (partner_of inside z) (both (is_that z (partner_of inner y)) (is_that y (partner_of inside z)) g).1 in
      cc,
)

some-is : (o : Option Pairs) → is_some o ≡ true → (last : Pairs) × (o ≡ Some last)
some-is None h = absurd (false≢true h)
some-is (Some last) h = (last, refl)

-- ---- what matches is equal

inside-meets : (Meets : ℕ → ℕ → Type 0) (owned own : List ℕ) (last inside more : Pairs) (y x : ℕ) → Agrees Meets more → AreInside owned own last y x
    → ((is_own own y ≡ false) → partner_of more y ≡ Some x) → partner_of inside y ≡ Some x → MeetsInside owned own (are_partners last inside) Meets x y
inside-meets Meets owned own last inside more y x g (inl h) out e = inl (h.1, h.0, and _ _ (is-that y (partner_of last x) h.2) (is-that x (partner_of inside y) e))
inside-meets Meets owned own last inside more y x g (inr h) out e = inr (h.1, h.0, g y x (out (none_of (is_own own y) refl)))
  where
    none_of : (b : Bool) → is_own own y ≡ b → b ≡ false
    none_of true f = absurd (h.0 (declares own y f))
    none_of false f = refl

found_from : (walk : Item → Option Pairs) (o : Option Item) (more : Pairs) → if_found walk o ≡ Some more → (other : Item) × (o ≡ Some other) × (walk other ≡ Some more)
found_from walk None more e = cc
found_from walk (Some other) more e = (other, refl, e)

mutual
  pub item-sound : (Meets : ℕ → ℕ → Type 0) (by more : Pairs) (a b : Item) → matched_item by a b ≡ Some more → Grows by more × (Agrees Meets more → IsSameItem Meets a b)
  item-sound Meets by more (FuncItem f) (FuncItem k) e = let r = func-sound Meets by more f k e in (r.0, λ g. (f, refl, r.1 g))
  item-sound Meets by more (InstanceItem others) (InstanceItem entries) e =
      let h = held _ _ more e in
      let r = entries-sound Meets by more others entries h.1 in
      (r.0, λ g. (others, refl, r.1 g, names-sound others entries h.0))
  item-sound Meets by more (KindItem a) (KindItem b) e = let r = kind-sound Meets by more a b e in (r.0, λ g. (a, refl, r.1 g))
  item-sound Meets by more _ _ e = cc

  pub kind-sound : (Meets : ℕ → ℕ → Type 0) (by more : Pairs) (a b : Kind) → matched_kind by a b ≡ Some more → Grows by more × (Agrees Meets more → IsSameKind Meets a b)
  kind-sound Meets by more (ResourceKind x) (ResourceKind y) e = let m = met by more y x e in (m.0, λ g. (x, refl, g y x m.1))
  kind-sound Meets by more (ValueKind a) (ValueKind b) e = let r = value-sound Meets by more a b e in (r.0, λ g. (a, refl, r.1 g))
  kind-sound Meets by more (FuncKind a) (FuncKind b) e = let r = func-sound Meets by more a b e in (r.0, λ g. (a, refl, r.1 g))
  kind-sound Meets by more (InstanceKind owned others) (InstanceKind own entries) e =
      let h = held _ _ more e in
      let c = came_from _ _ more h.1 in
      let inside = c.0 in
      let u = held _ _ more c.2 in
      let l = some-is (paired (is_own owned) (is_own own) [] inside) u.0 in
      let p = paired-sound owned own [] l.0 inside l.1 in
      let o = handed-sound own by more inside u.1 in (
        o.0,
        λ g.
            let pairs = are_partners l.0 inside in
            let r = entries-sound (MeetsInside owned own pairs Meets) [] inside others entries c.1 in (
              owned,
              others,
              refl,
              pairs,
              one-to-one l.0 inside,
              r.1 (λ y x f. inside-meets Meets owned own l.0 inside more y x g (p.1 y x f) (λ free. o.1 y x free f) f),
              names-sound others entries h.0,
            ),
      )
  kind-sound Meets by more _ _ e = cc

  pub entries-sound : (Meets : ℕ → ℕ → Type 0) (by more : Pairs) (these entries : Entries) → matched_entries by these entries ≡ Some more → Grows by more × (Agrees Meets more → HasEach Meets these entries)
  entries-sound Meets by more these End e = (grows-same by more (is_same by more e), λ g. tt)
  entries-sound Meets by more these (More name item rest) e =
      let c = came_from _ _ more e in
      let w = found_from (λ other. matched_item by other item) (look_up name these) c.0 c.1 in
      let r = item-sound Meets by c.0 w.0 item w.2 in
      let q = entries-sound Meets c.0 more these rest c.2 in
      (grows-then by c.0 more r.0 q.0, λ g. (w.0, w.1, r.1 (agrees-before Meets c.0 more q.0 g), q.1 g))

instance-sound : (Meets : ℕ → ℕ → Type 0) (by more : Pairs) (given : Item) (entries : Entries) → matched_instance by given entries ≡ Some more
    → Grows by more × (Agrees Meets more → (others : Entries) × (given ≡ InstanceItem others) × HasEach Meets others entries)
instance-sound Meets by more (InstanceItem others) entries e = let r = entries-sound Meets by more others entries e in (r.0, λ g. (others, refl, r.1 g))
instance-sound Meets by more (FuncItem f) entries e = cc
instance-sound Meets by more (KindItem k) entries e = cc

argument-sound : (Meets : ℕ → ℕ → Type 0) (by more : Pairs) (given item : Item) → matched_argument by given item ≡ Some more → Grows by more × (Agrees Meets more → IsArgument Meets given item)
argument-sound Meets by more given (InstanceItem entries) e = instance-sound Meets by more given entries e
argument-sound Meets by more given (FuncItem f) e = item-sound Meets by more given (FuncItem f) e
argument-sound Meets by more given (KindItem k) e = item-sound Meets by more given (KindItem k) e

given-sound : (Meets : ℕ → ℕ → Type 0) (by more : Pairs) (o : Option Item) (item : Item) → if_found (λ given. matched_argument by given item) o ≡ Some more
    → Grows by more × (Agrees Meets more → (given : Item) × (o ≡ Some given) × IsArgument Meets given item)
given-sound Meets by more None item e = cc
given-sound Meets by more (Some given) item e = let r = argument-sound Meets by more given item e in (r.0, λ g. (given, refl, r.1 g))

pub arguments-sound : (Meets : ℕ → ℕ → Type 0) (by more : Pairs) (args imports : Entries) → matched_arguments by args imports ≡ Some more → Grows by more × (Agrees Meets more → AreGiven Meets args imports)
arguments-sound Meets by more args End e = (grows-same by more (is_same by more e), λ g. tt)
arguments-sound Meets by more args (More name item rest) e =
    let c = came_from _ _ more e in
    let r = given-sound Meets by c.0 (look_up name args) item c.1 in
    let q = arguments-sound Meets c.0 more args rest c.2 in
    (grows-then by c.0 more r.0 q.0, λ g. let s = r.1 (agrees-before Meets c.0 more q.0 g) in (s.0, s.1, s.2, q.1 g))

-- ---- what is equal matches

not_own : (own : List ℕ) (r : ℕ) (b : Bool) → is_own own r ≡ b → (Contains own r → ⊥) → is_own own r ≡ false
not_own own r true e h = absurd (h (declares own r e))
not_own own r false e h = e

inside_function : (Meets : ℕ → ℕ → Type 0) (owned own : List ℕ) (pairs : ℕ → ℕ → Bool) → IsOneToOne pairs → IsFunction Meets → IsFunction (MeetsInside owned own pairs Meets)
inside_function Meets owned own pairs oto one = λ x z y h g. elim h [
  | inl a ↦ elim g [ inl b ↦ oto.1 x z y a.2 b.2 | inr b ↦ absurd (b.1 a.1) ]
  | inr a ↦ elim g [ inl b ↦ absurd (a.1 b.1) | inr b ↦ one x z y a.2 b.2 ]
]

module _ (Meets : ℕ → ℕ → Type 0) (one : IsFunction Meets) (owned own : List ℕ) (pairs : ℕ → ℕ → Bool) (oto : IsOneToOne pairs) where
  abbrev Partners : ℕ → ℕ → Type 0
  Partners y x = IsTrue (pairs x y)

  one_pair : (inner : Pairs) (p : ℕ × ℕ) → AllMeet Partners inner → MeetsInside owned own pairs Meets p.1 p.0 → Goes Partners (paired_one (is_own owned) (is_own own) inner p)
  one_pair inner p a (inl h) = rw (is_declared own p.0 h.1, is_declared owned p.1 h.0) (meets Partners (λ u v w f g. oto.0 w u v f g) inner p.1 p.0 a h.2)
  one_pair inner p a (inr h) = rw (not_own own p.0 _ refl h.1, not_own owned p.1 _ refl h.0) (inner, refl, a)

  paired-complete : (inner ps : Pairs) → AllMeet Partners inner → AllMeet (MeetsInside owned own pairs Meets) ps → Goes Partners (paired (is_own owned) (is_own own) inner ps)
  paired-complete inner [] a m = (inner, refl, a)
  paired-complete inner (p ∷ ps) a m =
      goes-on Partners (λ u v w f g. oto.0 w u v f g) (λ more. paired (is_own owned) (is_own own) more ps) (paired_one (is_own owned) (is_own own) inner p) (one_pair inner p a m.0) (λ mid am. paired-complete mid ps am m.1)

  one_handed : (by : Pairs) (p : ℕ × ℕ) → AllMeet Meets by → MeetsInside owned own pairs Meets p.1 p.0 → Goes Meets (handed_one (is_own own) by p)
  one_handed by p a (inl h) = rw (is_declared own p.0 h.1) (by, refl, a)
  one_handed by p a (inr h) = rw (not_own own p.0 _ refl h.1) (meets Meets one by p.0 p.1 a h.2)

  handed-complete : (by ps : Pairs) → AllMeet Meets by → AllMeet (MeetsInside owned own pairs Meets) ps → Goes Meets (handed_out (is_own own) by ps)
  handed-complete by [] a m = (by, refl, a)
  handed-complete by (p ∷ ps) a m =
      goes-on Meets one (λ more. handed_out (is_own own) more ps) (handed_one (is_own own) by p) (one_handed by p a m.0) (λ mid am. handed-complete mid ps am m.1)

  unpacked-complete : (by inside : Pairs) → AllMeet Meets by → AllMeet (MeetsInside owned own pairs Meets) inside → Goes Meets (unpacked (is_own owned) (is_own own) by inside)
  unpacked-complete by inside a m =
      let p = paired-complete [] inside tt m in
      let o = handed-complete by inside a m in
      (o.0, ap (λ q. only_if (is_some q) (handed_out (is_own own) by inside)) p.1 ∙ o.1, o.2)

if_held : (Meets : ℕ → ℕ → Type 0) (b : Bool) (o : Option Pairs) → b ≡ true → Goes Meets o → Goes Meets (only_if b o)
if_held Meets true o h g = g
if_held Meets false o h g = absurd (false≢true h)

mutual
  pub item-complete : (Meets : ℕ → ℕ → Type 0) → IsFunction Meets → (by : Pairs) (a b : Item) → AllMeet Meets by → IsSameItem Meets a b → Goes Meets (matched_item by a b)
  item-complete Meets one by a (FuncItem k) m h = rw h.1 (func-complete Meets one by h.0 k m h.2)
  item-complete Meets one by a (InstanceItem entries) m h =
      rw h.1 (if_held Meets (all_named h.0 entries) (matched_entries by h.0 entries) (names-complete h.0 entries h.3) (entries-complete Meets one by h.0 entries m h.2))
  item-complete Meets one by a (KindItem k) m h = rw h.1 (kind-complete Meets one by h.0 k m h.2)

  pub kind-complete : (Meets : ℕ → ℕ → Type 0) → IsFunction Meets → (by : Pairs) (a b : Kind) → AllMeet Meets by → IsSameKind Meets a b → Goes Meets (matched_kind by a b)
  kind-complete Meets one by a (ResourceKind y) m h = rw h.1 (meets Meets one by y h.0 m h.2)
  kind-complete Meets one by a (ValueKind b) m h = rw h.1 (value-complete Meets one by h.0 b m h.2)
  kind-complete Meets one by a (FuncKind b) m h = rw h.1 (func-complete Meets one by h.0 b m h.2)
  kind-complete Meets one by a (InstanceKind own entries) m h =
      let Inside = MeetsInside h.0 own h.3 Meets in
      let i = entries-complete Inside (inside_function Meets h.0 own h.3 h.4 one) [] h.1 entries tt h.5 in
      let u = unpacked-complete Meets one h.0 own h.3 h.4 by i.0 m i.2 in
      rw h.2 (if_held Meets (all_named h.1 entries) (onward (unpacked (is_own h.0) (is_own own) by) (matched_entries [] h.1 entries)) (names-complete h.1 entries h.6)
      (u.0, ap (onward (unpacked (is_own h.0) (is_own own) by)) i.1 ∙ u.1, u.2))

  pub entries-complete : (Meets : ℕ → ℕ → Type 0) → IsFunction Meets → (by : Pairs) (these entries : Entries) → AllMeet Meets by → HasEach Meets these entries → Goes Meets (matched_entries by these entries)
  entries-complete Meets one by these End m h = (by, refl, m)
  entries-complete Meets one by these (More name item rest) m h =
      goes-on Meets one (λ more. matched_entries more these rest) (if_found (λ other. matched_item by other item) (look_up name these))
      (rw h.1 (item-complete Meets one by h.0 item m h.2)) (λ mid am. entries-complete Meets one mid these rest am h.3)

argument-complete : (Meets : ℕ → ℕ → Type 0) → IsFunction Meets → (by : Pairs) (given item : Item) → AllMeet Meets by → IsArgument Meets given item → Goes Meets (matched_argument by given item)
argument-complete Meets one by given (InstanceItem entries) m h = rw h.1 (entries-complete Meets one by h.0 entries m h.2)
argument-complete Meets one by given (FuncItem f) m h = item-complete Meets one by given (FuncItem f) m h
argument-complete Meets one by given (KindItem k) m h = item-complete Meets one by given (KindItem k) m h

pub arguments-complete : (Meets : ℕ → ℕ → Type 0) → IsFunction Meets → (by : Pairs) (args imports : Entries) → AllMeet Meets by → AreGiven Meets args imports → Goes Meets (matched_arguments by args imports)
arguments-complete Meets one by args End m h = (by, refl, m)
arguments-complete Meets one by args (More name item rest) m h =
    goes-on Meets one (λ more. matched_arguments more args rest) (if_found (λ given. matched_argument by given item) (look_up name args))
    (rw h.1 (argument-complete Meets one by h.0 item m h.2)) (λ mid am. arguments-complete Meets one mid args rest am h.3)
