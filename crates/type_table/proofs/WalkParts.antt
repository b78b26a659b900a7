-- Walks through the parts of two types, or through parameters, and what is remembered after each of them.
use Rattle.std.proofs.Common.{◌≡◌, ◌∙◌, ◌<◌, ◌+◌, ap, refl, sym, subst, ℕ, zero, suc, arith, drop, length, get_or, List, [], ◌∷◌, Bool, true, false, Option, Some, None, nat_eq, slice_get}
use Rattle.std.specs.Prelude.{◌&&◌, All, Contains, IfOk, IsTrue, OnErr, Result, Ok, Err, option_map}
use Rattle.std.specs.Borrow.{Bor}
use Rattle.std.specs.List.{list_any}
use Rattle.std.proofs.lemmas.Bool.{false≢true}
use Rattle.std.proofs.lemmas.Option.{same_Some}
use Rattle.std.proofs.lemmas.Map.Views.{Contains-from_any}
use Rattle.wit_types.specs.declared.types.Field.{Field, out-Field}
use Rattle.wit_types.specs.Plain.{Plain, Parts, PlainFunc, plain, fields_of}
use Rattle.comp_facts.specs.Handles.{has_handle}
use Rattle.comp_facts.specs.Keys.{key_of}
use Rattle.comp_types.specs.Items.{same_name}
use Rattle.comp_types.specs.Matching.{Pairs, GoesOn, onward, meet, matched_value, matched_answer, matched_parameters, matched_func}
use Rattle.comp_types.proofs.MeetLaws.{equal_number, met as meets}
use Rattle.comp_types.proofs.ValueLemmas.{was_true, was_false, parameters_step, parameters_differ}
use Rattle.type_table.specs.Slots.{Part, form_number, matched_slots, part_of, slots_of}
use Rattle.type_table.specs.Nodes.{placed}
use Rattle.type_table.specs.declared.slots.Slot.{Slot}
use Rattle.type_table.specs.declared.table.Node.{Node}
use Rattle.type_table.specs.Tables.{Placed, Types, trees, IsSound, AreLinks, Leads, Has, HasParts, HasAnswer, HasFunc}
use Rattle.type_table.specs.Met.{HaveMet}
use Rattle.type_table.specs.Walked.{IsMarked, Remembers, Walks, Keeps}
use Rattle.type_table.specs.Walks.{Walk}
use Rattle.type_table.specs.declared.walk.Walked.{Walked}
use Rattle.type_table.proofs.HasLaws.{some_none}
use Rattle.type_table.proofs.MatchLaws.{value-itself}
use Rattle.type_table.proofs.MetLaws.{met_again, met_now, all_met-later}
use Rattle.type_table.proofs.WalkLaws.{walk-slots}
use Rattle.type_table.proofs.WalkSteps.{ComesTo, comes-on, comes-other, comes-apart, comes-end, counts-apart, written-kept, marked-kept}

-- ---- pairs of places

both-same : (a b : Bool) → (a && b) ≡ true → (a ≡ true) × (b ≡ true)
both-same true b h = (refl, h)
both-same false b h = absurd (false≢true h)

same-pair : (x y : ℕ × ℕ) → (nat_eq x.0 y.0 && nat_eq x.1 y.1) ≡ true → x ≡ y
same-pair x y h =
    let each = both-same (nat_eq x.0 y.0) (nat_eq x.1 y.1) h in
    ap (λ i. (i, x.1)) (equal_number x.0 y.0 each.0) ∙ ap (λ j. (y.0, j)) (equal_number x.1 y.1 each.1)

pub pair-met : (ks : List (ℕ × ℕ)) (i j : ℕ) → list_any (λ k. nat_eq i k.0 && nat_eq j k.1) ks ≡ true → Contains ks (i, j)
pair-met ks i j h = Contains-from_any {eq = λ (x y : ℕ × ℕ). nat_eq x.0 y.0 && nat_eq x.1 y.1} same-pair (i, j) ks h

-- ---- walks that stop, and walks that go on

pub walks-no : (types : Types) (old new : Walked) (o : Option Pairs) → (Remembers types old → o ≡ None) → Walks types old new false o
walks-no types old new o h = λ mem. (h mem, λ on. absurd (false≢true on))

pub walks-yes : (types : Types) (old new : Walked) (o : Option Pairs) → (Remembers types old → (o ≡ Some new.by) × Remembers types new) → Walks types old new true o
walks-yes types old new o h = λ mem. let both = h mem in (both.0, λ on. both.1)

pub keeps-walk : (types : Types) (old new : Walked) (same : Bool) (o : Option Pairs) → Walks types old new same o → Keeps types old new same
keeps-walk types old new same o walk = λ mem. (walk mem).1

-- what it remembers did meet, if it says so of a sound table
pub keeps-sound : (types : Types) (old new : Walked) (same : Bool) → (IsSound types → Keeps types old new same) → Keeps types old new same
keeps-sound types old new same h = λ mem on sound. h sound mem on sound

-- one walk, and then another
pub walks-then : (types : Types) (old mid new : Walked) (first same : Bool) (f : Pairs → Option Pairs) (o : Option Pairs)
    → Walks types old mid first o → first ≡ true → Walks types mid new same (f mid.by) → Walks types old new same (onward f o)
walks-then types old mid new first same f o walk on next = λ mem.
    let w = walk mem in
    let n = next (w.1 on) in
    (subst (λ r. GoesOn same new.by (onward f r)) (sym (was_true first mid.by o w.0 on)) n.0, n.1)

-- ---- types as they are written out

pub walks-written : (types : Types) (old new : Walked) (a b : Plain) (same : Bool)
    → GoesOn same new.by (matched_value old.by a b) → new.met.keys ≡ old.met.keys → Walks types old new same (matched_value old.by a b)
walks-written types old new a b same goes kept = λ mem. (
  goes,
  λ on sound. subst (λ ps. All (HaveMet types new.by) ps) (sym kept) (written-kept types old.by new.by old.met.keys a b (was_true same new.by (matched_value old.by a b) goes on) (mem sound)),
)

-- ---- types of parts

led : (tys : List Plain) (link : Option ℕ) (at : ℕ) (p : Option Plain) (x : Plain) → link ≡ Some at → p ≡ Some x → Leads tys link p → slice_get tys at ≡ Some x
led tys link at p x e g l = subst (λ o. Leads tys (Some at) o) g (subst (λ k. Leads tys k p) e l)

pub walks-both : (types : Types) (old new : Walked) (same : Bool) (p q : Option Plain) (x y : Plain) → p ≡ Some x → q ≡ Some y
    → Walks types old new same (matched_value old.by x y) → Walks types old new same (matched_answer old.by p q)
walks-both types old new same p q x y g h walk =
    subst (λ o. Walks types old new same (matched_answer old.by o q)) (sym g) (subst (λ o. Walks types old new same (matched_answer old.by (Some x) o)) (sym h) walk)

pub walks-led : (types : Types) (old new : Walked) (same : Bool) (p q : Option Plain) (x y : Plain) (link other : Option ℕ) (at to : ℕ)
    → p ≡ Some x → q ≡ Some y → link ≡ Some at → other ≡ Some to → Leads (trees types) link p → Leads (trees types) other q
    → ((a b : Plain) → slice_get (trees types) at ≡ Some a → slice_get (trees types) to ≡ Some b → Walks types old new same (matched_value old.by a b))
    → Walks types old new same (matched_answer old.by p q)
walks-led types old new same p q x y link other at to g h e f l k walk =
    walks-both types old new same p q x y g h (walk x y (led (trees types) link at p x e g l) (led (trees types) other to q y f h k))

pub walks-answered : (types : Types) (old new : Walked) (same : Bool) (p q : Option Plain) (x y : Plain) → p ≡ Some x → q ≡ Some y
    → (Has types x → Has types y → Walks types old new same (matched_value old.by x y)) → HasAnswer types p → HasAnswer types q → Walks types old new same (matched_answer old.by p q)
walks-answered types old new same p q x y g h walk has others =
    walks-both types old new same p q x y g h (walk (subst (HasAnswer types) g has) (subst (HasAnswer types) h others))

-- ---- parts, one after another

-- the walk came to the parts from this index on
abbrev pub Comes : Types → (old mid : Walked) → List Part → List Part → ℕ → Type 0
Comes types old mid ps qs i = Remembers types old → ComesTo old.by ps qs i mid.by × Remembers types mid

pub inside : (ps : List Part) (i : ℕ) → i < length ps → slice_get ps i ≡ None → ⊥
inside [] i lt e = absurd (omega (arith, lt))
inside (p ∷ ps) zero lt e = cc
inside (p ∷ ps) (suc i) lt e = inside ps i (omega (arith, lt)) e

pub no-slot : (r : Option Slot) (ps : List Part) (i : ℕ) → ((x : Slot) → r ≡ Some x → ⊥) → option_map part_of r ≡ slice_get ps i → i < length ps → ⊥
no-slot None ps i h e lt = inside ps i lt (sym e)
no-slot (Some x) ps i h e lt = h x refl

pub walks-counts : (types : Types) (old new : Walked) (ps qs : List Part) → (length ps ≡ length qs → ⊥) → Walks types old new false (matched_slots old.by ps qs)
walks-counts types old new ps qs h = walks-no types old new (matched_slots old.by ps qs) (λ mem. counts-apart old.by ps qs h)

module _ (types : Types) (old mid : Walked) (ps qs : List Part) (i : ℕ) (comes : Comes types old mid ps qs i) where
  pub all-parts : i ≡ length ps → i ≡ length qs → Walks types old mid true (matched_slots old.by ps qs)
  all-parts e f = walks-yes types old mid (matched_slots old.by ps qs) (λ mem. let c = comes mem in (comes-end old.by ps qs i mid.by c.0 e f, c.1))

  module _ (p q : Part) (is : slice_get ps i ≡ Some p) (other : slice_get qs i ≡ Some q) where
    pub other-name : (new : Walked) → same_name p.0 q.0 ≡ false → Walks types old new false (matched_slots old.by ps qs)
    other-name new n = walks-no types old new (matched_slots old.by ps qs) (λ mem. comes-other old.by ps qs i mid.by p q (comes mem).0 is other n)

    pub other-type : (new : Walked) (same : Bool) → Walks types mid new same (matched_answer mid.by p.1 q.1) → same ≡ false → Walks types old new false (matched_slots old.by ps qs)
    other-type new same walk off = walks-no types old new (matched_slots old.by ps qs)
        (λ mem. let c = comes mem in comes-apart old.by ps qs i mid.by p q c.0 is other (was_false same new.by (matched_answer mid.by p.1 q.1) (walk c.1).0 off))

    pub same-part : (new : Walked) (same : Bool) → Walks types mid new same (matched_answer mid.by p.1 q.1) → same_name p.0 q.0 ≡ true → same ≡ true → Comes types old new ps qs (i + 1)
    same-part new same walk n on = λ mem.
        let c = comes mem in
        let w = walk c.1 in
        (comes-on old.by ps qs i mid.by new.by p q c.0 is other n (was_true same new.by (matched_answer mid.by p.1 q.1) w.0 on), w.1 on)

-- ---- places

-- the type at a place is that of the node there
pub placed_at : (types : Types) (at : ℕ) (ty : Plain) → slice_get (trees types) at ≡ Some ty → (p : Placed) × (slice_get types at ≡ Some p) × (p.tree ≡ ty)
placed_at [] at ty e = absurd cc
placed_at (p ∷ types) zero ty e = (p, refl, same_Some p.tree ty e)
placed_at (p ∷ types) (suc at) ty e = placed_at types at ty e

pub nothing_at : (types : Types) (at : ℕ) (ty : Plain) → slice_get types at ≡ None → slice_get (trees types) at ≡ Some ty → ⊥
nothing_at types at ty none e = let p = placed_at types at ty e in some_none (sym p.1 ∙ none)

pub no-node : (r : Option (Bor Node)) (types : Types) (at : ℕ) (ty : Plain) → ((x : Bor Node) → r ≡ Some x → ⊥) → option_map (λ (x : Bor Node). placed x.now) r ≡ slice_get types at → slice_get (trees types) at ≡ Some ty → ⊥
no-node None types at ty h e t = nothing_at types at ty (sym e) t
no-node (Some x) types at ty h e t = h x refl

pub tree_is : (types : Types) (at : ℕ) (p : Placed) (ty : Plain) → slice_get types at ≡ Some p → slice_get (trees types) at ≡ Some ty → p.tree ≡ ty
tree_is types at p ty is e = let q = placed_at types at ty e in ap (λ (r : Placed). r.tree) (same_Some p q.0 (sym is ∙ q.1)) ∙ q.2

-- types with parts, as they are kept elsewhere
pub walks-slots : (types : Types) (old new : Walked) (same : Bool) (a b p q : Plain) → p ≡ a → q ≡ b → form_number a ≡ form_number b → (form_number a ≡ 0 → ⊥)
    → Walks types old new same (matched_slots old.by (slots_of p) (slots_of q)) → Walks types old new same (matched_value old.by a b)
walks-slots types old new same a b p q g h e some walk =
    subst (λ o. Walks types old new same o) (sym (walk-slots old.by a b e some))
    (subst (λ v. Walks types old new same (matched_slots old.by (slots_of v) (slots_of b))) g (subst (λ w. Walks types old new same (matched_slots old.by (slots_of p) (slots_of w))) h walk))

pub links-as : (tys : List Plain) (ls ks : List (Option ℕ)) (a p : Plain) → ks ≡ ls → p ≡ a → AreLinks tys ls (slots_of a) → AreLinks tys ks (slots_of p)
links-as tys ls ks a p g h links = subst (λ ns. AreLinks tys ns (slots_of p)) (sym g) (subst (λ v. AreLinks tys ls (slots_of v)) (sym h) links)

pub walks-of : (types : Types) (old new : Walked) (same : Bool) (a b p q : Plain) → p ≡ a → q ≡ b → Walks types old new same (matched_value old.by p q) → Walks types old new same (matched_value old.by a b)
walks-of types old new same a b p q g h walk =
    subst (λ v. Walks types old new same (matched_value old.by v b)) g (subst (λ w. Walks types old new same (matched_value old.by p w)) h walk)

pub walks-failed : (types : Types) (old mid new : Walked) (same : Bool) (o : Option Pairs) → Walks types old mid same o → same ≡ false → Walks types old new false o
walks-failed types old mid new same o walk off = walks-no types old new o (λ mem. was_false same mid.by o (walk mem).0 off)

module _ (types : Types) (at to : ℕ) (a b : Plain) (is : slice_get (trees types) at ≡ Some a) (other : slice_get (trees types) to ≡ Some b) where
  pub walks-again : (old : Walked) → IsSound types → Contains old.met.keys (at, to) → Walks types old old true (matched_value old.by a b)
  walks-again old sound was = walks-yes types old old (matched_value old.by a b) (λ mem. (met_again types old.by old.met.keys at to a b (mem sound) was is other, mem))

  pub walks-itself : (old : Walked) → at ≡ to → has_handle a ≡ false → Walks types old old true (matched_value old.by a b)
  walks-itself old same bare =
      let one : a ≡ b = same_Some a b (sym is ∙ (ap (slice_get (trees types)) same ∙ other)) in
      walks-yes types old old (matched_value old.by a b) (λ mem. (subst (λ x. matched_value old.by a x ≡ Some old.by) one (value-itself old.by a bare), mem))

  pub walks-marked : (old mid new : Walked) (same : Bool) → Walks types old mid same (matched_value old.by a b) → same ≡ true → IsMarked mid.met.keys new.met.keys (at, to) → new.by ≡ mid.by → Walks types old new true (matched_value old.by a b)
  walks-marked old mid new same walk on marked kept = walks-yes types old new (matched_value old.by a b) (λ mem.
      let w = walk mem in
      let m = was_true same mid.by (matched_value old.by a b) w.0 on in (
        m ∙ ap Some (sym kept),
        λ sound. subst (λ by. All (HaveMet types by) new.met.keys) (sym kept)
            (marked-kept types mid.by mid.met.keys new.met.keys (at, to) marked (w.1 on sound) (met_now types old.by mid.by at to a b is other m)),
      ))

-- ---- parameters, one after another

-- the walk came to the parameters from this index on
abbrev pub ComesOn : Types → (old mid : Walked) → List Field → List Field → ℕ → Type 0
ComesOn types old mid xs ys i =
    Remembers types old
    → (matched_parameters old.by (fields_of xs) (fields_of ys) ≡ matched_parameters mid.by (fields_of (drop i xs)) (fields_of (drop i ys))) × Remembers types mid

past : (xs ys : List Field) (by : Pairs) (i : ℕ) → i ≡ length xs → length xs ≡ length ys → matched_parameters by (fields_of (drop i xs)) (fields_of (drop i ys)) ≡ Some by
past [] [] by i e f = rw e refl
past [] (y ∷ ys) by i e f = absurd (omega (arith, f))
past (x ∷ xs) [] by i e f = absurd (omega (arith, f))
past (x ∷ xs) (y ∷ ys) by i e f = let n : length xs ≡ length ys = omega (arith, f) in rw e (past xs ys by (length xs) refl n)

pub walks-differ : (types : Types) (old new : Walked) (xs ys : List Field) → (length xs ≡ length ys → ⊥) → Walks types old new false (matched_parameters old.by (fields_of xs) (fields_of ys))
walks-differ types old new xs ys h = walks-no types old new (matched_parameters old.by (fields_of xs) (fields_of ys)) (λ mem. parameters_differ old.by xs ys h)

module _ (types : Types) (old mid : Walked) (xs ys : List Field) (i : ℕ) (as_many : length xs ≡ length ys) (comes : ComesOn types old mid xs ys i) where
  pub all-parameters : i ≡ length xs → Walks types old mid true (matched_parameters old.by (fields_of xs) (fields_of ys))
  all-parameters e = walks-yes types old mid (matched_parameters old.by (fields_of xs) (fields_of ys)) (λ mem. let c = comes mem in (c.0 ∙ past xs ys mid.by i e as_many, c.1))

  module _ (x y : Field) (within : i < length xs) (is : x ≡ get_or xs i x) (other : y ≡ get_or ys i y) (new : Walked) (same : Bool) (walk : Walks types mid new same (matched_value mid.by (plain (out-Field x).ty) (plain (out-Field y).ty))) where
    step : matched_parameters mid.by (fields_of (drop i xs)) (fields_of (drop i ys)) ≡
        onward (λ more. matched_parameters more (fields_of (drop (i + 1) xs)) (fields_of (drop (i + 1) ys))) (matched_value mid.by (plain (out-Field x).ty) (plain (out-Field y).ty))
    step = subst (λ v. matched_parameters mid.by (fields_of (drop i xs)) (fields_of (drop i ys)) ≡ onward (λ more. matched_parameters more (fields_of (drop (i + 1) xs)) (fields_of (drop (i + 1) ys))) (matched_value mid.by (plain (out-Field v).ty) (plain (out-Field y).ty))) (sym is)
        (subst (λ w. matched_parameters mid.by (fields_of (drop i xs)) (fields_of (drop i ys)) ≡ onward (λ more. matched_parameters more (fields_of (drop (i + 1) xs)) (fields_of (drop (i + 1) ys))) (matched_value mid.by (plain (out-Field (get_or xs i x)).ty) (plain (out-Field w).ty))) (sym other)
        (parameters_step mid.by xs ys i x y within as_many))

    pub same-parameter : same ≡ true → ComesOn types old new xs ys (i + 1)
    same-parameter on = λ mem.
        let c = comes mem in
        let w = walk c.1 in
        (c.0 ∙ (step ∙ ap (onward (λ more. matched_parameters more (fields_of (drop (i + 1) xs)) (fields_of (drop (i + 1) ys)))) (was_true same new.by (matched_value mid.by (plain (out-Field x).ty) (plain (out-Field y).ty)) w.0 on)), w.1 on)

    pub other-parameter : same ≡ false → Walks types old new false (matched_parameters old.by (fields_of xs) (fields_of ys))
    other-parameter off = walks-no types old new (matched_parameters old.by (fields_of xs) (fields_of ys)) (λ mem.
        let c = comes mem in
        c.0 ∙ (step ∙ ap (onward (λ more. matched_parameters more (fields_of (drop (i + 1) xs)) (fields_of (drop (i + 1) ys)))) (was_false same new.by (matched_value mid.by (plain (out-Field x).ty) (plain (out-Field y).ty)) (walk c.1).0 off)))

-- ---- functions

pub walks-func : (types : Types) (old mid new : Walked) (a b : PlainFunc) (ps qs : Parts) (p q : Option Plain) (first same : Bool)
    → ps ≡ a.params → qs ≡ b.params → p ≡ a.answer → q ≡ b.answer
    → (HasParts types ps → HasParts types qs → Walks types old mid first (matched_parameters old.by ps qs)) → first ≡ true
    → (HasAnswer types p → HasAnswer types q → Walks types mid new same (matched_answer mid.by p q))
    → HasFunc types a → HasFunc types b → Walks types old new same (matched_func old.by a b)
walks-func types old mid new a b ps qs p q first same g h e f walk on next has others =
    walks-then types old mid new first same (λ more. matched_answer more a.answer b.answer) (matched_parameters old.by a.params b.params)
    (subst (λ x. Walks types old mid first (matched_parameters old.by x b.params)) g (subst (λ y. Walks types old mid first (matched_parameters old.by ps y)) h
    (walk (subst (HasParts types) (sym g) has.0) (subst (HasParts types) (sym h) others.0))))
    on
    (subst (λ x. Walks types mid new same (matched_answer mid.by x b.answer)) e (subst (λ y. Walks types mid new same (matched_answer mid.by p y)) f
    (next (subst (HasAnswer types) (sym e) has.1) (subst (HasAnswer types) (sym f) others.1))))

-- ---- one pair of resources

pub meet-kept : (types : Types) (old new : Walked) (y x : ℕ) (same : Bool) → GoesOn same new.by (meet old.by y x) → new.met.keys ≡ old.met.keys → Walks types old new same (meet old.by y x)
meet-kept types old new y x same goes kept = λ mem. (
  goes,
  λ on sound. subst (λ ps. All (HaveMet types new.by) ps) (sym kept) (all_met-later types old.by new.by old.met.keys (meets old.by new.by y x (was_true same new.by (meet old.by y x) goes on)).0 (mem sound)),
)

-- ---- what a walk answers

pub ok-on : {T E : Type 0} (r s : Result T E) (P Q : T → Type 0) → s ≡ r → ((x : T) → P x → Q x) → IfOk r P → IfOk s Q
ok-on {T} {E} r s P Q e f h = subst (λ q. IfOk q Q) (sym e) (on r h)
  where
    on : (q : Result T E) → IfOk q P → IfOk q Q
    on (Ok x) g = f x g
    on (Err x) g = tt

pub settled : {E : Type 0} (r : Result Bool E) (went : Bool) (P : Type 0) → IfOk r (λ same. went ≡ same) → OnErr r (went ≡ false) → went ≡ true → IfOk r (λ same. IsTrue same → P) → P
settled (Ok same) went P e f on h = h (sym e ∙ on)
settled (Err x) went P e f on h = absurd (false≢true (sym f ∙ on))

-- what a walk over a table answers, by what is seen of it
pub answers : (types : Types) (old mid : Walked) (seen : Walk) (new : Pairs) (same : Bool) (a b p q : Plain) (key other : ℕ)
    → record { types = types; by = old.by } ≡ seen → p ≡ a → q ≡ b → key ≡ key_of a → other ≡ key_of b → new ≡ mid.by → Remembers types old
    → (key ≡ key_of p → other ≡ key_of q → Has types p → Has types q → Walks types old mid same (matched_value old.by p q))
    → Has seen.types a → Has seen.types b → GoesOn same new (matched_value seen.by a b)
answers types old mid seen new same a b p q key other is g h k l e mem walk =
    subst (λ (w : Walk). Has w.types a → Has w.types b → GoesOn same new (matched_value w.by a b)) is (λ has others.
    subst (λ by. GoesOn same by (matched_value old.by a b)) (sym e)
    (subst (λ x. GoesOn same mid.by (matched_value old.by x b)) g (subst (λ y. GoesOn same mid.by (matched_value old.by p y)) h
    (walk (k ∙ ap key_of (sym g)) (l ∙ ap key_of (sym h)) (subst (Has types) (sym g) has) (subst (Has types) (sym h) others) mem).0)))

-- nothing is remembered
pub forgot : (types : Types) (new : Walked) → new.met.keys ≡ [] → Remembers types new
forgot types new none = λ sound. subst (λ ps. All (HaveMet types new.by) ps) (sym none) (λ k d lt. absurd (omega (arith, lt)))
