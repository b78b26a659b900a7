-- What stands under names and at indexes.
use Rattle.std.proofs.Common.{◌≡◌, ◌∙◌, ap, sym, refl, subst, ℕ, zero, suc, List, [], ◌∷◌, ◌++◌, Bool, true, false, Option, Some, None, cond, slice_get, get_or, length, ◌<◌, ◌≤◌, is_some, Bor, arith}
use Rattle.std.specs.Prelude.{IfSome, nat_lt}
use Rattle.std.specs.Option.{option_or, option_map, option_and_then, option_copied}
use Rattle.std.proofs.lemmas.Bool.Decides.{nat_tests}
use Rattle.std.proofs.lemmas.Option.{none-some, slice_get_past, slice_get_read}
use Rattle.wit_types.specs.Plain.{Name}
use Rattle.comp_types.specs.Items.{same_name}
use Rattle.comp_link.specs.Linking.{Given as GroupGiven, Givens as GroupGivens, GivenInstance, Nothing, Giving, find, and_given, and_some_given, Making as GroupMaking, given_at, givens_of}
use Rattle.comp_link.specs.declared.items.PlanArg.{PlanArg}
use Rattle.comp_link.specs.Planned.{item_named, args_named}
use Rattle.instance_making.specs.declared.named.Named.{Named}
use Rattle.instance_making.specs.declared.given.Given.{Given}
use Rattle.instance_making.specs.declared.given.Given.TheVariants.{Instance}
use Rattle.instance_making.specs.Named.{found, named_item}
use Rattle.instance_making.specs.Made.{IsInstance, IsGiven, IsSame, Holds, EachHolds, AreMade}
use Rattle.instance_making.specs.Shown.{AreInstances}
use Rattle.instance_making.proofs.CoreLemmas.{or_if}

-- ---- the same, or neither

pub same_none : (made : List GroupGivens) (o : Option GroupGiven) → IsSame made None o → o ≡ None
same_none made None h = refl
same_none made (Some g) h = absurd h

pub same_some : (made : List GroupGivens) (item : Given) (o : Option GroupGiven) → IsSame made (Some item) o → (g : GroupGiven) × (o ≡ Some g) × IsGiven made item g
same_some made item None h = absurd h
same_some made item (Some g) h = (g, refl, h)

same_or : (made : List GroupGivens) (o x : Option Given) (p y : Option GroupGiven) → IsSame made o p → IsSame made x y → IsSame made (option_or o x) (option_or p y)
same_or made None x None y h k = k
same_or made (Some i) x (Some g) y h k = h
same_or made None x (Some g) y h k = absurd h
same_or made (Some i) x None y h k = absurd h

same_if : (made : List GroupGivens) (b : Bool) (x : Option Given) (y : Option GroupGiven) → IsSame made x y → IsSame made (cond b x None) (cond b y None)
same_if made true x y h = h
same_if made false x y h = tt

-- one item more under a name
pub holds_with : (made : List GroupGivens) (old new : Named Given) (gs hs : GroupGivens) (n : Name) (x : Option Given) (y : Option GroupGiven) → Holds made old gs → IsSame made x y
    → ((q : Name) → found new q ≡ option_or (found old q) (cond (same_name n q) x None)) → ((q : Name) → find q hs ≡ option_or (find q gs) (cond (same_name n q) y None)) → Holds made new hs
holds_with made old new gs hs n x y h k e f = λ q.
    subst (λ o. IsSame made o (find q hs)) (sym (e q)) (subst (λ p. IsSame made (option_or (found old q) (cond (same_name n q) x None)) p) (sym (f q))
    (same_or made (found old q) (cond (same_name n q) x None) (find q gs) (cond (same_name n q) y None) (h q) (same_if made (same_name n q) x y k)))

-- ---- under names

or_none : {T : Type 0} (o : Option T) → o ≡ option_or o None
or_none None = refl
or_none (Some x) = refl

-- nothing more under a name
pub or_nothing : {T : Type 0} (b : Bool) (o : Option T) → o ≡ option_or o (cond b None None)
or_nothing true o = or_none o
or_nothing false o = or_none o

pub find_and : (q : Name) (gs : GroupGivens) (name : Name) (item : GroupGiven) → find q (and_given gs name item) ≡ option_or (find q gs) (cond (same_name name q) (Some item) None)
find_and q Nothing name item = refl
find_and q (Giving n i rest) name item = ap (λ o. cond (same_name n q) (Some i) o) (find_and q rest name item) ∙ or_if (same_name n q) i (find q rest) (cond (same_name name q) (Some item) None)

find_some : (q : Name) (o : Option GroupGiven) (n : Name) (rest : GroupGivens) → find q (and_some_given o n rest) ≡ option_or (cond (same_name n q) o None) (find q rest)
find_some q None n rest = by (same_name n q)
  where
    by : (b : Bool) → find q rest ≡ option_or (cond b None None) (find q rest)
    by true = refl
    by false = refl
find_some q (Some g) n rest = by (same_name n q)
  where
    by : (b : Bool) → cond b (Some g) (find q rest) ≡ option_or (cond b (Some g) None) (find q rest)
    by true = refl
    by false = refl

or_assoc : {T : Type 0} (o p r : Option T) → option_or o (option_or p r) ≡ option_or (option_or o p) r
or_assoc None p r = refl
or_assoc (Some x) p r = refl

pub givens_last : (q : Name) (g : GroupMaking) (xs : List PlanArg) (a : PlanArg)
    → find q (givens_of g (args_named (xs ++ a ∷ []))) ≡ option_or (find q (givens_of g (args_named xs))) (cond (same_name a.name q) (given_at g (item_named a.item)) None)
givens_last q g [] a = find_some q (given_at g (item_named a.item)) a.name Nothing ∙ sym (or_none (cond (same_name a.name q) (given_at g (item_named a.item)) None))
givens_last q g (x ∷ xs) a =
    find_some q (given_at g (item_named x.item)) x.name (givens_of g (args_named (xs ++ a ∷ [])))
    ∙ (ap (option_or (cond (same_name x.name q) (given_at g (item_named x.item)) None)) (givens_last q g xs a)
    ∙ (or_assoc (cond (same_name x.name q) (given_at g (item_named x.item)) None) (find q (givens_of g (args_named xs))) (cond (same_name a.name q) (given_at g (item_named a.item)) None)
    ∙ ap (λ o. option_or o (cond (same_name a.name q) (given_at g (item_named a.item)) None)) (sym (find_some q (given_at g (item_named x.item)) x.name (givens_of g (args_named xs))))))

-- ---- at indexes

pub instances_at : (made : List GroupGivens) (ns : List ℕ) (gs : List GroupGivens) (i : ℕ) → AreInstances made ns gs → IsSame made (option_map Instance (slice_get ns i)) (option_map GivenInstance (slice_get gs i))
instances_at made [] [] i h = tt
instances_at made (n ∷ ns) (g ∷ gs) zero h = (g, h.0, refl)
instances_at made (n ∷ ns) (g ∷ gs) (suc i) h = instances_at made ns gs i h.1
instances_at made [] (g ∷ gs) i h = absurd h
instances_at made (n ∷ ns) [] i h = absurd h

-- the instance at an index
pub instance_some : (made : List GroupGivens) (ns : List ℕ) (gs : List GroupGivens) (i n : ℕ) → AreInstances made ns gs → slice_get ns i ≡ Some n → (g : GroupGivens) × (slice_get gs i ≡ Some g) × IsInstance made n g
instance_some made [] [] i n h e = absurd (none-some n e)
instance_some made (x ∷ ns) (g ∷ gs) zero n h e = (g, refl, subst (λ o. IsInstance made o g) (number x n e) h.0)
  where
    number : (x n : ℕ) → Some x ≡ Some n → x ≡ n
    number x n e = cc
instance_some made (x ∷ ns) (g ∷ gs) (suc i) n h e = instance_some made ns gs i n h.1 e
instance_some made [] (g ∷ gs) i n h e = absurd h
instance_some made (x ∷ ns) [] i n h e = absurd h

pub instance_none : (made : List GroupGivens) (ns : List ℕ) (gs : List GroupGivens) (i : ℕ) → AreInstances made ns gs → slice_get ns i ≡ None → slice_get gs i ≡ None
instance_none made [] [] i h e = refl
instance_none made (x ∷ ns) (g ∷ gs) zero h e = absurd (none-some x (sym e))
instance_none made (x ∷ ns) (g ∷ gs) (suc i) h e = instance_none made ns gs i h.1 e
instance_none made [] (g ∷ gs) i h e = absurd h
instance_none made (x ∷ ns) [] i h e = absurd h

each_at : (made : List GroupGivens) (is : List (Named Given)) (gs : List GroupGivens) (n : ℕ) (g : GroupGivens) → EachHolds made is gs → slice_get gs n ≡ Some g → (i : Named Given) × (slice_get is n ≡ Some i) × Holds made i g
each_at made [] [] n g h e = absurd (none-some g e)
each_at made (i ∷ is) (x ∷ gs) zero g h e = (i, refl, subst (Holds made i) (these x g e) h.0)
  where
    these : (x g : GroupGivens) → Some x ≡ Some g → x ≡ g
    these x g e = cc
each_at made (i ∷ is) (x ∷ gs) (suc n) g h e = each_at made is gs n g h.1 e
each_at made [] (x ∷ gs) n g h e = absurd h
each_at made (i ∷ is) [] n g h e = absurd h

-- what the instance of a number exports
pub made_at : (made : List GroupGivens) (is : List (Named Given)) (n : ℕ) (g : GroupGivens) → AreMade is made → IsInstance made n g → (i : Named Given) × (slice_get is n ≡ Some i) × Holds made i g
made_at made is n g h e = each_at made is made n g h e

pub item_at : (made : List GroupGivens) (is : List (Named Given)) (n : ℕ) (g : GroupGivens) (q : Name) → AreMade is made → IsInstance made n g → IsSame made (named_item is (Some n) q) (find q g)
item_at made is n g q h e =
    let here = made_at made is n g h e in
    subst (λ o. IsSame made (option_and_then (λ (i : Named Given). found i q) o) (find q g)) (sym here.1) (here.2 q)

-- what is found under a name in the instance of a number
pub given_in : (made : List GroupGivens) (is : List (Named Given)) (n : ℕ) (g : GroupGivens) (q : Name) (i : Named Given) (r : Option Given) → AreMade is made → IsInstance made n g → slice_get is n ≡ Some i → r ≡ found i q → IsSame made r (find q g)
given_in made is n g q i r h e at f =
    subst (λ o. IsSame made o (find q g)) (ap (option_and_then (λ (x : Named Given). found x q)) at ∙ sym f) (item_at made is n g q h e)

-- an instance that was made is there
pub made_there : (made : List GroupGivens) (is : List (Named Given)) (n : ℕ) (g : GroupGivens) → AreMade is made → IsInstance made n g → slice_get is n ≡ None → ⊥
made_there made is n g h e none = let here = made_at made is n g h e in none-some here.0 (sym none ∙ here.1)

-- ---- what a slice's `get` says of its answer

got : {A : Type 0} (r : Option (Bor A)) (xs : List A) (i : ℕ) → is_some r ≡ nat_lt i (length xs) → IfSome r (λ x. x.now ≡ get_or xs i x.now) → option_copied r ≡ slice_get xs i
got None xs i a b = let past : length xs ≤ i = grind (arith, nat_tests) in sym (slice_get_past xs i past)
got (Some x) xs i a b = let inside : i < length xs = grind (arith, nat_tests) in sym (slice_get_read xs (length xs) i x.now refl inside b)

pub got_at : {A : Type 0} (r o : Option (Bor A)) (ds xs : List A) (i : ℕ) → is_some r ≡ nat_lt i (length ds) → IfSome r (λ x. x.now ≡ get_or ds i x.now) → ds ≡ xs → r ≡ o → slice_get xs i ≡ option_copied o
got_at r o ds xs i a b e f = ap (λ ys. slice_get ys i) (sym e) ∙ (sym (got r ds i a b) ∙ ap option_copied f)
