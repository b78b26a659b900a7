-- The work that is left gets less with each item.
use Rattle.std.proofs.Common.{◌≡◌, ◌∙◌, ◌+◌, ◌<◌, ◌≤◌, ap, refl, ℕ, zero, suc, List, [], ◌∷◌, ◌++◌, drop, Option, Some, None, slice_get, arith}
use Rattle.std.specs.Prelude.{sum_by}
use Rattle.std.proofs.lemmas.List.Sums.{sum_by_push, sum_by-cons}
use Rattle.comp_link.specs.declared.items.PlanItem.{PlanItem}
use Rattle.comp_link.specs.declared.items.PlanItem.TheVariants as items
use Rattle.comp_link.specs.declared.linked.Linked.{Linked}
use Rattle.comp_interp.specs.declared.part.Part.{Part}
use Rattle.comp_interp.specs.declared.part.Part.TheVariants.{Held}
use Rattle.comp_interp.specs.declared.level.Level.{Level}
use Rattle.comp_interp.specs.Parts.{part_items, part_limit}
use Rattle.comp_interp.specs.Levels.{item_work, level_work, work, Begun, BegunIf}

drop_at : {A : Type 0} (xs : List A) (i : ℕ) (p : A) → slice_get xs i ≡ Some p → drop i xs ≡ p ∷ drop (i + 1) xs
drop_at [] i p e = absurd (cc)
drop_at (x ∷ xs) zero p e = let same : x ≡ p = cc in ap (λ q. q ∷ xs) same
drop_at (x ∷ xs) (suc i) p e = let next : suc i + 1 ≡ suc (i + 1) = omega arith in rw next (drop_at xs i p e)

sums_below : (f g : PlanItem → ℕ) → ((i : PlanItem) → f i ≤ g i) → (xs : List PlanItem) → sum_by f xs ≤ sum_by g xs
sums_below f g h [] = omega arith
sums_below f g h (x ∷ xs) = omega (arith, h x, sums_below f g h xs, sum_by-cons f x xs, sum_by-cons g x xs)

-- there is some work in each item
some_work : (k : ℕ) (linked : Linked) (item : PlanItem) → 1 ≤ item_work k linked item
some_work zero linked item = omega arith
some_work (suc k) linked (items.OfComponent number first args) = omega arith
some_work (suc k) linked (items.OfModule number args) = omega arith
some_work (suc k) linked (items.OfCoreItems exports) = omega arith
some_work (suc k) linked (items.CoreItemOf sort instance name) = omega arith
some_work (suc k) linked (items.OfItems exports) = omega arith
some_work (suc k) linked (items.ItemOf sort instance name) = omega arith
some_work (suc k) linked (items.NewResource resource destructor) = omega arith
some_work (suc k) linked (items.Lifts func options ty) = omega arith
some_work (suc k) linked (items.Lowers func options ty) = omega arith
some_work (suc k) linked (items.MakesResource resource) = omega arith
some_work (suc k) linked (items.DropsResource resource) = omega arith
some_work (suc k) linked (items.ReadsResource resource) = omega arith
some_work (suc k) linked (items.Imports name item) = omega arith
some_work (suc k) linked (items.Exports name item stated) = omega arith

-- a plan that names more has no less work
more_named : (j k : ℕ) (linked : Linked) → j ≤ k → (item : PlanItem) → item_work j linked item ≤ item_work k linked item
more_named zero k linked h item = some_work k linked item
more_named (suc j) zero linked h item = absurd (omega (arith, h))
more_named (suc j) (suc k) linked h (items.OfComponent number first args) =
    omega (arith, sums_below (item_work j linked) (item_work k linked) (more_named j k linked (omega (arith, h))) (part_items linked (Held number)))
more_named (suc j) (suc k) linked h (items.OfModule number args) = omega arith
more_named (suc j) (suc k) linked h (items.OfCoreItems exports) = omega arith
more_named (suc j) (suc k) linked h (items.CoreItemOf sort instance name) = omega arith
more_named (suc j) (suc k) linked h (items.OfItems exports) = omega arith
more_named (suc j) (suc k) linked h (items.ItemOf sort instance name) = omega arith
more_named (suc j) (suc k) linked h (items.NewResource resource destructor) = omega arith
more_named (suc j) (suc k) linked h (items.Lifts func options ty) = omega arith
more_named (suc j) (suc k) linked h (items.Lowers func options ty) = omega arith
more_named (suc j) (suc k) linked h (items.MakesResource resource) = omega arith
more_named (suc j) (suc k) linked h (items.DropsResource resource) = omega arith
more_named (suc j) (suc k) linked h (items.ReadsResource resource) = omega arith
more_named (suc j) (suc k) linked h (items.Imports name item) = omega arith
more_named (suc j) (suc k) linked h (items.Exports name item stated) = omega arith

-- the work of a component that is named
entered : (linked : Linked) (limit number first : ℕ) (args : _) → number < limit → 2 + sum_by (item_work number linked) (part_items linked (Held number)) ≤ item_work limit linked (items.OfComponent number first args)
entered linked zero number first args lt = absurd (omega (arith, lt))
entered linked (suc k) number first args lt = omega (arith, sums_below (item_work number linked) (item_work k linked) (more_named number k linked (omega (arith, lt))) (part_items linked (Held number)))

abbrev pub inner_work : Linked → Option Level → ℕ
inner_work linked None = 0
inner_work linked (Some l) = level_work linked l

begun_at : (linked : Linked) (number : ℕ) (inner : Level) → inner.part ≡ Held number → inner.at ≡ 0 → level_work linked inner ≡ 1 + sum_by (item_work number linked) (part_items linked (Held number))
begun_at linked number inner p z = rw (p, z) refl

begun_work : (linked : Linked) (limit : ℕ) (item : PlanItem) (inner : Level) → Begun linked limit item inner → level_work linked inner < item_work limit linked item
begun_work linked limit (items.OfComponent number first args) inner h = omega (arith, begun_at linked number inner h.1 h.2, entered linked limit number first args h.0)
begun_work linked limit (items.OfModule number args) inner h = absurd h
begun_work linked limit (items.OfCoreItems exports) inner h = absurd h
begun_work linked limit (items.CoreItemOf sort instance name) inner h = absurd h
begun_work linked limit (items.OfItems exports) inner h = absurd h
begun_work linked limit (items.ItemOf sort instance name) inner h = absurd h
begun_work linked limit (items.NewResource resource destructor) inner h = absurd h
begun_work linked limit (items.Lifts func options ty) inner h = absurd h
begun_work linked limit (items.Lowers func options ty) inner h = absurd h
begun_work linked limit (items.MakesResource resource) inner h = absurd h
begun_work linked limit (items.DropsResource resource) inner h = absurd h
begun_work linked limit (items.ReadsResource resource) inner h = absurd h
begun_work linked limit (items.Imports name item) inner h = absurd h
begun_work linked limit (items.Exports name item stated) inner h = absurd h

inner_below : (linked : Linked) (limit : ℕ) (item : PlanItem) (inner : Option Level) → BegunIf linked limit item inner → inner_work linked inner < item_work limit linked item
inner_below linked limit item None h = some_work limit linked item
inner_below linked limit item (Some inner) h = begun_work linked limit item inner h

-- what is left at a level, with the item at its place
split : (linked : Linked) (part : Part) (at : ℕ) (item : PlanItem) → slice_get (part_items linked part) at ≡ Some item
    → sum_by (item_work (part_limit linked part) linked) (drop at (part_items linked part)) ≡ item_work (part_limit linked part) linked item + sum_by (item_work (part_limit linked part) linked) (drop (at + 1) (part_items linked part))
split linked part at item e =
    ap (sum_by (item_work (part_limit linked part) linked)) (drop_at (part_items linked part) at item e)
    ∙ sum_by-cons (item_work (part_limit linked part) linked) item (drop (at + 1) (part_items linked part))

moved : (linked : Linked) (new : Level) (part : Part) (at : ℕ) → new.part ≡ part → new.at ≡ at → level_work linked new ≡ 1 + sum_by (item_work (part_limit linked part) linked) (drop at (part_items linked part))
moved linked new part at p z = rw (p, z) refl

less : (linked : Linked) (old new : Level) (item : PlanItem) (inner : Option Level) → slice_get (part_items linked old.part) old.at ≡ Some item → new.part ≡ old.part → new.at ≡ old.at + 1 → BegunIf linked (part_limit linked old.part) item inner
    → level_work linked new + inner_work linked inner < level_work linked old
less linked old new item inner e p z h = omega (arith, split linked old.part old.at item e, moved linked new old.part (old.at + 1) p z, inner_below linked (part_limit linked old.part) item inner h)

pub work_push : (linked : Linked) (levels new : List Level) (l : Level) → new ≡ levels ++ l ∷ [] → work linked new ≡ work linked levels + level_work linked l
work_push linked levels new l e = ap (work linked) e ∙ sum_by_push (level_work linked) levels l

-- an item is made, in the level that goes on
pub goes : (linked : Linked) (levels new : List Level) (old l : Level) (item : PlanItem) → slice_get (part_items linked old.part) old.at ≡ Some item → new ≡ levels ++ l ∷ [] → l.part ≡ old.part → l.at ≡ old.at + 1
    → work linked new < work linked levels + level_work linked old
goes linked levels new old l item here e p z = omega (arith, work_push linked levels new l e, less linked old l item None here p z tt)

-- and a component begins to be made
pub goes_in : (linked : Linked) (levels mid new : List Level) (old l inner : Level) (item : PlanItem) → slice_get (part_items linked old.part) old.at ≡ Some item → mid ≡ levels ++ l ∷ [] → new ≡ mid ++ inner ∷ [] → l.part ≡ old.part
    → l.at ≡ old.at + 1 → Begun linked (part_limit linked old.part) item inner → work linked new < work linked levels + level_work linked old
goes_in linked levels mid new old l inner item here e f p z h =
    omega (arith, work_push linked levels mid l e, work_push linked mid new inner f, less linked old l item (Some inner) here p z h)
