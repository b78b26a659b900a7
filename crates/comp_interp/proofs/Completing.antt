-- What will be made is the same at each step: an item of the innermost plan, a component that begins to be made, and one that is made.
use Rattle.std.proofs.Common.{◌≡◌, ◌∙◌, ◌+◌, ap, sym, refl, subst, ℕ, zero, suc, List, [], ◌∷◌, ◌++◌, drop, length, Some, None, slice_get, arith}
use Rattle.wasm_ast.specs.Boxed.{Held as HeldValue}
use Rattle.wasm_ast.specs.declared.module.Module.{Module}
use Rattle.comp_link.specs.Plans.{Plan, End, Then, followed}
use Rattle.comp_link.specs.Linking.{Making, with_component, link, link_item}
use Rattle.comp_link.specs.declared.items.PlanItem.{PlanItem}
use Rattle.comp_link.specs.declared.linked.Linked.{Linked}
use Rattle.comp_link.specs.Planned.{PlannedComponent, plan_item, plan_items}
use Rattle.comp_joins.specs.Growing.{Grows}
use Rattle.comp_joins.proofs.Growing.{grows_same, grows_then, plan_grows}
use Rattle.comp_interp.specs.declared.part.Part.{Part}
use Rattle.comp_interp.specs.declared.level.Level.{Level}
use Rattle.comp_interp.specs.Parts.{part_items, part_limit, named_below}
use Rattle.comp_interp.specs.Completing.{plan_left, own_held, outermost_of, completed, OuterGo}

pub link_followed : (p q : Plan) (m : Making) → link (followed p q) m ≡ link q (link p m)
link_followed End q m = refl
link_followed (Then item rest) q m = link_followed rest q (link_item item m)

-- ---- an item

items_from : (ms : List (HeldValue Module)) (cs : List PlannedComponent) (xs : List PlanItem) (at : ℕ) (item : PlanItem) → slice_get xs at ≡ Some item → plan_items ms cs (drop at xs) ≡ followed (plan_item ms cs item) (plan_items ms cs (drop (at + 1) xs))
items_from ms cs [] at item e = absurd (cc)
items_from ms cs (x ∷ xs) zero item e = let same : x ≡ item = cc in ap (λ i. followed (plan_item ms cs i) (plan_items ms cs xs)) same
items_from ms cs (x ∷ xs) (suc at) item e = let next : suc at + 1 ≡ suc (at + 1) = omega arith in rw next (items_from ms cs xs at item e)

-- the innermost plan goes on after an item
pub left_behind : (linked : Linked) (old new : Level) (item : PlanItem) → slice_get (part_items linked old.part) old.at ≡ Some item → new.part ≡ old.part → new.at ≡ old.at + 1 →
    plan_left linked old ≡ followed (plan_item linked.modules (named_below linked (part_limit linked old.part)) item) (plan_left linked new)
left_behind linked old new item e p z =
    items_from linked.modules (named_below linked (part_limit linked old.part)) (part_items linked old.part) old.at item e
    ∙ ap (λ l. followed (plan_item linked.modules (named_below linked (part_limit linked old.part)) item) l) (sym (same new.part p new.at z))
  where
    same : (part : Part) → part ≡ old.part → (at : ℕ) → at ≡ old.at + 1 →
        plan_items linked.modules (named_below linked (part_limit linked part)) (drop at (part_items linked part)) ≡ plan_items linked.modules (named_below linked (part_limit linked old.part)) (drop (old.at + 1) (part_items linked old.part))
    same part p' at z' = rw (p', z') refl

pub item_made : (linked : Linked) (old new : Level) (item : PlanItem) (g : Making) → slice_get (part_items linked old.part) old.at ≡ Some item → new.part ≡ old.part → new.at ≡ old.at + 1 →
    link (plan_left linked old) g ≡ link (plan_left linked new) (link (plan_item linked.modules (named_below linked (part_limit linked old.part)) item) g)
item_made linked old new item g e p z =
    ap (λ l. link l g) (left_behind linked old new item e p z)
    ∙ link_followed (plan_item linked.modules (named_below linked (part_limit linked old.part)) item) (plan_left linked new) g

-- ---- the last item was made

none_left : (xs : List PlanItem) (at : ℕ) → slice_get xs at ≡ None → drop at xs ≡ []
none_left [] zero e = refl
none_left [] (suc at) e = refl
none_left (x ∷ xs) zero e = absurd (cc)
none_left (x ∷ xs) (suc at) e = none_left xs at e

pub plan_done : (linked : Linked) (l : Level) (g : Making) → slice_get (part_items linked l.part) l.at ≡ None → link (plan_left linked l) g ≡ g
plan_done linked l g e = ap (λ xs. link (plan_items linked.modules (named_below linked (part_limit linked l.part)) xs) g) (none_left (part_items linked l.part) l.at e)

-- ---- levels. Their number is that of what they made

-- the outermost is the same with one level more inside
outermost_push : (hs : List Level) (l inner : Level) → outermost_of (hs ++ l ∷ []) inner ≡ outermost_of hs l
outermost_push [] l inner = refl
outermost_push (h ∷ hs) l inner = refl

pub completed_in : (linked : Linked) (hs : List Level) (gs : List Making) (l : Level) (g : Making) (inner : Level) (done : Making) → length gs ≡ length hs →
    completed linked (hs ++ l ∷ []) (gs ++ g ∷ []) inner done ≡ completed linked hs gs l (link (plan_left linked l) (with_component g (own_held linked inner) done))
completed_in linked [] [] l g inner done n = refl
completed_in linked [] (x ∷ gs) l g inner done n = absurd (omega (arith, n))
completed_in linked (h ∷ hs) [] l g inner done n = absurd (omega (arith, n))
completed_in linked (h ∷ hs) (x ∷ gs) l g inner done n =
    ap (λ k. link (plan_left linked h) (with_component x (own_held linked k) (completed linked (hs ++ l ∷ []) (gs ++ g ∷ []) inner done))) (outermost_push hs l inner)
    ∙ ap (λ m. link (plan_left linked h) (with_component x (own_held linked (outermost_of hs l)) m)) (completed_in linked hs gs l g inner done (omega (arith, n)))

outermost_own : (linked : Linked) (hs : List Level) (l l' : Level) → own_held linked l' ≡ own_held linked l → own_held linked (outermost_of hs l') ≡ own_held linked (outermost_of hs l)
outermost_own linked [] l l' e = e
outermost_own linked (h ∷ hs) l l' e = refl

pub completed_alike : (linked : Linked) (hs : List Level) (gs : List Making) (l l' : Level) (done : Making) → own_held linked l' ≡ own_held linked l → completed linked hs gs l' done ≡ completed linked hs gs l done
completed_alike linked [] gs l l' done e = refl
completed_alike linked (h ∷ hs) [] l l' done e = refl
completed_alike linked (h ∷ hs) (g ∷ gs) l l' done e =
    ap (λ o. link (plan_left linked h) (with_component g o (completed linked hs gs l' done))) (outermost_own linked hs l l' e)
    ∙ ap (λ m. link (plan_left linked h) (with_component g (own_held linked (outermost_of hs l)) m)) (completed_alike linked hs gs l l' done e)

module _ (F : Plan → Making → List (ℕ × ℕ) → Making → Type 0) where
  -- a component begins to be made in the innermost level
  pub outer_in : (linked : Linked) (hs : List Level) (gs : List Making) (l : Level) (g : Making) (inner : Level) (done : Making) → length gs ≡ length hs →
      OuterGo F linked hs gs l (link (plan_left linked l) (with_component g (own_held linked inner) done)) → F (plan_left linked l) g (own_held linked inner) done →
      OuterGo F linked (hs ++ l ∷ []) (gs ++ g ∷ []) inner done
  outer_in linked [] [] l g inner done n h f = (f, tt)
  outer_in linked [] (x ∷ gs) l g inner done n h f = absurd (omega (arith, n))
  outer_in linked (y ∷ hs) [] l g inner done n h f = absurd (omega (arith, n))
  outer_in linked (y ∷ hs) (x ∷ gs) l g inner done n h f =
      let n' : length gs ≡ length hs = omega (arith, n) in (
        subst (λ k. F (plan_left linked y) x (own_held linked k) (completed linked (hs ++ l ∷ []) (gs ++ g ∷ []) inner done)) (sym (outermost_push hs l inner))
            (subst (F (plan_left linked y) x (own_held linked (outermost_of hs l))) (sym (completed_in linked hs gs l g inner done n')) h.0),
        outer_in linked hs gs l g inner done n' h.1 f,
      )

  -- and it is made
  pub outer_out : (linked : Linked) (hs : List Level) (gs : List Making) (l : Level) (g : Making) (inner : Level) (done : Making) → length gs ≡ length hs →
      OuterGo F linked (hs ++ l ∷ []) (gs ++ g ∷ []) inner done →
      OuterGo F linked hs gs l (link (plan_left linked l) (with_component g (own_held linked inner) done)) × F (plan_left linked l) g (own_held linked inner) done
  outer_out linked [] [] l g inner done n h = (tt, h.0)
  outer_out linked [] (x ∷ gs) l g inner done n h = absurd (omega (arith, n))
  outer_out linked (y ∷ hs) [] l g inner done n h = absurd (omega (arith, n))
  outer_out linked (y ∷ hs) (x ∷ gs) l g inner done n h =
      let n' : length gs ≡ length hs = omega (arith, n) in
      let rest = outer_out linked hs gs l g inner done n' h.1 in (
        (
          subst (F (plan_left linked y) x (own_held linked (outermost_of hs l))) (completed_in linked hs gs l g inner done n')
              (subst (λ k. F (plan_left linked y) x (own_held linked k) (completed linked (hs ++ l ∷ []) (gs ++ g ∷ []) inner done)) (outermost_push hs l inner) h.0),
          rest.0,
        ),
        rest.1,
      )

  -- the innermost level went on, with its own resources as they were
  pub outer_alike : (linked : Linked) (hs : List Level) (gs : List Making) (l l' : Level) (done : Making) → own_held linked l' ≡ own_held linked l → OuterGo F linked hs gs l done → OuterGo F linked hs gs l' done
  outer_alike linked [] gs l l' done e h = tt
  outer_alike linked (y ∷ hs) [] l l' done e h = absurd h
  outer_alike linked (y ∷ hs) (x ∷ gs) l l' done e h = (
    subst (λ o. F (plan_left linked y) x o (completed linked hs gs l' done)) (sym (outermost_own linked hs l l' e))
        (subst (F (plan_left linked y) x (own_held linked (outermost_of hs l))) (sym (completed_alike linked hs gs l l' done e)) h.0),
    outer_alike linked hs gs l l' done e h.1,
  )

-- ---- what is made by the end grew from what is made so far

abbrev Grown : Making → Making → Type 0
Grown m m' = Grows m.whole m'.whole

pub completed_grows : (linked : Linked) (hs : List Level) (gs : List Making) (l : Level) (done : Making) → Grown done (completed linked hs gs l done)
completed_grows linked [] gs l done = grows_same done.whole done.whole refl
completed_grows linked (h ∷ hs) [] l done = grows_same done.whole done.whole refl
completed_grows linked (h ∷ hs) (g ∷ gs) l done =
    let inner : Making = completed linked hs gs l done in
    grows_then done.whole inner.whole (link (plan_left linked h) (with_component g (own_held linked (outermost_of hs l)) inner)).whole (completed_grows linked hs gs l done)
    (plan_grows (plan_left linked h) (with_component g (own_held linked (outermost_of hs l)) inner))

-- what the innermost plan still makes, and then the others
pub left_grows : (linked : Linked) (hs : List Level) (gs : List Making) (l : Level) (g : Making) → Grown g (completed linked hs gs l (link (plan_left linked l) g))
left_grows linked hs gs l g =
    grows_then g.whole (link (plan_left linked l) g).whole (completed linked hs gs l (link (plan_left linked l) g)).whole (plan_grows (plan_left linked l) g)
    (completed_grows linked hs gs l (link (plan_left linked l) g))
