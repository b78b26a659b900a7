-- The plans outside the innermost one, while an item of that is made, as a component begins to be made, and once it is made.
use Rattle.std.proofs.Common.{◌≡◌, ◌∙◌, ap, sym, refl, ℕ, suc, List, [], ◌∷◌, ◌++◌, length, Vec, arith}
use Rattle.std.specs.Option.{option_map}
use Rattle.std.specs.Global.{Global}
use Rattle.std.proofs.lemmas.Option.{none-some, slice_get_past}
use Rattle.comp_link.specs.Linking.{Givens, Making}
use Rattle.instance_state.specs.declared.canon.Canon.{Canon}
use Rattle.call_moments.specs.Leads.{Moment}
use Rattle.instance_making.specs.Shown.{Stands}
use Rattle.instance_making.proofs.MoreLemmas.{stands_more}
use Rattle.comp_interp.specs.declared.level.Level.{Level}
use Rattle.comp_interp.specs.Gathered.{HasOwn, LeavesOthers}
use Rattle.comp_interp.specs.Outer.{AreOutside, Differs, AreApart}

module _ {S : Type 0} where
  own_stays : (old new : Moment S) (k : ℕ) (g : Making) → LeavesOthers k old new → (g.instance ≡ k → ⊥) → HasOwn old g → HasOwn new g
  own_stays old new k g leaves differ own = record { canons = leaves.rows g.instance differ ∙ own.canons; store = leaves.scenes g.instance differ ∙ own.store }

  -- something is made in the innermost instance
  pub outside_stay : (before more : List Givens) (old new : Moment S) (hs : List Level) (gs : List Making) (k : ℕ) → LeavesOthers k old new → AreApart gs k → AreOutside before old hs gs → AreOutside (before ++ more) new hs gs
  outside_stay before more old new [] [] k leaves apart h = tt
  outside_stay before more old new (l ∷ hs) (g ∷ gs) k leaves apart h =
      ((stands_more before more l.making g h.0.0, own_stays old new k g leaves apart.0 h.0.1), outside_stay before more old new hs gs k leaves apart.2 h.1)
  outside_stay before more old new [] (g ∷ gs) k leaves apart h = absurd h
  outside_stay before more old new (l ∷ hs) [] k leaves apart h = absurd h

  pub outside_length : (before : List Givens) (m : Moment S) (hs : List Level) (gs : List Making) → AreOutside before m hs gs → length gs ≡ length hs
  outside_length before m [] [] h = refl
  outside_length before m (l ∷ hs) (g ∷ gs) h = ap suc (outside_length before m hs gs h.1)
  outside_length before m [] (g ∷ gs) h = absurd h
  outside_length before m (l ∷ hs) [] h = absurd h

  -- the innermost becomes one of them
  pub outside_push : (before : List Givens) (m : Moment S) (hs : List Level) (gs : List Making) (l : Level) (g : Making) → AreOutside before m hs gs → Stands before l.making g → HasOwn m g → AreOutside before m (hs ++ l ∷ []) (gs ++ g ∷ [])
  outside_push before m [] [] l g h stands own = ((stands, own), tt)
  outside_push before m (x ∷ hs) (y ∷ gs) l g h stands own = (h.0, outside_push before m hs gs l g h.1 stands own)
  outside_push before m [] (y ∷ gs) l g h stands own = absurd h
  outside_push before m (x ∷ hs) [] l g h stands own = absurd h

  -- and the last of them the innermost
  pub outside_pop : (before : List Givens) (m : Moment S) (hs : List Level) (gs : List Making) (l : Level) (g : Making) → AreOutside before m (hs ++ l ∷ []) (gs ++ g ∷ []) → AreOutside before m hs gs × Stands before l.making g × HasOwn m g
  outside_pop before m [] [] l g h = (tt, h.0.0, h.0.1)
  outside_pop before m (x ∷ hs) (y ∷ gs) l g h = let rest = outside_pop before m hs gs l g h.1 in ((h.0, rest.0), rest.1, rest.2)
  outside_pop before m [] (y ∷ gs) l g h = absurd (uneven gs h.1)
    where
      uneven : (gs : List Making) → AreOutside before m [] (gs ++ g ∷ []) → ⊥
      uneven [] h = h
      uneven (z ∷ gs) h = h
  outside_pop before m (x ∷ hs) [] l g h = absurd (uneven hs h.1)
    where
      uneven : (hs : List Level) → AreOutside before m (hs ++ l ∷ []) [] → ⊥
      uneven [] h = h
      uneven (z ∷ hs) h = h

  -- what has its own is an instance that is begun
  pub is_begun : (m : Moment S) (g : Making) (n : ℕ) → HasOwn m g → n ≡ length m.group.canons.items → g.instance ≡ n → ⊥
  is_begun m g n own e is =
      none-some g.canons (sym (ap (option_map (λ (r : Vec Canon Global). length r.items)) (slice_get_past m.group.canons.items g.instance (omega (arith, e, is)))) ∙ own.canons)

  all_begun : (before : List Givens) (m : Moment S) (hs : List Level) (gs : List Making) (n : ℕ) → AreOutside before m hs gs → n ≡ length m.group.canons.items → (k : ℕ) → AreApart gs k → AreApart gs n
  all_begun before m [] [] n h e k apart = tt
  all_begun before m (l ∷ hs) (g ∷ gs) n h e k apart = (is_begun m g n h.0.1 e, apart.1, all_begun before m hs gs n h.1 e k apart.2)
  all_begun before m [] (g ∷ gs) n h e k apart = absurd h
  all_begun before m (l ∷ hs) [] n h e k apart = absurd h

differs_push : (k : ℕ) (gs : List Making) (g : Making) → Differs k gs → (k ≡ g.instance → ⊥) → Differs k (gs ++ g ∷ [])
differs_push k [] g h differ = (differ, tt)
differs_push k (x ∷ gs) g h differ = (h.0, differs_push k gs g h.1 differ)

differs_pop : (k : ℕ) (gs : List Making) (g : Making) → Differs k (gs ++ g ∷ []) → Differs k gs × (k ≡ g.instance → ⊥)
differs_pop k [] g h = (tt, h.0)
differs_pop k (x ∷ gs) g h = let rest = differs_pop k gs g h.1 in ((h.0, rest.0), rest.1)

apart_with : (gs : List Making) (g : Making) (n : ℕ) → AreApart gs g.instance → AreApart gs n → (g.instance ≡ n → ⊥) → AreApart (gs ++ g ∷ []) n
apart_with [] g n h k differ = (differ, tt, tt)
apart_with (x ∷ gs) g n h k differ = (k.0, differs_push x.instance gs g h.1 h.0, apart_with gs g n h.2 k.2 differ)

-- a component begins to be made, in the next instance
pub apart_push : {S : Type 0} → (before : List Givens) (m : Moment S) (hs : List Level) (gs : List Making) (g : Making) → AreOutside before m hs gs → HasOwn m g → AreApart gs g.instance → (n : ℕ) → n ≡ length m.group.canons.items → AreApart (gs ++ g ∷ []) n
apart_push before m hs gs g h own apart n e = apart_with gs g n apart (all_begun before m hs gs n h e g.instance apart) (is_begun m g n own e)

pub apart_pop : (gs : List Making) (g : Making) (k : ℕ) → AreApart (gs ++ g ∷ []) k → AreApart gs g.instance × (g.instance ≡ k → ⊥)
apart_pop [] g k h = (tt, h.0)
apart_pop (x ∷ gs) g k h = let rest = apart_pop gs g k h.2 in let d = differs_pop x.instance gs g h.1 in ((d.1, d.0, rest.0), rest.1)
