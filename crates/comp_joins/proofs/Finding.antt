-- What is found alike.
use Rattle.std.proofs.Common.{◌≡◌, ℕ, zero, suc, cond, List, [], ◌∷◌, ◌++◌, Option, Some, None, Bool, true, false, refl, sym, ◌∙◌, ap, subst}
use Rattle.std.specs.Prelude.{slice_get}
use Rattle.std.specs.Option.{option_map}
use Rattle.std.proofs.Math.Path.{ap₂}
use Rattle.wit_types.specs.Plain.{Name}
use Rattle.comp_types.specs.Items.{Item, Entries, FuncItem, InstanceItem, KindItem, End as NoEntries, More as Entry, same_name}
use Rattle.comp_worlds.specs.Groups.{Target}
use Rattle.comp_link.specs.Linking.{Given, Givens, GivenFunc, GivenInstance, GivenResource, GivenType, Nothing, Giving, find, and_given, and_some_given, bound, all_bound, bound_if, item_in, instance_in, target_in, exported}
use Rattle.comp_joins.specs.Alike.{AlikeTo, AlikeItem, AlikeBut, IsNothing, Alike, IsAmong, AllAlike, SameNames, Finds, FindsAll, FindsIf}
use Rattle.comp_joins.specs.Joining.{or_else}
use Rattle.comp_joins.proofs.Lists.{cond_else}

found_and : (gs : Givens) (n name : Name) (item : Given) → find name (and_given gs n item) ≡ or_else (find name gs) (cond (same_name n name) (Some item) None)
found_and Nothing n name item = refl
found_and (Giving n' i rest) n name item =
    cond_else (same_name n' name) i (find name (and_given rest n item)) (find name rest) (cond (same_name n name) (Some item) None) (found_and rest n name item)

or_none_there : (o o' p p' : Option Given) → (o ≡ None → o' ≡ None) → (p ≡ None → p' ≡ None) → or_else o p ≡ None → or_else o' p' ≡ None
or_none_there None o' p p' h k is = ap (λ z. or_else z p') (h refl) ∙ k is
or_none_there (Some item) o' p p' h k is = absurd (let q : Some item ≡ None = is in cc)

cond_names : (b : Bool) (item item' : Given) → cond b (Some item) None ≡ None → cond b (Some item') None ≡ None
cond_names true item item' is = absurd (let q : Some item ≡ None = is in cc)
cond_names false item item' is = refl

pub and_given_names : (gs gs' : Givens) (n : Name) (item item' : Given) → SameNames gs gs' → SameNames (and_given gs n item) (and_given gs' n item')
and_given_names gs gs' n item item' h name is =
    found_and gs' n name item'
    ∙ or_none_there (find name gs) (find name gs') (cond (same_name n name) (Some item) None) (cond (same_name n name) (Some item') None) (h name) (cond_names (same_name n name) item item') (sym (found_and gs n name item) ∙ is)

module _ (Beyond : Option Given → Type 0) (none : Beyond None) where
  pub itself_to : (d : ℕ) (o : Option Given) → AlikeTo Beyond d o o
  itself_to zero o = tt
  itself_to (suc d) None = none
  itself_to (suc d) (Some (GivenFunc target)) = refl
  itself_to (suc d) (Some (GivenInstance items)) = (items, refl, λ name. itself_to d (find name items))
  itself_to (suc d) (Some (GivenResource r)) = refl
  itself_to (suc d) (Some GivenType) = refl

  pub alike_itself : (gs : Givens) → AlikeBut Beyond gs gs
  alike_itself gs name d = itself_to d (find name gs)

  pub item_itself : (o o' : Option Given) → o ≡ o' → AlikeItem Beyond o o'
  item_itself o o' same d = subst (AlikeTo Beyond d o) same (itself_to d o)

  -- an instance is found alike by what is found in it
  pub instance_alike : (items items' : Givens) → AlikeBut Beyond items items' → AlikeItem Beyond (Some (GivenInstance items)) (Some (GivenInstance items'))
  instance_alike items items' h zero = tt
  instance_alike items items' h (suc d) = (items', refl, λ name. h name d)

  pub inside_alike : (items items' : Givens) → AlikeItem Beyond (Some (GivenInstance items)) (Some (GivenInstance items')) → AlikeBut Beyond items items'
  inside_alike items items' h name d =
      let at = h (suc d) in
      subst (λ z. AlikeTo Beyond d (find name items) (find name z)) (sym (ap instance_in at.1)) (at.2 name)

  either_alike : (d : ℕ) (o o' p p' : Option Given) → (o ≡ None → o' ≡ None) → AlikeTo Beyond d o o' → AlikeTo Beyond d p p' → AlikeTo Beyond d (or_else o p) (or_else o' p')
  either_alike zero o o' p p' only h k = tt
  either_alike (suc d) None o' p p' only h k = subst (λ z. AlikeTo Beyond (suc d) p (or_else z p')) (sym (only refl)) k
  either_alike (suc d) (Some (GivenFunc target)) o' p p' only h k = ap (λ z. or_else z p') h
  either_alike (suc d) (Some (GivenInstance items)) o' p p' only h k = (h.0, ap (λ z. or_else z p') h.1, h.2)
  either_alike (suc d) (Some (GivenResource r)) o' p p' only h k = ap (λ z. or_else z p') h
  either_alike (suc d) (Some GivenType) o' p p' only h k = ap (λ z. or_else z p') h

  -- ---- lists of what is given

  cond_alike : (b : Bool) (d : ℕ) (o o' p p' : Option Given) → AlikeTo Beyond d o o' → AlikeTo Beyond d p p' → AlikeTo Beyond d (cond b o p) (cond b o' p')
  cond_alike true d o o' p p' h k = h
  cond_alike false d o o' p p' h k = k

  pub and_given_alike : (gs gs' : Givens) (n : Name) (item item' : Given) → AlikeBut Beyond gs gs' → SameNames gs gs' → AlikeItem Beyond (Some item) (Some item') → AlikeBut Beyond (and_given gs n item) (and_given gs' n item')
  and_given_alike gs gs' n item item' h names k name d =
      subst (λ z. AlikeTo Beyond d z (find name (and_given gs' n item'))) (sym (found_and gs n name item))
      (subst (AlikeTo Beyond d (or_else (find name gs) (cond (same_name n name) (Some item) None))) (sym (found_and gs' n name item'))
      (either_alike d (find name gs) (find name gs') (cond (same_name n name) (Some item) None) (cond (same_name n name) (Some item') None) (names name) (h name d)
      (cond_alike (same_name n name) d (Some item) (Some item') None None (k d) (itself_to d None))))

  pub giving_alike : (n : Name) (item item' : Given) (rest rest' : Givens) → AlikeItem Beyond (Some item) (Some item') → AlikeBut Beyond rest rest' → AlikeBut Beyond (Giving n item rest) (Giving n item' rest')
  giving_alike n item item' rest rest' k h name d = cond_alike (same_name n name) d (Some item) (Some item') (find name rest) (find name rest') (k d) (h name d)

  -- what is alike to some item is some item
  some_alike : (item : Given) (o' : Option Given) → AlikeItem Beyond (Some item) o' → (item' : Given) × (o' ≡ Some item')
  some_alike (GivenFunc target) o' h = (GivenFunc target, h 1)
  some_alike (GivenInstance items) o' h = let at = h 1 in (GivenInstance at.0, at.1)
  some_alike (GivenResource r) o' h = (GivenResource r, h 1)
  some_alike GivenType o' h = (GivenType, h 1)

  -- in both, or in none
  pub both_or_none : (P : Option Given → Option Given → Type 0) → P None None → ((item item' : Given) → AlikeItem Beyond (Some item) (Some item') → P (Some item) (Some item')) → (o o' : Option Given) → (o ≡ None → o' ≡ None) → AlikeItem Beyond o o' → P o o'
  both_or_none P nothing some None o' only h = subst (P None) (sym (only refl)) nothing
  both_or_none P nothing some (Some item) o' only h =
      let is = some_alike item o' h in
      subst (P (Some item)) (sym is.1) (some item is.0 (λ d. subst (AlikeTo Beyond d (Some item)) is.1 (h d)))

  pub and_some_alike : (n : Name) (rest rest' : Givens) → AlikeBut Beyond rest rest' → (o o' : Option Given) → (o ≡ None → o' ≡ None) → AlikeItem Beyond o o' → AlikeBut Beyond (and_some_given o n rest) (and_some_given o' n rest')
  and_some_alike n rest rest' h o o' only k = both_or_none (λ z z'. AlikeBut Beyond (and_some_given z n rest) (and_some_given z' n rest')) h (λ item item' k'. giving_alike n item item' rest rest' k' h) o o' only k

  -- ---- what is bound

  module _ (Found : Option Given → Type 0) (only : (o' : Option Given) → Found None → Beyond o' → o' ≡ None) where
    pub found_only : (o o' : Option Given) → Found o → AlikeItem Beyond o o' → o ≡ None → o' ≡ None
    found_only o o' found h is = only o' (subst Found is found) (subst (λ z. AlikeTo Beyond 1 z o') is (h 1))

    mutual
      pub bound_alike : (item : Item) (o o' : Option Given) → AlikeItem Beyond o o' → Finds Found o item → bound o item ≡ bound o' item
      bound_alike item None o' h f = ap (λ z. bound z item) (sym (only o' f.0 (h 1)))
      bound_alike item (Some (GivenFunc target)) o' h f = ap (λ z. bound z item) (sym (h 1))
      bound_alike item (Some (GivenResource r)) o' h f = ap (λ z. bound z item) (sym (h 1))
      bound_alike item (Some GivenType) o' h f = ap (λ z. bound z item) (sym (h 1))
      bound_alike (FuncItem ty) (Some (GivenInstance items)) o' h f = let at = h 1 in ap (λ z. bound z (FuncItem ty)) (sym at.1)
      bound_alike (KindItem kind) (Some (GivenInstance items)) o' h f = let at = h 1 in ap (λ z. bound z (KindItem kind)) (sym at.1)
      bound_alike (InstanceItem entries) (Some (GivenInstance items)) o' h f =
          let at = h 1 in
          all_bound_alike entries items at.0 (inside_alike items at.0 (λ d. subst (AlikeTo Beyond d (Some (GivenInstance items))) at.1 (h d))) f.1 ∙ ap (λ z. bound z (InstanceItem entries)) (sym at.1)

      pub all_bound_alike : (entries : Entries) (gs gs' : Givens) → AlikeBut Beyond gs gs' → FindsAll Found gs entries → all_bound gs entries ≡ all_bound gs' entries
      all_bound_alike NoEntries gs gs' h f = refl
      all_bound_alike (Entry name item rest) gs gs' h f = ap₂ (λ xs ys. xs ++ ys) (bound_alike item (find name gs) (find name gs') (h name) f.0) (all_bound_alike rest gs gs' h f.1)

    pub bound_if_alike : (stated : Option Item) (o o' : Option Given) → AlikeItem Beyond o o' → FindsIf Found o stated → bound_if o stated ≡ bound_if o' stated
    bound_if_alike None o o' h f = refl
    bound_if_alike (Some item) o o' h f = bound_alike item o o' h f

  -- ---- lists of instances

  abbrev pub SliceAlike : Option Givens → Option Givens → Type 0
  SliceAlike None o' = o' ≡ None
  SliceAlike (Some gs) o' = (gs' : Givens) × (o' ≡ Some gs') × AlikeBut Beyond gs gs'

  pub slice_alike : (xs ys : List Givens) (k : ℕ) → AllAlike Beyond xs ys → SliceAlike (slice_get xs k) (slice_get ys k)
  slice_alike [] [] k h = refl
  slice_alike [] (y ∷ ys) k h = absurd h
  slice_alike (x ∷ xs) [] k h = absurd h
  slice_alike (x ∷ xs) (y ∷ ys) zero h = (y, refl, h.0)
  slice_alike (x ∷ xs) (y ∷ ys) (suc k) h = slice_alike xs ys k h.1

  pub more_alike : (xs ys : List Givens) (x y : Givens) → AllAlike Beyond xs ys → AlikeBut Beyond x y → AllAlike Beyond (xs ++ x ∷ []) (ys ++ y ∷ [])
  more_alike [] [] x y h k = (k, tt)
  more_alike [] (y' ∷ ys) x y h k = absurd h
  more_alike (x' ∷ xs) [] x y h k = absurd h
  more_alike (x' ∷ xs) (y' ∷ ys) x y h k = (h.0, more_alike xs ys x y h.1 k)

  pub instances_alike : (o o' : Option Givens) → SliceAlike o o' → AlikeItem Beyond (option_map GivenInstance o) (option_map GivenInstance o')
  instances_alike None o' h d = subst (λ z. AlikeTo Beyond d None (option_map GivenInstance z)) (sym h) (itself_to d None)
  instances_alike (Some gs) o' h d = subst (λ z. AlikeTo Beyond d (Some (GivenInstance gs)) (option_map GivenInstance z)) (sym h.1) (instance_alike gs h.0 h.2 d)

  pub items_alike : (name : Name) (o o' : Option Givens) → SliceAlike o o' → AlikeItem Beyond (item_in o name) (item_in o' name)
  items_alike name None o' h d = subst (λ z. AlikeTo Beyond d None (item_in z name)) (sym h) (itself_to d None)
  items_alike name (Some gs) o' h d = subst (λ z. AlikeTo Beyond d (find name gs) (item_in z name)) (sym h.1) (h.2 name d)

  pub slice_only : (o o' : Option Givens) → SliceAlike o o' → option_map GivenInstance o ≡ None → option_map GivenInstance o' ≡ None
  slice_only None o' h is = ap (option_map GivenInstance) h
  slice_only (Some gs) o' h is = absurd (let q : Some (GivenInstance gs) ≡ None = is in cc)

  -- ---- exports

  pub found_target : (o o' : Option Given) → AlikeItem Beyond o o' → (t : Target) → target_in o ≡ Some t → target_in o' ≡ Some t
  found_target None o' h t is = absurd (let q : None ≡ Some t = is in cc)
  found_target (Some (GivenFunc target)) o' h t is = ap target_in (h 1) ∙ is
  found_target (Some (GivenInstance items)) o' h t is = absurd (let q : None ≡ Some t = is in cc)
  found_target (Some (GivenResource r)) o' h t is = absurd (let q : None ≡ Some t = is in cc)
  found_target (Some GivenType) o' h t is = absurd (let q : None ≡ Some t = is in cc)

  found_in : (o o' : Option Given) → AlikeItem Beyond o o' → (name : Name) (t : Target) → target_in (find name (instance_in o)) ≡ Some t → target_in (find name (instance_in o')) ≡ Some t
  found_in None o' h name t is = absurd (let q : None ≡ Some t = is in cc)
  found_in (Some (GivenFunc target)) o' h name t is = absurd (let q : None ≡ Some t = is in cc)
  found_in (Some (GivenInstance items)) o' h name t is =
      let at = h 1 in
      ap (λ z. target_in (find name (instance_in z))) at.1
      ∙ found_target (find name items) (find name at.0) (inside_alike items at.0 (λ d. subst (AlikeTo Beyond d (Some (GivenInstance items))) at.1 (h d)) name) t is
  found_in (Some (GivenResource r)) o' h name t is = absurd (let q : None ≡ Some t = is in cc)
  found_in (Some GivenType) o' h name t is = absurd (let q : None ≡ Some t = is in cc)

  pub found_there : (gs gs' : Givens) → AlikeBut Beyond gs gs' → (interface name : Name) (t : Target) → target_in (exported gs interface name) ≡ Some t → target_in (exported gs' interface name) ≡ Some t
  found_there gs gs' h [] name t is = found_target (find name gs) (find name gs') (h name) t is
  found_there gs gs' h (c ∷ cs) name t is = found_in (find (c ∷ cs) gs) (find (c ∷ cs) gs') (h (c ∷ cs)) name t is

-- ---- with more beside

pub nothing_among : (gs : Givens) → IsAmong Nothing gs
nothing_among gs name zero = tt
nothing_among gs name (suc d) = tt

-- ---- exports where nothing is beyond

pub target_alike : (o o' : Option Given) → AlikeItem IsNothing o o' → target_in o' ≡ target_in o
target_alike None o' h = ap target_in (h 1)
target_alike (Some (GivenFunc target)) o' h = ap target_in (h 1)
target_alike (Some (GivenInstance items)) o' h = let at = h 1 in ap target_in at.1
target_alike (Some (GivenResource r)) o' h = ap target_in (h 1)
target_alike (Some GivenType) o' h = ap target_in (h 1)

instance_in_alike : (o o' : Option Given) → AlikeItem IsNothing o o' → Alike (instance_in o) (instance_in o')
instance_in_alike None o' h = subst (λ z. Alike Nothing (instance_in z)) (sym (h 1)) (alike_itself IsNothing refl Nothing)
instance_in_alike (Some (GivenFunc target)) o' h = subst (λ z. Alike Nothing (instance_in z)) (sym (h 1)) (alike_itself IsNothing refl Nothing)
instance_in_alike (Some (GivenInstance items)) o' h =
    let at = h 1 in
    subst (λ z. Alike items (instance_in z)) (sym at.1) (inside_alike IsNothing refl items at.0 (λ d. subst (AlikeTo IsNothing d (Some (GivenInstance items))) at.1 (h d)))
instance_in_alike (Some (GivenResource r)) o' h = subst (λ z. Alike Nothing (instance_in z)) (sym (h 1)) (alike_itself IsNothing refl Nothing)
instance_in_alike (Some GivenType) o' h = subst (λ z. Alike Nothing (instance_in z)) (sym (h 1)) (alike_itself IsNothing refl Nothing)

pub targets_alike : (gs gs' : Givens) → Alike gs gs' → (interface name : Name) → target_in (exported gs' interface name) ≡ target_in (exported gs interface name)
targets_alike gs gs' h [] name = target_alike (find name gs) (find name gs') (h name)
targets_alike gs gs' h (c ∷ cs) name =
    target_alike (find name (instance_in (find (c ∷ cs) gs))) (find name (instance_in (find (c ∷ cs) gs'))) (instance_in_alike (find (c ∷ cs) gs) (find (c ∷ cs) gs') (h (c ∷ cs)) name)
