-- What a value is when its handles were exchanged.
use Rattle.std.proofs.Common.{◌≡◌, ℕ, suc, List, [], ◌∷◌, map, length, drop, false, Option, Some, None, Err, refl, sym, ap, ◌∙◌, subst, append-nil}
use Rattle.std.specs.Option.{option_map}
use Rattle.wit_types.specs.Plain.{Plain}
use Rattle.wit_types.specs.PlainValue.{PlainValue, plain_value}
use Rattle.wit_types.specs.declared.value.Value.{Value}
use Rattle.abi_layout.specs.Handles.{Handle, handles, renumbered, with_numbers}
use Rattle.abi_layout.proofs.HandleLaws.{handles_keep}
use Rattle.handle_space.specs.HandleMap.{HandleMap, Answered, Held, take_own, lend}
use Rattle.comp_worlds.specs.Passing.{Named, OwnAt, BorrowAt, named_in, kinds_in, and_kind, handles_by, handles_of, Handle as Given, Own, Borrow, Lifted, and_lifted, lift_handles, reps_in, Passed, blank, add_handle, and_index, add_handles}
use Rattle.comp_worlds.specs.Hosts.{passed_by}
use Rattle.comp_worlds.proofs.Maps.{and_then_is, map_is}
use Rattle.value_handles.specs.declared.handle.ValueHandle.{ValueHandle}
use Rattle.value_handles.specs.declared.handle.ValueHandle.TheVariants as values
use Rattle.value_handles.specs.Shown.{shown}
use Rattle.value_handles.specs.Whether.{has_handles}
use Rattle.value_handles.proofs.Laws.{no_handles}
use Rattle.value_handles.proofs.Twice.{twice, numbers_put}
use Rattle.value_handles.proofs.Changes.{stays}
use Rattle.instance_state.specs.Exchanged.{passing, IsLifted, IsLowered, Lowers}
use Rattle.instance_state.specs.declared.fault.HandleFault.{HandleFault}
use Rattle.instance_state.specs.declared.fault.HandleFault.TheVariants as faults
use Rattle.instance_state.specs.Exchanges.{IsOut, IsIn, GoesIn}

-- ---- as many

shown-length : (hs : List ValueHandle) → length (shown hs) ≡ length hs
shown-length [] = refl
shown-length (h ∷ hs) = ap suc (shown-length hs)

named-length : (hs : List ValueHandle) → length (named_in (shown hs)) ≡ length hs
named-length [] = refl
named-length (values.Own r i ∷ hs) = ap suc (named-length hs)
named-length (values.Borrow r i ∷ hs) = ap suc (named-length hs)

reps-length : (hs : List (Given ℕ)) → length (reps_in hs) ≡ length hs
reps-length [] = refl
reps-length (h ∷ hs) = ap suc (reps-length hs)

passing-length : (hs : List ValueHandle) → length (map passing hs) ≡ length hs
passing-length [] = refl
passing-length (h ∷ hs) = ap suc (passing-length hs)

lifted-length : (ns : List Named) (m : HandleMap ℕ) (l : Lifted ℕ) → lift_handles ns m ≡ Some l → length l.handles ≡ length ns
lifted-length [] m l e = ap (λ (o : Option (Lifted ℕ)). elim o [ None ↦ 0 | Some x ↦ length x.handles ]) (sym e)
lifted-length (OwnAt r i ∷ ns) m l e =
    let f = and_then_is (λ (a : Answered ℕ ℕ). option_map (and_lifted (Own r a.answer) false i) (lift_handles ns a.map)) (take_own m i r) l e in
    let g = map_is (and_lifted (Own r f.0.answer) false i) (lift_handles ns f.0.map) l f.2 in
    ap (λ (x : Lifted ℕ). length x.handles) (sym g.2) ∙ ap suc (lifted-length ns f.0.map g.0 g.1)
lifted-length (BorrowAt r i ∷ ns) m l e =
    let f = and_then_is (λ (a : Answered ℕ (Held ℕ)). option_map (and_lifted (Borrow r a.answer.rep) a.answer.owned i) (lift_handles ns a.map)) (lend m i r) l e in
    let g = map_is (and_lifted (Borrow r f.0.answer.rep) f.0.answer.owned i) (lift_handles ns f.0.map) l f.2 in
    ap (λ (x : Lifted ℕ). length x.handles) (sym g.2) ∙ ap suc (lifted-length ns f.0.map g.0 g.1)

added-length : (plain : ℕ → ℕ → Option ℕ) (hs : List (Given ℕ)) (m : HandleMap ℕ) (a : Answered ℕ (List ℕ)) → add_handles plain hs m ≡ Some a → length a.answer ≡ length hs
added-length plain [] m a e = ap (λ (o : Option (Answered ℕ (List ℕ))). elim o [ None ↦ 0 | Some x ↦ length x.answer ]) (sym e)
added-length plain (h ∷ hs) m a e =
    let f = and_then_is (λ (x : Answered ℕ ℕ). option_map (and_index x.answer) (add_handles plain hs x.map)) (add_handle plain h m) a e in
    let g = map_is (and_index f.0.answer) (add_handles plain hs f.0.map) a f.2 in
    ap (λ (x : Answered ℕ (List ℕ)). length x.answer) (sym g.2) ∙ ap suc (added-length plain hs f.0.map g.0 g.1)

-- ---- a value that passes

abbrev on_its_way : PlainValue → List ℕ → Passed ℕ
on_its_way v xs = record { value = v; reps = xs }

same_passed : (v w : PlainValue) (xs ys : List ℕ) → v ≡ w → xs ≡ ys → on_its_way v xs ≡ on_its_way w ys
same_passed v w xs ys e f = ap (λ x. on_its_way x xs) e ∙ ap (λ zs. on_its_way w zs) f

passes_as : (ty : Plain) (v : PlainValue) (ns : List ℕ) → length ns ≡ length (handles ty v) → passed_by ty (renumbered ty v ns) ≡ record { value = blank ty v; reps = ns }
passes_as ty v ns e = same_passed _ _ _ _ (twice ty v ns []) (numbers_put ty v ns e)

pub room_out : (ty : Plain) (v : PlainValue) (hs : List ValueHandle) (m m' : HandleMap ℕ) (reps loans loans' : List ℕ) → shown hs ≡ handles ty v → IsLifted (lift_handles (named_in (shown hs)) m) m' [] reps loans loans' → length reps ≡ length (handles ty v)
room_out ty v hs m m' reps loans loans' is lifted = at (lift_handles (named_in (shown hs)) m) refl lifted
  where
    at : (o : Option (Lifted ℕ)) → lift_handles (named_in (shown hs)) m ≡ o → IsLifted o m' [] reps loans loans' → length reps ≡ length (handles ty v)
    at None e h = absurd h
    at (Some l) e h = ap length h.1 ∙ reps-length l.handles ∙ lifted-length (named_in (shown hs)) m l e ∙ named-length hs ∙ sym (shown-length hs) ∙ ap length is

pub goes_out : (ty : Plain) (v : PlainValue) (hs : List ValueHandle) (m m' : HandleMap ℕ) (reps loans loans' : List ℕ) (out : Value) → shown hs ≡ handles ty v → IsLifted (lift_handles (named_in (shown hs)) m) m' [] reps loans loans' →
    plain_value out ≡ renumbered ty v reps → IsOut ty v (lift_handles (named_in (handles ty v)) m) m' loans loans' out
goes_out ty v hs m m' reps loans loans' out is lifted e = subst (λ xs. IsOut ty v (lift_handles (named_in xs) m) m' loans loans' out) is (at (lift_handles (named_in (shown hs)) m) lifted)
  where
    count : length reps ≡ length (handles ty v)
    count = room_out ty v hs m m' reps loans loans' is lifted

    at : (o : Option (Lifted ℕ)) → IsLifted o m' [] reps loans loans' → IsOut ty v o m' loans loans' out
    at None h = absurd h
    at (Some l) h = (ap (passed_by ty) e ∙ passes_as ty v reps count ∙ same_passed _ _ _ _ refl h.1, h.0, h.2)

pub stays_out : (ty : Plain) (v : PlainValue) (m : HandleMap ℕ) (loans : List ℕ) (out : Value) → has_handles ty ≡ false → plain_value out ≡ v → IsOut ty v (lift_handles (named_in (handles ty v)) m) m loans loans out
stays_out ty v m loans out none e =
    let empty : handles ty v ≡ [] = no_handles ty v none in
    subst (λ xs. IsOut ty v (lift_handles (named_in xs) m) m loans loans out) (sym empty)
    (ap (passed_by ty) e ∙ same_passed _ _ _ _ refl (ap (map (λ (h : Handle). h.number)) empty), refl, sym (append-nil loans))

-- ---- and back

kinds_keep : (hs : List Handle) (ns : List ℕ) → kinds_in (with_numbers hs ns) ≡ kinds_in hs
kinds_keep [] ns = refl
kinds_keep (h ∷ hs) ns = ap (and_kind h.ty) (kinds_keep hs (drop 1 ns))

by_kinds : (hs : List ValueHandle) → handles_by (kinds_in (shown hs)) (map (λ (h : Handle). h.number) (shown hs)) ≡ map passing hs
by_kinds [] = refl
by_kinds (values.Own r n ∷ hs) = ap (λ (xs : List (Given ℕ)). Own r n ∷ xs) (by_kinds hs)
by_kinds (values.Borrow r n ∷ hs) = ap (λ (xs : List (Given ℕ)). Borrow r n ∷ xs) (by_kinds hs)

pub given_as : (ty : Plain) (v : PlainValue) (hs : List ValueHandle) → shown hs ≡ handles ty v → handles_of ty (passed_by ty v) ≡ map passing hs
given_as ty v hs is =
    ap (λ ks. handles_by ks (map (λ (h : Handle). h.number) (handles ty v))) (ap kinds_in (handles_keep ty v []) ∙ kinds_keep (handles ty v) [])
    ∙ ap (λ xs. handles_by (kinds_in xs) (map (λ (h : Handle). h.number) xs)) (sym is) ∙ by_kinds hs

pub room_in : (ty : Plain) (v : PlainValue) (plain : ℕ → ℕ → Option ℕ) (hs : List ValueHandle) (m m' : HandleMap ℕ) (indexes : List ℕ) → shown hs ≡ handles ty v → IsLowered (add_handles plain (map passing hs) m) m' [] indexes → length indexes ≡ length (handles ty v)
room_in ty v plain hs m m' indexes is lowered = at (add_handles plain (map passing hs) m) refl lowered
  where
    at : (o : Option (Answered ℕ (List ℕ))) → add_handles plain (map passing hs) m ≡ o → IsLowered o m' [] indexes → length indexes ≡ length (handles ty v)
    at None e h = absurd h
    at (Some a) e h = ap length h.1 ∙ added-length plain (map passing hs) m a e ∙ passing-length hs ∙ sym (shown-length hs) ∙ ap length is

pub goes_in : (ty : Plain) (v : PlainValue) (plain : ℕ → ℕ → Option ℕ) (hs : List ValueHandle) (m m' : HandleMap ℕ) (indexes : List ℕ) (into : Value) → shown hs ≡ handles ty v → IsLowered (add_handles plain (map passing hs) m) m' [] indexes →
    plain_value into ≡ renumbered ty v indexes → IsIn ty v (add_handles plain (handles_of ty (passed_by ty v)) m) m' into
goes_in ty v plain hs m m' indexes into is lowered e = subst (λ xs. IsIn ty v (add_handles plain xs m) m' into) (sym (given_as ty v hs is)) (at (add_handles plain (map passing hs) m) lowered)
  where
    at : (o : Option (Answered ℕ (List ℕ))) → IsLowered o m' [] indexes → IsIn ty v o m' into
    at None h = absurd h
    at (Some a) h = (e ∙ sym (twice ty v [] indexes) ∙ ap (renumbered ty (blank ty v)) h.1, h.0)

pub stays_in : (ty : Plain) (v : PlainValue) (plain : ℕ → ℕ → Option ℕ) (m : HandleMap ℕ) (into : Value) → has_handles ty ≡ false → plain_value into ≡ v → IsIn ty v (add_handles plain (handles_of ty (passed_by ty v)) m) m into
stays_in ty v plain m into none e =
    let empty : handles ty v ≡ [] = no_handles ty v none in
    subst (λ xs. IsIn ty v (add_handles plain xs m) m into) (sym (given_as ty v [] (sym empty))) (e ∙ sym (stays ty v [] none) ∙ sym (stays ty (blank ty v) [] none), refl)

pub traps_in : (ty : Plain) (v : PlainValue) (plain : ℕ → ℕ → Option ℕ) (hs : List ValueHandle) (m : HandleMap ℕ) → shown hs ≡ handles ty v → add_handles plain (map passing hs) m ≡ None → add_handles plain (handles_of ty (passed_by ty v)) m ≡ None
traps_in ty v plain hs m is e = ap (λ xs. add_handles plain xs m) (given_as ty v hs is) ∙ e

-- where the exchange stops
pub stops_in : (ty : Plain) (v : PlainValue) (plain : ℕ → ℕ → Option ℕ) (hs : List ValueHandle) (m m' : HandleMap ℕ) (before indexes : List ℕ) (e : HandleFault) → shown hs ≡ handles ty v → Lowers (add_handles plain (map passing hs) m) m' before indexes (Err e) →
    GoesIn ty v (add_handles plain (handles_of ty (passed_by ty v)) m) m' (Err e)
stops_in ty v plain hs m m' before indexes faults.Trap is h = traps_in ty v plain hs m is h
stops_in ty v plain hs m m' before indexes faults.NoMemory is h = tt
