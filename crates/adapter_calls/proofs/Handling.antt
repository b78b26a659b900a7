-- Canonical functions answer what core code of an adapter's instance asks for handles.
use Rattle.std.proofs.Common.{◌≡◌, ◌∙◌, refl, sym, ap, subst, zero, slice_index_or, slice_set, ℕ, suc, ◌+◌, ◌-◌, ◌≤◌, ◌==◌, ◌&&◌, List, [], ◌∷◌, ◌++◌, length, Option, Some, None, Bool, true, false, cond, not, ◌⊎◌, ◌<◌, nat_lt, inl, inr, ltb-true, ltb-false, arith, append_assoc, append-nil}
use Rattle.std.specs.Option.{option_map, option_and_then}
use Rattle.core_store.specs.State.{State}
use Rattle.core_store.specs.declared.value.CoreValue.{CoreValue}
use Rattle.core_store.specs.declared.value.CoreValue.TheVariants.{I32}
use Rattle.core_store.specs.Words.{words}
use Rattle.core_store.specs.Laws.{Further}
use Rattle.core_store.specs.Config.{Reply, Outcome, Asks}
use Rattle.handle_space.specs.HandleMap.{Entry, HandleMap, Answered, Held, answered, own_entry, held, entry_at, entry_of, without, live_count, most_live, added, add, take, take_own}
use Rattle.adapter_code.specs.declared.state.Effect.{Effect}
use Rattle.adapter_code.specs.declared.state.Effect.TheVariants.{Made, Dropped}
use Rattle.adapter_code.specs.Run.{own_resource}
use Rattle.adapter_compile.specs.Handles.{Numbers, answer, Refused, MakesNone, DropsNone}
use Rattle.host_port.specs.Calls.{PlainObservation}
use Rattle.host_port.specs.Hosts.{HostStep, Loss}
use Rattle.comp_worlds.specs.Acts.{Trapped, traps, Out, Next, Over, Spent, seen_before, then_do, Act, ◌>>◌, gives, takes_step, with_more}
use Rattle.comp_worlds.specs.Groups.{Endless, store_at, Func, ResourceNew, ResourceDrop, Group, Config, World}
use Rattle.comp_worlds.specs.Locals.{Local, also, with_store, makes, removes, new_entry, removed}
use Rattle.comp_worlds.specs.Calls.{with_config, on, below, core_end, store_of, finds_room, owned_by, owns, plainly, as_words, performs, drops, drops_by, drops_if, goes_on}
use Rattle.comp_worlds.specs.Hosts.{hosted, loses}
use Rattle.comp_frames.specs.Running.{Rest, IsRest, comes_to, running, going}
use Rattle.comp_frames.specs.RunsLaws.{GoesByItsRest}
use Rattle.comp_inside.proofs.Tables.{answered_to, add_to, take_to}
use Rattle.adapter_calls.specs.Instance.{standing, with_both}
use Rattle.adapter_calls.specs.Turns.{AsksInTurn}
use Rattle.adapter_calls.specs.Handling.{IsKind, KnowsKinds, map_to, OfKinds, AreOwned, lost, HandlesAnswer}
use Rattle.adapter_calls.proofs.Instance.{seen_none, on_none, on_k, stored, store_at_k}

abbrev pub GoesFurther : Rest → Type 0
GoesFurther X = (replies : List Reply) (n d : ℕ) → Further d (X replies n) (X replies (d + n))

-- ---- more seen before

seen_both : {W A : Type 0} → (o o' : List PlainObservation) (x : Out W A) → seen_before o (seen_before o' x) ≡ seen_before (o ++ o') x
seen_both o o' (Next o'' l w a) = ap (λ z. Next z l w a) (sym (append_assoc o o' o''))
seen_both o o' (Over o'' e) = ap (λ z. Over z e) (sym (append_assoc o o' o''))
seen_both o o' (Spent o'') = ap (λ z. Spent z) (sym (append_assoc o o' o''))

-- ---- the instance

module _ {S : Type 0} (w : World S) (c : Config ℕ) (k : ℕ) where
  abbrev placed : State → HandleMap ℕ → S → World S
  placed t m s = standing w k (with_both c t m) s

  on_placed : {A : Type 0} → (op : Config ℕ → Option (Local ℕ A)) (t : State) (m m' : HandleMap ℕ) (s : S) (a : A) (n : ℕ) → op (with_both c t m) ≡ Some (record { config = with_both c t m'; answer = a }) → on k op (placed t m s) n ≡ Next [] n (placed t m' s) a
  on_placed op t m m' s a n does = on_k w k op (with_both c t m) (with_both c t m') s a n does

-- a reply's store is that of the question, where calls may nest without a limit
pub same_store : (t : State) → t.deepest ≡ None → record (store_at Endless t) { nesting = t.nesting } ≡ t
same_store t none = λ i. record t { deepest = sym none i }

one_up : (n : ℕ) → 1 + n ≡ suc n
one_up n = omega arith

-- ---- questions

module _ {S : Type 0} (h : HostStep S) (G : Group) (k : ℕ) (by : GoesByItsRest G (hosted h)) where
  abbrev goes : Rest → Act (World S) (List CoreValue)
  goes X = going G (hosted h) Endless k X

  abbrev replied : Rest → ℕ → ℕ → List CoreValue → Act (World S) (List CoreValue)
  replied X used now results = store_of k >> λ store. with_more used (goes (λ replies. X (record { results = results; store = record (store_at Endless store) { nesting = now } } ∷ replies)))

  question_stands : (X : Rest) → IsRest X → (w : World S) (c : Config ℕ) (t u : State) (m : HandleMap ℕ) (s : S) (N number n : ℕ) (args : List CoreValue) → X [] N ≡ Asks number args u (suc n) →
      goes X (placed w c k t m s) N ≡ (performs G (hosted h) (running G (hosted h)) Endless k (words args) (G.canons k number) >> replied X (N - suc n) u.nesting) (placed w c k u m s) n
  unfolding ◌>>◌ comes_to takes_step finds_room
  question_stands X rest w c t u m s N number n args asks =
      let body : World S → Out (World S) (List CoreValue) = λ v. (performs G (hosted h) (running G (hosted h)) Endless k (words args) (G.canons k number) >> replied X (N - suc n) u.nesting) v n in
      ap (λ (act : Act (World S) (List CoreValue)). act (placed w c k t m s) N) (by.unfolds Endless k X rest)
      ∙ ap (λ o. then_do (core_end (placed w c k t m s) k N o) (goes_on G (hosted h) (running G (hosted h)) (λ reply. goes (λ replies. X (reply ∷ replies))) Endless k)) asks
      ∙ seen_none (seen_before [] (body (with_config (placed w c k t m s) k (with_store ((placed w c k t m s).configs k) u))))
      ∙ seen_none (body (with_config (placed w c k t m s) k (with_store ((placed w c k t m s).configs k) u)))
      ∙ ap body (stored w k (with_both c t m) u s)

  -- its reply leads to the rest
  reply_leads : (X : Rest) (w : World S) (c : Config ℕ) (t : State) (m : HandleMap ℕ) (s : S) (used n : ℕ) (results : List CoreValue) → t.deepest ≡ None →
      replied X used t.nesting results (placed w c k t m s) n ≡ goes (λ replies. X (record { results = results; store = t } ∷ replies)) (placed w c k t m s) (used + n)
  unfolding ◌>>◌ with_more
  reply_leads X w c t m s used n results none =
      ap (λ o. then_do o (λ store. with_more used (goes (λ replies. X (record { results = results; store = record (store_at Endless store) { nesting = t.nesting } } ∷ replies))))) (store_at_k w k (with_both c t m) s n)
      ∙ seen_none (goes (λ replies. X (record { results = results; store = record (store_at Endless t) { nesting = t.nesting } } ∷ replies)) (placed w c k t m s) (used + n))
      ∙ ap (λ (u : State). goes (λ replies. X (record { results = results; store = u } ∷ replies)) (placed w c k t m s) (used + n)) (same_store t none)

-- ---- an own handle that is taken is one that is taken

abbrev rep_held : ℕ → Held ℕ
rep_held rep = record { owned = true; rep = rep }

taken_by : (e : Entry ℕ) (left m' : HandleMap ℕ) (rep : ℕ) (b c : Bool) → e.owned ≡ b → cond (b && c) (Some (answered e.rep left)) None ≡ Some (answered rep m') → cond c (Some (answered (held e) left)) None ≡ Some (answered (rep_held rep) m')
taken_by e left m' rep true true own is =
    let one : answered e.rep left ≡ answered rep m' = cc in
    λ i. Some (record { answer = record { owned = own i; rep = (one i).answer }; map = (one i).map })
taken_by e left m' rep true false own is = absurd (cc)
taken_by e left m' rep false c own is = absurd (cc)

taken_in : (m m' : HandleMap ℕ) (i rep : ℕ) (o : Option (Entry ℕ)) → option_and_then (λ (e : Entry ℕ). cond (e.owned && e.lent == 0) (Some (answered e.rep (without m i))) None) o ≡ Some (answered rep m') → option_and_then (λ (e : Entry ℕ). cond (e.lent == 0) (Some (answered (held e) (without m i))) None) o ≡ Some (answered (rep_held rep) m')
taken_in m m' i rep None is = absurd (cc)
taken_in m m' i rep (Some e) is = taken_by e (without m i) m' rep e.owned (e.lent == 0) refl is

taken : (m m' : HandleMap ℕ) (i r rep : ℕ) → take_own m i r ≡ Some (answered rep m') → take m i r ≡ Some (answered (rep_held rep) m')
taken m m' i r rep is = taken_in m m' i rep (entry_of m i r) is

-- ---- handles that are owned

pub owned_at : (es : List (Option (Entry ℕ))) (i : ℕ) (e : Entry ℕ) → AreOwned es → slice_index_or es i None ≡ Some e → e.owned ≡ true
owned_at [] i e own is = absurd cc
owned_at (None ∷ es) zero e own is = absurd cc
owned_at (Some d ∷ es) zero e own is = (let same : d ≡ e = cc in ap (λ (x : Entry ℕ). x.owned) (sym same) ∙ own.0)
owned_at (None ∷ es) (suc i) e own is = owned_at es i e own is
owned_at (Some d ∷ es) (suc i) e own is = owned_at es i e own.1 is

owned_push : (es : List (Option (Entry ℕ))) (e : Entry ℕ) → e.owned ≡ true → AreOwned es → AreOwned (es ++ Some e ∷ [])
owned_push [] e new own = (new, tt)
owned_push (None ∷ es) e new own = owned_push es e new own
owned_push (Some d ∷ es) e new own = (own.0, owned_push es e new own.1)

abbrev IsOwned : Option (Entry ℕ) → Type 0
IsOwned None = Unit {0}
IsOwned (Some e) = e.owned ≡ true

owned_front : (o : Option (Entry ℕ)) (es : List (Option (Entry ℕ))) → IsOwned o → AreOwned es → AreOwned (o ∷ es)
owned_front None es new own = own
owned_front (Some e) es new own = (new, own)

pub owned_set : (es : List (Option (Entry ℕ))) (i : ℕ) (o : Option (Entry ℕ)) → IsOwned o → AreOwned es → AreOwned (slice_set es i o)
owned_set [] i o new own = tt
owned_set (None ∷ es) zero o new own = owned_front o es new own
owned_set (Some d ∷ es) zero o new own = owned_front o es new own.1
owned_set (None ∷ es) (suc i) o new own = owned_set es i o new own
owned_set (Some d ∷ es) (suc i) o new own = (own.0, owned_set es i o new own.1)

owned_added : (r rep : ℕ) (es : List (Option (Entry ℕ))) (freed : List ℕ) → AreOwned es → AreOwned (added (own_entry r rep) es freed).map.entries
owned_added r rep es [] own = owned_push es (own_entry r rep) refl own
owned_added r rep es (i ∷ freed) own = owned_set es i (Some (own_entry r rep)) refl own

abbrev entries_in : {A : Type 0} → Option (Answered ℕ A) → List (Option (Entry ℕ)) → List (Option (Entry ℕ))
entries_in None es = es
entries_in (Some a) es = a.map.entries

owned_if : (full : Bool) (r rep : ℕ) (m : HandleMap ℕ) → AreOwned m.entries → AreOwned (entries_in (cond full None (Some (added (own_entry r rep) m.entries m.freed))) m.entries)
owned_if true r rep m own = own
owned_if false r rep m own = owned_added r rep m.entries m.freed own

owned_made : (r rep index : ℕ) (m m' : HandleMap ℕ) → add m (own_entry r rep) ≡ Some (answered index m') → AreOwned m.entries → AreOwned m'.entries
owned_made r rep index m m' is own = subst AreOwned (ap (λ o. entries_in o m.entries) is) (owned_if (live_count m == most_live) r rep m own)

owned_idle : (idle : Bool) (e : Entry ℕ) (m : HandleMap ℕ) (i : ℕ) → AreOwned m.entries → AreOwned (entries_in (cond idle (Some (answered e.rep (without m i))) None) m.entries)
owned_idle true e m i own = owned_set m.entries i None tt own
owned_idle false e m i own = own

owned_left : (o : Option (Entry ℕ)) (m : HandleMap ℕ) (i : ℕ) → AreOwned m.entries → AreOwned (entries_in (option_and_then (λ (e : Entry ℕ). cond (e.owned && e.lent == 0) (Some (answered e.rep (without m i))) None) o) m.entries)
owned_left None m i own = own
owned_left (Some e) m i own = owned_idle (e.owned && e.lent == 0) e m i own

pub owned_taken : (i r rep : ℕ) (m m' : HandleMap ℕ) → take_own m i r ≡ Some (answered rep m') → AreOwned m.entries → AreOwned m'.entries
owned_taken i r rep m m' is own = subst AreOwned (ap (λ o. entries_in o m.entries) is) (owned_left (entry_of m i r) m i own)

-- where none is borrowed, what can't be taken as an own handle can't be taken
none_by : (e : Entry ℕ) (m : HandleMap ℕ) (i : ℕ) (b c : Bool) → e.owned ≡ true → e.owned ≡ b → cond (b && c) (Some (answered e.rep (without m i))) None ≡ None → cond c (Some (answered (held e) (without m i))) None ≡ None
none_by e m i true true own is none = absurd cc
none_by e m i true false own is none = refl
none_by e m i false c own is none = absurd cc

none_in : (o : Option (Entry ℕ)) (m : HandleMap ℕ) (i : ℕ) → ((e : Entry ℕ) → o ≡ Some e → e.owned ≡ true) → option_and_then (λ (e : Entry ℕ). cond (e.owned && e.lent == 0) (Some (answered e.rep (without m i))) None) o ≡ None → option_and_then (λ (e : Entry ℕ). cond (e.lent == 0) (Some (answered (held e) (without m i))) None) o ≡ None
none_in None m i own none = refl
none_in (Some e) m i own none = none_by e m i e.owned (e.lent == 0) (own e refl) refl none

found_owned : (o : Option (Entry ℕ)) (r : ℕ) (e : Entry ℕ) → ((d : Entry ℕ) → o ≡ Some d → d.owned ≡ true) → option_and_then (λ (d : Entry ℕ). cond (d.resource == r) (Some d) None) o ≡ Some e → e.owned ≡ true
found_owned None r e own is = absurd cc
found_owned (Some d) r e own is = by (d.resource == r) is
  where
    by : (b : Bool) → cond b (Some d) None ≡ Some e → e.owned ≡ true
    by true same = (let one : d ≡ e = cc in ap (λ (x : Entry ℕ). x.owned) (sym one) ∙ own d refl)
    by false same = absurd cc

none_taken : (i r : ℕ) (m : HandleMap ℕ) → AreOwned m.entries → take_own m i r ≡ None → take m i r ≡ None
none_taken i r m own none = none_in (entry_of m i r) m i (λ e is. found_owned (entry_at m i) r e (λ d at. owned_at m.entries i d own at) is) none

-- ---- what is asked for is answered

module _ {S : Type 0} (h : HostStep S) (G : Group) (k : ℕ) (by : GoesByItsRest G (hosted h)) (numbers : Numbers) (to : ℕ → ℕ) (know : KnowsKinds G k numbers to) (w : World S) (c : Config ℕ) (unclosed : c.closed ≡ false) where
  abbrev here : State → HandleMap ℕ → S → World S
  here t m s = placed w c k t (map_to to m) s

  abbrev after_reply : Rest → State → List CoreValue → Act (World S) (List CoreValue)
  after_reply X u results = goes h G k by (λ replies. X (record { results = results; store = u } ∷ replies))

  made_entry : (kind rep index : ℕ) (t : State) (m m' : HandleMap ℕ) → IsKind kind → add m (own_entry (own_resource kind) rep) ≡ Some (answered index m') →
      makes plainly (owns G k (to (own_resource kind))) (to (own_resource kind)) (rep ∷ []) (with_both c t (map_to to m)) ≡ Some (record { config = with_both c t (map_to to m'); answer = index ∷ [] })
  made_entry kind rep index t m m' is grants =
      let d : Config ℕ = with_both c t (map_to to m) in
      let r : ℕ = to (own_resource kind) in
      let found : Option (Local ℕ (List ℕ)) = option_map (new_entry d) (add d.map (own_entry r rep)) in
      ap (λ b. also b (also (not d.closed) found)) (know.own kind is)
      ∙ ap (λ b. also (not b) found) unclosed
      ∙ ap (option_map (new_entry d)) (add_to to m (own_entry (own_resource kind) rep) ∙ ap (option_map (answered_to to)) grants)

  made_step : (X : Rest) → IsRest X → (kind rep index : ℕ) (t u : State) (m m' : HandleMap ℕ) (s : S) (N n : ℕ) → IsKind kind → add m (own_entry (own_resource kind) rep) ≡ Some (answered index m') → u.deepest ≡ None → X [] N ≡ Asks (numbers.makes kind) (I32 rep ∷ []) u (suc n) →
      goes h G k by X (here t m s) N ≡ after_reply X u (I32 index ∷ []) (here u m' s) ((N - suc n) + n)
  unfolding ◌>>◌ gives
  made_step X rest kind rep index t u m m' s N n is grants none asks =
      let r : ℕ = to (own_resource kind) in
      let next : List CoreValue → Act (World S) (List CoreValue) = replied h G k by X (N - suc n) u.nesting in
      question_stands h G k by X rest w c t u (map_to to m) s N (numbers.makes kind) n (I32 rep ∷ []) asks
      ∙ ap (λ f. (performs G (hosted h) (running G (hosted h)) Endless k (rep ∷ []) f >> next) (here u m s) n) (know.makes kind is)
      ∙ ap (λ o. then_do (then_do o (λ ws. gives (as_words ws))) next) (on_placed w c k (makes plainly (owns G k r) r (rep ∷ [])) u (map_to to m) (map_to to m') s (index ∷ []) n (made_entry kind rep index u m m' is grants))
      ∙ seen_none (next (I32 index ∷ []) (here u m' s) n)
      ∙ reply_leads h G k by X w c u (map_to to m') s (N - suc n) n (I32 index ∷ []) none

  removed_entry : (kind rep index : ℕ) (t : State) (m m' : HandleMap ℕ) → take_own m index kind ≡ Some (answered rep m') →
      removes (to kind) (index ∷ []) (with_both c t (map_to to m)) ≡ Some (record { config = with_both c t (map_to to m'); answer = Some rep })
  removed_entry kind rep index t m m' grants =
      let d : Config ℕ = with_both c t (map_to to m) in
      ap (λ b. also (not b) (option_map (removed d) (take d.map index (to kind)))) unclosed
      ∙ ap (option_map (removed d)) (take_to to know.once m index kind ∙ ap (option_map (answered_to to)) (taken m m' index kind rep grants))

  abbrev told : ℕ → ℕ → S → Loss S
  told kind rep s = h.drop s (G.imported (to kind)) rep

  -- the host is told
  dropped_below : (kind rep : ℕ) (t : State) (m : HandleMap ℕ) (s : S) (n : ℕ) → IsKind kind →
      drops_if G (hosted h) (running G (hosted h)) Endless k (to kind) (Some rep) (here t m s) n ≡ Next (told kind rep s).seen n (here t m (told kind rep s).next) []
  unfolding ◌>>◌ gives below loses
  dropped_below kind rep t m s n is =
      let run = running G (hosted h) in
      ap (λ b. (drops_by G (hosted h) run Endless k (to kind) rep b >> λ _. gives []) (here t m s) n) (ap (λ o. owned_by o k) (know.imported kind is))
      ∙ ap (λ o. (drops G (hosted h) run Endless (to kind) rep o >> λ _. gives []) (here t m s) n) (know.imported kind is)
      ∙ ap (λ z. Next z n (here t m (told kind rep s).next) []) (append-nil (told kind rep s).seen)

  dropped_step : (X : Rest) → IsRest X → (kind rep index : ℕ) (t u : State) (m m' : HandleMap ℕ) (s : S) (N n : ℕ) → IsKind kind → take_own m index kind ≡ Some (answered rep m') → u.deepest ≡ None → X [] N ≡ Asks (numbers.drops kind) (I32 index ∷ []) u (suc n) →
      goes h G k by X (here t m s) N ≡ seen_before (told kind rep s).seen (after_reply X u [] (here u m' (told kind rep s).next) ((N - suc n) + n))
  unfolding ◌>>◌
  dropped_step X rest kind rep index t u m m' s N n is grants none asks =
      let run = running G (hosted h) in
      let next : List CoreValue → Act (World S) (List CoreValue) = replied h G k by X (N - suc n) u.nesting in
      question_stands h G k by X rest w c t u (map_to to m) s N (numbers.drops kind) n (I32 index ∷ []) asks
      ∙ ap (λ f. (performs G (hosted h) run Endless k (index ∷ []) f >> next) (here u m s) n) (know.drops kind is)
      ∙ ap (λ o. then_do (then_do o (drops_if G (hosted h) run Endless k (to kind))) next) (on_placed w c k (removes (to kind) (index ∷ [])) u (map_to to m) (map_to to m') s (Some rep) n (removed_entry kind rep index u m m' grants))
      ∙ ap (λ o. then_do (seen_before [] o) next) (dropped_below kind rep u m' s n is)
      ∙ ap (seen_before (told kind rep s).seen) (reply_leads h G k by X w c u (map_to to m') (told kind rep s).next (N - suc n) n [] none)

  -- ---- what is refused traps

  is_kind : (kind : ℕ) → IsKind kind ⊎ (IsKind kind → ⊥)
  is_kind kind = told_by (nat_lt kind 14) refl
    where
      told_by : (b : Bool) → nat_lt kind 14 ≡ b → IsKind kind ⊎ (IsKind kind → ⊥)
      told_by true is = inl (ltb-true kind 14 is)
      told_by false is = inr (λ (less : kind < 14). let more : 14 ≤ kind = ltb-false kind 14 is in omega (arith, less, more))

  stops : (f : Option Func) (args : List ℕ) (t : State) (m : HandleMap ℕ) (s : S) (n : ℕ) (next : List CoreValue → Act (World S) (List CoreValue)) → performs G (hosted h) (running G (hosted h)) Endless k args f (here t m s) n ≡ Over [] Trapped →
      (performs G (hosted h) (running G (hosted h)) Endless k args f >> next) (here t m s) n ≡ Over [] Trapped
  unfolding ◌>>◌
  stops f args t m s n next is = ap (λ o. then_do o next) is

  no_function : (args : List ℕ) (t : State) (m : HandleMap ℕ) (s : S) (n : ℕ) → performs G (hosted h) (running G (hosted h)) Endless k args None (here t m s) n ≡ Over [] Trapped
  unfolding traps
  no_function args t m s n = refl

  no_handle : (r : ℕ) (args : List ℕ) (t : State) (m : HandleMap ℕ) (s : S) (n : ℕ) → makes plainly (owns G k r) r args (with_both c t (map_to to m)) ≡ None → performs G (hosted h) (running G (hosted h)) Endless k args (Some (ResourceNew r)) (here t m s) n ≡ Over [] Trapped
  unfolding ◌>>◌
  no_handle r args t m s n none = ap (λ o. then_do o (λ ws. gives (as_words ws))) (on_none w k (makes plainly (owns G k r) r args) (with_both c t (map_to to m)) s n none)

  no_drop : (r : ℕ) (args : List ℕ) (t : State) (m : HandleMap ℕ) (s : S) (n : ℕ) → removes r args (with_both c t (map_to to m)) ≡ None → performs G (hosted h) (running G (hosted h)) Endless k args (Some (ResourceDrop r)) (here t m s) n ≡ Over [] Trapped
  unfolding ◌>>◌
  no_drop r args t m s n none = ap (λ o. then_do o (drops_if G (hosted h) (running G (hosted h)) Endless k r)) (on_none w k (removes r args) (with_both c t (map_to to m)) s n none)

  full_entry : (kind rep : ℕ) (t : State) (m : HandleMap ℕ) → IsKind kind → add m (own_entry (own_resource kind) rep) ≡ None → makes plainly (owns G k (to (own_resource kind))) (to (own_resource kind)) (rep ∷ []) (with_both c t (map_to to m)) ≡ None
  full_entry kind rep t m is none =
      let d : Config ℕ = with_both c t (map_to to m) in
      let r : ℕ = to (own_resource kind) in
      let found : Option (Local ℕ (List ℕ)) = option_map (new_entry d) (add d.map (own_entry r rep)) in
      ap (λ b. also b (also (not d.closed) found)) (know.own kind is)
      ∙ ap (λ b. also (not b) found) unclosed
      ∙ ap (option_map (new_entry d)) (add_to to m (own_entry (own_resource kind) rep) ∙ ap (option_map (answered_to to)) none)

  lacking_entry : (kind index : ℕ) (t : State) (m : HandleMap ℕ) → AreOwned m.entries → take_own m index kind ≡ None → removes (to kind) (index ∷ []) (with_both c t (map_to to m)) ≡ None
  lacking_entry kind index t m own none =
      let d : Config ℕ = with_both c t (map_to to m) in
      ap (λ b. also (not b) (option_map (removed d) (take d.map index (to kind)))) unclosed
      ∙ ap (option_map (removed d)) (take_to to know.once m index kind ∙ ap (option_map (answered_to to)) (none_taken index kind m own none))

  make_refused : (kind rep : ℕ) (t : State) (m : HandleMap ℕ) (s : S) (n : ℕ) → add m (own_entry (own_resource kind) rep) ≡ None → performs G (hosted h) (running G (hosted h)) Endless k (rep ∷ []) (G.canons k (numbers.makes kind)) (here t m s) n ≡ Over [] Trapped
  make_refused kind rep t m s n none = told_by (is_kind kind)
    where
      told_by : IsKind kind ⊎ (IsKind kind → ⊥) → performs G (hosted h) (running G (hosted h)) Endless k (rep ∷ []) (G.canons k (numbers.makes kind)) (here t m s) n ≡ Over [] Trapped
      told_by (inl is) = ap (λ f. performs G (hosted h) (running G (hosted h)) Endless k (rep ∷ []) f (here t m s) n) (know.makes kind is) ∙ no_handle (to (own_resource kind)) (rep ∷ []) t m s n (full_entry kind rep t m is none)
      told_by (inr beyond) = ap (λ f. performs G (hosted h) (running G (hosted h)) Endless k (rep ∷ []) f (here t m s) n) (know.beyond kind beyond).0 ∙ no_function (rep ∷ []) t m s n

  drop_refused : (kind index : ℕ) (t : State) (m : HandleMap ℕ) (s : S) (n : ℕ) → AreOwned m.entries → take_own m index kind ≡ None → performs G (hosted h) (running G (hosted h)) Endless k (index ∷ []) (G.canons k (numbers.drops kind)) (here t m s) n ≡ Over [] Trapped
  drop_refused kind index t m s n own none = told_by (is_kind kind)
    where
      told_by : IsKind kind ⊎ (IsKind kind → ⊥) → performs G (hosted h) (running G (hosted h)) Endless k (index ∷ []) (G.canons k (numbers.drops kind)) (here t m s) n ≡ Over [] Trapped
      told_by (inl is) = ap (λ f. performs G (hosted h) (running G (hosted h)) Endless k (index ∷ []) f (here t m s) n) (know.drops kind is) ∙ no_drop (to kind) (index ∷ []) t m s n (lacking_entry kind index t m own none)
      told_by (inr beyond) = ap (λ f. performs G (hosted h) (running G (hosted h)) Endless k (index ∷ []) f (here t m s) n) (know.beyond kind beyond).1 ∙ no_function (index ∷ []) t m s n

  -- a refused question traps, where a step more is left
  pub refused_traps : (X : Rest) → IsRest X → GoesFurther X → (t : State) (m : HandleMap ℕ) (s : S) (N : ℕ) → AreOwned m.entries → Refused numbers Outcome (λ o. o) (λ replies. X replies N) m → goes h G k by X (here t m s) (1 + N) ≡ Over [] Trapped
  refused_traps X rest more t m s N own (MakesNone kind rep u left asks full) =
      let next : List CoreValue → Act (World S) (List CoreValue) = replied h G k by X ((1 + N) - suc left) u.nesting in
      let asked : X [] (1 + N) ≡ Asks (numbers.makes kind) (I32 rep ∷ []) u (suc left) = subst (λ o. Further 1 o (X [] (1 + N))) asks (more [] N 1) ∙ ap (Asks (numbers.makes kind) (I32 rep ∷ []) u) (one_up left) in
      question_stands h G k by X rest w c t u (map_to to m) s (1 + N) (numbers.makes kind) left (I32 rep ∷ []) asked
      ∙ stops (G.canons k (numbers.makes kind)) (rep ∷ []) u m s left next (make_refused kind rep u m s left full)
  refused_traps X rest more t m s N own (DropsNone kind index u left asks none) =
      let next : List CoreValue → Act (World S) (List CoreValue) = replied h G k by X ((1 + N) - suc left) u.nesting in
      let asked : X [] (1 + N) ≡ Asks (numbers.drops kind) (I32 index ∷ []) u (suc left) = subst (λ o. Further 1 o (X [] (1 + N))) asks (more [] N 1) ∙ ap (Asks (numbers.drops kind) (I32 index ∷ []) u) (one_up left) in
      question_stands h G k by X rest w c t u (map_to to m) s (1 + N) (numbers.drops kind) left (I32 index ∷ []) asked
      ∙ stops (G.canons k (numbers.drops kind)) (index ∷ []) u m s left next (drop_refused kind index u m s left own none)

  -- ---- one question after another

  abbrev Goes : Rest → State → HandleMap ℕ → S → ℕ → Out (World S) (List CoreValue)
  Goes X t m s n = goes h G k by X (here t m s) n

  -- what is left once these were answered
  pub record AreAnswered (start : ℕ) (X : Rest) (m : HandleMap ℕ) (es : List Effect) (t : State) (s : S) (P : Rest → HandleMap ℕ → Type 0) : Type 0 where
    pub last : Rest
    pub map : HandleMap ℕ
    pub store : State
    pub holds : P last map
    pub rest : IsRest last
    pub further : GoesFurther last
    pub owned : AreOwned map.entries
    pub goes_on : (n : ℕ) → Goes X t m s (start + (length es + n)) ≡ seen_before (lost h G to es s).seen (Goes last store map (lost h G to es s).next (start + n))

  steps_left : (start left j : ℕ) → left ≤ start → ((start + suc j) - suc (left + j)) + (left + j) ≡ start + j
  steps_left start left j le = omega (arith, le)

  one_more : (start a n : ℕ) → start + (suc a + n) ≡ start + suc (a + n)
  one_more start a n = omega arith

  one_left : (left j : ℕ) → left + suc j ≡ suc (left + j)
  one_left left j = omega arith

  none_due : (start n : ℕ) → start + (0 + n) ≡ start + n
  none_due start n = omega arith

  pub answered_all : (es : List Effect) (start : ℕ) (X : Rest) (m : HandleMap ℕ) (t : State) (s : S) (P : Rest → HandleMap ℕ → Type 0) → IsRest X → GoesFurther X → AreOwned m.entries → OfKinds es → AsksInTurn numbers start X m es P → AreAnswered start X m es t s P
  answered_all [] start X m t s P rest more own kinds p = record {
    last = X;
    map = m;
    store = t;
    holds = p;
    rest = rest;
    further = more;
    owned = own;
    goes_on = λ n. ap (Goes X t m s) (none_due start n) ∙ sym (seen_none (Goes X t m s (start + n)));
  }
  answered_all (Made kind rep index ∷ es) start X m t s P rest further own kinds (u, left, m', asks, le, none, grants, more) =
      let a = answered_all es start (λ replies. X (answer (Made kind rep index) u ∷ replies)) m' u s P (λ replies n. rest (answer (Made kind rep index) u ∷ replies) n) (λ replies n d. further (answer (Made kind rep index) u ∷ replies) n d) (owned_made (own_resource kind) rep index m m' grants own) kinds.1 more in
      record {
        last = a.last;
        map = a.map;
        store = a.store;
        holds = a.holds;
        rest = a.rest;
        further = a.further;
        owned = a.owned;
        goes_on = λ n.
            let j : ℕ = length es + n in
            ap (Goes X t m s) (one_more start (length es) n)
            ∙ made_step X rest kind rep index t u m m' s (start + suc j) (left + j) kinds.0 grants none (asks (suc j) ∙ ap (Asks (numbers.makes kind) (I32 rep ∷ []) u) (one_left left j))
            ∙ ap (after_reply X u (I32 index ∷ []) (here u m' s)) (steps_left start left j le)
            ∙ a.goes_on n;
      }
  answered_all (Dropped kind rep index ∷ es) start X m t s P rest further own kinds (u, left, m', asks, le, none, grants, more) =
      let l : Loss S = told kind rep s in
      let a = answered_all es start (λ replies. X (answer (Dropped kind rep index) u ∷ replies)) m' u l.next P (λ replies n. rest (answer (Dropped kind rep index) u ∷ replies) n) (λ replies n d. further (answer (Dropped kind rep index) u ∷ replies) n d) (owned_taken index kind rep m m' grants own) kinds.1 more in
      record {
        last = a.last;
        map = a.map;
        store = a.store;
        holds = a.holds;
        rest = a.rest;
        further = a.further;
        owned = a.owned;
        goes_on = λ n.
            let j : ℕ = length es + n in
            ap (Goes X t m s) (one_more start (length es) n)
            ∙ dropped_step X rest kind rep index t u m m' s (start + suc j) (left + j) kinds.0 grants none (asks (suc j) ∙ ap (Asks (numbers.drops kind) (I32 index ∷ []) u) (one_left left j))
            ∙ ap (seen_before l.seen) (ap (after_reply X u [] (here u m' l.next)) (steps_left start left j le) ∙ a.goes_on n)
            ∙ seen_both l.seen (lost h G to es l.next).seen (Goes a.last a.store a.map (lost h G to es l.next).next (start + n));
      }

pub handles_answer : {S : Type 0} → (h : HostStep S) → ((G : Group) → GoesByItsRest G (hosted h)) → HandlesAnswer h
handles_answer h by G k numbers to know w c unclosed start X last table table' es store s rest further own kinds turns =
    let a = answered_all h G k (by G) numbers to know w c unclosed es start X table store s (λ Y g. (Y ≡ last) × (g ≡ table')) rest further own kinds turns in
    record {
      store' = a.store;
      goes = λ n. a.goes_on n ∙ ap (seen_before (lost h G to es s).seen) (λ i. going G (hosted h) Endless k (a.holds.0 i) (placed w c k a.store (map_to to (a.holds.1 i)) (lost h G to es s).next) (start + n));
    }
