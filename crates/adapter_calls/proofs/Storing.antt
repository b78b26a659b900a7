-- Storing in an adapter's instance goes by its transfer area.
use Rattle.std.proofs.Common.{◌≡◌, ◌∙◌, refl, sym, ap, subst, ℕ, zero, suc, ◌+◌, ◌*◌, ◌/◌, ◌<◌, ◌≤◌, ◌&&◌, nat_le, cond, List, [], ◌∷◌, ◌++◌, length, map, Option, Some, None, Bool, true, false, arith, ◌-◌, take, drop, leb-true, leb-false, le-leb, length-append, length-drop, length-take-le, take_all, zero-add, length-set, get_or-set_same, slice_index, slice_get, slice_set}
use Rattle.core_memory.specs.Number.{bytes_of}
use Rattle.core_memory.specs.Linear.{Linear, written}
use Rattle.core_store.specs.State.{State, memory_at}
use Rattle.core_store.specs.declared.value.CoreValue.{CoreValue}
use Rattle.core_store.specs.declared.value.CoreValue.TheVariants.{I32}
use Rattle.core_store.specs.Words.{words}
use Rattle.core_store.specs.Config.{Done, Trapped as CoreTrapped}
use Rattle.core_store.specs.Eval.{eval}
use Rattle.abi_layout.specs.Storing.{Step, Ask, Write, Place, Refuse, Lowered}
use Rattle.adapter_code.specs.Layout.{padded, end_of}
use Rattle.adapter_transfer.specs.Transfer.{IsRealloc, with_end}
use Rattle.host_port.specs.Hosts.{HostStep}
use Rattle.comp_worlds.specs.Acts.{Next, Over, Trapped, then_do, Act, ◌>>◌, gives, traps}
use Rattle.comp_worlds.specs.Groups.{Endless, store_at, Config, Group, World}
use Rattle.comp_worlds.specs.Locals.{with_store, close, reopen, flat_word, also, gives_in, is_granted, writes, with_bytes}
use Rattle.comp_worlds.specs.Calls.{on, stores, lowers_closed}
use Rattle.comp_worlds.specs.Hosts.{hosted}
use Rattle.comp_frames.specs.Running.{running}
use Rattle.comp_frames.specs.RunsLaws.{Unfolds, GoesByItsRest}
use Rattle.row_runs.specs.Stored.{Stored, stored_in, granted}
use Rattle.row_runs.specs.Stored as row
use Rattle.adapter_calls.specs.Instance.{standing, IsQuiet}
use Rattle.adapter_calls.specs.Storing.{Area, HasArea, HasRoom, SameBut, CanAsk, CanAskAll, cost, options_of, StoredOrTrapped, StoresByArea, MeanwhileOrTrapped, StoresByRoom, LoweredOrTrapped, LowersByArea, LoweredMeanwhile, LowersByRoom}
use Rattle.adapter_calls.proofs.Instance.{seen_none, on_k, begins, returns_meanwhile, traps_meanwhile}

-- ---- the store after a request, and after a write

same_self : (s : State) → SameBut s s
same_self s = record { functions = refl; instances = refl; tables = refl; segments = refl; elements = refl; memories = refl; globals = refl }

pub same_then : (a b c : State) → SameBut a b → SameBut b c → SameBut a c
same_then a b c x y = record {
  functions = y.functions ∙ x.functions;
  instances = y.instances ∙ x.instances;
  tables = y.tables ∙ x.tables;
  segments = y.segments ∙ x.segments;
  elements = y.elements ∙ x.elements;
  memories = y.memories ∙ x.memories;
  globals = y.globals ∙ x.globals;
}

there : {A : Type 0} → (xs : List A) (i : ℕ) (x : A) → slice_get xs i ≡ Some x → slice_get (slice_set xs i x) i ≡ Some x
there [] i x is = absurd cc
there (y ∷ ys) zero x is = refl
there (y ∷ ys) (suc i) x is = there ys i x is

now_there : {A : Type 0} → (xs : List A) (i : ℕ) (x y : A) → slice_get xs i ≡ Some x → slice_get (slice_set xs i y) i ≡ Some y
now_there [] i x y is = absurd cc
now_there (z ∷ zs) zero x y is = refl
now_there (z ∷ zs) (suc i) x y is = now_there zs i x y is

-- no byte is lost
written_long : (m : List ℕ) (at : ℕ) (bytes : List ℕ) (n : ℕ) → n ≤ length m → n ≤ length (row.written m at bytes)
written_long m at bytes n le =
    let whole : length (row.written m at bytes) ≡ length (take at m) + (length bytes + length (drop (at + length bytes) m)) = length-append (take at m) (bytes ++ drop (at + length bytes) m) ∙ ap (λ z. length (take at m) + z) (length-append bytes (drop (at + length bytes) m)) in
    let rest : length (drop (at + length bytes) m) ≡ length m - (at + length bytes) = length-drop (at + length bytes) m in
    by (nat_le at (length m)) refl whole rest
  where
    by : (b : Bool) → nat_le at (length m) ≡ b → length (row.written m at bytes) ≡ length (take at m) + (length bytes + length (drop (at + length bytes) m)) → length (drop (at + length bytes) m) ≡ length m - (at + length bytes) → n ≤ length (row.written m at bytes)
    by true is whole rest =
        let within : at ≤ length m = leb-true at (length m) is in
        let front : length (take at m) ≡ at = length-take-le at m within in
        omega (arith, le, whole, rest, front, within)
    by false is whole rest =
        let beyond : length m ≤ at = (let more = leb-false at (length m) is in omega (arith, more)) in
        let front : length (take at m) ≡ length m = ap length (take_all at m beyond) in
        omega (arith, le, whole, rest, front)

module _ (p : Area) where
  granted_area : (store : State) (s : Stored) (len : ℕ) → HasRoom p store s → s.used + padded len ≤ end_of p.layout → HasRoom p (with_end store p.global (s.used + padded len)) (granted len s)
  granted_area store s len a room = record {
    within = a.within;
    bytes = a.bytes;
    holds = a.holds;
    realloc = record { instance = a.realloc.instance; function = a.realloc.function; own = a.realloc.own; enters = a.realloc.enters };
    used = record {
      there = a.used.there;
      holds = now_there store.globals p.global (I32 s.used) (I32 (s.used + padded len)) a.used.holds;
      whole = (let whole = a.used.whole in omega (arith, whole));
      from = (let from = a.used.from in omega (arith, from));
      to = room;
    };
  }

  -- a request begins without the calls that are in progress
  endless_room : (store : State) (s : Stored) → HasRoom p store s → HasRoom p (store_at Endless store) s
  endless_room store s a = record {
    within = a.within;
    bytes = a.bytes;
    holds = a.holds;
    realloc = record { instance = a.realloc.instance; function = a.realloc.function; own = a.realloc.own; enters = refl };
    used = record { there = a.used.there; holds = a.used.holds; whole = a.used.whole; from = a.used.from; to = a.used.to };
  }

  pub granted_same : (store : State) (at : ℕ) → SameBut store (with_end (store_at Endless store) p.global at)
  granted_same store at = record { functions = refl; instances = refl; tables = refl; segments = refl; elements = refl; memories = refl; globals = length-set store.globals p.global (I32 at) }

  -- a write
  memory_there : (store : State) (m : Linear) → p.memory < length store.memories → memory_at (record store { memories = slice_set store.memories p.memory m }) p.memory ≡ m
  memory_there store m within = get_or-set_same store.memories p.memory m _ within

  written_bytes : (store : State) (s : Stored) (at : ℕ) (bytes : List ℕ) → HasRoom p store s → (memory_at (with_bytes store p.memory at bytes) p.memory).bytes ≡ row.written s.memory at bytes
  written_bytes store s at bytes a = ap (λ (m : Linear). m.bytes) (memory_there store (written (memory_at store p.memory) at bytes) a.within) ∙ ap (λ z. row.written z at bytes) a.bytes

  written_area : (store : State) (s : Stored) (at : ℕ) (bytes : List ℕ) → HasRoom p store s → end_of p.layout ≤ length (row.written s.memory at bytes) → HasRoom p (with_bytes store p.memory at bytes) (record s { memory = row.written s.memory at bytes })
  written_area store s at bytes a holds = record {
    within = subst (λ n. p.memory < n) (sym (length-set store.memories p.memory (written (memory_at store p.memory) at bytes))) a.within;
    bytes = written_bytes store s at bytes a;
    holds = holds;
    realloc = record { instance = a.realloc.instance; function = a.realloc.function; own = a.realloc.own; enters = a.realloc.enters };
    used = record { there = a.used.there; holds = a.used.holds; whole = a.used.whole; from = a.used.from; to = a.used.to };
  }

  written_same : (store : State) (at : ℕ) (bytes : List ℕ) → SameBut store (with_bytes store p.memory at bytes)
  written_same store at bytes = record { functions = refl; instances = refl; tables = refl; segments = refl; elements = refl; memories = length-set store.memories p.memory (written (memory_at store p.memory) at bytes); globals = refl }

-- ---- step by step

module _ {S : Type 0} (h : HostStep S) (G : Group) (unfolds : Unfolds G (hosted h)) (by : GoesByItsRest G (hosted h)) (w : World S) (k : ℕ) (p : Area) (is_realloc : IsRealloc p.layout p.body) (target : ℕ) where
  abbrev Does : List ℕ → List Step → Act (World S) (List ℕ)
  Does answers steps = stores G (hosted h) (running G (hosted h)) Endless k (options_of p) target answers steps

  abbrev Wanted : List Step → Config ℕ → S → Stored → Option Stored → Type 0
  Wanted steps c s from to = MeanwhileOrTrapped h G k p target steps w c s from to

  abbrev request : ℕ → ℕ → List CoreValue
  request align len = I32 0 ∷ I32 0 ∷ I32 align ∷ I32 len ∷ []

  twenty : (a n : ℕ) → (20 + a) + n ≡ suc (19 + (a + n))
  twenty a n = omega arith

  -- what follows a request
  abbrev onward : (align len : ℕ) → List ℕ → List Step → List CoreValue → Act (World S) (List ℕ)
  onward align len answers steps results = on k (is_granted (options_of p) align len (words results)) >> λ at. Does (answers ++ at ∷ []) steps

  asked : (align len : ℕ) (answers : List ℕ) (steps : List Step) (c : Config ℕ) (s : S) (n : ℕ) →
      Does answers (Ask align len ∷ steps) (standing w k c s) (suc n) ≡ then_do (running G (hosted h) Endless k p.realloc (request align len) (standing w k c s) n) (onward align len answers steps)
  unfolding ◌>>◌
  asked align len answers steps c s n =
      let run = running G (hosted h) Endless k p.realloc (request align len) in
      ap (λ o. then_do (then_do o (λ x. run)) (onward align len answers steps)) (begins (standing w k c s) n)
      ∙ ap (λ o. then_do o (onward align len answers steps)) (seen_none (run (standing w k c s) n))

  granted_so : (align len : ℕ) (c : Config ℕ) (s : Stored) → CanAsk align len → HasRoom p c.store (granted len s) → (s.used + padded len ≤ end_of p.layout) × (s.used / 8 * 8 ≡ s.used) → is_granted (options_of p) align len (s.used ∷ []) c ≡ Some (record { config = c; answer = s.used })
  granted_so align len c s can a (room, whole) =
      let bytes : length (memory_at c.store p.memory).bytes ≡ length s.memory = ap length a.bytes in
      let holds : end_of p.layout ≤ length s.memory = a.holds in
      let enough : s.used + len ≤ length (memory_at c.store p.memory).bytes = omega (arith, room, holds, bytes) in
      ap (λ b. also (b && nat_le (s.used + len) (length (memory_at c.store p.memory).bytes)) (Some (gives_in s.used c))) (can.aligned s.used whole)
      ∙ ap (λ b. also b (Some (gives_in s.used c))) (le-leb (s.used + len) (length (memory_at c.store p.memory).bytes) enough)

  -- a request that is granted
  given_room : (align len : ℕ) (answers : List ℕ) (steps : List Step) (c : Config ℕ) (s : S) (from : Stored) (m : ℕ) → CanAsk align len → HasRoom p c.store from → from.used + padded len ≤ end_of p.layout →
      Does answers (Ask align len ∷ steps) (standing w k c s) (suc (19 + m)) ≡ Does (answers ++ from.used ∷ []) steps (standing w k (with_store c (with_end (store_at Endless c.store) p.global (from.used + padded len))) s) m
  unfolding ◌>>◌
  given_room align len answers steps c s from m can a room =
      let t : State = with_end (store_at Endless c.store) p.global (from.used + padded len) in
      let d : Config ℕ = with_store c t in
      let found : eval (store_at Endless c.store) p.realloc (request align len) [] (19 + m) ≡ Done (I32 from.used ∷ []) t m =
      is_realloc p.spaces (store_at Endless c.store) p.realloc p.global from.used (endless_room p c.store from a).realloc (endless_room p c.store from a).used 0 0 align len can.short [] m ∙ ap (λ b. cond b (Done (I32 from.used ∷ []) t m) CoreTrapped) (le-leb (from.used + padded len) (end_of p.layout) room) in
      asked align len answers steps c s (19 + m)
      ∙ ap (λ o. then_do o (onward align len answers steps)) (returns_meanwhile G (hosted h) unfolds by w k p.realloc (request align len) (I32 from.used ∷ []) c t s (19 + m) m found)
      ∙ seen_none (onward align len answers steps (I32 from.used ∷ []) (standing w k d s) m)
      ∙ ap (λ o. then_do o (λ at. Does (answers ++ at ∷ []) steps)) (on_k w k (is_granted (options_of p) align len (from.used ∷ [])) d d s from.used m (granted_so align len d from can (granted_area p (store_at Endless c.store) from len (endless_room p c.store from a) room) (room, a.used.whole)))
      ∙ seen_none (Does (answers ++ from.used ∷ []) steps (standing w k d s) m)

  -- one that passes the area's end
  no_room : (align len : ℕ) (answers : List ℕ) (steps : List Step) (c : Config ℕ) (s : S) (from : Stored) (m : ℕ) → CanAsk align len → HasRoom p c.store from → nat_le (from.used + padded len) (end_of p.layout) ≡ false →
      Does answers (Ask align len ∷ steps) (standing w k c s) (suc (19 + m)) ≡ Over [] Trapped
  no_room align len answers steps c s from m can a full =
      let t : State = with_end (store_at Endless c.store) p.global (from.used + padded len) in
      let found : eval (store_at Endless c.store) p.realloc (request align len) [] (19 + m) ≡ CoreTrapped =
      is_realloc p.spaces (store_at Endless c.store) p.realloc p.global from.used (endless_room p c.store from a).realloc (endless_room p c.store from a).used 0 0 align len can.short [] m ∙ ap (λ b. cond b (Done (I32 from.used ∷ []) t m) CoreTrapped) full in
      asked align len answers steps c s (19 + m)
      ∙ ap (λ o. then_do o (onward align len answers steps)) (traps_meanwhile G (hosted h) unfolds by w k p.realloc (request align len) c s (19 + m) found)

  -- a write
  written_on : (at : ℕ) (bytes : List ℕ) (answers : List ℕ) (steps : List Step) (c : Config ℕ) (s : S) (m : ℕ) →
      (on k (writes (options_of p) at bytes) >> λ x. Does answers steps) (standing w k c s) m ≡ Does answers steps (standing w k (with_store c (with_bytes c.store p.memory at bytes)) s) m
  unfolding ◌>>◌
  written_on at bytes answers steps c s m =
      let d : Config ℕ = with_store c (with_bytes c.store p.memory at bytes) in
      ap (λ o. then_do o (λ x. Does answers steps)) (on_k w k (writes (options_of p) at bytes) c d s tt m refl)
      ∙ seen_none (Does answers steps (standing w k d s) m)

  -- ---- all steps

  ask_by : (b : Bool) (align len : ℕ) (steps : List Step) (c : Config ℕ) (s : S) (from : Stored) → nat_le (from.used + padded len) (end_of p.layout) ≡ b → CanAsk align len → HasRoom p c.store from →
      (from.used + padded len ≤ end_of p.layout → Wanted steps (with_store c (with_end (store_at Endless c.store) p.global (from.used + padded len))) s (granted len from) (stored_in p.layout target (granted len from) steps)) →
      Wanted (Ask align len ∷ steps) c s from (cond b (stored_in p.layout target (granted len from) steps) None)
  ask_by true align len steps c s from is can a next = asked_then (stored_in p.layout target (granted len from) steps) (next room)
    where
      room : from.used + padded len ≤ end_of p.layout
      room = leb-true (from.used + padded len) (end_of p.layout) is

      t : State
      t = with_end (store_at Endless c.store) p.global (from.used + padded len)

      first : (n : ℕ) → Does from.answers (Ask align len ∷ steps) (standing w k c s) ((20 + cost steps) + n) ≡ Does (from.answers ++ from.used ∷ []) steps (standing w k (with_store c (with_end (store_at Endless c.store) p.global (from.used + padded len))) s) (cost steps + n)
      first n = ap (Does from.answers (Ask align len ∷ steps) (standing w k c s)) (twenty (cost steps) n) ∙ given_room align len from.answers steps c s from (cost steps + n) can a room

      asked_then : (to : Option Stored) → Wanted steps (with_store c (with_end (store_at Endless c.store) p.global (from.used + padded len))) s (granted len from) to → Wanted (Ask align len ∷ steps) c s from to
      asked_then (Some to) x = record {
        store = x.store;
        same = same_then c.store (with_end (store_at Endless c.store) p.global (from.used + padded len)) x.store (granted_same p c.store (from.used + padded len)) x.same;
        room = x.room;
        quiet = λ q. x.quiet (record { nesting = refl; deepest = refl });
        goes = λ n. first n ∙ x.goes n;
      }
      asked_then None x = λ n. first n ∙ x n
  ask_by false align len steps c s from is can a next = λ n. ap (Does from.answers (Ask align len ∷ steps) (standing w k c s)) (twenty (cost steps) n) ∙ no_room align len from.answers steps c s from (cost steps + n) can a is

  write_by : (at : ℕ) (bytes : List ℕ) (step : Step) (steps : List Step) (c : Config ℕ) (s : S) (from : Stored) (to : Option Stored) → HasRoom p c.store from → cost (step ∷ steps) ≡ cost steps →
      ((m : ℕ) → Does from.answers (step ∷ steps) (standing w k c s) m ≡ Does from.answers steps (standing w k (with_store c (with_bytes c.store p.memory at bytes)) s) m) →
      Wanted steps (with_store c (with_bytes c.store p.memory at bytes)) s (record from { memory = row.written from.memory at bytes }) to → Wanted (step ∷ steps) c s from to
  write_by at bytes step steps c s from (Some to) a free does x = record {
    store = x.store;
    same = same_then c.store (with_bytes c.store p.memory at bytes) x.store (written_same p c.store at bytes) x.same;
    room = x.room;
    quiet = λ q. x.quiet (record { nesting = q.nesting; deepest = q.deepest });
    goes = λ n. does (cost (step ∷ steps) + n) ∙ ap (λ z. Does from.answers steps (standing w k (with_store c (with_bytes c.store p.memory at bytes)) s) (z + n)) free ∙ x.goes n;
  }
  write_by at bytes step steps c s from None a free does x =
      λ n. does (cost (step ∷ steps) + n) ∙ ap (λ z. Does from.answers steps (standing w k (with_store c (with_bytes c.store p.memory at bytes)) s) (z + n)) free ∙ x n

  pub stored_so : (steps : List Step) → CanAskAll steps → (c : Config ℕ) (s : S) (from : Stored) → HasRoom p c.store from → Wanted steps c s from (stored_in p.layout target from steps)
  unfolding gives traps
  stored_so [] can c s from a = record { store = c.store; same = same_self c.store; room = a; quiet = λ q. q; goes = λ n. ap (λ z. Next [] z (standing w k c s) from.answers) (zero-add n) }
  stored_so (Ask align len ∷ steps) can c s from a =
      ask_by (nat_le (from.used + padded len) (end_of p.layout)) align len steps c s from refl can.0 a
      (λ room. stored_so steps can.1 (with_store c (with_end (store_at Endless c.store) p.global (from.used + padded len))) s (granted len from) (granted_area p (store_at Endless c.store) from len (endless_room p c.store from a) room))
  stored_so (Write base offset bytes ∷ steps) can c s from a =
      let at : ℕ = row.base_of target from.answers base + offset in
      write_by at bytes (Write base offset bytes) steps c s from (stored_in p.layout target (record from { memory = row.written from.memory at bytes }) steps) a refl (λ m. written_on at bytes from.answers steps c s m)
      (stored_so steps can (with_store c (with_bytes c.store p.memory at bytes)) s (record from { memory = row.written from.memory at bytes }) (written_area p c.store from at bytes a (written_long from.memory at bytes (end_of p.layout) a.holds)))
  stored_so (Place base offset request' ∷ steps) can c s from a =
      let at : ℕ = row.base_of target from.answers base + offset in
      let bytes : List ℕ = bytes_of 4 (slice_index from.answers request') in
      write_by at bytes (Place base offset request') steps c s from (stored_in p.layout target (record from { memory = row.written from.memory at bytes }) steps) a refl (λ m. written_on at bytes from.answers steps c s m)
      (stored_so steps can (with_store c (with_bytes c.store p.memory at bytes)) s (record from { memory = row.written from.memory at bytes }) (written_area p c.store from at bytes a (written_long from.memory at bytes (end_of p.layout) a.holds)))
  stored_so (Refuse ∷ steps) can c s from a = refused
    where
      refused : (n : ℕ) → Does from.answers (Refuse ∷ steps) (standing w k c s) (cost (Refuse ∷ steps) + n) ≡ Over [] Trapped
      refused n = refl

  -- where no call is in progress, none is after it
  stored_quiet : (steps : List Step) (c : Config ℕ) (s : S) (from : Stored) (to : Option Stored) → IsQuiet c.store → Wanted steps c s from to → StoredOrTrapped h G k p target steps w c s from to
  stored_quiet steps c s from (Some to) quiet x = record {
    store = x.store;
    same = x.same;
    area = record { quiet = x.quiet quiet; within = x.room.within; bytes = x.room.bytes; holds = x.room.holds; realloc = x.room.realloc; used = x.room.used };
    goes = x.goes;
  }
  stored_quiet steps c s from None quiet x = x

  pub stored_alone : (steps : List Step) → CanAskAll steps → (c : Config ℕ) (s : S) (from : Stored) → HasArea p c.store from → StoredOrTrapped h G k p target steps w c s from (stored_in p.layout target from steps)
  stored_alone steps can c s from a =
      stored_quiet steps c s from (stored_in p.layout target from steps) a.quiet (stored_so steps can c s from (record { within = a.within; bytes = a.bytes; holds = a.holds; realloc = a.realloc; used = a.used }))

module _ {S : Type 0} (h : HostStep S) (G : Group) (unfolds : Unfolds G (hosted h)) (by : GoesByItsRest G (hosted h)) (w : World S) (k : ℕ) (p : Area) (is_realloc : IsRealloc p.layout p.body) (target : ℕ) where
  abbrev closed_as : Config ℕ → Config ℕ
  closed_as c = record { store = c.store; map = c.map; entered = c.entered; closed = true }

  abbrev open_as : Config ℕ → Config ℕ
  open_as c = record { store = c.store; map = c.map; entered = c.entered; closed = false }

  abbrev flats : Lowered → List ℕ → Act (World S) (List ℕ)
  flats low answers = on k reopen >> λ x. gives (map (flat_word answers) low.flats)

  -- it is closed, stores, and is open again
  closes : (low : Lowered) (c : Config ℕ) (s : S) (n : ℕ) → lowers_closed G (hosted h) (running G (hosted h)) Endless k (options_of p) target low (standing w k c s) n
      ≡ then_do (stores G (hosted h) (running G (hosted h)) Endless k (options_of p) target [] low.steps (standing w k (closed_as c) s) n) (flats low)
  unfolding ◌>>◌
  closes low c s n =
      let steps : Act (World S) (List ℕ) = stores G (hosted h) (running G (hosted h)) Endless k (options_of p) target [] low.steps in
      ap (λ o. then_do o (λ x. steps >> flats low)) (on_k w k close c (closed_as c) s tt n refl)
      ∙ seen_none (then_do (steps (standing w k (closed_as c) s) n) (flats low))

  opens : (low : Lowered) (answers : List ℕ) (c : Config ℕ) (s : S) (n : ℕ) → flats low answers (standing w k c s) n ≡ Next [] n (standing w k (open_as c) s) (map (flat_word answers) low.flats)
  unfolding ◌>>◌ gives
  opens low answers c s n = ap (λ o. then_do o (λ x. gives (map (flat_word answers) low.flats))) (on_k w k reopen c (open_as c) s tt n refl)

  -- so it goes where the steps of storing go so
  lowered_goes : (low : Lowered) (c : Config ℕ) (s : S) (from : Stored) → from.answers ≡ [] → (store : State) (answers : List ℕ) →
      ((n : ℕ) → stores G (hosted h) (running G (hosted h)) Endless k (options_of p) target from.answers low.steps (standing w k (closed_as c) s) (cost low.steps + n) ≡ Next [] n (standing w k (with_store (closed_as c) store) s) answers) → (n : ℕ) →
      lowers_closed G (hosted h) (running G (hosted h)) Endless k (options_of p) target low (standing w k c s) (cost low.steps + n) ≡ Next [] n (standing w k (record { store = store; map = c.map; entered = c.entered; closed = false }) s) (map (flat_word answers) low.flats)
  lowered_goes low c s from none store answers goes n =
      closes low c s (cost low.steps + n)
      ∙ ap (λ o. then_do o (flats low)) ((λ i. stores G (hosted h) (running G (hosted h)) Endless k (options_of p) target (sym none i) low.steps (standing w k (closed_as c) s) (cost low.steps + n)) ∙ goes n)
      ∙ seen_none (flats low answers (standing w k (with_store (closed_as c) store) s) n)
      ∙ opens low answers (with_store (closed_as c) store) s n

  lowered_trapped : (low : Lowered) (c : Config ℕ) (s : S) (from : Stored) → from.answers ≡ [] →
      ((n : ℕ) → stores G (hosted h) (running G (hosted h)) Endless k (options_of p) target from.answers low.steps (standing w k (closed_as c) s) (cost low.steps + n) ≡ Over [] Trapped) → (n : ℕ) →
      lowers_closed G (hosted h) (running G (hosted h)) Endless k (options_of p) target low (standing w k c s) (cost low.steps + n) ≡ Over [] Trapped
  lowered_trapped low c s from none goes n =
      closes low c s (cost low.steps + n)
      ∙ ap (λ o. then_do o (flats low)) ((λ i. stores G (hosted h) (running G (hosted h)) Endless k (options_of p) target (sym none i) low.steps (standing w k (closed_as c) s) (cost low.steps + n)) ∙ goes n)

  pub lowered_so : (low : Lowered) → CanAskAll low.steps → (c : Config ℕ) (s : S) (from : Stored) → from.answers ≡ [] → (to : Option Stored) → StoredOrTrapped h G k p target low.steps w (closed_as c) s from to → LoweredOrTrapped h G k p target low w c s from to
  lowered_so low can c s from none (Some to) x = record { store = x.store; same = x.same; area = x.area; goes = lowered_goes low c s from none x.store to.answers x.goes }
  lowered_so low can c s from none None x = lowered_trapped low c s from none x

  pub lowered_meanwhile : (low : Lowered) → CanAskAll low.steps → (c : Config ℕ) (s : S) (from : Stored) → from.answers ≡ [] → (to : Option Stored) → MeanwhileOrTrapped h G k p target low.steps w (closed_as c) s from to → LoweredMeanwhile h G k p target low w c s from to
  lowered_meanwhile low can c s from none (Some to) x = record { store = x.store; same = x.same; room = x.room; quiet = x.quiet; goes = lowered_goes low c s from none x.store to.answers x.goes }
  lowered_meanwhile low can c s from none None x = lowered_trapped low c s from none x

pub stores_by_area : {S : Type 0} → (h : HostStep S) → ((G : Group) → Unfolds G (hosted h)) → ((G : Group) → GoesByItsRest G (hosted h)) → StoresByArea h
stores_by_area h unfolds by G k p is_realloc target steps can w c s from a = stored_alone h G (unfolds G) (by G) w k p is_realloc target steps can c s from a

pub lowers_by_area : {S : Type 0} → (h : HostStep S) → ((G : Group) → Unfolds G (hosted h)) → ((G : Group) → GoesByItsRest G (hosted h)) → LowersByArea h
lowers_by_area h unfolds by G k p is_realloc target low can w c s from none a =
    lowered_so h G (unfolds G) (by G) w k p is_realloc target low can c s from none (stored_in p.layout target from low.steps) (stored_alone h G (unfolds G) (by G) w k p is_realloc target low.steps can (record { store = c.store; map = c.map; entered = c.entered; closed = true }) s from (record { quiet = a.quiet; within = a.within; bytes = a.bytes; holds = a.holds; realloc = a.realloc; used = a.used }))

pub stores_by_room : {S : Type 0} → (h : HostStep S) → ((G : Group) → Unfolds G (hosted h)) → ((G : Group) → GoesByItsRest G (hosted h)) → StoresByRoom h
stores_by_room h unfolds by G k p is_realloc target steps can w c s from a = stored_so h G (unfolds G) (by G) w k p is_realloc target steps can c s from a

pub lowers_by_room : {S : Type 0} → (h : HostStep S) → ((G : Group) → Unfolds G (hosted h)) → ((G : Group) → GoesByItsRest G (hosted h)) → LowersByRoom h
lowers_by_room h unfolds by G k p is_realloc target low can w c s from none a =
    lowered_meanwhile h G (unfolds G) (by G) w k p is_realloc target low can c s from none (stored_in p.layout target from low.steps)
    (stored_so h G (unfolds G) (by G) w k p is_realloc target low.steps can (record { store = c.store; map = c.map; entered = c.entered; closed = true }) s from (record { within = a.within; bytes = a.bytes; holds = a.holds; realloc = a.realloc; used = a.used }))
