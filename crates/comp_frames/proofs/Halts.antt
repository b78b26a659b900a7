-- Where a plan goes on, the definition goes on.
use Rattle.std.proofs.Common.{◌≡◌, ℕ, zero, suc, ◌+◌, ◌<◌, ◌≤◌, ◌&&◌, ◌==◌, Bool, true, false, List, [], ◌∷◌, length, map, set, Option, Some, None, refl, sym, ap, subst, ◌∙◌, arith, length-set, get_or-set_same}
use Rattle.std.specs.Prelude.{nat_le, if◌then◌else◌}
use Rattle.std.proofs.Math.Path.{fun_ext}
use Rattle.std.proofs.lemmas.List.{set-get_or}
use Rattle.std.proofs.lemmas.Bool.Decides.{nat_tests}
use Rattle.core_memory.specs.Linear.{Linear, fresh, written}
use Rattle.core_memory.proofs.Parts.{length_replaced}
use Rattle.core_store.specs.State.{memory_at}
use Rattle.core_store.specs.Words.{words}
use Rattle.wit_types.specs.Plain.{Plain}
use Rattle.wit_types.specs.PlainValue.{PlainValue}
use Rattle.wit_types.specs.Layout.{size}
use Rattle.abi_layout.specs.Loading.{is_aligned}
use Rattle.abi_layout.specs.Storing.{Target, Answer, Step, Ask, Write, Place, Refuse, FlatItem, Number, AnswerTo, Lowered}
use Rattle.abi_store.specs.Plan.{Halt, Asks, Ends, Traps, goes, is_within, is_room, tested, Due, Nothing, Given, Asked, goes_on, answered, number_in, at_plan, flat_plan, spill_plan}
use Rattle.abi_store.proofs.Settling.{settle-stores}
use Rattle.comp_worlds.specs.Acts.{Trapped, Next, Over, then_do, Act, ◌>>◌, gives, traps}
use Rattle.comp_worlds.specs.Groups.{Nesting, Options, Group, Config, World, Ports}
use Rattle.comp_worlds.specs.Locals.{Local, also, gives_in, with_store, has_place, is_granted, writes, flat_word}
use Rattle.comp_worlds.specs.Calls.{pick, set as set_config, with_config, on_end, on, Run, asks_for, stores}
use Rattle.comp_frames.specs.Within.{StayWithin, IsRoomy}
use Rattle.comp_frames.specs.Left.{config_with, world_with, does_left, goes_granted, does_due, goes_from}
use Rattle.comp_frames.proofs.Acts.{nothing_before, then_then, then_same}
use Rattle.comp_frames.proofs.Rooms.{stays_within, flat_within, grown_within}
use Rattle.comp_frames.proofs.Settles.{settles, granted_within}

-- ---- the same world again

pick_same : {A : Type 0} → (b : Bool) (x : A) → pick b x x ≡ x
pick_same true x = refl
pick_same false x = refl

pick_twice : {A : Type 0} → (b : Bool) (x y z : A) → pick b x (pick b y z) ≡ pick b x z
pick_twice true x y z = refl
pick_twice false x y z = refl

pick_here : {A : Type 0} → (b : Bool) (x y : A) → b ≡ true → pick b x y ≡ x
pick_here b x y e = ap (λ c. pick c x y) e

module _ {S : Type 0} (w : World S) (k : ℕ) where
  same_configs : (m : ℕ) → set_config w.configs k (w.configs k) m ≡ w.configs m
  same_configs m = go (m == k) refl
    where
      go : (b : Bool) → (m == k) ≡ b → pick b (w.configs k) (w.configs m) ≡ w.configs m
      go true e = ap w.configs (sym (let same : m ≡ k = grind (arith, nat_tests) in same))
      go false e = refl

  pub same_world : with_config w k (w.configs k) ≡ w
  same_world = ap (λ (f : ℕ → Config ℕ). let v : World S = record { configs = f; below = w.below } in v) (fun_ext same_configs)

  pub here : (c : Config ℕ) → (with_config w k c).configs k ≡ c
  here c = pick_here (k == k) c (w.configs k) (grind (arith, nat_tests))

  pub world_twice : (c e : Config ℕ) → with_config (with_config w k c) k e ≡ with_config w k e
  world_twice c e = ap (λ (f : ℕ → Config ℕ). let v : World S = record { configs = f; below = w.below } in v) (fun_ext (λ m. pick_twice (m == k) e c (w.configs m)))

set_twice : {A : Type 0} → (xs : List A) (i : ℕ) (x y : A) → set (set xs i x) i y ≡ set xs i y
set_twice [] i x y = refl
set_twice (z ∷ zs) zero x y = refl
set_twice (z ∷ zs) (suc i) x y = ap (λ (ys : List _). z ∷ ys) (set_twice zs i x y)

module _ {S : Type 0} (k at : ℕ) where
  -- a memory is put where it was
  pub world_stays : (w : World S) → world_with w k at (memory_at (w.configs k).store at) ≡ w
  world_stays w =
      let c : Config ℕ = w.configs k in
      ap (λ ms. with_config w k (with_store c (record c.store { memories = ms }))) (set-get_or c.store.memories at (fresh 0 None)) ∙ same_world w k

  pub memory_here : (w : World S) (m : Linear) → at < length (w.configs k).store.memories → memory_at ((world_with w k at m).configs k).store at ≡ m
  memory_here w m lt = ap (λ (c : Config ℕ). memory_at c.store at) (here w k (config_with (w.configs k) at m)) ∙ get_or-set_same (w.configs k).store.memories at m (fresh 0 None) lt

  pub as_long : (w : World S) (m : Linear) → length ((world_with w k at m).configs k).store.memories ≡ length (w.configs k).store.memories
  as_long w m = ap (λ (c : Config ℕ). length c.store.memories) (here w k (config_with (w.configs k) at m)) ∙ length-set (w.configs k).store.memories at m

  pub put_twice : (w : World S) (m m' : Linear) → world_with (world_with w k at m) k at m' ≡ world_with w k at m'
  put_twice w m m' =
      ap (λ (c : Config ℕ). with_config (world_with w k at m) k (config_with c at m')) (here w k (config_with (w.configs k) at m))
      ∙ ap (λ ms. with_config (world_with w k at m) k (with_store (w.configs k) (record (w.configs k).store { memories = ms }))) (set_twice (w.configs k).store.memories at m m')
      ∙ world_twice w k (config_with (w.configs k) at m) (config_with (w.configs k) at m')

-- a test of an instance, and what comes after it
pub on_test : {S A B : Type 0} → (k : ℕ) (c : Bool) (a : A) (go : A → Act (World S) B) (w : World S) (n : ℕ) (op : Config ℕ → Option (Local ℕ A)) → op (w.configs k) ≡ also c (Some (gives_in a (w.configs k))) →
    (on k op >> go) w n ≡ pick c (go a w n) (Over [] Trapped)
unfolding ◌>>◌ on
on_test {S} {A} {B} k c a go w n op is = ap (λ (o : Option (Local ℕ A)). then_do (on_end w k n o) go) is ∙ at c
  where
    at : (c : Bool) → then_do (on_end w k n (also c (Some (gives_in a (w.configs k))))) go ≡ pick c (go a w n) (Over [] Trapped)
    at true = nothing_before (go a (with_config w k (w.configs k)) n) ∙ ap (λ v. go a v n) (same_world w k)
    at false = refl

-- ---- a flat value that is known, and one that has no answer

flat_alone : (x : FlatItem) → flat_word [] x ≡ number_in x
flat_alone (Number n) = refl
flat_alone (AnswerTo k) = refl

flats_alone : (xs : List FlatItem) → map (flat_word []) xs ≡ map number_in xs
flats_alone [] = refl
flats_alone (x ∷ xs) = ap (λ (n : ℕ). n ∷ map (flat_word []) xs) (flat_alone x) ∙ ap (λ (ns : List ℕ). number_in x ∷ ns) (flats_alone xs)

within_is : (m : Linear) (place len : ℕ) → place + len ≤ length m.bytes → is_within m place len ≡ true
within_is m place len le = grind (arith, nat_tests)

-- ---- where steps lead

pub keeps_length : (m : Linear) (place : ℕ) (bytes : List ℕ) → place + length bytes ≤ length m.bytes → length (written m place bytes).bytes ≡ length m.bytes
keeps_length m place bytes le = length_replaced m.bytes place bytes le

-- after a request what is left stays within its room
pub asks_within : (flats : List FlatItem) (steps : List Step) (m : Linear) (align len : ℕ) (left : Lowered) (new : Linear) → StayWithin (Some (length m.bytes)) [] steps → goes flats steps m ≡ Asks align len left new →
    StayWithin (Some (length m.bytes)) (len ∷ []) left.steps × (length new.bytes ≡ length m.bytes)
asks_within flats [] m align len left new h e = absurd (cc)
asks_within flats (Ask a l ∷ steps) m align len left new h e =
    let lens : l ≡ len = cc in
    let lefts : (let x : Lowered = record { steps = steps; flats = flats } in x) ≡ left = cc in
    let same : m ≡ new = cc in
    (subst (λ (x : Lowered). StayWithin (Some (length m.bytes)) (len ∷ []) x.steps) lefts (subst (λ n. StayWithin (Some (length m.bytes)) (n ∷ []) steps) lens h), ap (λ (x : Linear). length x.bytes) (sym same))
asks_within flats (Write Target place bytes ∷ steps) m align len left new h e =
    let long = keeps_length m place bytes h.0 in
    let go = asks_within flats steps (written m place bytes) align len left new (subst (λ n. StayWithin (Some n) [] steps) (sym long) h.1)
    (ap (λ b. if b then goes flats steps (written m place bytes) else Traps m) (sym (within_is m place (length bytes) h.0)) ∙ e) in
    (subst (λ n. StayWithin (Some n) (len ∷ []) left.steps) long go.0, go.1 ∙ long)
asks_within flats (Write (Answer j) place bytes ∷ steps) m align len left new h e = absurd (omega (arith, h.0.0))
asks_within flats (Place b place request ∷ steps) m align len left new h e = absurd (omega (arith, h.1))
asks_within flats (Refuse ∷ steps) m align len left new h e = absurd (cc)

module _ {S : Type 0} (G : Group) (p : Ports S) (run : Run S) (d : Nesting) (k at : ℕ) (realloc : Option ℕ) where
  abbrev options : Options
  options = record { memory = Some at; realloc = realloc }

  -- what comes where a plan halts does not ask what the memory was
  from_again : (w : World S) (m : Linear) (h : Halt) (n : ℕ) → goes_from G p run d k options at h (world_with w k at m) n ≡ goes_from G p run d k options at h w n
  from_again w m (Asks align len left new) n = ap (λ v. (asks_for G p run d k realloc align len >> λ results. goes_granted G p run d k options align len left (words results)) v n) (put_twice k at w m new)
  from_again w m (Ends flats new) n = ap (λ v. Next [] n v (map number_in flats)) (put_twice k at w m new)
  from_again w m (Traps new) n = refl

  none_left : (flats : List FlatItem) (w : World S) (n : ℕ) → does_left G p run d k options (record { steps = []; flats = flats }) w n ≡ Next [] n w (map number_in flats)
  unfolding ◌>>◌ gives
  none_left flats w n = ap (λ ns. Next [] n w ns) (flats_alone flats)

  refused : (flats : List FlatItem) (steps : List Step) (w : World S) (n : ℕ) → does_left G p run d k options (record { steps = Refuse ∷ steps; flats = flats }) w n ≡ Over [] Trapped
  unfolding ◌>>◌ traps
  refused flats steps w n = refl

  write_goes : (place : ℕ) (bytes : List ℕ) (f : Act (World S) (List ℕ)) (w : World S) (n : ℕ) →
      (on k (writes options place bytes) >> λ _. f) w n ≡ f (world_with w k at (written (memory_at (w.configs k).store at) place bytes)) n
  unfolding ◌>>◌ on
  write_goes place bytes f w n = nothing_before _

  one_write : (place : ℕ) (bytes : List ℕ) (flats : List FlatItem) (steps : List Step) (w : World S) (n : ℕ) →
      does_left G p run d k options (record { steps = Write Target place bytes ∷ steps; flats = flats }) w n
      ≡ does_left G p run d k options (record { steps = steps; flats = flats }) (world_with w k at (written (memory_at (w.configs k).store at) place bytes)) n
  one_write place bytes flats steps w n =
      then_then (on k (writes options (0 + place) bytes)) (λ _. stores G p run d k options 0 [] steps) (λ all. gives (map (flat_word all) flats)) w n
      ∙ write_goes (0 + place) bytes (does_left G p run d k options (record { steps = steps; flats = flats })) w n
      ∙ ap (λ q. does_left G p run d k options (record { steps = steps; flats = flats }) (world_with w k at (written (memory_at (w.configs k).store at) q bytes)) n) (let e : 0 + place ≡ place = omega arith in e)

  behind_request : (align len : ℕ) (flats : List FlatItem) (steps : List Step) (w : World S) (n : ℕ) →
      does_left G p run d k options (record { steps = Ask align len ∷ steps; flats = flats }) w n
      ≡ (asks_for G p run d k realloc align len >> λ results. goes_granted G p run d k options align len (record { steps = steps; flats = flats }) (words results)) w n
  behind_request align len flats steps w n =
      then_then (asks_for G p run d k realloc align len) _ (λ all. gives (map (flat_word all) flats)) w n
      ∙ then_same (asks_for G p run d k realloc align len) _ (λ results. goes_granted G p run d k options align len (record { steps = steps; flats = flats }) (words results)) w n (λ results w' l.
      then_then (on k (is_granted options align len (words results))) _ (λ all. gives (map (flat_word all) flats)) w' l
      ∙ then_same (on k (is_granted options align len (words results))) _ (λ a. does_left G p run d k options (answered a (record { steps = steps; flats = flats }))) w' l (λ a w'' l'. settles G p run d k options 0 (a ∷ []) [] steps flats w'' l'))

  pub halts : (flats : List FlatItem) (steps : List Step) (w : World S) (n : ℕ) → at < length (w.configs k).store.memories → StayWithin (Some (length (memory_at (w.configs k).store at).bytes)) [] steps →
      does_left G p run d k options (record { steps = steps; flats = flats }) w n ≡ goes_from G p run d k options at (goes flats steps (memory_at (w.configs k).store at)) w n
  halts flats [] w n lt h = none_left flats w n ∙ ap (λ v. Next [] n v (map number_in flats)) (sym (world_stays k at w))
  halts flats (Ask align len ∷ steps) w n lt h =
      behind_request align len flats steps w n
      ∙ ap (λ v. (asks_for G p run d k realloc align len >> λ results. goes_granted G p run d k options align len (record { steps = steps; flats = flats }) (words results)) v n) (sym (world_stays k at w))
  halts flats (Write Target place bytes ∷ steps) w n lt h =
      let m : Linear = memory_at (w.configs k).store at in
      let m' : Linear = written m place bytes in
      let v : World S = world_with w k at m' in
      let there : memory_at (v.configs k).store at ≡ m' = memory_here k at w m' lt in
      let long : length (memory_at (v.configs k).store at).bytes ≡ length m.bytes = ap (λ (x : Linear). length x.bytes) there ∙ keeps_length m place bytes h.0 in
      let lt' : at < length (v.configs k).store.memories = subst (λ i. at < i) (sym (as_long k at w m')) lt in
      one_write place bytes flats steps w n ∙ halts flats steps v n lt' (subst (λ i. StayWithin (Some i) [] steps) (sym long) h.1)
      ∙ ap (λ x. goes_from G p run d k options at (goes flats steps x) v n) there ∙ from_again w m' (goes flats steps m') n
      ∙ ap (λ b. goes_from G p run d k options at (if b then goes flats steps m' else Traps m) w n) (sym (within_is m place (length bytes) h.0))
  halts flats (Write (Answer j) place bytes ∷ steps) w n lt h = absurd (omega (arith, h.0.0))
  halts flats (Place b place request ∷ steps) w n lt h = absurd (omega (arith, h.1))
  halts flats (Refuse ∷ steps) w n lt h = refused flats steps w n

  -- ---- what is due

  tested_as : (c : Bool) (left : Lowered) (w : World S) (n : ℕ) → at < length (w.configs k).store.memories → (c ≡ true → StayWithin (Some (length (memory_at (w.configs k).store at).bytes)) [] left.steps) →
      pick c (does_left G p run d k options left w n) (Over [] Trapped) ≡ goes_from G p run d k options at (tested c left (memory_at (w.configs k).store at)) w n
  tested_as true left w n lt h = halts left.flats left.steps w n lt (h refl)
  tested_as false left w n lt h = refl

  room_is : (place align len : ℕ) (c : Config ℕ) → (is_aligned place align && nat_le (place + len) (length (memory_at c.store at).bytes)) ≡ is_room (memory_at c.store at) align len place
  room_is place align len c = refl

  room_true : (m : Linear) (align len place : ℕ) → is_room m align len place ≡ true → place + len ≤ length m.bytes
  room_true m align len place h = grind (arith, nat_tests)

  refused_due : (w : World S) (n : ℕ) → traps {W = World S} {A = List ℕ} w n ≡ Over [] Trapped
  unfolding traps
  refused_due w n = refl

  pub goes_on_as : (due : Due) (left : Lowered) (answer : Option ℕ) (w : World S) (n : ℕ) → at < length (w.configs k).store.memories → IsRoomy (length (memory_at (w.configs k).store at).bytes) due left →
      does_due G p run d k options due left answer w n ≡ goes_from G p run d k options at (goes_on due left answer (memory_at (w.configs k).store at)) w n
  goes_on_as Nothing left answer w n lt h = halts left.flats left.steps w n lt h
  goes_on_as (Given place align len) left answer w n lt h =
      let m : Linear = memory_at (w.configs k).store at in
      on_test k (is_room m align len place) tt (λ _. does_left G p run d k options left) w n (has_place options align len place) refl
      ∙ tested_as (is_room m align len place) left w n lt (λ t. h (length m.bytes) (room_true m align len place t))
  goes_on_as (Asked align len) left None w n lt h = refused_due w n
  goes_on_as (Asked align len) left (Some place) w n lt h =
      let m : Linear = memory_at (w.configs k).store at in
      on_test k (is_room m align len place) place (λ a. does_left G p run d k options (answered a left)) w n (is_granted options align len (place ∷ [])) refl
      ∙ tested_as (is_room m align len place) (answered place left) w n lt (λ t. granted_within (length m.bytes) (length m.bytes) len place [] left.steps (omega arith) (room_true m align len place t) h)

-- ---- a plan begins with room, and keeps it

pub begins_within : (memory place : ℕ) (ty : Plain) (v : PlainValue) → IsRoomy memory (at_plan place ty v).due (at_plan place ty v).left × IsRoomy memory (flat_plan ty v).due (flat_plan ty v).left × IsRoomy memory (spill_plan ty v).due (spill_plan ty v).left
begins_within memory place ty v = (
  (λ m le.
      subst (StayWithin (Some m) []) (sym (settle-stores place [] ty v Target 0 0))
      (stays_within (Some m) ty [] v Target (place + 0) 0 refl (let e : place + 0 + size ty ≤ m = omega arith in e))),
  flat_within (Some memory) ty [] v 0 refl,
  stays_within (Some memory) ty (size ty ∷ []) v (Answer 0) 0 1 refl (omega arith, omega arith),
)

pub keeps_within : (due : Due) (left after : Lowered) (answer : Option ℕ) (align len grown : ℕ) (m new : Linear) → IsRoomy (length m.bytes) due left → goes_on due left answer m ≡ Asks align len after new → length m.bytes ≤ grown →
    IsRoomy grown (Asked align len) after × (length new.bytes ≡ length m.bytes)
keeps_within due left after answer align len grown m new h e le = (grown_within (length m.bytes) grown (len ∷ []) after.steps le both.0, both.1)
  where
    room_true : (align len place : ℕ) → is_room m align len place ≡ true → place + len ≤ length m.bytes
    room_true align len place h = grind (arith, nat_tests)

    test : (c : Bool) (l : Lowered) → (c ≡ true → StayWithin (Some (length m.bytes)) [] l.steps) → tested c l m ≡ Asks align len after new → StayWithin (Some (length m.bytes)) (len ∷ []) after.steps × (length new.bytes ≡ length m.bytes)
    test true l h e = asks_within l.flats l.steps m align len after new (h refl) e
    test false l h e = absurd (cc)

    of : (due : Due) (answer : Option ℕ) → IsRoomy (length m.bytes) due left → goes_on due left answer m ≡ Asks align len after new → StayWithin (Some (length m.bytes)) (len ∷ []) after.steps × (length new.bytes ≡ length m.bytes)
    of Nothing answer h e = asks_within left.flats left.steps m align len after new h e
    of (Given place a l) answer h e = test (is_room m a l place) left (λ t. h (length m.bytes) (room_true a l place t)) e
    of (Asked a l) None h e = absurd (cc)
    of (Asked a l) (Some place) h e = test (is_room m a l place) (answered place left) (λ t. granted_within (length m.bytes) (length m.bytes) l place [] left.steps (omega arith) (room_true a l place t) h) e

    both : StayWithin (Some (length m.bytes)) (len ∷ []) after.steps × (length new.bytes ≡ length m.bytes)
    both = of due answer h e
