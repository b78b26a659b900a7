-- The component that keeps a table in the host's place computes, and stands to it as the law asks.
use Rattle.std.proofs.Common.{◌≡◌, ◌⊎◌, inl, inr, ℕ, suc, ◌<◌, ◌&&◌, ◌||◌, nat_eq, cond, List, [], ◌∷◌, length, Option, Some, None, Bool, true, false, refl, sym, ◌∙◌, ap, subst, arith}
use Rattle.std.specs.Prelude.{codes}
use Rattle.std.proofs.Math.Path.{fun_ext}
use Rattle.std.proofs.lemmas.Bool.{eqb-true, eq-eqb}
use Rattle.wit_types.specs.Plain.{PlainFunc, OwnType, BorrowType, End as NoParts, More as Param}
use Rattle.wit_types.specs.PlainValue.{PlainValue, BoolValue, IntValue, CharValue, StringValue, ListValue, RecordValue, VariantValue, FlagsValue, HandleValue, End as NoValues, More as Values}
use Rattle.wit_types.specs.HasType.{is_of}
use Rattle.host_port.specs.declared.call.Resource.{Resource}
use Rattle.host_port.specs.Calls.{PlainObservation, Called}
use Rattle.host_port.specs.Untyped.{Untyped}
use Rattle.host_port.specs.Scripts.{Traps, NoValue, AValue, Script, script}
use Rattle.comp_worlds.specs.Acts.{Trapped, ScriptEnded, BadAnswer, Out, Next, Over, Spent, ◌>>◌, gives, traps, spent, takes_step, with_more, shows}
use Rattle.comp_worlds.specs.Passing.{Handle, Passed, params_tuple, answer_tuple, handles_of}
use Rattle.comp_worlds.specs.Groups.{Endless, Import, Lifting, Mine, Theirs, Func, LoweredFunc, ResourceNew, ResourceDrop, Group, Config, World, Due, Nothing, Served, Below, Answer, Origin, Inside, Outside, Ports}
use Rattle.comp_worlds.specs.Locals.{exit}
use Rattle.comp_worlds.specs.Calls.{set, on, below, core, store_of, finds_room, post_returns, runs, deep_enough, group}
use Rattle.comp_worlds.specs.Hosts.{answered_by, reacts, loses, stays, hosted}
use Rattle.comp_worlds.specs.Observed.{runs_calls}
use Rattle.comp_worlds.specs.Parts.{DropsSome}
use Rattle.comp_worlds.specs.Related.{Both, one_of, two_of, passed_over, EachHandle, Meet, Alike, Answered as HasAnswered, Left, Gone, Good, Asks, PassesAll, Related, Opens}
use Rattle.comp_worlds.proofs.Maps.{some_is}
use Rattle.comp_worlds.proofs.Joint.{set_all}
use Rattle.comp_link.specs.Linking.{Givens, GivenFunc, GivenInstance, GivenResource, Nothing as NoneGiven, Giving, known_in, canon_in, owner_in, target_in, resource_of, exported, group_of}
use Rattle.comp_link.specs.Laws.{is_of_imports}
use Rattle.link_rows.specs.Places.{Books, tick, holds, reads_if, frees, keeper, opening, adapter, app, make, read, of_table, instance_at, Stands, Idle, Returns, Answered, Held, PlacesExamples}
use Rattle.link_rows.proofs.Taking.{not_theirs}

pub places_examples : PlacesExamples
unfolding ◌>>◌ gives traps spent takes_step with_more shows on below core store_of finds_room deep_enough reacts loses stays runs_calls script
places_examples = record { once = refl; adapted = refl; full = refl; full_too = refl; asks_make = refl; asks_read = refl; drops = refl; host_answers = refl; is_not_answered = refl; is_not_asked = refl }

-- ---- the two worlds, where the component's instance is known

abbrev books : ℕ → Option ℕ → Option ℕ → Script → Books
books next first second items = record { next = next; first = first; second = second; script = items }

abbrev world : (ℕ → Config ℕ) → Bool → Option ℕ → Bool → Option ℕ → Option ℕ → Script → World Script
world others entered deepest used first second items = record { configs = set others 0 (instance_at entered deepest used first second); below = items }

-- numbers are old and differ
abbrev Old : ℕ → Option ℕ → Type 0
Old next o = (id : ℕ) → o ≡ Some id → id < next

abbrev Differ : Option ℕ → Option ℕ → Type 0
Differ first second = (id : ℕ) → first ≡ Some id → second ≡ Some id → ⊥

stand : (others : ℕ → Config ℕ) (entered : Bool) (deepest : Option ℕ) (used : Bool) (next : ℕ) (first second : Option ℕ) (items : Script) → Old next first → Old next second → Differ first second →
    Stands entered (books next first second items) (world others entered deepest used first second items)
stand others entered deepest used next first second items o1 o2 d = record { deepest = deepest; used = used; here = refl; below = refl; old_first = o1; old_second = o2; differ = d }

-- what holds of all these worlds holds
by_world : (entered : Bool) (Q : Books → World Script → Type 0) →
    ((others : ℕ → Config ℕ) (deepest : Option ℕ) (used : Bool) (next : ℕ) (first second : Option ℕ) (items : Script) → Old next first → Old next second → Differ first second →
    Q (books next first second items) (world others entered deepest used first second items)) →
    (s : Books) (w : World Script) → Stands entered s w → Q s w
by_world entered Q each s w st =
    subst (Q s) (λ k. record { configs = same k; below = (sym st.below) k })
    (each w.configs st.deepest st.used s.next s.first s.second s.script st.old_first st.old_second st.differ)
  where
    same : set w.configs 0 (instance_at entered st.deepest st.used s.first s.second) ≡ w.configs
    same = fun_ext (set_all w.configs 0 (instance_at entered st.deepest st.used s.first s.second) (λ m c. c ≡ w.configs m) (sym st.here) (λ m d. refl))

-- ---- the component's group, written out

abbrev lifting_at : ℕ → PlainFunc → Lifting
lifting_at code ty = record { code = code; ty = ty; options = record { memory = None; realloc = None }; post = None }

abbrev tick_import : Import
tick_import = record { interface = codes "s"; function = codes "tick"; ty = record { params = NoParts; answer = None } }

abbrev table_exports : Givens
table_exports =
    Giving (codes "h") (GivenInstance (
    Giving (codes "r") (GivenResource 0)
    (Giving (codes "make") (GivenFunc (Mine 0 (lifting_at 3 (record { params = NoParts; answer = Some (OwnType 0) }))))
    (Giving (codes "read") (GivenFunc (Mine 0 (lifting_at 4 (record { params = Param (codes "x") (BorrowType 0) NoParts; answer = None }))))
    (Giving (codes "more") (GivenFunc (Mine 0 (lifting_at 5 (record { params = NoParts; answer = None }))))
    NoneGiven)))))
    NoneGiven

abbrev table_group : Group
table_group = record {
  canons = canon_in (record { instance = 0; number = 0; canon = LoweredFunc (Theirs tick_import) (record { memory = None; realloc = None }) } ∷ record { instance = 0; number = 1; canon = ResourceNew 0 } ∷ []);
  owner = owner_in (record { resource = 0; owner = record { instance = 0; destructor = Some 1 } } ∷ []);
  imported = known_in [];
  exports = λ interface name. target_in (exported table_exports interface name);
  given = λ r. resource_of (exported table_exports r.interface r.name);
  stages = (group_of adapter).stages;
}

adapter_is : group_of adapter ≡ table_group
adapter_is = refl

abbrev over_script : Ports (World Script)
over_script = group table_group (hosted script)

-- ---- calls

abbrev Replies : List (Handle Both) → Books → World Script → Import → Books → Answer → World Script → Answer → Type 0
Replies given s w f s' a w' b = HasAnswered of_table Answered Held s w given (answer_tuple f.ty) s' a w' b

abbrev Asked : Books → World Script → Import → Passed Both → Type 0
Asked s w f passed =
    Meet (Replies (handles_of (params_tuple f.ty) passed) s w f) ((hosted keeper).ask Endless Inside f (passed_over one_of passed) s) (over_script.ask Endless Inside f (passed_over two_of passed) w)

abbrev without_values : {R : Type 0} → Passed R
without_values = record { value = RecordValue NoValues; reps = [] }

abbrev with_one : {R : Type 0} → ℕ → R → Passed R
with_one n x = record { value = RecordValue (Values (HandleValue n) NoValues); reps = x ∷ [] }

later : (next : ℕ) (o : Option ℕ) → Old next o → Old (suc next) o
later next o old id e = let less : id < next = old id e in omega (arith, less)

newest : (next : ℕ) → Old (suc next) (Some next)
newest next id e = subst (λ z. z < suc next) (some_is next id e) (omega arith)

none_old : (next : ℕ) → Old next None
none_old next id e = absurd (let q : None ≡ Some id = e in cc)

new_first : (next : ℕ) (o : Option ℕ) → Old next o → Differ (Some next) o
new_first next o old id e e' = let less : id < next = old id e' in let same : next ≡ id = some_is next id e in absurd (omega (arith, less, same))

new_second : (next : ℕ) (o : Option ℕ) → Old next o → Differ o (Some next)
new_second next o old id e e' = let less : id < next = old id e in let same : next ≡ id = some_is next id e' in absurd (omega (arith, less, same))

ours : (r : ℕ) → 1 ≡ r → of_table r ≡ false → ⊥
ours r e away = let q : true ≡ false = ap of_table e ∙ away in cc

-- the one handle that is given
one_of_all : (y : Both) (r : ℕ) (x : Both) → ((1 ≡ r) × (y ≡ x)) ⊎ ⊥ → (1 ≡ r) × (y ≡ x)
one_of_all y r x (inl e) = e
one_of_all y r x (inr none) = absurd none

-- a new handle is answered
given_one : (s s' : Books) (w w' : World Script) (due due' : Due) (x : Both) → Answered s' due w' due' → ((y : Both) → Held s w 1 y → Held s' w' 1 y) → Held s' w' 1 x → (Held s w 1 x → ⊥) →
    Replies [] s w make s' (record { passed = with_one 0 x.one; due = due }) w' (record { passed = with_one 0 x.two; due = due' })
given_one s s' w w' due due' x st keeps there fresh = record {
  answer = with_one 0 x;
  is_first = refl;
  is_second = refl;
  stands = st;
  stay = λ r y hr h unlike. keeps y h;
  come = λ r y g. let e = one_of_all x r y g in record { paired = λ hr. subst (Held s' w' r) e.1 there; equal = λ away. absurd (ours r e.0 away) };
  apart = (λ hr g. g, tt);
  fresh = λ r y hr g h unlike. fresh (subst (Held s w r) (sym (one_of_all x r y g).1) h);
}

-- no handle is
given_none : (given : List (Handle Both)) (s s' : Books) (w w' : World Script) (due due' : Due) → Answered s' due w' due' → ((y : Both) → Held s w 1 y → Held s' w' 1 y) →
    Replies given s w read s' (record { passed = without_values; due = due }) w' (record { passed = without_values; due = due' })
given_none given s s' w w' due due' st keeps = record {
  answer = without_values;
  is_first = refl;
  is_second = refl;
  stands = st;
  stay = λ r y hr h unlike. keeps y h;
  come = λ r y g. absurd g;
  apart = tt;
  fresh = λ r y hr g h unlike. g;
}

-- ---- what the component comes to

abbrev Comes : {A : Type 0} → List PlainObservation → (World Script → A → Type 0) → Out (World Script) A → Type 0
Comes o P (Next o' l w a) = (o ≡ o') × P w a
Comes o P (Over o' e) = ⊥
Comes o P (Spent o') = ⊥

abbrev Reached : Bool → Bool → Option ℕ → Option ℕ → Script → World Script → Type 0
Reached entered used first second items w = (w.configs 0 ≡ instance_at entered None used first second) × (w.below ≡ items)

abbrev Replied : Bool → Option ℕ → Option ℕ → Script → Passed ℕ → World Script → Answer → Type 0
Replied used first second items passed w a = Reached true used first second items w × (a.passed ≡ passed) × Returns a.due

stands_at : (entered used : Bool) (next : ℕ) (first second : Option ℕ) (items : Script) (w : World Script) → Old next first → Old next second → Differ first second → Reached entered used first second items w → Stands entered (books next first second items) w
stands_at entered used next first second items w o1 o2 d r = record { deepest = None; used = used; here = r.0; below = r.1; old_first = o1; old_second = o2; differ = d }

comes_one : (used : Bool) (s : Books) (w : World Script) (next : ℕ) (first second : Option ℕ) (items : Script) (x : Both) → Old next first → Old next second → Differ first second →
    ((y : Both) → Held s w 1 y → Held (books next first second items) w 1 y) → Held (books next first second items) w 1 x → (Held s w 1 x → ⊥) →
    (y : Out (World Script) Answer) → Comes [] (Replied used first second items (with_one 0 x.two)) y → Alike (Replies [] s w make) (Next [] 0 (books next first second items) (record { passed = with_one 0 x.one; due = Nothing })) y
comes_one used s w next first second items x o1 o2 d keeps there fresh (Next o l w' a) c = (
  c.0,
  subst (λ p. Replies [] s w make (books next first second items) (record { passed = with_one 0 x.one; due = Nothing }) w' (record { passed = p; due = a.due })) (sym c.1.1)
      (given_one s (books next first second items) w w' Nothing a.due x (c.1.2, stands_at true used next first second items w' o1 o2 d c.1.0) keeps there fresh),
)
comes_one used s w next first second items x o1 o2 d keeps there fresh (Over o e) c = absurd c
comes_one used s w next first second items x o1 o2 d keeps there fresh (Spent o) c = absurd c

comes_none : (used : Bool) (given : List (Handle Both)) (s : Books) (w : World Script) (items : Script) → Old s.next s.first → Old s.next s.second → Differ s.first s.second → (seen : List PlainObservation) →
    (y : Out (World Script) Answer) → Comes seen (Replied used s.first s.second items without_values) y → Alike (Replies given s w read) (Next seen 0 (books s.next s.first s.second items) (record { passed = without_values; due = Nothing })) y
comes_none used given s w items o1 o2 d seen (Next o l w' a) c = (
  c.0,
  subst (λ p. Replies given s w read (books s.next s.first s.second items) (record { passed = without_values; due = Nothing }) w' (record { passed = p; due = a.due })) (sym c.1.1)
      (given_none given s (books s.next s.first s.second items) w w' Nothing a.due (c.1.2, stands_at true used s.next s.first s.second items w' o1 o2 d c.1.0) (λ y h. h)),
)
comes_none used given s w items o1 o2 d seen (Over o e) c = absurd c
comes_none used given s w items o1 o2 d seen (Spent o) c = absurd c

-- the host is done without a step
meet_at : {A B : Type 0} → (P : Books → A → World Script → B → Type 0) (x : ℕ → Out Books A) (y : ℕ → Out (World Script) B) (x' : Out Books A) → x 0 ≡ x' → Alike P x' (y 40) → Meet P x y
meet_at P x y x' e h = (0, 40, subst (λ z. Alike P z (y 40)) (sym e) h)

-- ---- a handle is made, of the first place that is free

module _ (others : ℕ → Config ℕ) (deepest : Option ℕ) (next : ℕ) (items : Script) where
  takes_first : (used : Bool) (second : Option ℕ) → Comes [] (Replied true (Some next) second items (with_one 0 0)) (over_script.ask Endless Inside make without_values (world others false deepest used None second items) 40)
  unfolding ◌>>◌ gives traps spent takes_step with_more shows on below core store_of finds_room deep_enough reacts loses stays script
  takes_first true second = (refl, ((refl, refl), refl, (refl, refl)))
  takes_first false second = (refl, ((refl, refl), refl, (refl, refl)))

  takes_second : (used : Bool) (n : ℕ) → Comes [] (Replied true (Some n) (Some next) items (with_one 0 1)) (over_script.ask Endless Inside make without_values (world others false deepest used (Some n) None items) 40)
  unfolding ◌>>◌ gives traps spent takes_step with_more shows on below core store_of finds_room deep_enough reacts loses stays script
  takes_second true n = (refl, ((refl, refl), refl, (refl, refl)))
  takes_second false n = (refl, ((refl, refl), refl, (refl, refl)))

  takes_none : (used : Bool) (n m : ℕ) → over_script.ask Endless Inside make without_values (world others false deepest used (Some n) (Some m) items) 40 ≡ Over [] Trapped
  unfolding ◌>>◌ gives traps spent takes_step with_more shows on below core store_of finds_room deep_enough reacts loses stays script
  takes_none used n m = refl

  makes_first : (used : Bool) (second : Option ℕ) → Old next second → Asked (books next None second items) (world others false deepest used None second items) make without_values
  unfolding reacts
  makes_first used second old =
      meet_at (Replies [] (books next None second items) (world others false deepest used None second items) make) ((hosted keeper).ask Endless Inside make without_values (books next None second items)) (over_script.ask Endless Inside make without_values (world others false deepest used None second items)) (Next [] 0 (books (suc next) (Some next) second items) (record { passed = with_one 0 next; due = Nothing })) refl
      (comes_one true (books next None second items) (world others false deepest used None second items) (suc next) (Some next) second items (record { one = next; two = 0 }) (newest next) (later next second old) (new_first next second old) keeps (inl (refl, refl)) fresh _
      (takes_first used second))
    where
      keeps : (y : Both) → Held (books next None second items) (world others false deepest used None second items) 1 y → Held (books (suc next) (Some next) second items) (world others false deepest used None second items) 1 y
      keeps y (inl h) = absurd (let q : None ≡ Some y.one = h.0 in cc)
      keeps y (inr h) = inr h

      fresh : Held (books next None second items) (world others false deepest used None second items) 1 (record { one = next; two = 0 }) → ⊥
      fresh (inl h) = let q : None ≡ Some next = h.0 in cc
      fresh (inr h) = let q : ◌≡◌ {A = ℕ} 0 1 = h.1 in cc

  makes_second : (used : Bool) (n : ℕ) → Old next (Some n) → Asked (books next (Some n) None items) (world others false deepest used (Some n) None items) make without_values
  unfolding reacts
  makes_second used n old =
      meet_at (Replies [] (books next (Some n) None items) (world others false deepest used (Some n) None items) make) ((hosted keeper).ask Endless Inside make without_values (books next (Some n) None items)) (over_script.ask Endless Inside make without_values (world others false deepest used (Some n) None items)) (Next [] 0 (books (suc next) (Some n) (Some next) items) (record { passed = with_one 0 next; due = Nothing })) refl
      (comes_one true (books next (Some n) None items) (world others false deepest used (Some n) None items) (suc next) (Some n) (Some next) items (record { one = next; two = 1 }) (later next (Some n) old) (newest next) (new_second next (Some n) old) keeps (inr (refl, refl)) fresh _
      (takes_second used n))
    where
      keeps : (y : Both) → Held (books next (Some n) None items) (world others false deepest used (Some n) None items) 1 y → Held (books (suc next) (Some n) (Some next) items) (world others false deepest used (Some n) None items) 1 y
      keeps y (inl h) = inl h
      keeps y (inr h) = absurd (let q : None ≡ Some y.one = h.0 in cc)

      fresh : Held (books next (Some n) None items) (world others false deepest used (Some n) None items) 1 (record { one = next; two = 1 }) → ⊥
      fresh (inl h) = let q : ◌≡◌ {A = ℕ} 1 0 = h.1 in cc
      fresh (inr h) = let q : None ≡ Some next = h.0 in cc

  makes_none : (used : Bool) (n m : ℕ) → Asked (books next (Some n) (Some m) items) (world others false deepest used (Some n) (Some m) items) make without_values
  unfolding reacts
  makes_none used n m =
      meet_at (Replies [] (books next (Some n) (Some m) items) (world others false deepest used (Some n) (Some m) items) make) ((hosted keeper).ask Endless Inside make without_values (books next (Some n) (Some m) items)) (over_script.ask Endless Inside make without_values (world others false deepest used (Some n) (Some m) items)) (Over [] Trapped) refl
      (subst (λ z. Alike (Replies [] (books next (Some n) (Some m) items) (world others false deepest used (Some n) (Some m) items) make) (Over [] Trapped) z) (sym (takes_none used n m)) (refl, refl))

makes_one : (others : ℕ → Config ℕ) (deepest : Option ℕ) (used : Bool) (next : ℕ) (first second : Option ℕ) (items : Script) → Old next first → Old next second → Differ first second →
    Asked (books next first second items) (world others false deepest used first second items) make without_values
makes_one others deepest used next None second items o1 o2 d = makes_first others deepest next items used second o2
makes_one others deepest used next (Some n) None items o1 o2 d = makes_second others deepest next items used n o1
makes_one others deepest used next (Some n) (Some m) items o1 o2 d = makes_none others deepest next items used n m

-- ---- a handle is read

-- as the host does it where the test comes out so
abbrev Read_if : Bool → Books → World Script → Passed Both → Type 0
Read_if b s w passed =
    Meet (Replies (handles_of (params_tuple read.ty) passed) s w read)
    (λ n. answered_by (reads_if b s).seen (reads_if b s).next (answer_tuple read.ty) (reads_if b s).answer n) (over_script.ask Endless Inside read (passed_over two_of passed) w)

-- what is asked of the script, and how that ends
abbrev asked : List PlainObservation
asked = Called tick ∷ []

module _ (others : ℕ → Config ℕ) (deepest : Option ℕ) (n : ℕ) where
  -- at a place that is in use
  Reading : Bool → Option ℕ → Option ℕ → ℕ → Type 0
  Reading used first second at =
      (over_script.ask Endless Inside read (with_one n at) (world others false deepest used first second []) 40 ≡ Over asked ScriptEnded)
      × ((rest : Script) → over_script.ask Endless Inside read (with_one n at) (world others false deepest used first second (Traps ∷ rest)) 40 ≡ Over asked Trapped)
      × ((v : Untyped) (rest : Script) → over_script.ask Endless Inside read (with_one n at) (world others false deepest used first second (AValue v ∷ rest)) 40 ≡ Over asked BadAnswer)
      × ((rest : Script) → Comes asked (Replied used first second rest without_values) (over_script.ask Endless Inside read (with_one n at) (world others false deepest used first second (NoValue ∷ rest)) 40))

  at_first : (used : Bool) (id : ℕ) (second : Option ℕ) → Reading used (Some id) second 0
  unfolding ◌>>◌ gives traps spent takes_step with_more shows on below core store_of finds_room deep_enough reacts loses stays script Reading
  at_first true id second = (refl, λ rest. refl, λ v rest. refl, λ rest. (refl, ((refl, refl), refl, (refl, refl))))
  at_first false id second = (refl, λ rest. refl, λ v rest. refl, λ rest. (refl, ((refl, refl), refl, (refl, refl))))

  at_second : (used : Bool) (id : ℕ) (first : Option ℕ) → Reading used first (Some id) 1
  unfolding ◌>>◌ gives traps spent takes_step with_more shows on below core store_of finds_room deep_enough reacts loses stays script Reading
  at_second true id first = (refl, λ rest. refl, λ v rest. refl, λ rest. (refl, ((refl, refl), refl, (refl, refl))))
  at_second false id first = (refl, λ rest. refl, λ v rest. refl, λ rest. (refl, ((refl, refl), refl, (refl, refl))))

  abbrev Reads : Bool → ℕ → Option ℕ → Option ℕ → Both → Script → Books → Answer → World Script → Answer → Type 0
  Reads used next first second x items = Replies (handles_of (params_tuple read.ty) (with_one n x)) (books next first second items) (world others false deepest used first second items) read

  abbrev Host_reads : ℕ → Option ℕ → Option ℕ → Script → ℕ → Out Books Answer
  Host_reads next first second items left =
      answered_by (reads_if true (books next first second items)).seen (reads_if true (books next first second items)).next (answer_tuple read.ty) (reads_if true (books next first second items)).answer left

  abbrev Table_reads : Bool → Option ℕ → Option ℕ → ℕ → Script → ℕ → Out (World Script) Answer
  Table_reads used first second at items = over_script.ask Endless Inside read (with_one n at) (world others false deepest used first second items)

  -- the script answers the two alike
  reads_at : (used : Bool) (next : ℕ) (first second : Option ℕ) (x : Both) (items : Script) → Old next first → Old next second → Differ first second → Reading used first second x.two →
      Read_if true (books next first second items) (world others false deepest used first second items) (with_one n x)
  unfolding Reading
  reads_at used next first second x [] o1 o2 d r =
      meet_at (Reads used next first second x []) (Host_reads next first second []) (Table_reads used first second x.two []) (Over asked ScriptEnded) refl (subst (λ z. Alike (Reads used next first second x []) (Over asked ScriptEnded) z) (sym r.0) (refl, refl))
  reads_at used next first second x (Traps ∷ rest) o1 o2 d r =
      meet_at (Reads used next first second x (Traps ∷ rest)) (Host_reads next first second (Traps ∷ rest)) (Table_reads used first second x.two (Traps ∷ rest)) (Over asked Trapped) refl (subst (λ z. Alike (Reads used next first second x (Traps ∷ rest)) (Over asked Trapped) z) (sym (r.1 rest)) (refl, refl))
  reads_at used next first second x (AValue v ∷ rest) o1 o2 d r =
      meet_at (Reads used next first second x (AValue v ∷ rest)) (Host_reads next first second (AValue v ∷ rest)) (Table_reads used first second x.two (AValue v ∷ rest)) (Over asked BadAnswer) refl (subst (λ z. Alike (Reads used next first second x (AValue v ∷ rest)) (Over asked BadAnswer) z) (sym (r.2 v rest)) (refl, refl))
  reads_at used next first second x (NoValue ∷ rest) o1 o2 d r =
      meet_at (Reads used next first second x (NoValue ∷ rest)) (Host_reads next first second (NoValue ∷ rest)) (Table_reads used first second x.two (NoValue ∷ rest)) (Next asked 0 (books next first second rest) (record { passed = without_values; due = Nothing })) refl
      (comes_none used (handles_of (params_tuple read.ty) (with_one n x)) (books next first second (NoValue ∷ rest)) (world others false deepest used first second (NoValue ∷ rest)) rest o1 o2 d asked _ (r.3 rest))

or_true : (a : Bool) → (a || true) ≡ true
or_true true = refl
or_true false = refl

same_pair : (x y : Both) (id p : ℕ) → Some id ≡ Some y.one → y.two ≡ p → record { one = id; two = p } ≡ y
same_pair x y id p e z = λ k. record { one = (some_is id y.one e) k; two = (sym z) k }

reads_one : (n : ℕ) (x : Both) (others : ℕ → Config ℕ) (deepest : Option ℕ) (used : Bool) (next : ℕ) (first second : Option ℕ) (items : Script) → Old next first → Old next second → Differ first second →
    Held (books next first second items) (world others false deepest used first second items) 1 x → Asked (books next first second items) (world others false deepest used first second items) read (with_one n x)
unfolding reacts
reads_one n x others deepest used next None second items o1 o2 d (inl (e, z)) = absurd (let q : None ≡ Some x.one = e in cc)
reads_one n x others deepest used next (Some id) second items o1 o2 d (inl (e, z)) =
    subst (λ y. Asked (books next (Some id) second items) (world others false deepest used (Some id) second items) read (with_one n y)) (same_pair x x id 0 e z)
    (subst (λ b. Read_if b (books next (Some id) second items) (world others false deepest used (Some id) second items) (with_one n (record { one = id; two = 0 }))) (ap (λ b. b || holds second id) (sym (eq-eqb id id refl)))
    (reads_at others deepest n used next (Some id) second (record { one = id; two = 0 }) items o1 o2 d (at_first others deepest n used id second)))
reads_one n x others deepest used next first None items o1 o2 d (inr (e, z)) = absurd (let q : None ≡ Some x.one = e in cc)
reads_one n x others deepest used next first (Some id) items o1 o2 d (inr (e, z)) =
    subst (λ y. Asked (books next first (Some id) items) (world others false deepest used first (Some id) items) read (with_one n y)) (same_pair x x id 1 e z)
    (subst (λ b. Read_if b (books next first (Some id) items) (world others false deepest used first (Some id) items) (with_one n (record { one = id; two = 1 }))) (sym (ap (λ b. holds first id || b) (eq-eqb id id refl) ∙ or_true (holds first id)))
    (reads_at others deepest n used next first (Some id) (record { one = id; two = 1 }) items o1 o2 d (at_second others deepest n used id first)))

-- ---- a handle is dropped

abbrev its_resource : Resource
its_resource = record { interface = codes "h"; name = codes "r" }

abbrev Lost : Books → World Script → Both → Books → Unit {0} → World Script → Unit {0} → Type 0
Lost s w x s' a w' b = Gone of_table Idle Held s w 1 x s' w'

abbrev Dropped : Books → World Script → Both → Type 0
Dropped s w x = Meet (Lost s w x) ((hosted keeper).drop Endless its_resource x.one s) (over_script.drop Endless its_resource x.two w)

-- as the host does it where the tests come out so
abbrev Drop_if : Bool → Bool → Books → World Script → Both → Type 0
Drop_if b c s w x = Meet (Lost s w x) (λ n. Next [] n (frees b c s) tt) (over_script.drop Endless its_resource x.two w)

abbrev Freed : Bool → Option ℕ → Option ℕ → Script → World Script → Unit {0} → Type 0
Freed used first second items w a = Reached false used first second items w

comes_lost : (used : Bool) (s : Books) (w : World Script) (next : ℕ) (first second : Option ℕ) (items : Script) (x : Both) → Old next first → Old next second → Differ first second →
    ((y : Both) → Held s w 1 y → (x ≡ y → ⊥) → Held (books next first second items) w 1 y) →
    (y : Out (World Script) (Unit {0})) → Comes [] (Freed used first second items) y → Alike (Lost s w x) (Next [] 0 (books next first second items) tt) y
comes_lost used s w next first second items x o1 o2 d keeps (Next o l w' a) c =
    (c.0, record { stands = stands_at false used next first second items w' o1 o2 d c.1; stay = λ r y hr h unlike. keeps y h (λ e. unlike (sym (eqb-true r 1 hr), e)) })
comes_lost used s w next first second items x o1 o2 d keeps (Over o e) c = absurd c
comes_lost used s w next first second items x o1 o2 d keeps (Spent o) c = absurd c

module _ (others : ℕ → Config ℕ) (deepest : Option ℕ) (items : Script) where
  frees_first : (used : Bool) (id : ℕ) (second : Option ℕ) → Comes [] (Freed used None second items) (over_script.drop Endless its_resource 0 (world others false deepest used (Some id) second items) 40)
  unfolding ◌>>◌ gives traps spent takes_step with_more shows on below core store_of finds_room deep_enough reacts loses stays script
  frees_first used id second = (refl, (refl, refl))

  frees_second : (used : Bool) (id : ℕ) (first : Option ℕ) → Comes [] (Freed used first None items) (over_script.drop Endless its_resource 1 (world others false deepest used first (Some id) items) 40)
  unfolding ◌>>◌ gives traps spent takes_step with_more shows on below core store_of finds_room deep_enough reacts loses stays script
  frees_second used id first = (refl, (refl, refl))

  drops_first : (used : Bool) (next id : ℕ) (second : Option ℕ) (c : Bool) → Old next second →
      Drop_if true c (books next (Some id) second items) (world others false deepest used (Some id) second items) (record { one = id; two = 0 })
  drops_first used next id second c old =
      meet_at (Lost (books next (Some id) second items) (world others false deepest used (Some id) second items) (record { one = id; two = 0 })) (λ n. Next [] n (frees true c (books next (Some id) second items)) tt) (over_script.drop Endless its_resource 0 (world others false deepest used (Some id) second items)) (Next [] 0 (books next None second items) tt) refl
      (comes_lost used (books next (Some id) second items) (world others false deepest used (Some id) second items) next None second items (record { one = id; two = 0 }) (none_old next) old (λ i e e'. absurd (let q : None ≡ Some i = e in cc)) keeps _
      (frees_first used id second))
    where
      keeps : (y : Both) → Held (books next (Some id) second items) (world others false deepest used (Some id) second items) 1 y → (record { one = id; two = 0 } ≡ y → ⊥) → Held (books next None second items) (world others false deepest used (Some id) second items) 1 y
      keeps y (inl e) unlike = absurd (unlike (same_pair y y id 0 e.0 e.1))
      keeps y (inr e) unlike = inr e

  drops_second : (used : Bool) (next id : ℕ) (first : Option ℕ) → Old next first →
      Drop_if false true (books next first (Some id) items) (world others false deepest used first (Some id) items) (record { one = id; two = 1 })
  drops_second used next id first old =
      meet_at (Lost (books next first (Some id) items) (world others false deepest used first (Some id) items) (record { one = id; two = 1 })) (λ n. Next [] n (frees false true (books next first (Some id) items)) tt) (over_script.drop Endless its_resource 1 (world others false deepest used first (Some id) items)) (Next [] 0 (books next first None items) tt) refl
      (comes_lost used (books next first (Some id) items) (world others false deepest used first (Some id) items) next first None items (record { one = id; two = 1 }) old (none_old next) (λ i e e'. absurd (let q : None ≡ Some i = e' in cc)) keeps _
      (frees_second used id first))
    where
      keeps : (y : Both) → Held (books next first (Some id) items) (world others false deepest used first (Some id) items) 1 y → (record { one = id; two = 1 } ≡ y → ⊥) → Held (books next first None items) (world others false deepest used first (Some id) items) 1 y
      keeps y (inl e) unlike = inl e
      keeps y (inr e) unlike = absurd (unlike (same_pair y y id 1 e.0 e.1))

-- the first place has not the number of the second
apart : (first : Option ℕ) (id : ℕ) → Differ first (Some id) → holds first id ≡ false
apart None id d = refl
apart (Some n) id d = at (nat_eq n id) refl
  where
    at : (b : Bool) → nat_eq n id ≡ b → b ≡ false
    at true e = absurd (d id (ap Some (eqb-true n id e)) refl)
    at false e = refl

drops_one : (x : Both) (others : ℕ → Config ℕ) (deepest : Option ℕ) (used : Bool) (next : ℕ) (first second : Option ℕ) (items : Script) → Old next first → Old next second → Differ first second →
    Held (books next first second items) (world others false deepest used first second items) 1 x → Dropped (books next first second items) (world others false deepest used first second items) x
unfolding loses
drops_one x others deepest used next None second items o1 o2 d (inl (e, z)) = absurd (let q : None ≡ Some x.one = e in cc)
drops_one x others deepest used next (Some id) second items o1 o2 d (inl (e, z)) =
    subst (λ y. Dropped (books next (Some id) second items) (world others false deepest used (Some id) second items) y) (same_pair x x id 0 e z)
    (subst (λ b. Drop_if b (holds second id) (books next (Some id) second items) (world others false deepest used (Some id) second items) (record { one = id; two = 0 })) (sym (eq-eqb id id refl))
    (drops_first others deepest items used next id second (holds second id) o2))
drops_one x others deepest used next first None items o1 o2 d (inr (e, z)) = absurd (let q : None ≡ Some x.one = e in cc)
drops_one x others deepest used next first (Some id) items o1 o2 d (inr (e, z)) =
    subst (λ y. Dropped (books next first (Some id) items) (world others false deepest used first (Some id) items) y) (same_pair x x id 1 e z)
    (subst (λ b. Drop_if b (nat_eq id id) (books next first (Some id) items) (world others false deepest used first (Some id) items) (record { one = id; two = 1 })) (sym (apart first id d))
    (subst (λ c. Drop_if false c (books next first (Some id) items) (world others false deepest used first (Some id) items) (record { one = id; two = 1 })) (sym (eq-eqb id id refl))
    (drops_second others deepest items used next id first o1)))

-- ---- what the application asks

-- values of these types, and as many handles as they have
no_params : (passed : Passed Both) → is_of (params_tuple make.ty) passed.value ≡ true → PassesAll Inside (params_tuple make.ty) passed → passed ≡ without_values
no_params passed typed all = at passed.value passed.reps typed all
  where
    at : (v : PlainValue) (xs : List Both) → is_of (params_tuple make.ty) v ≡ true → PassesAll Inside (params_tuple make.ty) (record { value = v; reps = xs }) → record { value = v; reps = xs } ≡ without_values
    at (RecordValue NoValues) [] t e = refl
    at (RecordValue NoValues) (x ∷ xs) t e = absurd (let q : suc (length xs) ≡ 0 = e in cc)
    at (RecordValue (Values v vs)) xs t e = absurd (let q : false ≡ true = t in cc)
    at (BoolValue _) xs t e = absurd (let q : false ≡ true = t in cc)
    at (IntValue _) xs t e = absurd (let q : false ≡ true = t in cc)
    at (CharValue _) xs t e = absurd (let q : false ≡ true = t in cc)
    at (StringValue _) xs t e = absurd (let q : false ≡ true = t in cc)
    at (ListValue _) xs t e = absurd (let q : false ≡ true = t in cc)
    at (VariantValue _ _) xs t e = absurd (let q : false ≡ true = t in cc)
    at (FlagsValue _) xs t e = absurd (let q : false ≡ true = t in cc)
    at (HandleValue _) xs t e = absurd (let q : false ≡ true = t in cc)

-- it is a handle alone
abbrev Is : PlainValue → List Both → Type 0
Is v xs = (n : ℕ) × (x : Both) × (with_one n x ≡ record { value = v; reps = xs })

one_param : (passed : Passed Both) → is_of (params_tuple read.ty) passed.value ≡ true → PassesAll Inside (params_tuple read.ty) passed → (n : ℕ) × (x : Both) × (with_one n x ≡ passed)
one_param passed typed all = at passed.value passed.reps typed all
  where
    reps : (n : ℕ) (xs : List Both) → length xs ≡ 1 → Is (RecordValue (Values (HandleValue n) NoValues)) xs
    reps n [] e = absurd (let q : 0 ≡ 1 = e in cc)
    reps n (x ∷ []) e = (n, x, refl)
    reps n (x ∷ y ∷ ys) e = absurd (let q : suc (suc (length ys)) ≡ 1 = e in omega (arith, q))

    first : (v : PlainValue) (vs : _) (xs : List Both) → is_of (params_tuple read.ty) (RecordValue (Values v vs)) ≡ true → PassesAll Inside (params_tuple read.ty) (record { value = RecordValue (Values v vs); reps = xs }) → Is (RecordValue (Values v vs)) xs
    first (HandleValue n) NoValues xs t e = reps n xs e
    first (HandleValue n) (Values u us) xs t e = absurd (let q : false ≡ true = t in cc)
    first (RecordValue _) vs xs t e = absurd (let q : false ≡ true = t in cc)
    first (BoolValue _) vs xs t e = absurd (let q : false ≡ true = t in cc)
    first (IntValue _) vs xs t e = absurd (let q : false ≡ true = t in cc)
    first (CharValue _) vs xs t e = absurd (let q : false ≡ true = t in cc)
    first (StringValue _) vs xs t e = absurd (let q : false ≡ true = t in cc)
    first (ListValue _) vs xs t e = absurd (let q : false ≡ true = t in cc)
    first (VariantValue _ _) vs xs t e = absurd (let q : false ≡ true = t in cc)
    first (FlagsValue _) vs xs t e = absurd (let q : false ≡ true = t in cc)

    at : (v : PlainValue) (xs : List Both) → is_of (params_tuple read.ty) v ≡ true → PassesAll Inside (params_tuple read.ty) (record { value = v; reps = xs }) → Is v xs
    at (RecordValue NoValues) xs t e = absurd (let q : false ≡ true = t in cc)
    at (RecordValue (Values v vs)) xs t e = first v vs xs t e
    at (BoolValue _) xs t e = absurd (let q : false ≡ true = t in cc)
    at (IntValue _) xs t e = absurd (let q : false ≡ true = t in cc)
    at (CharValue _) xs t e = absurd (let q : false ≡ true = t in cc)
    at (StringValue _) xs t e = absurd (let q : false ≡ true = t in cc)
    at (ListValue _) xs t e = absurd (let q : false ≡ true = t in cc)
    at (VariantValue _ _) xs t e = absurd (let q : false ≡ true = t in cc)
    at (FlagsValue _) xs t e = absurd (let q : false ≡ true = t in cc)
    at (HandleValue _) xs t e = absurd (let q : false ≡ true = t in cc)

-- a call with arguments of its types
abbrev Meets : Import → Type 0
Meets f = (s : Books) (w : World Script) (passed : Passed Both) → Idle s w → is_of (params_tuple f.ty) passed.value ≡ true → PassesAll Inside (params_tuple f.ty) passed →
    EachHandle (λ r x. Good of_table Held s w r x) (handles_of (params_tuple f.ty) passed) → Asked s w f passed

make_meets : Meets make
make_meets s w passed st typed all each =
    subst (Asked s w make) (sym (no_params passed typed all)) (by_world false (λ s' w'. Asked s' w' make without_values) makes_one s w st)

read_meets : Meets read
read_meets s w passed st typed all each =
    let is = one_param passed typed all in
    let good : EachHandle (λ r x. Good of_table Held s w r x) (handles_of (params_tuple read.ty) (with_one is.0 is.1)) = subst (λ p. EachHandle (λ r x. Good of_table Held s w r x) (handles_of (params_tuple read.ty) p)) (sym is.2) each in
    subst (Asked s w read) is.2 (by_world false (λ s' w'. Held s' w' 1 is.1 → Asked s' w' read (with_one is.0 is.1)) (reads_one is.0 is.1) s w st (good.0.paired refl))

-- it asks for these two, and drops handles of its one import
abbrev import_of : Option Func → Import → Import
import_of (Some (LoweredFunc (Theirs f) options)) other = f
import_of _ other = other

abbrev dropped_of : Option Func → ℕ
dropped_of (Some (ResourceDrop r)) = r
dropped_of _ = 0

asks_two : (P : Import → Type 0) → P make → P read → (f : Import) → Asks (group_of app) Inside f → P f
asks_two P pm pr f (k, n, options, is) = go (nat_eq 0 k && nat_eq 0 n) (nat_eq 0 k && nat_eq 1 n) (nat_eq 0 k && nat_eq 2 n) is
  where
    go : (a b c : Bool) → cond a ((group_of app).canons 0 0) (cond b ((group_of app).canons 0 1) (cond c ((group_of app).canons 0 2) None)) ≡ Some (LoweredFunc (Theirs f) options) → P f
    go true b c is' = subst P (ap (λ z. import_of z f) is') pm
    go false true c is' = subst P (ap (λ z. import_of z f) is') pr
    go false false true is' = absurd (let q : (group_of app).canons 0 2 ≡ Some (LoweredFunc (Theirs f) options) = is' in cc)
    go false false false is' = absurd (let q : None ≡ Some (LoweredFunc (Theirs f) options) = is' in cc)

drops_its : (r : ℕ) → DropsSome (group_of app) r → 1 ≡ r
drops_its r (k, n, is) = go (nat_eq 0 k && nat_eq 0 n) (nat_eq 0 k && nat_eq 1 n) (nat_eq 0 k && nat_eq 2 n) is
  where
    go : (a b c : Bool) → cond a ((group_of app).canons 0 0) (cond b ((group_of app).canons 0 1) (cond c ((group_of app).canons 0 2) None)) ≡ Some (ResourceDrop r) → 1 ≡ r
    go true b c is' = absurd (let q : (group_of app).canons 0 0 ≡ Some (ResourceDrop r) = is' in cc)
    go false true c is' = absurd (let q : (group_of app).canons 0 1 ≡ Some (ResourceDrop r) = is' in cc)
    go false false true is' = ap dropped_of is'
    go false false false is' = absurd (let q : None ≡ Some (ResourceDrop r) = is' in cc)

asked_alike : (from : Origin) (s : Books) (w : World Script) (f : Import) (passed : Passed Both) → Asks (group_of app) from f → Idle s w → is_of (params_tuple f.ty) passed.value ≡ true → PassesAll from (params_tuple f.ty) passed →
    EachHandle (λ r x. Good of_table Held s w r x) (handles_of (params_tuple f.ty) passed) →
    Meet (Replies (handles_of (params_tuple f.ty) passed) s w f) ((hosted keeper).ask Endless from f (passed_over one_of passed) s) (over_script.ask Endless from f (passed_over two_of passed) w)
asked_alike Inside s w f passed asked st typed all each = asks_two Meets make_meets read_meets f asked s w passed st typed all each
asked_alike Outside s w f passed (interface, name, is) st typed all each = absurd (not_theirs _ _ interface name f is)

left_alike : (s : Books) (due : Due) (w : World Script) (due' : Due) → Answered s due w due' → Meet (λ s' a w' b. Left of_table Idle Held s w s' w') ((hosted keeper).leave Endless due s) (over_script.leave Endless due' w)
unfolding ◌>>◌ gives on deep_enough stays
left_alike s due w Nothing (returns, st) = absurd returns
left_alike s due w (Below due') (returns, st) = absurd returns
left_alike s due w (Served k lifting results) ((at, post), st) =
    subst (λ i. Meet (λ s' a w' b. Left of_table Idle Held s w s' w') ((hosted keeper).leave Endless due s) (over_script.leave Endless (Served i lifting results) w)) (sym at)
    (subst (λ o. Meet (λ s' a w' b. Left of_table Idle Held s w s' w') ((hosted keeper).leave Endless due s) (deep_enough (λ fuel. post_returns table_group (hosted script) (runs table_group (hosted script) fuel) Endless 0 results o >> λ _. on 0 exit) w)) (sym post) (
      0,
      1,
      (
        refl,
        record {
          stands = record { deepest = st.deepest; used = st.used; here = ap (λ c. record { store = c.store; map = c.map; entered = false; closed = c.closed }) st.here; below = st.below; old_first = st.old_first; old_second = st.old_second; differ = st.differ };
          stay = λ r x hr h. h;
        },
      ),
    ))

table_related : Related (group_of app) of_table (hosted keeper) over_script Idle Answered Held
table_related = record {
  asks = λ from s w f passed asks st typed all each once lent. asked_alike from s w f passed asks st typed all each;
  leaves = left_alike;
  drops = λ s w r x dropped none st good.
      let is = drops_its r dropped in
      subst (λ i. Good of_table Held s w i x → Meet (λ s' a w' b. Gone of_table Idle Held s w i x s' w') ((hosted keeper).drop Endless ((group_of app).imported i) x.one s) (over_script.drop Endless ((group_of app).imported i) x.two w)) is
      (λ g. by_world false (λ s' w'. Held s' w' 1 x → Dropped s' w' x) (drops_one x) s w st (g.paired refl)) good;
}

pub places_related : Related (group_of app) of_table (hosted keeper) (group (group_of adapter) (hosted script)) Idle Answered Held
places_related = subst (λ G. Related (group_of app) of_table (hosted keeper) (group G (hosted script)) Idle Answered Held) (sym adapter_is) table_related

-- its resource is one of its imports
pub within_imports : (r : ℕ) → of_table r ≡ true → is_of_imports app r ≡ true
within_imports r is = subst (λ z. is_of_imports app z ≡ true) (sym (eqb-true r 1 is)) refl

-- the component is made: two modules
pub places_open : (items : Script) → Opens (group_of adapter ∷ []) keeper script Idle (opening items) items
unfolding ◌>>◌ gives traps spent takes_step with_more shows on below core store_of finds_room deep_enough reacts loses stays script
places_open items = (0, 10, (refl, record { deepest = Some 65536; used = false; here = refl; below = refl; old_first = none_old 5; old_second = none_old 5; differ = λ i e e'. absurd (let q : None ≡ Some i = e in cc) }))
