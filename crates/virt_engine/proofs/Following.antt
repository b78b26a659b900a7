-- A run whose lines are made goes on as what is to be told of it.
use Rattle.std.proofs.Common.{◌≡◌, ◌∙◌, refl, sym, ap, subst, ℕ, zero, suc, ◌+◌, ◌<◌, ◌≤◌, List, [], ◌∷◌, ◌++◌, length, drop, get_or, map, append_assoc, append-nil, Option, Some, None}
use Rattle.std.specs.Prelude.{Result, Ok, Err, IfOk}
use Rattle.std.proofs.lemmas.List.{drop_at, drop_more, drop_all}
use Rattle.wit_types.specs.Plain.{Plain}
use Rattle.wit_types.specs.PlainValue.{PlainValue}
use Rattle.wit_types.specs.declared.value.Value.{Value}
use Rattle.host_port.specs.declared.answer.Observation.{Observation}
use Rattle.host_port.specs.Calls.{PlainObservation, plain_option, plain_observation}
use Rattle.host_port.specs.Hosts.{HostStep, Kept}
use Rattle.comp_worlds.specs.Acts.{Trapped, Out, Over, Act, ◌>>◌, gives, traps}
use Rattle.comp_worlds.specs.Passing.{out_of_tuple}
use Rattle.comp_worlds.specs.Groups.{Target, Group, World, Outside}
use Rattle.comp_worlds.specs.Calls.{at_rest, is_made, answers_if, leaves}
use Rattle.comp_worlds.specs.Hosts.{hosted}
use Rattle.comp_worlds.specs.Observed.{first_state, without_handles}
use Rattle.comp_worlds.proofs.Fair.{host_fair}
use Rattle.comp_frames.specs.Running.{running}
use Rattle.comp_frames.proofs.Unfolding.{meets_without_fuel}
use Rattle.comp_link.specs.declared.linked.Linked.{Linked}
use Rattle.call_moments.specs.declared.end.RunEnd.{RunEnd}
use Rattle.call_moments.specs.declared.end.RunEnd.TheVariants as calls
use Rattle.call_moments.specs.Configs.{configs_of, world_of}
use Rattle.host_script.specs.declared.script.Call.{Call as ScriptCall}
use Rattle.host_script.specs.Script.{PlainCall, Exports, call_seen}
use Rattle.script_lines.specs.Lines.{line_text}
use Rattle.call_moments.specs.Leads.{so_far}
use Rattle.comp_interp.specs.declared.run.Run.{Run}
use Rattle.comp_interp.specs.Gathered.{stages_act}
use Rattle.comp_interp.specs.Runs.{host_in}
use Rattle.comp_interp.specs.Outcomes.{group_in, moment_in, IfReturned, CanServe, Left, Instantiates, calls_target, export_named, MayCall, CallsExport}
use Rattle.virt_engine.specs.declared.runner.Runner.{Runner}
use Rattle.virt_engine.specs.Calling.{call_of, typed_call, typed_calls}
use Rattle.virt_engine.specs.Lines.{Adds, end_by, seen_by}
use Rattle.virt_engine.specs.Told.{Item, Told, TypedCall, untyped, last, before, told_after, at_most, result_item, nothing_more, calls_export, told_calls}
use Rattle.virt_engine.specs.declared.tally.Tally.{Tally}
use Rattle.virt_engine.specs.Tallies.{none_counted, all_seen, and_seen}
use Rattle.virt_engine.specs.Shown.{item_texts, items_tally, IsTold}
use Rattle.virt_engine.specs.Runners.{ShowsHost, ShowsEnd, RunStands, Stands, ComesOn, IsFresh, told_of, Came, Makes, CallsOn, Goes}
use Rattle.virt_engine.proofs.Coming.{told_by, Tells, it_tells, told_before}
use Rattle.virt_engine.proofs.Telling.{seen_in, seen_untyped, seen_more as seen_of_more}

-- ---- of lines

-- one more of what was seen has its line
pub seen_more : (old new : List (List ℕ)) (whole : List (List ℕ)) (seen : List Observation) (i : ℕ) (o : Observation) → i < length seen → o ≡ get_or seen i o
    → old ++ map (line_text None) (map plain_observation (drop i seen)) ≡ whole → Adds old new (line_text None (plain_observation o)) → new ++ map (line_text None) (map plain_observation (drop (i + 1) seen)) ≡ whole
seen_more old new whole seen i o lt is so_far added =
    let rest : List (List ℕ) = map (line_text None) (map plain_observation (drop (i + 1) seen)) in
    ap (λ z. z ++ rest) added
    ∙ append_assoc old (line_text None (plain_observation o) ∷ []) rest
    ∙ ap (λ xs. old ++ map (line_text None) (map plain_observation xs)) (sym (drop_more seen i o lt ∙ ap (λ y. y ∷ drop (i + 1) seen) (sym is)))
    ∙ so_far

pub seen_all_lines : (old : List (List ℕ)) (whole : List (List ℕ)) (seen : List Observation) (i : ℕ) → length seen ≤ i → old ++ map (line_text None) (map plain_observation (drop i seen)) ≡ whole → old ≡ whole
seen_all_lines old whole seen i le so_far = sym (append-nil old) ∙ ap (λ xs. old ++ map (line_text None) (map plain_observation xs)) (sym (drop_all i seen le)) ∙ so_far

item_texts_more : (a b : List Item) → item_texts (a ++ b) ≡ item_texts a ++ item_texts b
item_texts_more [] b = refl
item_texts_more (x ∷ a) b = ap (λ z. line_text x.ty x.seen ∷ z) (item_texts_more a b)

untyped_texts : (o : List PlainObservation) → item_texts (untyped o) ≡ map (line_text None) o
untyped_texts [] = refl
untyped_texts (x ∷ o) = ap (λ z. line_text None x ∷ z) (untyped_texts o)

untyped_more : (a b : List PlainObservation) → untyped (a ++ b) ≡ untyped a ++ untyped b
untyped_more [] b = refl
untyped_more (x ∷ a) b = ap (λ z. record { ty = None; seen = x } ∷ z) (untyped_more a b)

-- ---- what is counted

counted_more : (t : Tally) (a b : List PlainObservation) → all_seen t (a ++ b) ≡ all_seen (all_seen t a) b
counted_more t [] b = refl
counted_more t (x ∷ a) b = counted_more (and_seen t x) a b

tally_more : (a b : List Item) → items_tally (a ++ b) ≡ all_seen (items_tally a) (seen_in b)
tally_more a b = ap (all_seen none_counted) (seen_of_more a b) ∙ counted_more none_counted (seen_in a) (seen_in b)

-- ---- what was seen of the host

seen_behind : (k : ℕ) (xs : List Observation) → map plain_observation (drop k xs) ≡ drop k (map plain_observation xs)
seen_behind zero xs = refl
seen_behind (suc k) [] = refl
seen_behind (suc k) (x ∷ xs) = seen_behind k xs

seen_count : (xs : List Observation) → length (map plain_observation xs) ≡ length xs
seen_count [] = refl
seen_count (x ∷ xs) = ap suc (seen_count xs)

pub ok_then : {A E : Type 0} → {P Q : A → Type 0} → (r : Result A E) → ((a : A) → P a → Q a) → IfOk r P → IfOk r Q
ok_then (Ok a) f h = f a h
ok_then (Err e) f h = tt

-- ---- ends

abbrev pub IsOver : RunEnd → Type 0
IsOver (calls.Returned value) = ⊥
IsOver calls.Trapped = Unit {0}
IsOver calls.ScriptEnded = Unit {0}
IsOver calls.BadAnswer = Unit {0}
IsOver calls.Spent = Unit {0}
IsOver calls.TooDeep = Unit {0}

pub is_over : (end : RunEnd) → ((v : Option Value) → end ≡ calls.Returned v → ⊥) → IsOver end
is_over (calls.Returned value) none = none value refl
is_over calls.Trapped none = tt
is_over calls.ScriptEnded none = tt
is_over calls.BadAnswer none = tt
is_over calls.Spent none = tt
is_over calls.TooDeep none = tt

-- what ends a run has no type
plain_line : (end : RunEnd) (ty : Option Plain) → IsOver end → line_text ty (seen_by end) ≡ line_text None (seen_by end)
plain_line (calls.Returned value) ty h = absurd h
plain_line calls.Trapped ty h = refl
plain_line calls.ScriptEnded ty h = refl
plain_line calls.BadAnswer ty h = refl
plain_line calls.Spent ty h = refl
plain_line calls.TooDeep ty h = refl

module _ {H S : Type 0} (h : HostStep S) (kept : H → Kept S) where
  pub shows_end : (end : RunEnd) (ty : Option Plain) (old new : Runner H) (how : RunEnd) (seen : PlainObservation) → how ≡ end_by end → seen ≡ seen_by end → new.run ≡ old.run → new.shown ≡ old.shown → Adds old.lines new.lines (line_text ty seen) → new.tally ≡ and_seen old.tally seen
      → ShowsEnd h kept end ty old how new
  shows_end end ty old new how seen is same run shown added counted = record {
    run = run;
    lines = added ∙ ap (λ (o : PlainObservation). old.lines ++ line_text ty o ∷ []) same;
    tally = counted ∙ ap (and_seen old.tally) same;
    shown = shown;
    end = is;
  }

  pub shows_host : (old : Runner H) (lines : List (List ℕ)) (tally : Tally) (host : H) (obs seen later : List Observation) → host ≡ host_in old.run → map plain_observation obs ≡ (kept host).seen → seen ≡ obs → later ≡ drop old.shown seen
      → lines ≡ old.lines ++ map (line_text None) (map plain_observation later) → tally ≡ all_seen old.tally (map plain_observation later) → ShowsHost h kept old (record { run = old.run; lines = lines; tally = tally; shown = length seen })
  shows_host old lines tally host obs seen later is all same behind put counted =
      let now : map plain_observation seen ≡ (kept (host_in old.run)).seen = ap (map plain_observation) same ∙ all ∙ ap (λ (x : H). (kept x).seen) is in
      let rest : map plain_observation later ≡ drop old.shown (kept (host_in old.run)).seen = ap (map plain_observation) behind ∙ seen_behind old.shown seen ∙ ap (drop old.shown) now in
      record {
        run = refl;
        lines = put ∙ ap (λ (xs : List PlainObservation). old.lines ++ map (line_text None) xs) rest;
        tally = counted ∙ ap (all_seen old.tally) rest;
        shown = sym (seen_count seen) ∙ ap length now;
      }

  over_by : {A : Type 0} → (of : A → List Item) (conv : Option PlainValue → A) (k : List PlainObservation) (end : RunEnd) (o : List PlainObservation) (run : Run H) (next : World S → ℕ → Told) → IsOver end
      → told_by of conv k end o (moment_in kept run) next ≡ last o (seen_by end) (end_by end)
  over_by of conv k (calls.Returned value) o run next e = absurd e
  over_by of conv k calls.Trapped o run next e = refl
  over_by of conv k calls.ScriptEnded o run next e = refl
  over_by of conv k calls.BadAnswer o run next e = refl
  over_by of conv k calls.Spent o run next e = refl
  over_by of conv k calls.TooDeep o run next e = refl

  over_comes : (G : Group) (whole : Told) (rest : List TypedCall) (r : Runner H) (end : RunEnd) (how : RunEnd) → IsOver end → how ≡ end_by end → IsTold whole r.lines r.tally (end_by end) → ComesOn h kept G whole rest how r
  over_comes G whole rest r (calls.Returned value) how e is t = absurd e
  over_comes G whole rest r calls.Trapped how e is t = subst (λ (x : RunEnd). ComesOn h kept G whole rest x r) (sym is) t
  over_comes G whole rest r calls.ScriptEnded how e is t = subst (λ (x : RunEnd). ComesOn h kept G whole rest x r) (sym is) t
  over_comes G whole rest r calls.BadAnswer how e is t = subst (λ (x : RunEnd). ComesOn h kept G whole rest x r) (sym is) t
  over_comes G whole rest r calls.Spent how e is t = subst (λ (x : RunEnd). ComesOn h kept G whole rest x r) (sym is) t
  over_comes G whole rest r calls.TooDeep how e is t = subst (λ (x : RunEnd). ComesOn h kept G whole rest x r) (sym is) t

  -- ---- lines after others

  -- those of the host, which had seen so much
  host_lines : (done : List Item) (k o : List PlainObservation) (r1 r2 : Runner H) → r1.lines ≡ item_texts done → r1.shown ≡ length k → (kept (host_in r1.run)).seen ≡ k ++ o → ShowsHost h kept r1 r2 → r2.lines ≡ item_texts (done ++ untyped o)
  host_lines done k o r1 r2 lines shown seen s =
      s.lines
      ∙ (λ i. lines i ++ map (line_text None) (drop (shown i) (seen i)))
      ∙ ap (λ (z : List PlainObservation). item_texts done ++ map (line_text None) z) (drop_at k o (length k) refl)
      ∙ ap (λ z. item_texts done ++ z) (sym (untyped_texts o))
      ∙ sym (item_texts_more done (untyped o))

  -- and that of an end
  end_lines : (items : List Item) (ty : Option Plain) (end : RunEnd) (r2 r3 : Runner H) (how : RunEnd) → r2.lines ≡ item_texts items → ShowsEnd h kept end ty r2 how r3 → r3.lines ≡ item_texts (items ++ record { ty = ty; seen = seen_by end } ∷ [])
  end_lines items ty end r2 r3 how lines s = s.lines ∙ ap (λ z. z ++ line_text ty (seen_by end) ∷ []) lines ∙ sym (item_texts_more items (record { ty = ty; seen = seen_by end } ∷ []))

  over_lines : (done : List Item) (o : List PlainObservation) (ty : Option Plain) (end : RunEnd) (r2 r3 : Runner H) (how : RunEnd) → IsOver end → r2.lines ≡ item_texts (done ++ untyped o) → ShowsEnd h kept end ty r2 how r3
      → r3.lines ≡ item_texts (done ++ untyped (o ++ seen_by end ∷ []))
  over_lines done o ty end r2 r3 how e lines s =
      s.lines
      ∙ (λ i. lines i ++ plain_line end ty e i ∷ [])
      ∙ sym (item_texts_more (done ++ untyped o) (record { ty = None; seen = seen_by end } ∷ []))
      ∙ ap item_texts (append_assoc done (untyped o) (record { ty = None; seen = seen_by end } ∷ []) ∙ ap (λ z. done ++ z) (sym (untyped_more o (seen_by end ∷ []))))

  -- ---- what is counted after others

  host_tally : (done : List Item) (k o : List PlainObservation) (r1 r2 : Runner H) → r1.tally ≡ items_tally done → r1.shown ≡ length k → (kept (host_in r1.run)).seen ≡ k ++ o → ShowsHost h kept r1 r2 → r2.tally ≡ items_tally (done ++ untyped o)
  host_tally done k o r1 r2 tally shown seen s =
      s.tally
      ∙ (λ i. all_seen (tally i) (drop (shown i) (seen i)))
      ∙ ap (all_seen (items_tally done)) (drop_at k o (length k) refl ∙ sym (seen_untyped o))
      ∙ sym (tally_more done (untyped o))

  end_tally : (items : List Item) (ty ty' : Option Plain) (end : RunEnd) (r2 r3 : Runner H) (how : RunEnd) → r2.tally ≡ items_tally items → ShowsEnd h kept end ty r2 how r3 → r3.tally ≡ items_tally (items ++ record { ty = ty'; seen = seen_by end } ∷ [])
  end_tally items ty ty' end r2 r3 how tally s = s.tally ∙ ap (λ (t : Tally). and_seen t (seen_by end)) tally ∙ sym (tally_more items (record { ty = ty'; seen = seen_by end } ∷ []))

  over_tally : (done : List Item) (o : List PlainObservation) (ty : Option Plain) (end : RunEnd) (r2 r3 : Runner H) (how : RunEnd) → r2.tally ≡ items_tally (done ++ untyped o) → ShowsEnd h kept end ty r2 how r3
      → r3.tally ≡ items_tally (done ++ untyped (o ++ seen_by end ∷ []))
  over_tally done o ty end r2 r3 how tally s =
      end_tally (done ++ untyped o) ty None end r2 r3 how tally s
      ∙ ap items_tally (append_assoc done (untyped o) (record { ty = None; seen = seen_by end } ∷ []) ∙ ap (λ z. done ++ z) (sym (untyped_more o (seen_by end ∷ []))))

  seen_length : (r1 r2 : Runner H) → ShowsHost h kept r1 r2 → r2.shown ≡ length (kept (host_in r2.run)).seen
  seen_length r1 r2 s = s.shown ∙ ap (λ (run : Run H). length (kept (host_in run)).seen) (sym s.run)

  -- ---- the making

  module _ (linked : Linked) (first : Kept S) (budget : ℕ) (r0 : Runner H) (f : IsFresh h kept linked first budget r0) where
    abbrev G : Group
    G = group_in r0.run

    none_made : first_state (G ∷ []) first.state ≡ world_of [] first.state
    none_made = λ i. record { configs = λ k. rest k i; below = first.state }
      where
        rest : (k : ℕ) → at_rest {R = ℕ} ≡ configs_of [] k
        rest k = refl

    host_first : kept (host_in r0.run) ≡ first
    host_first = f.run.host

    first_act : is_made G (hosted h) at_most (first_state (G ∷ []) first.state) budget
        ≡ stages_act h G G.stages (world_of (moment_in kept r0.run).instances (moment_in kept r0.run).kept.state) (moment_in kept r0.run).budget
    first_act =
        ap (λ (x : Act (World S) (Unit {0})). x (first_state (G ∷ []) first.state) budget) ((meets_without_fuel G (hosted h) (host_fair h)).making at_most)
        ∙ ap (λ (w : World S). stages_act h G G.stages w budget) none_made
        ∙ (λ i. stages_act h G G.stages (world_of (sym f.run.instances i) (sym host_first i).state) (sym f.run.steps i))

    module _ (exports : Exports) (cs : List PlainCall) (end : RunEnd) (r1 r2 : Runner H) (same_lines : r1.lines ≡ r0.lines) (same_tally : r1.tally ≡ r0.tally) (same_shown : r1.shown ≡ r0.shown) (i : Instantiates h kept r0.run end r1.run) (s : ShowsHost h kept r1 r2) where
      left : Left h kept (λ v. tt {0}) (so_far (moment_in kept r0.run) (stages_act h G G.stages)) r0.run end r1.run
      left = i linked first budget f.run

      tells : Tells nothing_more (λ v. tt) (kept (host_in r0.run)).seen (stages_act h G G.stages (world_of (moment_in kept r0.run).instances (moment_in kept r0.run).kept.state) (moment_in kept r0.run).budget) (kept (host_in r1.run)).seen
          (λ o next. told_by nothing_more (λ v. tt) (kept (host_in r0.run)).seen end o (moment_in kept r1.run) next)
      tells = it_tells nothing_more (λ v. tt) (kept (host_in r0.run)).seen _ end (moment_in kept r1.run) left.comes

      abbrev Go : World S → ℕ → Told
      Go w l = told_calls G h (typed_calls exports cs) w l

      whole_is : told_of h kept exports cs first budget r0 ≡ told_by nothing_more (λ v. tt) (kept (host_in r0.run)).seen end tells.o (moment_in kept r1.run) Go
      whole_is = ap (λ (x : Out (World S) (Unit {0})). told_after nothing_more x Go) first_act ∙ tells.tells Go

      seen_all : (kept (host_in r1.run)).seen ≡ tells.o
      seen_all = tells.seen_so ∙ ap (λ (k : List PlainObservation). k ++ tells.o) (ap (λ (k : Kept S). k.seen) host_first ∙ f.unseen)

      lines_so : r2.lines ≡ item_texts (untyped tells.o)
      lines_so = host_lines [] [] tells.o r1 r2 (same_lines ∙ f.lines) (same_shown ∙ f.shown) seen_all s

      tally_so : r2.tally ≡ items_tally (untyped tells.o)
      tally_so = host_tally [] [] tells.o r1 r2 (same_tally ∙ f.tally) (same_shown ∙ f.shown) seen_all s

      -- the run itself, where all is made
      run_so : (v : Option Value) → end ≡ calls.Returned v → RunStands h kept G (told_of h kept exports cs first budget r0) (typed_calls exports cs) (untyped tells.o) r1.run
      run_so v is = record {
        serves = subst (λ (e : RunEnd). IfReturned e (CanServe h kept r1.run)) is left.serves;
        group = left.group;
        is = ap (λ (z : List Item). before z (Go (world_of (moment_in kept r1.run).instances (moment_in kept r1.run).kept.state) (moment_in kept r1.run).budget)) (sym (append-nil (untyped tells.o)))
            ∙ sym (whole_is ∙ ap (λ (e : RunEnd). told_by nothing_more (λ v. tt) (kept (host_in r0.run)).seen e tells.o (moment_in kept r1.run) Go) is);
      }

      pub made_done : (v : Option Value) → end ≡ calls.Returned v → Stands h kept G (told_of h kept exports cs first budget r0) (typed_calls exports cs) r2
      made_done v is = record {
        done = untyped tells.o;
        lines = lines_so;
        tally = tally_so;
        shown = seen_length r1 r2 s;
        run = subst (λ (run : Run H). RunStands h kept G (told_of h kept exports cs first budget r0) (typed_calls exports cs) (untyped tells.o) run) (sym s.run) (run_so v is);
      }

      pub made_over : (ty : Option Plain) (how : RunEnd) (r3 : Runner H) → IsOver end → ShowsEnd h kept end ty r2 how r3 → ComesOn h kept G (told_of h kept exports cs first budget r0) (typed_calls exports cs) how r3
      made_over ty how r3 e shows =
          let whole : told_of h kept exports cs first budget r0 ≡ last tells.o (seen_by end) (end_by end) = whole_is ∙ over_by nothing_more (λ v. tt) (kept (host_in r0.run)).seen end tells.o r1.run Go e in
          over_comes G (told_of h kept exports cs first budget r0) (typed_calls exports cs) r3 end how e shows.end
          (record { lines = over_lines [] tells.o ty end r2 r3 how e lines_so shows ∙ ap (λ (t : Told). item_texts t.items) (sym whole); tally = over_tally [] tells.o ty end r2 r3 how tally_so shows ∙ ap (λ (t : Told). items_tally t.items) (sym whole); end = ap (λ (t : Told). t.end) (sym whole) })

  -- ---- a call

  -- a call from outside is a call of what is exported by its name
  call_act : (G : Group) (c : PlainCall) → calls_export G h (call_of c) ≡ calls_target h kept G (export_named h kept G c.0) c.1
  unfolding ◌>>◌ traps
  call_act G c =
      let m = meets_without_fuel G (hosted h) (host_fair h) in
      (λ i. m.asking at_most (call_of c) i >> λ answer. m.leaving at_most answer.due i >> λ _. gives (out_of_tuple answer.passed.value))
      ∙ by_target (export_named h kept G c.0)
    where
      by_target : (o : Option Target) → (answers_if G (hosted h) (running G (hosted h)) at_most Outside o (without_handles (call_of c)) >> λ answer. leaves G (hosted h) (running G (hosted h)) at_most answer.due >> λ _. gives (out_of_tuple answer.passed.value))
          ≡ calls_target h kept G o c.1
      by_target None = λ i w n. Over [] Trapped
      by_target (Some target) = refl

  module _ (exports : Exports) (c : PlainCall) (whole : Told) (rest : List PlainCall) (end : RunEnd) (r0 r1 r2 r3 : Runner H) (how : RunEnd) (same_lines : r1.lines ≡ r0.lines) (same_tally : r1.tally ≡ r0.tally) (same_shown : r1.shown ≡ r0.shown)
      (i : CallsExport h kept r0.run c.0 c.1 end r1.run) (s : ShowsHost h kept r1 r2) (shows : ShowsEnd h kept end (typed_call exports c).ty r2 how r3)
      (may : (target : Target) → export_named h kept (group_in r0.run) c.0 ≡ Some target → MayCall h kept target c.1) (st : Stands h kept (group_in r0.run) whole (typed_calls exports (c ∷ rest)) r0) where
    abbrev Own : Group
    Own = group_in r0.run

    abbrev Type' : Option Plain
    Type' = (typed_call exports c).ty

    left_by : Left h kept (λ v. v) (so_far (moment_in kept r0.run) (calls_target h kept Own (export_named h kept Own c.0) c.1)) r0.run end r1.run
    left_by = i st.run.serves may

    abbrev act : Act (World S) (Option PlainValue)
    act = calls_target h kept Own (export_named h kept Own c.0) c.1

    tells_by : Tells (result_item Type') (λ v. v) (kept (host_in r0.run)).seen (act (world_of (moment_in kept r0.run).instances (moment_in kept r0.run).kept.state) (moment_in kept r0.run).budget) (kept (host_in r1.run)).seen
        (λ o next. told_by (result_item Type') (λ v. v) (kept (host_in r0.run)).seen end o (moment_in kept r1.run) next)
    tells_by = it_tells (result_item Type') (λ v. v) (kept (host_in r0.run)).seen _ end (moment_in kept r1.run) left_by.comes

    abbrev Later : World S → ℕ → Told
    Later w l = told_calls Own h (typed_calls exports rest) w l

    rest_is : before st.done (told_by (result_item Type') (λ v. v) (kept (host_in r0.run)).seen end tells_by.o (moment_in kept r1.run) Later) ≡ whole
    rest_is =
        ap (before st.done)
        (sym (ap (λ (x : Act (World S) (Option PlainValue)). told_after (result_item Type') (x (world_of (moment_in kept r0.run).instances (moment_in kept r0.run).kept.state) (moment_in kept r0.run).budget) Later) (call_act Own c)
        ∙ tells_by.tells Later))
        ∙ st.run.is

    lines_by : r2.lines ≡ item_texts (st.done ++ untyped tells_by.o)
    lines_by = host_lines st.done (kept (host_in r0.run)).seen tells_by.o r1 r2 (same_lines ∙ st.lines) (same_shown ∙ st.shown) tells_by.seen_so s

    tally_by : r2.tally ≡ items_tally (st.done ++ untyped tells_by.o)
    tally_by = host_tally st.done (kept (host_in r0.run)).seen tells_by.o r1 r2 (same_tally ∙ st.tally) (same_shown ∙ st.shown) tells_by.seen_so s

    same_run : r3.run ≡ r1.run
    same_run = shows.run ∙ s.run

    returned : (v : Option Value) → end ≡ calls.Returned v → Stands h kept Own whole (typed_calls exports rest) r3
    returned v is =
        let items : List Item = untyped tells_by.o ++ result_item Type' (plain_option v) in
        record {
          done = st.done ++ items;
          lines =
              subst (λ (e : RunEnd). r3.lines ≡ item_texts ((st.done ++ untyped tells_by.o) ++ record { ty = Type'; seen = seen_by e } ∷ [])) is (end_lines (st.done ++ untyped tells_by.o) Type' end r2 r3 how lines_by shows)
              ∙ ap item_texts (append_assoc st.done (untyped tells_by.o) (result_item Type' (plain_option v)));
          tally =
              subst (λ (e : RunEnd). r3.tally ≡ items_tally ((st.done ++ untyped tells_by.o) ++ record { ty = Type'; seen = seen_by e } ∷ [])) is (end_tally (st.done ++ untyped tells_by.o) Type' Type' end r2 r3 how tally_by shows)
              ∙ ap items_tally (append_assoc st.done (untyped tells_by.o) (result_item Type' (plain_option v)));
          shown = shows.shown ∙ seen_length r1 r2 s ∙ ap (λ (run : Run H). length (kept (host_in run)).seen) (sym shows.run);
          run = subst (λ (run : Run H). RunStands h kept Own whole (typed_calls exports rest) (st.done ++ items) run) (sym same_run) (record {
            serves = subst (λ (e : RunEnd). IfReturned e (CanServe h kept r1.run)) is left_by.serves;
            group = left_by.group;
            is = sym (told_before st.done items (Later (world_of (moment_in kept r1.run).instances (moment_in kept r1.run).kept.state) (moment_in kept r1.run).budget))
                ∙ ap (λ (e : RunEnd). before st.done (told_by (result_item Type') (λ v. v) (kept (host_in r0.run)).seen e tells_by.o (moment_in kept r1.run) Later)) (sym is)
                ∙ rest_is;
          });
        }

    over_so : IsOver end → ComesOn h kept Own whole (typed_calls exports rest) how r3
    over_so e =
        let is : before st.done (last tells_by.o (seen_by end) (end_by end)) ≡ whole = ap (before st.done) (sym (over_by (result_item Type') (λ v. v) (kept (host_in r0.run)).seen end tells_by.o r1.run Later e)) ∙ rest_is in
        over_comes Own whole (typed_calls exports rest) r3 end how e shows.end
        (record { lines = over_lines st.done tells_by.o Type' end r2 r3 how e lines_by shows ∙ ap (λ (t : Told). item_texts t.items) is; tally = over_tally st.done tells_by.o Type' end r2 r3 how tally_by shows ∙ ap (λ (t : Told). items_tally t.items) is; end = ap (λ (t : Told). t.end) is })

    done_so : how ≡ (calls.Returned None) → Stands h kept Own whole (typed_calls exports rest) r3 → ComesOn h kept Own whole (typed_calls exports rest) how r3
    done_so is stands = subst (λ (x : RunEnd). ComesOn h kept Own whole (typed_calls exports rest) x r3) (sym is) stands

    pub call_comes : (e : RunEnd) → end ≡ e → ComesOn h kept Own whole (typed_calls exports rest) how r3
    call_comes (calls.Returned v) is = done_so (shows.end ∙ ap end_by is) (returned v is)
    call_comes calls.Trapped is = over_so (subst IsOver (sym is) tt)
    call_comes calls.ScriptEnded is = over_so (subst IsOver (sym is) tt)
    call_comes calls.BadAnswer is = over_so (subst IsOver (sym is) tt)
    call_comes calls.Spent is = over_so (subst IsOver (sym is) tt)
    call_comes calls.TooDeep is = over_so (subst IsOver (sym is) tt)

  -- in whatever group it is that runs
  pub calls_on : (exports : Exports) (c : PlainCall) (end : RunEnd) (r0 r1 r2 r3 : Runner H) (how : RunEnd) → r1.lines ≡ r0.lines → r1.tally ≡ r0.tally → r1.shown ≡ r0.shown → CallsExport h kept r0.run c.0 c.1 end r1.run → ShowsHost h kept r1 r2
      → ShowsEnd h kept end (typed_call exports c).ty r2 how r3 → CallsOn h kept exports c r0 how r3
  calls_on exports c end r0 r1 r2 r3 how lines tally shown i s shows = λ G whole rest may st.
      subst (λ (X : Group). ((target : Target) → export_named h kept X c.0 ≡ Some target → MayCall h kept target c.1) → Stands h kept X whole (typed_calls exports (c ∷ rest)) r0 → ComesOn h kept X whole (typed_calls exports rest) how r3)
      st.run.group (λ own stands. call_comes exports c whole rest end r0 r1 r2 r3 how lines tally shown i s shows own stands end refl) may st

  pub calls_shown : (exports : Exports) (c : PlainCall) (end : RunEnd) (ty : Option Plain) (r0 r1 r2 r3 : Runner H) (how : RunEnd) → ty ≡ (typed_call exports c).ty → r1.lines ≡ r0.lines → r1.tally ≡ r0.tally → r1.shown ≡ r0.shown → CallsExport h kept r0.run c.0 c.1 end r1.run
      → ShowsHost h kept r1 r2 → ShowsEnd h kept end ty r2 how r3 → CallsOn h kept exports c r0 how r3
  calls_shown exports c end ty r0 r1 r2 r3 how same lines tally shown i s shows = calls_on exports c end r0 r1 r2 r3 how lines tally shown i s (subst (λ (t : Option Plain). ShowsEnd h kept end t r2 how r3) same shows)

  -- the making, for whatever is called then
  pub makes_done : (end : RunEnd) (v : Option Value) (r0 r1 r2 : Runner H) → end ≡ calls.Returned v → r1.lines ≡ r0.lines → r1.tally ≡ r0.tally → r1.shown ≡ r0.shown → Instantiates h kept r0.run end r1.run → ShowsHost h kept r1 r2 → Makes h kept r0 (calls.Returned None) r2
  makes_done end v r0 r1 r2 is lines tally shown i s = λ exports cs linked first budget f may. (may, made_done linked first budget r0 f exports cs end r1 r2 lines tally shown i s v is)

  pub makes_over : (end : RunEnd) (ty : Option Plain) (r0 r1 r2 r3 : Runner H) (how : RunEnd) → IsOver end → r1.lines ≡ r0.lines → r1.tally ≡ r0.tally → r1.shown ≡ r0.shown → Instantiates h kept r0.run end r1.run → ShowsHost h kept r1 r2 → ShowsEnd h kept end ty r2 how r3
      → Makes h kept r0 how r3
  makes_over end ty r0 r1 r2 r3 how e lines tally shown i s shows = λ exports cs linked first budget f may. (may, made_over linked first budget r0 f exports cs end r1 r2 lines tally shown i s ty how r3 e shows)

  -- ---- all calls

  -- one more of them
  pub came_more : (exports : Exports) (cs rest : List PlainCall) (c : PlainCall) (r0 r1 r2 : Runner H) (how : RunEnd) → Came h kept exports cs (c ∷ rest) r0 (calls.Returned None) r1 → CallsOn h kept exports c r1 how r2 → Came h kept exports cs rest r0 how r2
  came_more exports cs rest c r0 r1 r2 how came on = λ linked first budget f may.
      let before_it = came linked first budget f may in
      (before_it.0.1, on (group_in r0.run) (told_of h kept exports cs first budget r0) rest before_it.0.0 before_it.1)

  pub came_next : (exports : Exports) (cs : List PlainCall) (list : List ScriptCall) (i : ℕ) (call : ScriptCall) (r0 r1 r2 : Runner H) (how : RunEnd) → i < length list → call ≡ get_or list i call
      → Came h kept exports cs (map call_seen (drop i list)) r0 (calls.Returned None) r1 → CallsOn h kept exports (call_seen call) r1 how r2 → Came h kept exports cs (map call_seen (drop (i + 1) list)) r0 how r2
  came_next exports cs list i call r0 r1 r2 how lt is came on =
      let cut : drop i list ≡ call ∷ drop (i + 1) list = drop_more list i call lt ∙ ap (λ y. y ∷ drop (i + 1) list) (sym is) in
      came_more exports cs (map call_seen (drop (i + 1) list)) (call_seen call) r0 r1 r2 how (subst (λ xs. Came h kept exports cs (map call_seen xs) r0 (calls.Returned None) r1) cut came) on

  pub came_done : (exports : Exports) (cs rest : List PlainCall) (how : RunEnd) (v : Option Value) (r0 r : Runner H) → how ≡ calls.Returned v → Came h kept exports cs rest r0 how r → Came h kept exports cs rest r0 (calls.Returned None) r
  came_done exports cs rest how v r0 r is came = subst (λ (x : RunEnd). Came h kept exports cs rest r0 x r) is came

  -- none is left
  done_told : (G : Group) (whole : Told) (r : Runner H) → Stands h kept G whole [] r → IsTold whole r.lines r.tally (calls.Returned None)
  done_told G whole r st =
      let all : before st.done (record { items = []; end = calls.Returned None }) ≡ whole = st.run.is in
      record { lines = st.lines ∙ ap item_texts (sym (append-nil st.done)) ∙ ap (λ (t : Told). item_texts t.items) all; tally = st.tally ∙ ap items_tally (sym (append-nil st.done)) ∙ ap (λ (t : Told). items_tally t.items) all; end = ap (λ (t : Told). t.end) all }

  pub goes_done : (exports : Exports) (cs : List PlainCall) (r0 r : Runner H) → Came h kept exports cs [] r0 (calls.Returned None) r → Goes h kept exports cs r0 (calls.Returned None) r
  goes_done exports cs r0 r came = λ linked first budget f may. done_told (group_in r0.run) (told_of h kept exports cs first budget r0) r (came linked first budget f may).1

  pub goes_all : (exports : Exports) (cs : List PlainCall) (list : List ScriptCall) (i : ℕ) (r0 r : Runner H) → length list ≤ i → Came h kept exports cs (map call_seen (drop i list)) r0 (calls.Returned None) r → Goes h kept exports cs r0 (calls.Returned None) r
  goes_all exports cs list i r0 r le came = goes_done exports cs r0 r (subst (λ xs. Came h kept exports cs (map call_seen xs) r0 (calls.Returned None) r) (drop_all i list le) came)

  -- it ended
  over_told : (G : Group) (whole : Told) (rest : List TypedCall) (how : RunEnd) (r : Runner H) → IsOver how → ComesOn h kept G whole rest how r → IsTold whole r.lines r.tally how
  over_told G whole rest (calls.Returned v) r over c = absurd over
  over_told G whole rest calls.Trapped r over c = c
  over_told G whole rest calls.ScriptEnded r over c = c
  over_told G whole rest calls.Spent r over c = c
  over_told G whole rest calls.BadAnswer r over c = c
  over_told G whole rest calls.TooDeep r over c = c

  pub goes_over : (exports : Exports) (cs rest : List PlainCall) (how : RunEnd) (r0 r : Runner H) → IsOver how → Came h kept exports cs rest r0 how r → Goes h kept exports cs r0 how r
  goes_over exports cs rest how r0 r over came = λ linked first budget f may. over_told (group_in r0.run) (told_of h kept exports cs first budget r0) (typed_calls exports rest) how r over (came linked first budget f may).1
