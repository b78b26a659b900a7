-- A put of a sink in memory is a put.
use Rattle.std.proofs.Common.{◌≡◌, ℕ, ◌+◌, ◌-◌, ◌≤◌, List, ◌++◌, length, take, Bool, true, false, cond, ltb, Result, Ok, Err, refl, sym, ap, ◌∙◌, arith, take_all, append-nil}
use Rattle.std.proofs.lemmas.Bool.{ltb-false}
use Rattle.std.specs.Prelude.{◌||◌}
use Rattle.outside.specs.Buffer.{Filled, fill}
use Rattle.outside.specs.Failing.{Calls, is_listed, after}
use Rattle.outside.specs.Sink.{Puts, is_full}
use Rattle.outside.specs.MemSink.{MemSinkState, sink_state, MemPuts}
use Rattle.outside.specs.declared.sink.PutFailed.{PutFailed}
use Rattle.outside.proofs.FailingLaws.{not_listed, still_steady, never_falls, rose}

abbrev room_is : Bool → Filled → List ℕ → Filled
room_is listed f bytes = cond listed f (fill f bytes)

room_stays : (listed : Bool) (f : Filled) (bytes : List ℕ) → (room_is listed f bytes).room ≡ f.room
room_stays true f bytes = refl
room_stays false f bytes = refl

-- what a call wrote is a prefix
prefix : (listed : Bool) (f : Filled) (bytes : List ℕ) → (k : ℕ) × ((room_is listed f bytes).bytes ≡ f.bytes ++ take k bytes)
prefix true f bytes = (0, sym (append-nil f.bytes))
prefix false f bytes = (f.room - length f.bytes, refl)

whole : (listed : Bool) (f : Filled) (bytes : List ℕ) → false ≡ (listed || ltb f.room (length f.bytes + length bytes)) → (room_is listed f bytes).bytes ≡ f.bytes ++ bytes
whole true f bytes e = absurd cc
whole false f bytes e =
    let small : length f.bytes + length bytes ≤ f.room = ltb-false _ _ (sym e) in
    ap (λ (z : List ℕ). f.bytes ++ z) (take_all (f.room - length f.bytes) bytes (omega arith))

pub put_means : (bytes : List ℕ) (m n : MemSinkState) (r : Result (Unit {0}) PutFailed) → MemPuts bytes m n r → Puts bytes (sink_state m) (sink_state n) r
put_means bytes m n (Ok x) p =
    let counts : n.calls ≡ after m.calls false = p.calls ∙ ap (after m.calls) (sym p.fails) in
    record {
      later = rw counts (never_falls m.calls false);
      told = refl;
      steady = λ h. rw counts (still_steady m.calls false h);
      room = ap (λ (f : Filled). f.room) p.held ∙ room_stays (is_listed m.calls) m.held bytes;
      cause = tt;
      ok = λ told. ap (λ (f : Filled). f.bytes) p.held ∙ whole (is_listed m.calls) m.held bytes p.fails;
      failed = tt;
      fails = λ told h. p.fails ∙ ap (λ (b : Bool). b || is_full (sink_state m) bytes) (not_listed m.calls h);
      quiet = λ told h due. ap (λ (c : Calls). c.faults) counts;
    }
put_means bytes m n (Err e) p =
    let counts : n.calls ≡ after m.calls true = p.calls ∙ ap (after m.calls) (sym p.fails) in
    let wrote = prefix (is_listed m.calls) m.held bytes in
    record {
      later = rw counts (never_falls m.calls true);
      told = refl;
      steady = λ h. rw counts (still_steady m.calls true h);
      room = ap (λ (f : Filled). f.room) p.held ∙ room_stays (is_listed m.calls) m.held bytes;
      cause = rw counts (rose m.calls);
      ok = tt;
      failed = λ told. (wrote.0, ap (λ (f : Filled). f.bytes) p.held ∙ wrote.1);
      fails = λ told h. p.fails ∙ ap (λ (b : Bool). b || is_full (sink_state m) bytes) (not_listed m.calls h);
      quiet = λ told h due.
          let is : true ≡ is_full (sink_state m) bytes = p.fails ∙ ap (λ (b : Bool). b || is_full (sink_state m) bytes) (not_listed m.calls h) in
          absurd cc;
    }
