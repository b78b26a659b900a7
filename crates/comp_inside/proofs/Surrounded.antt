-- A group that surrounds another one does the same with one step more.
use Rattle.std.proofs.Common.{◌≡◌, ℕ, suc, ◌≤◌, ◌==◌, List, [], ◌∷◌, Option, Some, None, Bool, true, false, refl, sym, ◌∙◌, ap, subst, arith}
use Rattle.std.specs.Option.{option_map}
use Rattle.std.proofs.lemmas.Bool.{eqb-true, eqb-false}
use Rattle.core_store.specs.declared.value.CoreValue.{CoreValue}
use Rattle.host_port.specs.Calls.{PlainObservation, Returned}
use Rattle.host_port.specs.Hosts.{HostStep}
use Rattle.comp_worlds.specs.Acts.{seen_of, then_do, Act, ◌>>◌, gives, takes_step, shows}
use Rattle.comp_worlds.specs.Passing.{out_of_tuple}
use Rattle.comp_worlds.specs.Groups.{Nesting, Import, Target, Mine, Theirs, Func, LoweredFunc, ResourceNew, ResourceDrop, ResourceRep, Owner, Group, World, Due, Below, Outside, Ports}
use Rattle.comp_worlds.specs.Calls.{set, below, during, leaves, drops, owned_by, owns, runs, deep_enough, answers_if, does_all, is_made}
use Rattle.comp_worlds.specs.Hosts.{hosted}
use Rattle.comp_worlds.specs.Observed.{first_state, Call, without_handles, asks_export, leaves_export, makes_calls, runs_calls}
use Rattle.comp_worlds.proofs.Joint.{set_all, set_here, set_there}
use Rattle.comp_worlds.specs.Parts.{target_to, owner_to, stages_to, Embeds}
use Rattle.comp_worlds.proofs.Exact.{Equals, Exact, exact_then, exact_gives, exact_gives_first, exact_traps}
use Rattle.comp_worlds.proofs.Embedding.{Eq, DueTo, Answers_as, LeadsTo, KnownIn, InStep, exact_runs, exact_answers, exact_leaves, exact_all}
use Rattle.comp_worlds.proofs.Whole.{equals_observed, equals_seen, nothing_before}
use Rattle.comp_worlds.proofs.Fair.{Left, Fair, host_fair, Under, exact_below, exact_itself}
use Rattle.comp_inside.specs.Laws.{Surrounds, OneStepLater}

-- the instances of G stand in H, over the same
pub record Stands {S : Type 0} (place : ℕ → ℕ) (w : World S) (v : World S) : Type 0 where
  pub here : (k : ℕ) → w.configs (place k) ≡ v.configs k
  pub under : w.below ≡ v.below

abbrev Any_import : Import → Type 0
Any_import f = Unit {0}

abbrev Any_resource : ℕ → Type 0
Any_resource r = Unit {0}

any_leads : (t : Target) → LeadsTo Any_import t
any_leads (Mine k lifting) = tt
any_leads (Theirs f) = tt

any_known : (f : Option Func) → KnownIn Any_import Any_resource f
any_known None = tt
any_known (Some (LoweredFunc (Mine m lifting) options)) = tt
any_known (Some (LoweredFunc (Theirs f) options)) = tt
any_known (Some (ResourceNew r)) = tt
any_known (Some (ResourceDrop r)) = tt
any_known (Some (ResourceRep r)) = tt

both_deep : {W V X Y : Type 0} → (b : ℕ) (P : W → X → V → Y → Type 0) (x : ℕ → Act W X) (y : ℕ → Act V Y) (w : W) (v : V) → ((n : ℕ) → Equals n P (x (suc n) w n) (y (suc n) v n)) → Exact b P (deep_enough x w) (deep_enough y v)
unfolding deep_enough
both_deep b P x y w v h n lt = h n

module _ {S : Type 0} (H G : Group) (place : ℕ → ℕ) (e : Surrounds H G place) (h : HostStep S) where
  abbrev p : Ports S
  p = hosted h

  fair : Fair p
  fair = host_fair h

  abbrev R : World S → World S → Type 0
  R w v = Stands place w v

  places_alike : (j k : ℕ) → (place j == place k) ≡ (j == k)
  places_alike j k = at (j == k) refl (place j == place k) refl
    where
      at : (a : Bool) → (j == k) ≡ a → (b : Bool) → (place j == place k) ≡ b → b ≡ a
      at true is true is' = refl
      at false is false is' = refl
      at true is false is' = absurd (eqb-false (place j) (place k) is' (ap place (eqb-true j k is)))
      at false is true is' = absurd (eqb-false j k is (e.once j k (eqb-true (place j) (place k) is')))

  owns_alike : (k r : ℕ) → owns H (place k) r ≡ owns G k r
  owns_alike k r = ap (λ o. owned_by o (place k)) (e.owner r) ∙ at (G.owner r)
    where
      at : (o : Option Owner) → owned_by (option_map (owner_to place) o) (place k) ≡ owned_by o k
      at None = refl
      at (Some o) = places_alike o.instance k

  embeds : Embeds G H place Theirs
  embeds = record {
    canons = e.canons;
    owner = λ r o is. e.owner r ∙ ap (option_map (owner_to place)) is;
    owns_no_more = owns_alike;
  }

  same_below : {X : Type 0} → (b : ℕ) (x : Act S X) → ((s : S) (n : ℕ) → Left n (x s n)) → (w u : World S) → R w u → Exact b (Eq R) (below x w) (below x u)
  same_below b x fair' w u r =
      exact_below b (Eq R) x x w u
      (subst (λ z. Exact b (λ s a t a'. Eq R (record { configs = w.configs; below = s }) a (record { configs = u.configs; below = t }) a') (x w.below) (x z)) r.under
      (exact_itself b _ (x w.below) (fair' w.below) (λ s a. (record { here = r.here; under = refl }, refl))))

  step : InStep G H p p place Theirs R Under Any_import Any_resource
  step = record {
    here = λ k w v r. r.here k;
    put = λ k c w v r. record {
      here = set_all v.configs k c (λ i c'. set w.configs (place k) c (place i) ≡ c') (set_here w.configs (place k) c) (λ i d. set_there w.configs (place k) c (place i) (λ same. d (e.once i k same)) ∙ r.here i);
      under = r.under;
    };
    knows = λ k n. any_known (G.canons k n);
    types = λ f used. refl;
    nests = λ d due t is. ap (during d) is;
    asks = λ b d from f passed w u used r.
        exact_gives_first b (Eq R) (Answers_as R Under) (below (p.ask d from f passed)) (below (p.ask d from f passed)) (λ a. record { passed = a.passed; due = Below a.due }) w u
        (λ w' a u' a' k. (k.0, ap (λ z. z.passed) k.1, ap (λ z. Below z.due) k.1))
        (same_below b (p.ask d from f passed) (fair.asks d from f passed) w u r);
    leaves = λ b d due t w u is r.
        subst (λ z. Exact b (Eq R) (leaves H p (runs H p b) d z w) (below (p.leave d t) u)) (sym is) (same_below b (p.leave d t) (fair.leaves d t) w u r);
    drops = λ b d r x w u known none r'.
        subst (λ z. Exact b (Eq R) (drops H p (runs H p b) d r x z w) (below (p.drop d (G.imported r) x) u)) (sym (e.owner r ∙ ap (option_map (owner_to place)) none))
        (subst (λ z. Exact b (Eq R) (below (p.drop d z x) w) (below (p.drop d (G.imported r) x) u)) (sym (e.imported r)) (same_below b (p.drop d (G.imported r) x) (fair.drops d (G.imported r) x) w u r'));
  }

  abbrev Owes : Due → Due → Type 0
  Owes d t = DueTo place Under d t

  abbrev Any : World S → Unit {0} → World S → Unit {0} → Type 0
  Any w a v b = Unit {0}

  run : (n m m' : ℕ) → n ≤ m → n ≤ m' → (d : Nesting) (k f : ℕ) (args : List CoreValue) (w v : World S) → R w v → Exact n (Eq R) (runs H p m d (place k) f args w) (runs G p m' d k f args v)
  run n m m' le le' = exact_runs G H p p place Theirs R Under Any_import Any_resource embeds step n m m' le le'

  asks_alike : (b : ℕ) (d : Nesting) (call : Call) (w v : World S) → R w v → Exact b (Answers_as R Owes) (asks_export H p d call w) (asks_export G p d call v)
  asks_alike b d call w v r =
      both_deep b (Answers_as R Owes) _ _ w v
      (λ n. subst (λ z. Equals n (Answers_as R Owes) (answers_if H p (runs H p (suc n)) d Outside z (without_handles call) w n) (answers_if G p (runs G p (suc n)) d Outside (G.exports call.interface call.function) (without_handles call) v n)) (sym (e.exports call.interface call.function))
      (at n (G.exports call.interface call.function) n (omega arith)))
    where
      at : (n : ℕ) (o : Option Target) → Exact (suc n) (Answers_as R Owes) (answers_if H p (runs H p (suc n)) d Outside (option_map (target_to place Theirs) o) (without_handles call) w) (answers_if G p (runs G p (suc n)) d Outside o (without_handles call) v)
      at n None = exact_traps (suc n) (Answers_as R Owes) w v
      at n (Some t) = exact_answers G H p p place Theirs R Under Any_import Any_resource embeds step (suc n) (suc n) (suc n) (omega arith) (run (suc n) (suc n) (suc n) (omega arith) (omega arith)) d Outside t (any_leads t) (without_handles call) w v r

  leaves_alike : (b : ℕ) (d : Nesting) (due due' : Due) (w v : World S) → Owes due due' → R w v → Exact b (Eq R) (leaves_export H p d due w) (leaves_export G p d due' v)
  leaves_alike b d due due' w v is r =
      both_deep b (Eq R) _ _ w v
      (λ n. exact_leaves G H p p place Theirs R Under Any_import Any_resource embeds step (suc n) (suc n) (suc n) (omega arith) (run (suc n) (suc n) (suc n) (omega arith) (omega arith)) d due due' w v is r n (omega arith))

  shows_alike : (b : ℕ) (o : List PlainObservation) (w v : World S) → R w v → Exact b (Eq R) (shows o w) (shows o v)
  unfolding shows
  shows_alike b o w v r n lt = (refl, refl, omega arith, (r, refl))

  calls_alike : (b : ℕ) (d : Nesting) (calls : List Call) (w v : World S) → R w v → Exact b Any (makes_calls H p d calls w) (makes_calls G p d calls v)
  calls_alike b d [] w v r = exact_gives b Any tt tt w v tt
  calls_alike b d (call ∷ rest) w v r =
      exact_then b (Answers_as R Owes) Any _ _ _ _ w v (asks_alike b d call w v r)
      (λ w1 a v1 a' k.
      exact_then b (Eq R) Any _ _ _ _ w1 v1 (leaves_alike b d a.due a'.due w1 v1 k.2 k.0)
      (λ w2 x v2 y k2.
      exact_then b (Eq R) Any _ _ _ _ w2 v2 (subst (λ z. Exact b (Eq R) (shows (Returned (out_of_tuple z.value) ∷ []) w2) (shows (Returned (out_of_tuple a'.passed.value) ∷ []) v2)) (sym k.1) (shows_alike b (Returned (out_of_tuple a'.passed.value) ∷ []) w2 v2 k2.0))
      (λ w3 x' v3 y' k3. calls_alike b d rest w3 v3 k3.0)))

  -- ---- the making, with a step for H

  abbrev late : Nesting → Act (World S) (Unit {0})
  late d w n = is_made H p d w (suc n)

  made_late : (d : Nesting) (w : World S) (n : ℕ) → late d w n ≡ does_all H p (runs H p (suc (suc n))) d (stages_to place G.stages) w n
  unfolding deep_enough ◌>>◌ takes_step
  made_late d w n =
      ap (λ l. does_all H p (runs H p (suc (suc n))) d l w (suc n)) e.stages
      ∙ nothing_before (does_all H p (runs H p (suc (suc n))) d (stages_to place G.stages) w n)

  made_alike : (b : ℕ) (d : Nesting) (w v : World S) → R w v → Exact b (Eq R) (late d w) (is_made G p d v)
  unfolding deep_enough
  made_alike b d w v r n lt =
      subst (λ z. Equals n (Eq R) z (is_made G p d v n)) (sym (made_late d w n))
      (exact_all G H p p place Theirs R Under Any_import Any_resource embeds step (suc n) (suc (suc n)) (suc n) (omega arith) (omega arith) d G.stages w v r n (omega arith))

  module _ (s : S) (d : Nesting) (calls : List Call) where
    abbrev start : World S
    start = first_state (G ∷ []) s

    at_start : R start start
    at_start = record { here = λ k. refl; under = refl }

    later_alike : (n : ℕ) → Equals n Any ((late d >> λ _. makes_calls H p d calls) start n) ((is_made G p d >> λ _. makes_calls G p d calls) start n)
    later_alike n = exact_then (suc n) (Eq R) Any _ _ _ _ start start (made_alike (suc n) d start start at_start) (λ w a v b k. calls_alike (suc n) d calls w v k.0) n (omega arith)

    -- nothing is below that would be made before
    made_first : (K : Group) (n : ℕ) → runs_calls d K [] h s calls n ≡ (is_made K p d >> λ _. makes_calls K p d calls) start n
    unfolding runs_calls ◌>>◌ below gives
    made_first K n = ap (λ u. then_do u (λ _. makes_calls K p d calls)) (nothing_before (is_made K p d start n))

    alike : (n : ℕ) → Equals n Any (runs_calls d H [] h s calls (suc n)) (runs_calls d G [] h s calls n)
    unfolding ◌>>◌
    alike n =
        subst (λ z. Equals n Any z (runs_calls d G [] h s calls n)) (sym (made_first H (suc n)))
        (subst (λ z. Equals n Any ((late d >> λ _. makes_calls H p d calls) start n) z) (sym (made_first G n)) (later_alike n))

    none_first : seen_of (runs_calls d H [] h s calls 0) ≡ []
    unfolding ◌>>◌ deep_enough takes_step
    none_first = ap seen_of (made_first H 0) ∙ ap (λ l. seen_of (then_do (does_all H p (runs H p 1) d l start 0) (λ _. makes_calls H p d calls))) e.stages

    pub surrounded : OneStepLater H G h s d calls
    surrounded = record { observed = λ n. equals_observed n Any _ _ (alike n); seen = λ n. equals_seen n Any _ _ (alike n); first = none_first }
