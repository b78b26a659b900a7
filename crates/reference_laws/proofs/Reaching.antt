-- A call is answered alone or let through, by the steps of the reference host one after another.
use Rattle.std.proofs.Common.{◌≡◌, ◌≢◌, refl, sym, subst, ℕ, ◌+◌, List, [], ◌∷◌, ◌++◌, Bool, true, false, not, ◌&&◌, Option, Some, None, inl, inr}
use Rattle.std.specs.Prelude.{◌⊎◌, if◌then◌else◌}
use Rattle.wit_types.specs.PlainValue.{PlainValue}
use Rattle.policy_data.specs.declared.data.Scratch.{Scratch}
use Rattle.tree_table.specs.declared.entries.NamedTree.{NamedTree}
use Rattle.host_port.specs.Calls.{PlainCall, PlainObservation}
use Rattle.host_port.specs.Hosts.{HostStep, Reaction}
use Rattle.reference_step.specs.Access.{is_hosted, access}
use Rattle.reference_step.specs.Handles.{Node, descriptor}
use Rattle.reference_step.specs.Listed.{Listed, listed_function}
use Rattle.reference_step.specs.Rows.{row_of}
use Rattle.reference_step.specs.Rules.{passes, given, has_places, fit, Errors, FilesystemErrors, SocketErrors, NoErrors, errors_of, Denial, NotDenied, ByPolicy, ByRules, denial, is_answered}
use Rattle.reference_step.specs.State.{Reference, Row, Traps, Does, view_of}
use Rattle.reference_step.specs.Steps.{traps, returns, is_heavy, args_weight, roots_from, scratch_offer, own_offers, offers, with_folder, by_row, is_folders, is_empty_poll, are_host, asks_host, hosted, virtual, answered, denied, full, with_room, weighed, guarded, calls, reference_step}
use Rattle.reference_laws.specs.Reaching.{IsOwn, IsLetThrough, ChangesNothing}

-- what is true of both
both_true : (a b : Bool) → (a && b) ≡ true → (a ≡ true) × (b ≡ true)
both_true true true e = (refl, refl)
both_true true false e = absurd cc
both_true false b e = absurd cc

module _ {S : Type 0} (h : HostStep S) where
  abbrev Answers : Type 0
  Answers = HostStep S → Reaction (Reference S)

  -- over this host nothing more is seen, the inner state stays, and over every other host it is the same
  record OwnFrom (r : Reference S) (seen : List PlainObservation) (F : Answers) : Type 0 where
    shown : (F h).seen ≡ seen
    inner : (F h).next.inner ≡ r.inner
    same : (g : HostStep S) → F g ≡ F h

  own_if : (r : Reference S) (seen : List PlainObservation) (F G : Answers) (b : Bool) → OwnFrom r seen F → OwnFrom r seen G → OwnFrom r seen (λ g. if b then F g else G g)
  own_if r seen F G true f g = f
  own_if r seen F G false f g = g

  own_traps : (r : Reference S) → OwnFrom r [] (λ g. traps g r)
  own_traps r = record { shown = refl; inner = refl; same = λ g. refl }

  own_returns : (r : Reference S) (v : PlainValue) → OwnFrom r [] (λ g. returns g r v)
  own_returns r v = record { shown = refl; inner = refl; same = λ g. refl }

  own_full : (r : Reference S) (e : Errors) → OwnFrom r [] (λ g. full g r e)
  own_full r FilesystemErrors = record { shown = refl; inner = refl; same = λ g. refl }
  own_full r SocketErrors = record { shown = refl; inner = refl; same = λ g. refl }
  own_full r NoErrors = record { shown = refl; inner = refl; same = λ g. refl }

  -- ---- what is answered without the host

  own_row : (r : Reference S) (f : Listed) (c : PlainCall) (row : Row) → OwnFrom r [] (λ g. by_row g r f c row)
  own_row r f c Traps = own_traps r
  own_row r f c (Does e) = record { shown = refl; inner = refl; same = λ g. refl }

  -- the folders that the reference host gives by itself
  own_scratch : (r : Reference S) (values : List PlainValue) (s : Option Scratch) → OwnFrom r [] (λ g. offers g r [] values (scratch_offer g s))
  own_scratch r values None = record { shown = refl; inner = refl; same = λ g. refl }
  own_scratch r values (Some s) =
      own_if r [] _ _ (fit r.setup.policy r.live descriptor 1) (record { shown = refl; inner = refl; same = λ g. refl }) (record { shown = refl; inner = refl; same = λ g. refl })

  own_roots : (trees : List NamedTree) (s : Option Scratch) (place : ℕ) (r : Reference S) (values : List PlainValue) → OwnFrom r [] (λ g. offers g r [] values (roots_from g place trees ++ scratch_offer g s))
  own_roots [] s place r values = own_scratch r values s
  own_roots (tree ∷ trees) s place r values =
      let rest = own_roots trees s (place + 1) (with_folder h r (Node place [])) _ in
      own_if r [] _ _ (fit r.setup.policy r.live descriptor 1) (record { shown = rest.shown; inner = rest.inner; same = rest.same }) (record { shown = refl; inner = refl; same = λ g. refl })

  own_virtual : (r : Reference S) (f : Listed) (c : PlainCall) → OwnFrom r [] (λ g. virtual g r f c)
  own_virtual r f c =
      own_if r [] (λ g. offers g r [] [] (own_offers g r.setup)) (λ g. by_row g r f c (row_of f.interface f.function.name (view_of r) c.args)) (is_folders h f)
      (own_roots r.setup.trees r.setup.policy.fs_scratch 0 r []) (own_row r f c (row_of f.interface f.function.name (view_of r) c.args))

  -- ---- a call

  module _ (r : Reference S) (c : PlainCall) where
    abbrev Due : Answers → Type 0
    Due F = OwnFrom r [] F ⊎ IsLetThrough h r c

    own : (F : Answers) → OwnFrom r [] F → Due F
    own F o = inl o

    due_if : (F G : Answers) (b : Bool) → (b ≡ true → Due F) → (b ≡ false → Due G) → Due (λ g. if b then F g else G g)
    due_if F G true f g = f refl
    due_if F G false f g = g refl

    module _ (f : Listed) (listed : listed_function r.setup.version c.interface c.function ≡ Some f) where
      let_through : passes r.live f c ≡ true → denial r.setup.policy f c ≡ NotDenied → asks_host h r f c ≡ true → IsLetThrough h r c
      let_through pass free asked =
          let two = both_true (is_hosted (access r.setup.policy f.interface f.function.name)) (are_host h r.live (given f c) && not (is_empty_poll h f c)) asked in
          record {
            function = f;
            listed = listed;
            passes_so = pass;
            undenied = free;
            hosted = two.0;
            handles = (both_true (are_host h r.live (given f c)) (not (is_empty_poll h f c)) two.1).0;
          }

      of_answered : passes r.live f c ≡ true → denial r.setup.policy f c ≡ NotDenied → Due (λ g. answered g r f c)
      of_answered pass free = due_if (λ g. hosted g r f c) (λ g. virtual g r f c) (asks_host h r f c) (λ asked. inr (let_through pass free asked)) (λ asked. inl (own_virtual r f c))

      of_denied : passes r.live f c ≡ true → (d : Denial) → denial r.setup.policy f c ≡ d → Due (λ g. denied g r f c d)
      of_denied pass NotDenied is = of_answered pass is
      of_denied pass ByPolicy is = inl (own_if r [] (λ g. returns g r _) (λ g. traps g r) (is_answered r.setup.policy.deny (errors_of f)) (own_returns r _) (own_traps r))
      of_denied pass ByRules is = inl (own_returns r _)

      of_room : passes r.live f c ≡ true → Due (λ g. with_room g r f c)
      of_room pass =
          due_if (λ g. denied g r f c (denial r.setup.policy f c)) (λ g. full g r (errors_of f)) (has_places r.setup.policy r.live f.function.ty.answer) (λ some. of_denied pass (denial r.setup.policy f c) refl)
          (λ none. inl (own_full r (errors_of f)))

      of_weight : passes r.live f c ≡ true → Due (λ g. weighed g r f c)
      of_weight pass = due_if (λ g. traps g r) (λ g. with_room g r f c) (is_heavy h r (args_weight h f c)) (λ heavy. inl (own_traps r)) (λ light. of_room pass)

      of_listed : Due (λ g. guarded g r c (Some f))
      of_listed = due_if (λ g. weighed g r f c) (λ g. traps g r) (passes r.live f c) (λ pass. of_weight pass) (λ no. inl (own_traps r))

    of_call : (o : Option Listed) → listed_function r.setup.version c.interface c.function ≡ o → Due (λ g. guarded g r c o)
    of_call None is = inl (own_traps r)
    of_call (Some f) is = of_listed f is

    is_own : OwnFrom r [] (λ g. calls g r c) → IsOwn h r c
    unfolding reference_step
    is_own o = record { silent = o.shown; untouched = o.inner; alone = o.same }

    pub own_or_let_through : IsOwn h r c ⊎ IsLetThrough h r c
    own_or_let_through = elim (of_call (listed_function r.setup.version c.interface c.function) refl) [
      | inl o ↦ inl (is_own o)
      | inr through ↦ inr through
    ]

    -- ---- what is denied

    -- alone, and the state stays
    record Kept (F : Answers) : Type 0 where
      alone : OwnFrom r [] F
      stays : (F h).next ≡ r

    kept_if : (F G : Answers) (b : Bool) → Kept F → Kept G → Kept (λ g. if b then F g else G g)
    kept_if F G true f g = f
    kept_if F G false f g = g

    kept_traps : Kept (λ g. traps g r)
    kept_traps = record { alone = own_traps r; stays = refl }

    kept_returns : (v : PlainValue) → Kept (λ g. returns g r v)
    kept_returns v = record { alone = own_returns r v; stays = refl }

    kept_full : (e : Errors) → Kept (λ g. full g r e)
    kept_full FilesystemErrors = kept_returns _
    kept_full SocketErrors = kept_returns _
    kept_full NoErrors = kept_traps

    kept_denied : (f : Listed) (d : Denial) → d ≢ NotDenied → Kept (λ g. denied g r f c d)
    kept_denied f NotDenied some = absurd (some refl)
    kept_denied f ByPolicy some = kept_if (λ g. returns g r _) (λ g. traps g r) (is_answered r.setup.policy.deny (errors_of f)) (kept_returns _) kept_traps
    kept_denied f ByRules some = kept_returns _

    kept_call : (f : Listed) → denial r.setup.policy f c ≢ NotDenied → Kept (λ g. guarded g r c (Some f))
    kept_call f some =
        kept_if (λ g. weighed g r f c) (λ g. traps g r) (passes r.live f c)
        (kept_if (λ g. traps g r) (λ g. with_room g r f c) (is_heavy h r (args_weight h f c)) kept_traps
        (kept_if (λ g. denied g r f c (denial r.setup.policy f c)) (λ g. full g r (errors_of f)) (has_places r.setup.policy r.live f.function.ty.answer) (kept_denied f (denial r.setup.policy f c) some)
        (kept_full (errors_of f))))
        kept_traps

    changes_nothing : Kept (λ g. calls g r c) → ChangesNothing h r c
    unfolding reference_step
    changes_nothing k = (record { silent = k.alone.shown; untouched = k.alone.inner; alone = k.alone.same }, k.stays)

    pub denied_change_nothing : (f : Listed) → listed_function r.setup.version c.interface c.function ≡ Some f → denial r.setup.policy f c ≢ NotDenied → ChangesNothing h r c
    denied_change_nothing f is some = changes_nothing (subst (λ (o : Option Listed). Kept (λ g. guarded g r c o)) (sym is) (kept_call f some))
