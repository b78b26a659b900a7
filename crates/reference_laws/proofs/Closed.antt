-- Under a policy that allows nothing no handle of the host comes to live, so no call reaches the host.
use Rattle.std.proofs.Common.{◌≡◌, ◌∙◌, refl, sym, ap, subst, ℕ, zero, suc, ◌+◌, List, [], ◌∷◌, ◌++◌, Bool, true, false, not, ◌&&◌, Option, Some, None, inl, inr}
use Rattle.std.specs.Prelude.{◌==◌, slice_index_or, slice_set, option_map, if◌then◌else◌, codes}
use Rattle.std.specs.Str.{bytes_eq}
use Rattle.wit_types.specs.PlainValue.{PlainValue}
use Rattle.policy_data.specs.declared.data.Scratch.{Scratch}
use Rattle.tree_table.specs.declared.entries.NamedTree.{NamedTree}
use Rattle.host_port.specs.declared.call.Resource.{Resource}
use Rattle.host_port.specs.Calls.{PlainCall, PlainObservation}
use Rattle.host_port.specs.Hosts.{HostStep, Reaction, Loss, Kept, reacts, drops as host_drops}
use Rattle.reference_step.specs.Access.{is_hosted, access}
use Rattle.reference_step.specs.Atoms.{handles, result_atoms}
use Rattle.reference_step.specs.Handles.{Content, Host, Node, FileAt, EmptyIn, Discard, Always, Entries, ScratchRoot, ScratchEntries, ScratchFile, ScratchIn, ScratchOut, Live, LiveHandle, is_host, with_entry, with_handle, standing_for, handle_at, content_in, content_of, descriptor}
use Rattle.reference_step.specs.Listed.{Listed, listed_function, kind_named}
use Rattle.reference_step.specs.Values.{nth}
use Rattle.reference_step.specs.Rows.{row_of}
use Rattle.reference_step.specs.Rules.{passes, given, has_places, fit, Errors, FilesystemErrors, SocketErrors, NoErrors, errors_of, Denial, NotDenied, ByPolicy, ByRules, denial, is_answered, alike_results, are_live}
use Rattle.reference_step.specs.State.{Setup, Reference, Row, Traps, Does, view_of}
use Rattle.reference_step.specs.Steps.{traps, returns, is_heavy, args_weight, entered, made_for, becomes, roots_from, scratch_offer, own_offers, offers, with_folder, by_row, is_folders, is_empty_poll, are_host, asks_host, hosted, virtual, answered, denied, full, with_room, weighed, guarded, calls, lost, dropped, dropped_as, drops, reference_step}
use Rattle.reference_laws.specs.Closed.{AllowsNothing, Act, Calls, Drops, after, begun, StaysClosed}
use Rattle.reference_laws.proofs.Free.{IsOwnContent, AreOwnContents, OwnBecome, IsOwnRow, row_is_own}
use Rattle.reference_laws.proofs.Handled.{both_true, false_true, takes, gives_handle}
use Rattle.wit_types.specs.HasType.{are_of}

-- ---- live handles of which none is the host's

abbrev IsOwnEntry : Option LiveHandle → Type 0
IsOwnEntry None = Unit {0}
IsOwnEntry (Some e) = IsOwnContent e.content

abbrev AreOwn : Live → Type 0
AreOwn [] = Unit {0}
AreOwn (e ∷ live) = IsOwnEntry e × AreOwn live

entry_at : (live : Live) (id : ℕ) → AreOwn live → IsOwnEntry (slice_index_or live id None)
entry_at [] id own = tt
entry_at (e ∷ live) zero own = own.0
entry_at (e ∷ live) (suc id) own = entry_at live id own.1

own_content_in : (e : Option LiveHandle) → IsOwnEntry e → IsOwnContent (content_in e)
own_content_in None own = refl
own_content_in (Some e) own = own

own_content : (live : Live) (id : ℕ) → AreOwn live → is_host (content_of live id) ≡ false
own_content live id own = own_content_in (slice_index_or live id None) (entry_at live id own)

own_entered_one : (live : Live) (e : LiveHandle) → IsOwnContent e.content → AreOwn live → AreOwn (with_entry live e)
own_entered_one [] e new own = (new, tt)
own_entered_one (None ∷ live) e new own = (new, own.1)
own_entered_one (Some f ∷ live) e new own = (own.0, own_entered_one live e new own.1)

own_set : (live : Live) (id : ℕ) (e : Option LiveHandle) → IsOwnEntry e → AreOwn live → AreOwn (slice_set live id e)
own_set [] id e new own = tt
own_set (f ∷ live) zero e new own = (new, own.1)
own_set (f ∷ live) (suc id) e new own = (own.0, own_set live id e new own.1)

standing : (e : Option LiveHandle) (content : Content) → IsOwnContent content → IsOwnEntry (option_map (standing_for content) e)
standing None content own = tt
standing (Some e) content own = own

-- what is made without the host
own_made : (makes : List Content) (i : ℕ) → AreOwnContents makes → IsOwnContent (slice_index_or makes i Always)
own_made [] i own = refl
own_made (c ∷ cs) zero own = own.0
own_made (c ∷ cs) (suc i) own = own_made cs i own.1

module _ {S : Type 0} (h : HostStep S) where
  own_becomes : (live : Live) (self : PlainValue) (content : Option Content) → OwnBecome content → AreOwn live → AreOwn (becomes h live self content)
  own_becomes live self None new own = own
  own_becomes live self (Some content) new own = own_set live _ _ (standing (slice_index_or live _ None) content new) own

  own_entered : (makes : List Content) (ids : List (ℕ × ℕ)) (live : Live) → AreOwnContents makes → AreOwn live → AreOwn (entered h live (made_for h makes ids)).0
  own_entered makes [] live new own = own
  own_entered makes (g ∷ ids) live new own = own_entered makes ids (with_handle live g.0 (slice_index_or makes g.1 Always)) new (own_entered_one live _ (own_made makes g.1 new) own)

  -- a handle of the host is given by no call
  none_given : (live : Live) (ids : List (ℕ × ℕ)) → AreOwn live → are_host h live ids ≡ true → ids ≡ []
  none_given live [] own hosts = refl
  none_given live (g ∷ ids) own hosts = false_true (sym (own_content live g.1 own) ∙ (both_true (is_host (content_of live g.1)) (are_host h live ids) hosts).0)

  -- ---- a call

  -- nothing allowed, and no handle of the host
  pub record IsClosed (r : Reference S) : Type 0 where
    pub allows : AllowsNothing r.setup.policy
    pub own : AreOwn r.live

  abbrev Answers : Type 0
  Answers = HostStep S → Reaction (Reference S)

  -- over this host no more is seen, the inner state and the setup stay, and so does this; over every other host it is the same
  record Shut (r : Reference S) (seen : List PlainObservation) (F : Answers) : Type 0 where
    shown : (F h).seen ≡ seen
    inner : (F h).next.inner ≡ r.inner
    setup : (F h).next.setup ≡ r.setup
    live : AreOwn (F h).next.live
    same : (g : HostStep S) → F g ≡ F h

  shut_if : (r : Reference S) (seen : List PlainObservation) (F G : Answers) (b : Bool) → Shut r seen F → Shut r seen G → Shut r seen (λ g. if b then F g else G g)
  shut_if r seen F G true f g = f
  shut_if r seen F G false f g = g

  shut_traps : (r : Reference S) → AreOwn r.live → Shut r [] (λ g. traps g r)
  shut_traps r own = record { shown = refl; inner = refl; setup = refl; live = own; same = λ g. refl }

  shut_returns : (r : Reference S) (v : PlainValue) → AreOwn r.live → Shut r [] (λ g. returns g r v)
  shut_returns r v own = record { shown = refl; inner = refl; setup = refl; live = own; same = λ g. refl }

  shut_full : (r : Reference S) (e : Errors) → AreOwn r.live → Shut r [] (λ g. full g r e)
  shut_full r FilesystemErrors own = shut_returns r _ own
  shut_full r SocketErrors own = shut_returns r _ own
  shut_full r NoErrors own = shut_traps r own

  shut_row : (r : Reference S) (f : Listed) (c : PlainCall) (row : Row) → IsOwnRow row → AreOwn r.live → Shut r [] (λ g. by_row g r f c row)
  shut_row r f c Traps free own = shut_traps r own
  shut_row r f c (Does e) free own = record {
    shown = refl;
    inner = refl;
    setup = refl;
    live = own_entered e.makes (handles (result_atoms f.function.ty.answer e.value)) _ free.0 (own_becomes r.live (nth 0 c.args) e.becomes free.1 own);
    same = λ g. refl;
  }

  shut_scratch : (r : Reference S) (values : List PlainValue) (s : Option Scratch) → AreOwn r.live → Shut r [] (λ g. offers g r [] values (scratch_offer g s))
  shut_scratch r values None own = record { shown = refl; inner = refl; setup = refl; live = own; same = λ g. refl }
  shut_scratch r values (Some s) own =
      shut_if r [] _ _ (fit r.setup.policy r.live descriptor 1) (record { shown = refl; inner = refl; setup = refl; live = own_entered_one r.live _ refl own; same = λ g. refl })
      (record { shown = refl; inner = refl; setup = refl; live = own; same = λ g. refl })

  shut_roots : (trees : List NamedTree) (s : Option Scratch) (place : ℕ) (r : Reference S) (values : List PlainValue) → AreOwn r.live → Shut r [] (λ g. offers g r [] values (roots_from g place trees ++ scratch_offer g s))
  shut_roots [] s place r values own = shut_scratch r values s own
  shut_roots (tree ∷ trees) s place r values own =
      let rest = shut_roots trees s (place + 1) (with_folder h r (Node place [])) _ (own_entered_one r.live _ refl own) in
      shut_if r [] _ _ (fit r.setup.policy r.live descriptor 1) (record { shown = rest.shown; inner = rest.inner; setup = rest.setup; live = rest.live; same = rest.same })
      (record { shown = refl; inner = refl; setup = refl; live = own; same = λ g. refl })

  shut_virtual : (r : Reference S) (f : Listed) (c : PlainCall) → AreOwn r.live → Shut r [] (λ g. virtual g r f c)
  shut_virtual r f c own =
      shut_if r [] (λ g. offers g r [] [] (own_offers g r.setup)) (λ g. by_row g r f c (row_of f.interface f.function.name (view_of r) c.args)) (is_folders h f)
      (shut_roots r.setup.trees r.setup.policy.fs_scratch 0 r [] own) (shut_row r f c _ (row_is_own f.interface f.function.name (view_of r) c.args) own)

  module _ (r : Reference S) (c : PlainCall) (closed : IsClosed r) where
    still_own : AreOwn r.live
    still_own = closed.own

    module _ (f : Listed) (listed : listed_function r.setup.version c.interface c.function ≡ Some f) where
      -- the arguments have their types
      args_are : passes r.live f c ≡ true → are_of f.function.ty.params c.args ≡ true
      args_are pass = (both_true (are_of f.function.ty.params c.args) (alike_results f.function.ty.answer c.answer && are_live r.live (given f c)) pass).0

      empty_poll : bytes_eq f.function.name (codes "poll") ≡ true → given f c ≡ [] → is_empty_poll h f c ≡ true
      empty_poll poll none = rw (poll, none) refl

      not_true : (b : Bool) → b ≡ true → not b ≡ true → false ≡ true
      not_true b e n = sym (ap not e) ∙ n

      never_asked : passes r.live f c ≡ true → asks_host h r f c ≡ true → false ≡ true
      never_asked pass asked =
          let two = both_true (is_hosted (access r.setup.policy f.interface f.function.name)) (are_host h r.live (given f c) && not (is_empty_poll h f c)) asked in
          let both = both_true (are_host h r.live (given f c)) (not (is_empty_poll h f c)) two.1 in
          let none : given f c ≡ [] = none_given r.live (given f c) still_own both.0 in
          elim (takes r.setup.policy r.setup.version c.interface c.function f closed.allows listed two.0) [
            | inl first ↦ absurd (gives_handle f.function.ty.params c.args first (args_are pass) none)
            | inr poll ↦ not_true (is_empty_poll h f c) (empty_poll poll none) both.1
          ]

      answered_if : (b : Bool) → (b ≡ true → false ≡ true) → Shut r [] (λ g. virtual g r f c) → Shut r [] (λ g. if b then hosted g r f c else virtual g r f c)
      answered_if true never v = false_true (never refl)
      answered_if false never v = v

      shut_answered : passes r.live f c ≡ true → Shut r [] (λ g. answered g r f c)
      shut_answered pass = answered_if (asks_host h r f c) (never_asked pass) (shut_virtual r f c still_own)

      shut_denied : passes r.live f c ≡ true → (d : Denial) → Shut r [] (λ g. denied g r f c d)
      shut_denied pass NotDenied = shut_answered pass
      shut_denied pass ByPolicy = shut_if r [] (λ g. returns g r _) (λ g. traps g r) (is_answered r.setup.policy.deny (errors_of f)) (shut_returns r _ still_own) (shut_traps r still_own)
      shut_denied pass ByRules = shut_returns r _ still_own

      passing_if : (b : Bool) → (b ≡ true → Shut r [] (λ g. weighed g r f c)) → Shut r [] (λ g. if b then weighed g r f c else traps g r)
      passing_if true so = so refl
      passing_if false so = shut_traps r still_own

      shut_listed : Shut r [] (λ g. guarded g r c (Some f))
      shut_listed =
          passing_if (passes r.live f c)
          (λ pass.
          shut_if r [] (λ g. traps g r) (λ g. with_room g r f c) (is_heavy h r (args_weight h f c)) (shut_traps r still_own)
          (shut_if r [] (λ g. denied g r f c (denial r.setup.policy f c)) (λ g. full g r (errors_of f)) (has_places r.setup.policy r.live f.function.ty.answer) (shut_denied pass (denial r.setup.policy f c)) (shut_full r (errors_of f) still_own)))

    shut_guarded : (o : Option Listed) → listed_function r.setup.version c.interface c.function ≡ o → Shut r [] (λ g. guarded g r c o)
    shut_guarded None is = shut_traps r still_own
    shut_guarded (Some f) is = shut_listed f is

    shut_call : Shut r [] (λ g. calls g r c)
    shut_call = shut_guarded (listed_function r.setup.version c.interface c.function) refl

  -- ---- a drop

  record ShutLoss (r : Reference S) (F : HostStep S → Loss (Reference S)) : Type 0 where
    shown : (F h).seen ≡ []
    inner : (F h).next.inner ≡ r.inner
    setup : (F h).next.setup ≡ r.setup
    live : AreOwn (F h).next.live
    same : (g : HostStep S) → F g ≡ F h

  shut_lost : (r : Reference S) (id kind : ℕ) (content : Content) → IsOwnContent content → AreOwn r.live → ShutLoss r (λ g. lost g r id kind content)
  shut_lost r id kind (Host theirs) new own = false_true (sym new)
  shut_lost r id kind (Node tree path) new own = record { shown = refl; inner = refl; setup = refl; live = own_set r.live id None tt own; same = λ g. refl }
  shut_lost r id kind (FileAt tree path place) new own = record { shown = refl; inner = refl; setup = refl; live = own_set r.live id None tt own; same = λ g. refl }
  shut_lost r id kind EmptyIn new own = record { shown = refl; inner = refl; setup = refl; live = own_set r.live id None tt own; same = λ g. refl }
  shut_lost r id kind Discard new own = record { shown = refl; inner = refl; setup = refl; live = own_set r.live id None tt own; same = λ g. refl }
  shut_lost r id kind Always new own = record { shown = refl; inner = refl; setup = refl; live = own_set r.live id None tt own; same = λ g. refl }
  shut_lost r id kind (Entries rest) new own = record { shown = refl; inner = refl; setup = refl; live = own_set r.live id None tt own; same = λ g. refl }
  shut_lost r id kind ScratchRoot new own = record { shown = refl; inner = refl; setup = refl; live = own_set r.live id None tt own; same = λ g. refl }
  shut_lost r id kind (ScratchEntries from) new own = record { shown = refl; inner = refl; setup = refl; live = own_set r.live id None tt own; same = λ g. refl }
  shut_lost r id kind (ScratchFile n may_write) new own = record { shown = refl; inner = refl; setup = refl; live = own_set r.live id None tt own; same = λ g. refl }
  shut_lost r id kind (ScratchIn n place) new own = record { shown = refl; inner = refl; setup = refl; live = own_set r.live id None tt own; same = λ g. refl }
  shut_lost r id kind (ScratchOut n to) new own = record { shown = refl; inner = refl; setup = refl; live = own_set r.live id None tt own; same = λ g. refl }

  kept : (r : Reference S) → AreOwn r.live → ShutLoss r (λ g. record { seen = []; next = r })
  kept r own = record { shown = refl; inner = refl; setup = refl; live = own; same = λ g. refl }

  loss_if : (r : Reference S) (F G : HostStep S → Loss (Reference S)) (b : Bool) → ShutLoss r F → ShutLoss r G → ShutLoss r (λ g. if b then F g else G g)
  loss_if r F G true f g = f
  loss_if r F G false f g = g

  shut_dropped : (r : Reference S) (id kind : ℕ) (e : Option LiveHandle) → IsOwnEntry e → AreOwn r.live → ShutLoss r (λ g. dropped g r id kind e)
  shut_dropped r id kind None new own = kept r own
  shut_dropped r id kind (Some e) new own = loss_if r (λ g. lost g r id kind e.content) (λ g. record { seen = []; next = r }) (e.kind == kind) (shut_lost r id kind e.content new own) (kept r own)

  shut_as : (r : Reference S) (id : ℕ) (kind : Option ℕ) → AreOwn r.live → ShutLoss r (λ g. dropped_as g r id kind)
  shut_as r id None own = kept r own
  shut_as r id (Some kind) own = shut_dropped r id kind (handle_at r.live id) (entry_at r.live id own) own

  shut_drop : (r : Reference S) (resource : Resource) (id : ℕ) → AreOwn r.live → ShutLoss r (λ g. drops g r resource id)
  shut_drop r resource id own = shut_as r id (kind_named r.setup.version resource) own

  -- ---- one act after another

  abbrev Over : HostStep S → Kept (Reference S) → List Act → Kept (Reference S)
  Over g k acts = after (reference_step g) k acts

  record Stays (k : Kept (Reference S)) (acts : List Act) : Type 0 where
    silent : (Over h k acts).seen ≡ k.seen
    untouched : (Over h k acts).state.inner ≡ k.state.inner
    alone : (g : HostStep S) → Over g k acts ≡ Over h k acts

  closed_then : (r t : Reference S) → t.setup ≡ r.setup → AreOwn t.live → IsClosed r → IsClosed t
  closed_then r t same own closed = record { allows = subst (λ (s : Setup). AllowsNothing s.policy) (sym same) closed.allows; own = own }

  nothing_more : (xs ys : List PlainObservation) → ys ≡ [] → xs ++ ys ≡ xs
  nothing_more xs ys none = ap (λ (zs : List PlainObservation). xs ++ zs) none ∙ no_more xs
    where
      no_more : (xs : List PlainObservation) → xs ++ [] ≡ xs
      no_more [] = refl
      no_more (x ∷ xs) = ap (λ (zs : List PlainObservation). x ∷ zs) (no_more xs)

  called : (k : Kept (Reference S)) (c : PlainCall) → Shut k.state [] (λ g. calls g k.state c) → (acts : List Act) → Stays (reacts (reference_step h) k c) acts → Stays k (Calls c ∷ acts)
  unfolding reference_step
  called k c s acts rest = record {
    silent = rest.silent ∙ nothing_more k.seen (calls h k.state c).seen s.shown;
    untouched = rest.untouched ∙ s.inner;
    alone = λ g. ap (λ (x : Reaction (Reference S)). Over g (record { state = x.next; seen = k.seen ++ x.seen }) acts) (s.same g) ∙ rest.alone g;
  }

  dropped_one : (k : Kept (Reference S)) (resource : Resource) (id : ℕ) → ShutLoss k.state (λ g. drops g k.state resource id) → (acts : List Act) → Stays (host_drops (reference_step h) k resource id) acts → Stays k (Drops resource id ∷ acts)
  unfolding reference_step
  dropped_one k resource id s acts rest = record {
    silent = rest.silent ∙ nothing_more k.seen (drops h k.state resource id).seen s.shown;
    untouched = rest.untouched ∙ s.inner;
    alone = λ g. ap (λ (x : Loss (Reference S)). Over g (record { state = x.next; seen = k.seen ++ x.seen }) acts) (s.same g) ∙ rest.alone g;
  }

  after_call : (k : Kept (Reference S)) (c : PlainCall) → Shut k.state [] (λ g. calls g k.state c) → IsClosed k.state → IsClosed (reacts (reference_step h) k c).state
  unfolding reference_step
  after_call k c s closed = closed_then k.state (calls h k.state c).next s.setup s.live closed

  after_drop : (k : Kept (Reference S)) (resource : Resource) (id : ℕ) → ShutLoss k.state (λ g. drops g k.state resource id) → IsClosed k.state → IsClosed (host_drops (reference_step h) k resource id).state
  unfolding reference_step
  after_drop k resource id s closed = closed_then k.state (drops h k.state resource id).next s.setup s.live closed

  stays : (acts : List Act) (k : Kept (Reference S)) → IsClosed k.state → Stays k acts
  stays [] k closed = record { silent = refl; untouched = refl; alone = λ g. refl }
  stays (Calls c ∷ acts) k closed =
      let s = shut_call k.state c closed in
      called k c s acts (stays acts (reacts (reference_step h) k c) (after_call k c s closed))
  stays (Drops resource id ∷ acts) k closed =
      let s = shut_drop k.state resource id closed.own in
      dropped_one k resource id s acts (stays acts (host_drops (reference_step h) k resource id) (after_drop k resource id s closed))

  pub stays_closed : (setup : Setup) (inner : S) (acts : List Act) → AllowsNothing setup.policy → StaysClosed h setup inner acts
  stays_closed setup inner acts allows =
      let s = stays acts (begun setup inner) (record { allows = allows; own = tt }) in
      record { silent = s.silent; untouched = s.untouched; alone = s.alone }
