-- Live handles stand for what they may: at first none is live, and each step keeps it.
use Rattle.std.proofs.Common.{◌≡◌, ◌∙◌, refl, sym, ap, subst, ℕ, zero, suc, ◌+◌, List, [], ◌∷◌, ◌++◌, Bool, true, false, not, ◌&&◌, Option, Some, None}
use Rattle.std.specs.Prelude.{◌==◌, is_some, map, codes, slice_index_or, slice_set, option_map, if◌then◌else◌}
use Rattle.std.specs.List.{list_all}
use Rattle.std.specs.Str.{bytes_eq}
use Rattle.std.proofs.lemmas.Bool.{eqb-true}
use Rattle.wit_types.specs.Plain.{Name, Parts, More, BorrowType}
use Rattle.wit_types.specs.PlainValue.{PlainValue, PlainValues, HandleValue, End as NoValues, More as Values}
use Rattle.wit_types.specs.HasType.{are_of}
use Rattle.policy_data.specs.declared.policy.Policy.{Policy}
use Rattle.policy_data.specs.declared.data.Pass.{Pass}
use Rattle.policy_data.specs.declared.data.Scratch.{Scratch}
use Rattle.tree_table.specs.declared.entries.NamedTree.{NamedTree}
use Rattle.tree_table.specs.declared.entries.Node.{Node as TreeNode}
use Rattle.tree_table.specs.declared.entries.Node.TheVariants.{File}
use Rattle.host_port.specs.declared.call.Resource.{Resource}
use Rattle.host_port.specs.Calls.{PlainCall, PlainAnswer, PlainObservation, Gives, Trap, Ended, Bad}
use Rattle.host_port.specs.Hosts.{HostStep, Reaction, Loss, Kept, reacts, drops as host_drops}
use Rattle.reference_step.specs.Access.{all_files, asks_folders, is_hosted, access, can_be_host}
use Rattle.reference_step.specs.Atoms.{atoms_of, handles, result_atoms, weight}
use Rattle.reference_step.specs.Descriptors as descriptors
use Rattle.reference_step.specs.Handles.{Content, Host, Node, Always, Entries, ScratchRoot, ScratchEntries, ScratchFile, ScratchIn, ScratchOut, Live, LiveHandle, descriptor, is_host, content_in, content_of, handle_at, is_of_kind, with_entry, with_handle, standing_for}
use Rattle.reference_step.specs.Listed.{Listed, listed_function, kind_named}
use Rattle.reference_step.specs.Nodes.{node_at, children_at}
use Rattle.reference_step.specs.Rows.{row_of}
use Rattle.reference_step.specs.Rules.{passes, given, has_places, fit, Errors, FilesystemErrors, SocketErrors, NoErrors, errors_of, Denial, NotDenied, ByPolicy, ByRules, denial, is_answered, alike_results, are_live}
use Rattle.reference_step.specs.State.{Setup, Reference, opening, View, Row, Traps, Does, view_of}
use Rattle.reference_step.specs.Steps.{Offer, Given, Lost, is_heavy, args_weight, entered, from_host, host_gave, by_answer, with_inner, to_host, environment_gave, folders_gave, offer_of, by_pass, made_for, becomes, roots_from, scratch_offer, own_offers, offers, with_folder, value_of, by_row, is_folders, is_environment, is_empty_poll, is_none_given, preopens, are_host, asks_host, hosted, virtual, answered, denied, full, weighed, guarded, calls, lost, dropped, dropped_as, drops, reference_step}
use Rattle.reference_step.specs.Values.{nth, id_in, list_in}
use Rattle.reference_laws.proofs.Handled.{both_true, false_true}
use Rattle.reference_laws.proofs.AnswerKinds.{in_result, first_kind, answers_can, asks_if}
use Rattle.reference_laws.proofs.Free.{IsMade, AreMade, MayBecome, IsFree, own_of_made, lists_directory, row_is_free}
use Rattle.reference_laws.proofs.OpenedFiles.{MakesFiles, RowMakesFiles, row_makes_files, with_rows, fs_types, read_directory, alone, traps_beyond, listing}
use Rattle.reference_laws.specs.Closed.{Act, Calls, Drops, after, begun}
use Rattle.reference_laws.specs.Reaching.{IsLetThrough}
use Rattle.reference_laws.specs.Standing.{is_scratch, is_file, MayStand, AllMayStand, HandlesStandAsTheyMay, AnswersHoldTheHostsKinds}

not_true : {A : Type 0} (b : Bool) → b ≡ false → b ≡ true → A
not_true b fails holds = false_true (sym fails ∙ holds)

same_kind : (k l : ℕ) → Some k ≡ Some l → k ≡ l
same_kind k l e = cc

-- ---- all live handles of a list

module _ (p : Policy) where
  abbrev EntryMay : Option LiveHandle → Type 0
  EntryMay None = Unit {0}
  EntryMay (Some e) = MayStand p e

  abbrev AllMay : Live → Type 0
  AllMay [] = Unit {0}
  AllMay (e ∷ live) = EntryMay e × AllMay live

  entry_from : (e : Option LiveHandle) → ((handle : LiveHandle) → e ≡ Some handle → MayStand p handle) → EntryMay e
  entry_from None may = tt
  entry_from (Some e) may = may e refl

  all_from : (live : Live) → ((id : ℕ) (handle : LiveHandle) → handle_at live id ≡ Some handle → MayStand p handle) → AllMay live
  all_from [] may = tt
  all_from (e ∷ live) may = (entry_from e (may 0), all_from live (λ id. may (suc id)))

  entry_at : (live : Live) (id : ℕ) → AllMay live → EntryMay (handle_at live id)
  entry_at [] id may = tt
  entry_at (e ∷ live) zero may = may.0
  entry_at (e ∷ live) (suc id) may = entry_at live id may.1

  each_of : (live : Live) → AllMay live → (id : ℕ) (handle : LiveHandle) → handle_at live id ≡ Some handle → MayStand p handle
  each_of live may id handle is = subst EntryMay is (entry_at live id may)

  may_with : (live : Live) (e : LiveHandle) → MayStand p e → AllMay live → AllMay (with_entry live e)
  may_with [] e new may = (new, tt)
  may_with (None ∷ live) e new may = (new, may.1)
  may_with (Some f ∷ live) e new may = (may.0, may_with live e new may.1)

  may_set : (live : Live) (id : ℕ) (e : Option LiveHandle) → EntryMay e → AllMay live → AllMay (slice_set live id e)
  may_set [] id e new may = tt
  may_set (f ∷ live) zero e new may = (new, may.1)
  may_set (f ∷ live) (suc id) e new may = (may.0, may_set live id e new may.1)

  -- ---- what is made without the host

  scratch_from : (self content : Content) → IsMade self content → is_scratch content ≡ true → is_scratch self ≡ true
  scratch_from self ScratchRoot made is = made
  scratch_from self (ScratchEntries from) made is = made
  scratch_from self (ScratchFile n may_write) made is = made
  scratch_from self (ScratchIn n place) made is = made
  scratch_from self (ScratchOut n to) made is = made
  scratch_from self _ made is = false_true is

  self_scratch : (e : Option LiveHandle) → EntryMay e → is_scratch (content_in e) ≡ true → is_some p.fs_scratch ≡ true
  self_scratch None may is = false_true is
  self_scratch (Some e) may is = may.scratch is

  turned : (e : Option LiveHandle) (content : Content) → EntryMay e → MayBecome (content_in e) (Some content) → EntryMay (option_map (standing_for content) e)
  turned None content may new = tt
  turned (Some e) content may new = record {
    host = λ is. not_true (is_host content) (own_of_made e.content content new.0) is;
    scratch = λ is. may.scratch (scratch_from e.content content new.0 is);
    file = λ is. not_true (is_file e.content) new.1 (may.file is);
  }

  made_at : (self : Content) (makes : List Content) (i : ℕ) → AreMade self makes → IsMade self (slice_index_or makes i Always)
  made_at self [] i made = refl
  made_at self (c ∷ cs) zero made = made.0
  made_at self (c ∷ cs) (suc i) made = made_at self cs i made.1

  newly : (self : Content) (makes : List Content) (g : ℕ × ℕ) → (is_scratch self ≡ true → is_some p.fs_scratch ≡ true) → AreMade self makes → (g.0 ≡ descriptor → is_file (slice_index_or makes g.1 Always) ≡ true)
      → MayStand p (record { kind = g.0; content = slice_index_or makes g.1 Always })
  newly self makes g has made files =
      let one = made_at self makes g.1 made in
      record {
        host = λ is. not_true (is_host (slice_index_or makes g.1 Always)) (own_of_made self (slice_index_or makes g.1 Always) one) is;
        scratch = λ is. has (scratch_from self (slice_index_or makes g.1 Always) one is);
        file = files;
      }

-- `read-directory` of a file or a folder that is not the host's
lists_own : (v : View) (c : Content) → is_file c ≡ true → is_host c ≡ false → IsFree c (descriptors.read-directory v c)
lists_own v (Host id) file own = false_true (sym own)
lists_own v (Node tree path) file own = listed_node (node_at v.trees tree path) (Entries (children_at v.trees tree path)) refl
  where
    listed_node : (node : Option TreeNode) (entries : Content) → IsMade (Node tree path) entries → IsFree (Node tree path) (descriptors.listed node entries)
    listed_node (Some (File content)) entries made = (tt, tt)
    listed_node _ entries made = ((made, tt), tt)
lists_own v ScratchRoot file own = ((refl, tt), tt)
lists_own v (ScratchFile n may_write) file own = (tt, tt)
lists_own v _ file own = false_true file

not_asking : (a b c : Bool) → (a && (b && not c)) ≡ false → a ≡ true → c ≡ false → b ≡ false
not_asking true true false e f g = e
not_asking true true true e f g = false_true (sym g)
not_asking true false c e f g = refl
not_asking false b c e f g = false_true f

module _ {S : Type 0} (h : HostStep S) where
  -- ---- what the host answers

  -- the handle that a call gives first is live, of its kind, and the host's
  record FirstIsHost (live : Live) (kind : ℕ) : Type 0 where
    id : ℕ
    lives : is_of_kind kind (handle_at live id) ≡ true
    hosts : is_host (content_of live id) ≡ true

  first_is_host : (params : Parts) (args : PlainValues) (live : Live) (kind : ℕ) → first_kind params ≡ Some kind → are_of params args ≡ true → are_live live (handles (atoms_of params args)) ≡ true
      → are_host h live (handles (atoms_of params args)) ≡ true → FirstIsHost live kind
  first_is_host (More name (BorrowType k) rest) (Values (HandleValue id) vs) live kind e are lives hosts = record {
    id = id;
    lives = subst (λ n. is_of_kind n (handle_at live id) ≡ true) (same_kind k kind e) (both_true (is_of_kind k (handle_at live id)) (are_live live (handles (atoms_of rest vs))) lives).0;
    hosts = (both_true (is_host (content_of live id)) (are_host h live (handles (atoms_of rest vs))) hosts).0;
  }
  first_is_host (More name (BorrowType k) rest) _ live kind e are lives hosts = false_true are
  first_is_host _ args live kind e are lives hosts = absurd cc

  module _ (r : Reference S) (may : AllMayStand r) where
    held_kind : (kind id : ℕ) (e : Option LiveHandle) → handle_at r.live id ≡ e → is_of_kind kind e ≡ true → is_host (content_in e) ≡ true → can_be_host r.setup.policy kind ≡ true
    held_kind kind id None is of hosts = false_true of
    held_kind kind id (Some e) is of hosts = subst (λ n. can_be_host r.setup.policy n ≡ true) (eqb-true e.kind kind of) ((may id e is).host hosts)

    held_first : (kind : ℕ) → FirstIsHost r.live kind → can_be_host r.setup.policy kind ≡ true
    held_first kind f = held_kind kind f.id (handle_at r.live f.id) refl f.lives f.hosts

    answers_hold : (c : PlainCall) (through : IsLetThrough h r c) (v : Option PlainValue) → list_all (λ g. can_be_host r.setup.policy g.0) (handles (result_atoms through.function.function.ty.answer v)) ≡ true
    answers_hold c through v =
        let f = through.function in
        let two = both_true (are_of f.function.ty.params c.args) (alike_results f.function.ty.answer c.answer && are_live r.live (given f c)) through.passes_so in
        let lives = (both_true (alike_results f.function.ty.answer c.answer) (are_live r.live (given f c)) two.1).1 in
        in_result (can_be_host r.setup.policy) f.function.ty.answer v
        (answers_can r.setup.policy r.setup.version c.interface c.function f through.listed through.hosted
        (λ kind e. held_first kind (first_is_host f.function.ty.params c.args r.live kind e two.0 lives through.handles)))

  pub answers_hold_kinds : AnswersHoldTheHostsKinds h
  answers_hold_kinds = λ r c may through v. answers_hold r may c through v

  -- ---- a call that is answered without the host

  record Keeps (r t : Reference S) : Type 0 where
    setup : t.setup ≡ r.setup
    live : AllMay r.setup.policy t.live

  reaction_if : (r : Reference S) (b : Bool) (x y : Reaction (Reference S)) → Keeps r x.next → Keeps r y.next → Keeps r (if b then x else y).next
  reaction_if r true x y f g = f
  reaction_if r false x y f g = g

  by_case : (r : Reference S) (b : Bool) (x y : Reaction (Reference S)) → (b ≡ true → Keeps r x.next) → (b ≡ false → Keeps r y.next) → Keeps r (if b then x else y).next
  by_case r true x y f g = f refl
  by_case r false x y f g = g refl

  may_become : (p : Policy) (live : Live) (self : PlainValue) (content : Option Content) → MayBecome (content_of live (id_in self)) content → AllMay p live → AllMay p (becomes h live self content)
  may_become p live self None new may = may
  may_become p live self (Some content) new may = may_set p live (id_in self) _ (turned p (handle_at live (id_in self)) content (entry_at p live (id_in self) may) new) may

  may_enter : (p : Policy) (self : Content) (makes : List Content) (ids : List (ℕ × ℕ)) (live : Live) → (is_scratch self ≡ true → is_some p.fs_scratch ≡ true) → AreMade self makes → MakesFiles makes ids → AllMay p live
      → AllMay p (entered h live (made_for h makes ids)).0
  may_enter p self makes [] live has made files may = may
  may_enter p self makes (g ∷ ids) live has made files may =
      may_enter p self makes ids (with_handle live g.0 (slice_index_or makes g.1 Always)) has made files.1 (may_with p live _ (newly p self makes g has made files.0) may)

  from_hosts : (p : Policy) (ids : List (ℕ × ℕ)) (live : Live) → list_all (λ g. can_be_host p g.0) ids ≡ true → AllMay p live → AllMay p (entered h live (from_host h ids)).0
  from_hosts p [] live can may = may
  from_hosts p (g ∷ ids) live can may =
      let two = both_true (can_be_host p g.0) (list_all (λ x. can_be_host p x.0) ids) can in
      from_hosts p ids (with_handle live g.0 (Host g.1)) two.1 (may_with p live _ (record { host = λ is. two.0; scratch = λ is. false_true is; file = λ is. refl }) may)

  -- ---- get-directories

  abbrev OfferMay : Policy → Offer h → Type 0
  OfferMay p (Given content name) = MayStand p (record { kind = descriptor; content = content })
  OfferMay p (Lost id) = Unit {0}

  abbrev OffersMay : Policy → List (Offer h) → Type 0
  OffersMay p [] = Unit {0}
  OffersMay p (o ∷ os) = OfferMay p o × OffersMay p os

  offers_keep : (os : List (Offer h)) (r : Reference S) (seen : List PlainObservation) (values : List PlainValue) → OffersMay r.setup.policy os → AllMay r.setup.policy r.live → Keeps r (offers h r seen values os).next
  offers_keep [] r seen values given may = record { setup = refl; live = may }
  offers_keep (Given content name ∷ os) r seen values given may =
      let more = offers_keep os (with_folder h r content) seen _ given.1 (may_with r.setup.policy r.live _ given.0 may) in
      reaction_if r (fit r.setup.policy r.live descriptor 1) _ _ (record { setup = more.setup; live = more.live }) (record { setup = refl; live = may })
  offers_keep (Lost id ∷ os) r seen values given may =
      let more = offers_keep os (with_inner h r _) _ values given.1 may in
      record { setup = more.setup; live = more.live }

  -- the handle that `read-directory` takes is a descriptor, and where the host is not asked it is not the host's
  record Alone (live : Live) (args : PlainValues) : Type 0 where
    lives : is_of_kind descriptor (handle_at live (id_in (nth 0 args))) ≡ true
    own : is_host (content_of live (id_in (nth 0 args))) ≡ false

  not_and : (b : Bool) → (b && true) ≡ false → b ≡ false
  not_and true e = e
  not_and false e = e

  is_alone : (args : PlainValues) (live : Live) → are_of alone args ≡ true → are_live live (handles (atoms_of alone args)) ≡ true → are_host h live (handles (atoms_of alone args)) ≡ false → Alone live args
  is_alone (Values (HandleValue id) NoValues) live are lives own = record { lives = (both_true (is_of_kind descriptor (handle_at live id)) true lives).0; own = not_and (is_host (content_of live id)) own }
  is_alone _ live are lives own = false_true are

  file_of : (p : Policy) (e : Option LiveHandle) → EntryMay p e → is_of_kind descriptor e ≡ true → is_file (content_in e) ≡ true
  file_of p None may of = false_true of
  file_of p (Some e) may of = may.file (eqb-true e.kind descriptor of)

  module _ (r : Reference S) (c : PlainCall) (may : AllMayStand r) where
    abbrev policy : Policy
    policy = r.setup.policy

    live_may : AllMay policy r.live
    live_may = all_from policy r.live may

    stays : Keeps r r
    stays = record { setup = refl; live = live_may }

    abbrev self : Content
    self = content_of r.live (id_in (nth 0 c.args))

    self_may : EntryMay policy (handle_at r.live (id_in (nth 0 c.args)))
    self_may = entry_at policy r.live (id_in (nth 0 c.args)) live_may

    row_keeps : (f : Listed) (row : Row) → IsFree self row → RowMakesFiles f.function.ty.answer row → Keeps r (by_row h r f c row).next
    row_keeps f Traps free files = stays
    row_keeps f (Does e) free files = record {
      setup = refl;
      live = may_enter policy self e.makes (handles (result_atoms f.function.ty.answer e.value)) _ (self_scratch policy (handle_at r.live (id_in (nth 0 c.args))) self_may) free.0 files (may_become policy r.live (nth 0 c.args) e.becomes free.1 live_may);
    }

    -- the folders that are given
    roots_may : (trees : List NamedTree) (place : ℕ) (s : Option Scratch) → policy.fs_scratch ≡ s → OffersMay policy (roots_from h place trees ++ scratch_offer h s)
    roots_may [] place None is = tt
    roots_may [] place (Some s) is = (record { host = λ e. false_true e; scratch = λ e. ap is_some is; file = λ e. refl }, tt)
    roots_may (tree ∷ trees) place s is = (record { host = λ e. false_true e; scratch = λ e. false_true e; file = λ e. refl }, roots_may trees (place + 1) s is)

    own_may : OffersMay policy (own_offers h r.setup)
    own_may = roots_may r.setup.trees 0 policy.fs_scratch refl

    module _ (can : can_be_host policy descriptor ≡ true) where
      host_file : (id : ℕ) → MayStand policy (record { kind = descriptor; content = Host id })
      host_file id = record { host = λ e. can; scratch = λ e. false_true e; file = λ e. refl }

      pass_may : (id : ℕ) (pass : Option Pass) → OfferMay policy (by_pass h id pass)
      pass_may id None = tt
      pass_may id (Some pass) = host_file id

      offer_if : (b : Bool) (x y : Offer h) → OfferMay policy x → OfferMay policy y → OfferMay policy (if b then x else y)
      offer_if true x y f g = f
      offer_if false x y f g = g

      hosts_may : (vs : List PlainValue) (more : List (Offer h)) → OffersMay policy more → OffersMay policy (map (offer_of h policy) vs ++ more)
      hosts_may [] more rest = rest
      hosts_may (v ∷ vs) more rest = (offer_if (all_files policy.fs_host) _ _ (host_file _) (pass_may _ _), hosts_may vs more rest)

    full_keeps : (e : Errors) → Keeps r (full h r e).next
    full_keeps FilesystemErrors = stays
    full_keeps SocketErrors = stays
    full_keeps NoErrors = stays

    -- ---- what the host answers

    inner_keeps : (inner : S) → Keeps r (with_inner h r inner)
    inner_keeps inner = record { setup = refl; live = live_may }

    by_answers : (s : Reference S) (seen : List PlainObservation) (a : PlainAnswer) (go : Option PlainValue → Reaction (Reference S)) → Keeps r s → ((v : Option PlainValue) → Keeps r (go v).next) → Keeps r (by_answer h s seen a go).next
    by_answers s seen (Gives v) go kept gave = gave v
    by_answers s seen Trap go kept gave = kept
    by_answers s seen Ended go kept gave = kept
    by_answers s seen Bad go kept gave = kept

    module _ (f : Listed) (listed : listed_function r.setup.version c.interface c.function ≡ Some f) (pass : passes r.live f c ≡ true) where
      are_all : (are_of f.function.ty.params c.args ≡ true) × ((alike_results f.function.ty.answer c.answer && are_live r.live (given f c)) ≡ true)
      are_all = both_true (are_of f.function.ty.params c.args) (alike_results f.function.ty.answer c.answer && are_live r.live (given f c)) pass

      lives_all : are_live r.live (given f c) ≡ true
      lives_all = (both_true (alike_results f.function.ty.answer c.answer) (are_live r.live (given f c)) are_all.1).1

      module _ (free : denial policy f c ≡ NotDenied) (asked : asks_host h r f c ≡ true) where
        abbrev through : IsLetThrough h r c
        through =
            let two = both_true (is_hosted (access policy f.interface f.function.name)) (are_host h r.live (given f c) && not (is_empty_poll h f c)) asked in
            record {
              function = f;
              listed = listed;
              passes_so = pass;
              undenied = free;
              hosted = two.0;
              handles = (both_true (are_host h r.live (given f c)) (not (is_empty_poll h f c)) two.1).0;
            }

        host_keeps : (inner : S) (seen : List PlainObservation) (v : Option PlainValue) → Keeps r (host_gave h (with_inner h r inner) seen f c v).next
        host_keeps inner seen v =
            reaction_if r (is_heavy h r (args_weight h f c + weight (result_atoms f.function.ty.answer v))) _ _ (inner_keeps inner)
            (record { setup = refl; live = from_hosts policy (handles (result_atoms f.function.ty.answer v)) r.live (answers_hold r may c through v) live_may })

        environment_keeps : (inner : S) (seen : List PlainObservation) (v : Option PlainValue) → Keeps r (environment_gave h (with_inner h r inner) seen f c v).next
        environment_keeps inner seen v = reaction_if r _ _ _ (inner_keeps inner) (inner_keeps inner)

        can_folders : is_folders h f ≡ true → can_be_host policy descriptor ≡ true
        can_folders e = asks_if (asks_folders policy) (subst (λ i. is_hosted (access policy i f.function.name) ≡ true) (eqb-true f.interface (preopens h) e) through.hosted)

        folders_keep : can_be_host policy descriptor ≡ true → (inner : S) (seen : List PlainObservation) (v : Option PlainValue) → Keeps r (folders_gave h (with_inner h r inner) seen f c v).next
        folders_keep can inner seen v =
            let more = offers_keep (map (offer_of h policy) (list_in (value_of h v)) ++ own_offers h r.setup) (with_inner h r inner) seen [] (hosts_may can (list_in (value_of h v)) (own_offers h r.setup) own_may) live_may in
            reaction_if r _ _ _ (inner_keeps inner) (record { setup = more.setup; live = more.live })

        hosted_keeps : Keeps r (hosted h r f c).next
        hosted_keeps =
            let reaction = h.call r.inner (to_host h r f c) in
            reaction_if r (is_environment h f) _ _ (by_answers (with_inner h r reaction.next) reaction.seen reaction.answer _ (inner_keeps reaction.next) (environment_keeps reaction.next reaction.seen))
            (by_case r (is_folders h f) _ _
            (λ e. by_answers (with_inner h r reaction.next) reaction.seen reaction.answer _ (inner_keeps reaction.next) (folders_keep (can_folders e) reaction.next reaction.seen))
            (λ e. by_answers (with_inner h r reaction.next) reaction.seen reaction.answer _ (inner_keeps reaction.next) (host_keeps reaction.next reaction.seen)))

      module _ (unasked : asks_host h r f c ≡ false) where
        abbrev OwnRow : ℕ → Name → Type 0
        OwnRow i n = IsFree self (row_of i n (view_of r) c.args)

        alone_of : f.function.ty.params ≡ alone → are_host h r.live (given f c) ≡ false → Alone r.live c.args
        alone_of is own =
            is_alone c.args r.live (subst (λ ps. are_of ps c.args ≡ true) is are_all.0) (subst (λ ps. are_live r.live (handles (atoms_of ps c.args)) ≡ true) is lives_all)
            (subst (λ ps. are_host h r.live (handles (atoms_of ps c.args)) ≡ false) is own)

        none_host : (f.interface ≡ fs_types) → (f.function.name ≡ read_directory) → are_host h r.live (given f c) ≡ false
        none_host place so =
            not_asking (is_hosted (access policy f.interface f.function.name)) (are_host h r.live (given f c)) (is_empty_poll h f c) unasked (subst (λ i. is_hosted (access policy i f.function.name) ≡ true) (sym place) refl)
            (subst (λ n. (bytes_eq n (codes "poll") && is_none_given h (given f c)) ≡ false) (sym so) refl)

        of_listing : f.interface ≡ fs_types → f.function.name ≡ read_directory → Alone r.live c.args → OwnRow f.interface f.function.name
        of_listing place so a =
            subst (λ i. OwnRow i f.function.name) (sym place) (subst (λ n. OwnRow fs_types n) (sym so) (lists_own (view_of r) self (file_of policy (handle_at r.live (id_in (nth 0 c.args))) self_may a.lives) a.own))

        of_place : (b : Bool) → slice_index_or with_rows f.interface false ≡ b → lists_directory f.function.name ≡ true → OwnRow f.interface f.function.name
        of_place false e is = subst (IsFree self) (sym (traps_beyond f.interface f.function.name (view_of r) c.args e)) tt
        of_place true e is = let l = listing r.setup.version c.interface c.function f listed is e in of_listing l.place l.named_so (alone_of l.takes (none_host l.place l.named_so))

        row_frees : (b : Bool) → lists_directory f.function.name ≡ b → OwnRow f.interface f.function.name
        row_frees false is = subst (λ x. IsFree x (row_of f.interface f.function.name (view_of r) c.args)) (ap (λ (b : Bool). if b then ScratchRoot else self) is) (row_is_free f.interface f.function.name (view_of r) c.args)
        row_frees true is = of_place (slice_index_or with_rows f.interface false) refl is

        virtual_keeps : Keeps r (virtual h r f c).next
        virtual_keeps =
            reaction_if r (is_folders h f) _ _ (offers_keep (own_offers h r.setup) r [] [] own_may live_may)
            (row_keeps f (row_of f.interface f.function.name (view_of r) c.args) (row_frees (lists_directory f.function.name) refl) (row_makes_files r.setup.version c.interface c.function f listed (view_of r) c.args))

      answered_keeps : denial policy f c ≡ NotDenied → Keeps r (answered h r f c).next
      answered_keeps free = by_case r (asks_host h r f c) _ _ (λ asked. hosted_keeps free asked) (λ unasked. virtual_keeps unasked)

      denied_keeps : (d : Denial) → denial policy f c ≡ d → Keeps r (denied h r f c d).next
      denied_keeps NotDenied is = answered_keeps is
      denied_keeps ByPolicy is = reaction_if r (is_answered policy.deny (errors_of f)) _ _ stays stays
      denied_keeps ByRules is = stays

      weighed_keeps : Keeps r (weighed h r f c).next
      weighed_keeps =
          reaction_if r (is_heavy h r (args_weight h f c)) _ _ stays
          (reaction_if r (has_places policy r.live f.function.ty.answer) _ _ (denied_keeps (denial policy f c) refl) (full_keeps (errors_of f)))

    guarded_keeps : (o : Option Listed) → listed_function r.setup.version c.interface c.function ≡ o → Keeps r (guarded h r c o).next
    guarded_keeps None is = stays
    guarded_keeps (Some f) is = by_case r (passes r.live f c) _ _ (λ pass. weighed_keeps f is pass) (λ no_pass. stays)

    call_keeps : Keeps r (calls h r c).next
    call_keeps = guarded_keeps (listed_function r.setup.version c.interface c.function) refl

  -- ---- a drop

  module _ (r : Reference S) (may : AllMay r.setup.policy r.live) where
    lost_keeps : (id kind : ℕ) (content : Content) → Keeps r (lost h r id kind content).next
    lost_keeps id kind (Host theirs) = record { setup = refl; live = may_set r.setup.policy r.live id None tt may }
    lost_keeps id kind _ = record { setup = refl; live = may_set r.setup.policy r.live id None tt may }

    loss_if : (b : Bool) (x y : Loss (Reference S)) → Keeps r x.next → Keeps r y.next → Keeps r (if b then x else y).next
    loss_if true x y f g = f
    loss_if false x y f g = g

    dropped_keeps : (id kind : ℕ) (e : Option LiveHandle) → Keeps r (dropped h r id kind e).next
    dropped_keeps id kind None = record { setup = refl; live = may }
    dropped_keeps id kind (Some e) = loss_if (e.kind == kind) _ _ (lost_keeps id kind e.content) (record { setup = refl; live = may })

    as_keeps : (id : ℕ) (kind : Option ℕ) → Keeps r (dropped_as h r id kind).next
    as_keeps id None = record { setup = refl; live = may }
    as_keeps id (Some kind) = dropped_keeps id kind (handle_at r.live id)

    drop_keeps : (resource : Resource) (id : ℕ) → Keeps r (drops h r resource id).next
    drop_keeps resource id = as_keeps id (kind_named r.setup.version resource)

  -- ---- all of it

  all_may : (r t : Reference S) → Keeps r t → AllMayStand t
  all_may r t kept = λ id handle is. subst (λ (s : Setup). MayStand s.policy handle) (sym kept.setup) (each_of r.setup.policy t.live kept.live id handle is)

  first_may : (setup : Setup) (inner : S) → AllMayStand (opening setup inner)
  first_may setup inner = λ id handle is. each_of setup.policy [] tt id handle is

  called_may : (r : Reference S) (c : PlainCall) → AllMayStand r → AllMayStand ((reference_step h).call r c).next
  unfolding reference_step
  called_may r c may = all_may r (calls h r c).next (call_keeps r c may)

  dropped_may : (r : Reference S) (resource : Resource) (id : ℕ) → AllMayStand r → AllMayStand ((reference_step h).drop r resource id).next
  unfolding reference_step
  dropped_may r resource id may = all_may r (drops h r resource id).next (drop_keeps r (all_from r.setup.policy r.live may) resource id)

  after_may : (acts : List Act) (k : Kept (Reference S)) → AllMayStand k.state → AllMayStand (after (reference_step h) k acts).state
  after_may [] k may = may
  after_may (Calls c ∷ acts) k may = after_may acts (reacts (reference_step h) k c) (called_may k.state c may)
  after_may (Drops resource id ∷ acts) k may = after_may acts (host_drops (reference_step h) k resource id) (dropped_may k.state resource id may)

  pub stand_as_they_may : HandlesStandAsTheyMay h
  stand_as_they_may = record {
    first = first_may;
    called = called_may;
    dropped = dropped_may;
    reached = λ setup inner acts. after_may acts (begun setup inner) (first_may setup inner);
  }
