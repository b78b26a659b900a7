-- The step of the reference host: what each call of a listed function answers under a policy, over a host that is asked.
use Rattle.std.specs.Prelude.{ℕ, ◌+◌, ◌*◌, ◌==◌, nat_lt, Bool, true, false, not, ◌&&◌, List, [], ◌∷◌, ◌++◌, map, length, codes, find, slice_index_or, Option, Some, None, if◌then◌else◌}
use Rattle.std.specs.List.{list_all}
use Rattle.std.specs.Str.{bytes_eq}
use Rattle.wit_types.specs.Plain.{Plain}
use Rattle.wit_types.specs.PlainValue.{PlainValue, StringValue, ListValue, HandleValue, End}
use Rattle.wit_types.specs.Layout.{align_to}
use Rattle.wasi_table.specs.declared.kinds.TheConstants.{KINDS}
use Rattle.policy_data.specs.declared.policy.Policy.{Policy}
use Rattle.policy_data.specs.declared.data.Pass.{Pass}
use Rattle.policy_data.specs.declared.data.Scratch.{Scratch}
use Rattle.tree_table.specs.declared.entries.NamedTree.{NamedTree}
use Rattle.tree_table.specs.Scratches.{ScratchMap}
use Rattle.host_port.specs.declared.call.Resource.{Resource}
use Rattle.host_port.specs.Calls.{PlainCall, PlainAnswer, PlainObservation, Gives, Trap, Ended, Bad}
use Rattle.host_port.specs.Hosts.{HostStep, Reaction, Loss}
use Rattle.reference_step.specs.Codes as code
use Rattle.reference_step.specs.Values.{error_code, list, list_in, record_of, fields_in, nth, text_in, id_in}
use Rattle.reference_step.specs.Handles.{Content, Host, Node, ScratchRoot, Always, Live, LiveHandle, descriptor, is_host, handle_at, content_of, fresh_id, with_handle, without_handle, with_content}
use Rattle.reference_step.specs.Atoms.{atoms_of, result_atoms, weight, handles, renumbered_of, renumbered_result}
use Rattle.reference_step.specs.Listed.{Listed, listed_function, kind_named, homes, with_version}
use Rattle.reference_step.specs.State.{Setup, Reference, view_of, Effect, Row, Traps, Does}
use Rattle.reference_step.specs.Access.{all_files, is_hosted, access}
use Rattle.reference_step.specs.Environment.{all_variables}
use Rattle.reference_step.specs.Rows.{row_of}
use Rattle.reference_step.specs.Rules.{passes, given, has_places, fit, Errors, FilesystemErrors, SocketErrors, NoErrors, errors_of, Denial, NotDenied, ByPolicy, ByRules, denial, is_answered}

module _ {S : Type 0} (h : HostStep S) where
  -- ---- answers

  abbrev pub traps : Reference S → Reaction (Reference S)
  traps r = record { seen = []; answer = Trap; next = r }

  abbrev pub returns : Reference S → PlainValue → Reaction (Reference S)
  returns r v = record { seen = []; answer = Gives (Some v); next = r }

  -- ---- handles that enter: each gets the least number that is not live, in the order of the value

  -- those that are live then, and the numbers that were given
  abbrev pub entered : Live → List (ℕ × Content) → Live × List ℕ
  entered live [] = (live, [])
  entered live (new ∷ rest) =
      let others = entered (with_handle live new.0 new.1) rest in
      (others.0, fresh_id live ∷ others.1)

  -- the value with the numbers of the handles that entered
  abbrev pub enters : Reference S → List PlainObservation → Option Plain → Option PlainValue → Live × List ℕ → Reaction (Reference S)
  enters r seen ty v new = record { seen = seen; answer = Gives (renumbered_result ty v new.1); next = record r { live = new.0 } }

  -- ---- weight

  abbrev pub args_weight : Listed → PlainCall → ℕ
  args_weight f c = weight (atoms_of f.function.ty.params c.args)

  abbrev pub is_heavy : Reference S → ℕ → Bool
  is_heavy r n = nat_lt r.setup.policy.transfer_limit n

  -- ---- calls of the host

  -- the numbers that the host has for handles
  abbrev pub host_id : Content → ℕ
  host_id (Host id) = id
  host_id _ = 0

  abbrev pub host_ids : Live → List (ℕ × ℕ) → List ℕ
  host_ids live ids = map (λ g. host_id (content_of live g.1)) ids

  -- the same call with the host's numbers
  abbrev pub to_host : Reference S → Listed → PlainCall → PlainCall
  to_host r f c = record c { args = (renumbered_of f.function.ty.params c.args (host_ids r.live (given f c))).0 }

  abbrev pub with_inner : Reference S → S → Reference S
  with_inner r inner = record r { inner = inner }

  -- own handles of an answer enter as handles of the host
  abbrev pub from_host : List (ℕ × ℕ) → List (ℕ × Content)
  from_host ids = map (λ g. (g.0, Host g.1)) ids

  abbrev pub host_gave : Reference S → List PlainObservation → Listed → PlainCall → Option PlainValue → Reaction (Reference S)
  host_gave r seen f c v =
      if is_heavy r (args_weight f c + weight (result_atoms f.function.ty.answer v)) then record { seen = seen; answer = Trap; next = r }
      else enters r seen f.function.ty.answer v (entered r.live (from_host (handles (result_atoms f.function.ty.answer v))))

  -- what is done with the host's answer: a value goes on, any other is the answer
  abbrev pub by_answer : Reference S → List PlainObservation → PlainAnswer → (Option PlainValue → Reaction (Reference S)) → Reaction (Reference S)
  by_answer r seen (Gives v) go = go v
  by_answer r seen Trap go = record { seen = seen; answer = Trap; next = r }
  by_answer r seen Ended go = record { seen = seen; answer = Ended; next = r }
  by_answer r seen Bad go = record { seen = seen; answer = Bad; next = r }

  abbrev pub reacted : Reference S → Reaction S → (Reference S → List PlainObservation → Option PlainValue → Reaction (Reference S)) → Reaction (Reference S)
  reacted r reaction go = by_answer (with_inner r reaction.next) reaction.seen reaction.answer (go (with_inner r reaction.next) reaction.seen)

  -- the host is asked
  abbrev pub asks : Reference S → Listed → PlainCall → (Reference S → List PlainObservation → Option PlainValue → Reaction (Reference S)) → Reaction (Reference S)
  asks r f c go = reacted r (h.call r.inner (to_host r f c)) go

  abbrev pub value_of : Option PlainValue → PlainValue
  value_of None = ListValue End
  value_of (Some v) = v

  -- that many elements of a size in a list, rounded up to 8
  abbrev pub elements_weight : ℕ → ℕ → ℕ
  elements_weight n size = align_to (n * size) 8

  -- arguments, the host's answer, and the elements of the list that is answered
  abbrev pub list_weight : Listed → PlainCall → Option PlainValue → ℕ → ℕ
  list_weight f c v elements = args_weight f c + (weight (result_atoms f.function.ty.answer v) + elements)

  -- get-environment: of the host's variables those that are passed, and then those that the policy sets, of 16 bytes each
  abbrev pub environment_gave : Reference S → List PlainObservation → Listed → PlainCall → Option PlainValue → Reaction (Reference S)
  environment_gave r seen f c v =
      let all = all_variables r.setup.policy (value_of v) in
      if is_heavy r (list_weight f c v (elements_weight (length all) 16)) then record { seen = seen; answer = Trap; next = r }
      else record { seen = seen; answer = Gives (Some (list all)); next = r }

  -- ---- drops

  -- the resource of a kind, by the interface that defines it
  abbrev pub resource_of : Setup → ℕ → Resource
  resource_of setup kind = record { interface = with_version setup.version (slice_index_or homes kind 0); name = slice_index_or (map (λ w. w.now) KINDS) kind [] }

  abbrev pub host_drops : Setup → S → ℕ → ℕ → Loss S
  host_drops setup inner kind id = h.drop inner (resource_of setup kind) id

  -- ---- get-directories: folders, one by one

  -- a folder that is given under a name, or a handle of the host that is dropped
  pub data Offer : Type 0 where
    Given : (content : Content) → (name : List ℕ) → Offer
    Lost : (id : ℕ) → Offer

  -- the first pass of a folder of the host
  abbrev pub by_pass : ℕ → Option Pass → Offer
  by_pass id None = Lost id
  by_pass id (Some pass) = Given (Host id) pass.shown

  -- an entry of the host: a folder, and its name
  abbrev pub offer_of : Policy → PlainValue → Offer
  offer_of p v =
      let id = id_in (nth 0 (fields_in v)) in
      let name = text_in (nth 1 (fields_in v)) in
      if all_files p.fs_host then Given (Host id) name else by_pass id (find (λ pass. bytes_eq pass.host name) p.fs_pass)

  -- the roots of the trees, where the first has this place
  abbrev pub roots_from : ℕ → List NamedTree → List Offer
  roots_from place [] = []
  roots_from place (tree ∷ trees) = Given (Node place []) tree.name ∷ roots_from (place + 1) trees

  abbrev pub scratch_offer : Option Scratch → List Offer
  scratch_offer None = []
  scratch_offer (Some s) = Given ScratchRoot s.name ∷ []

  -- after the host's: the trees in their order, and the scratch folder
  abbrev pub own_offers : Setup → List Offer
  own_offers setup = roots_from 0 setup.trees ++ scratch_offer setup.policy.fs_scratch

  abbrev pub is_given : Offer → ℕ
  is_given (Given content name) = 1
  is_given (Lost id) = 0

  abbrev pub given_count : List Offer → ℕ
  given_count [] = 0
  given_count (o ∷ os) = is_given o + given_count os

  abbrev pub folder_value : ℕ → List ℕ → PlainValue
  folder_value id name = record_of (HandleValue id ∷ StringValue name ∷ [])

  abbrev pub with_lost : Reference S → Loss S → Reference S
  with_lost r loss = with_inner r loss.next

  abbrev pub with_folder : Reference S → Content → Reference S
  with_folder r content = record r { live = with_handle r.live descriptor content }

  -- Each is given or dropped in its turn. One without room traps.
  abbrev pub offers : Reference S → List PlainObservation → List PlainValue → List Offer → Reaction (Reference S)
  offers r seen values [] = record { seen = seen; answer = Gives (Some (list values)); next = r }
  offers r seen values (Given content name ∷ rest) =
      if fit r.setup.policy r.live descriptor 1 then offers (with_folder r content) seen (values ++ folder_value (fresh_id r.live) name ∷ []) rest
      else record { seen = seen; answer = Trap; next = r }
  offers r seen values (Lost id ∷ rest) =
      let loss = host_drops r.setup r.inner descriptor id in
      offers (with_lost r loss) (seen ++ loss.seen) values rest

  -- with the host's folders in front; the elements of the list have 12 bytes each
  abbrev pub folders_gave : Reference S → List PlainObservation → Listed → PlainCall → Option PlainValue → Reaction (Reference S)
  folders_gave r seen f c v =
      let all = map (offer_of r.setup.policy) (list_in (value_of v)) ++ own_offers r.setup in
      if is_heavy r (list_weight f c v (elements_weight (given_count all) 12)) then record { seen = seen; answer = Trap; next = r }
      else offers r seen [] all

  -- ---- functions that are answered without the host

  abbrev pub becomes : Live → PlainValue → Option Content → Live
  becomes live self None = live
  becomes live self (Some content) = with_content live (id_in self) content

  abbrev pub or_as_it_was : ScratchMap → Option ScratchMap → ScratchMap
  or_as_it_was m None = m
  or_as_it_was m (Some new) = new

  -- what is made for the handles of a value
  abbrev pub made_for : List Content → List (ℕ × ℕ) → List (ℕ × Content)
  made_for makes ids = map (λ g. (g.0, slice_index_or makes g.1 Always)) ids

  -- the row's effect on the state, and its answer
  abbrev pub does : Reference S → Listed → PlainCall → Effect → Reaction (Reference S)
  does r f c e =
      let live = becomes r.live (nth 0 c.args) e.becomes in
      let kept = record r { scratch = or_as_it_was r.scratch e.scratch } in
      enters kept [] f.function.ty.answer e.value (entered live (made_for e.makes (handles (result_atoms f.function.ty.answer e.value))))

  abbrev pub by_row : Reference S → Listed → PlainCall → Row → Reaction (Reference S)
  by_row r f c Traps = traps r
  by_row r f c (Does e) = does r f c e

  -- ---- the five rules

  abbrev pub preopens : ℕ
  preopens = 19

  abbrev pub is_environment : Listed → Bool
  is_environment f = f.interface == 3 && bytes_eq f.function.name (codes "get-environment")

  abbrev pub is_folders : Listed → Bool
  is_folders f = f.interface == preopens

  abbrev pub is_none_given : List (ℕ × ℕ) → Bool
  is_none_given [] = true
  is_none_given (g ∷ gs) = false

  -- poll of no pollable asks nobody
  abbrev pub is_empty_poll : Listed → PlainCall → Bool
  is_empty_poll f c = bytes_eq f.function.name (codes "poll") && is_none_given (given f c)

  abbrev pub are_host : Live → List (ℕ × ℕ) → Bool
  are_host live ids = list_all (λ g. is_host (content_of live g.1)) ids

  -- whether the host is asked: the policy says so, and every handle that is given is the host's
  abbrev pub asks_host : Reference S → Listed → PlainCall → Bool
  asks_host r f c = is_hosted (access r.setup.policy f.interface f.function.name) && (are_host r.live (given f c) && not (is_empty_poll f c))

  -- fourth, the host
  abbrev pub hosted : Reference S → Listed → PlainCall → Reaction (Reference S)
  hosted r f c =
      if is_environment f then asks r f c (λ s seen v. environment_gave s seen f c v)
      else if is_folders f then asks r f c (λ s seen v. folders_gave s seen f c v)
      else asks r f c (λ s seen v. host_gave s seen f c v)

  -- fifth, what is answered without it
  abbrev pub virtual : Reference S → Listed → PlainCall → Reaction (Reference S)
  virtual r f c =
      if is_folders f then offers r [] [] (own_offers r.setup)
      else by_row r f c (row_of f.interface f.function.name (view_of r) c.args)

  abbrev pub answered : Reference S → Listed → PlainCall → Reaction (Reference S)
  answered r f c = if asks_host r f c then hosted r f c else virtual r f c

  -- third, what is denied
  abbrev pub denied : Reference S → Listed → PlainCall → Denial → Reaction (Reference S)
  denied r f c NotDenied = answered r f c
  denied r f c ByPolicy = if is_answered r.setup.policy.deny (errors_of f) then returns r (error_code code.access_denied) else traps r
  denied r f c ByRules = returns r (error_code code.access_denied)

  -- second, room
  abbrev pub full : Reference S → Errors → Reaction (Reference S)
  full r FilesystemErrors = returns r (error_code code.insufficient_memory)
  full r SocketErrors = returns r (error_code code.out_of_memory)
  full r NoErrors = traps r

  abbrev pub with_room : Reference S → Listed → PlainCall → Reaction (Reference S)
  with_room r f c = if has_places r.setup.policy r.live f.function.ty.answer then denied r f c (denial r.setup.policy f c) else full r (errors_of f)

  -- first, weight
  abbrev pub weighed : Reference S → Listed → PlainCall → Reaction (Reference S)
  weighed r f c = if is_heavy r (args_weight f c) then traps r else with_room r f c

  -- before the rules, what must hold of a call
  abbrev pub guarded : Reference S → PlainCall → Option Listed → Reaction (Reference S)
  guarded r c None = traps r
  guarded r c (Some f) = if passes r.live f c then weighed r f c else traps r

  abbrev pub calls : Reference S → PlainCall → Reaction (Reference S)
  calls r c = guarded r c (listed_function r.setup.version c.interface c.function)

  -- ---- drops of handles: one that is not live, or of another kind, changes nothing

  abbrev pub lost : Reference S → ℕ → ℕ → Content → Loss (Reference S)
  lost r id kind (Host theirs) =
      let loss = host_drops r.setup r.inner kind theirs in
      record { seen = loss.seen; next = record r { live = without_handle r.live id; inner = loss.next } }
  lost r id kind _ = record { seen = []; next = record r { live = without_handle r.live id } }

  abbrev pub dropped : Reference S → ℕ → ℕ → Option LiveHandle → Loss (Reference S)
  dropped r id kind None = record { seen = []; next = r }
  dropped r id kind (Some handle) = if handle.kind == kind then lost r id kind handle.content else record { seen = []; next = r }

  abbrev pub dropped_as : Reference S → ℕ → Option ℕ → Loss (Reference S)
  dropped_as r id None = record { seen = []; next = r }
  dropped_as r id (Some kind) = dropped r id kind (handle_at r.live id)

  abbrev pub drops : Reference S → Resource → ℕ → Loss (Reference S)
  drops r resource id = dropped_as r id (kind_named r.setup.version resource)

-- the reference host over a host that is asked
unfoldable pub reference_step : {S : Type 0} → HostStep S → HostStep (Reference S)
reference_step h = record { call = calls h; drop = drops h }
