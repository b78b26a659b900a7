-- Each answer has the type of its call's result.
use Rattle.std.proofs.Common.{◌≡◌, ℕ, ◌+◌, Bool, true, false, not, ◌&&◌, List, [], ◌∷◌, ◌++◌, map, filter, length, codes, Option, Some, None, refl, ap, ◌∙◌, ltb-false}
use Rattle.std.specs.Prelude.{if◌then◌else◌}
use Rattle.std.specs.Str.{bytes_eq}
use Rattle.wit_types.specs.Plain.{Name, Plain, ListType}
use Rattle.wit_types.specs.PlainValue.{PlainValue, PlainValues, ListValue, End, More}
use Rattle.wit_types.specs.HasType.{is_of, are_of, all_pass}
use Rattle.policy_data.specs.declared.words.Deny.{Deny}
use Rattle.policy_data.specs.declared.words.Deny.TheVariants.{Trap as DenyByTrap, Error as DenyByError}
use Rattle.policy_data.specs.declared.policy.Policy.{Policy}
use Rattle.policy_data.specs.declared.data.NetRules.{NetRules}
use Rattle.host_port.specs.Calls.{PlainCall, PlainAnswer, PlainObservation, Gives, Trap, Ended, Bad}
use Rattle.host_port.specs.Hosts.{HostStep, Reaction, IsResult, IsAnswerTo}
use Rattle.reference_step.specs.Codes as code
use Rattle.reference_step.specs.Values.{values, items, list, list_in, fields_in, nth, text_in, error_code}
use Rattle.reference_step.specs.Handles.{Live, descriptor, fresh_id}
use Rattle.reference_step.specs.Atoms.{result_atoms, weight, handles}
use Rattle.reference_step.specs.Listed.{Listed, listed_function}
use Rattle.reference_step.specs.State.{Reference, view_of, Row, Traps, Does}
use Rattle.reference_step.specs.Refused.{refused, refused_by}
use Rattle.reference_step.specs.Access.{Access, Hosted, Denied, Virtual, access}
use Rattle.reference_step.specs.Environment.{all_variables, set_variables, variable_value, is_passed}
use Rattle.reference_step.specs.Rows.{row_of}
use Rattle.reference_step.specs.Rules.{passes, alike_results, are_live, given, has_places, fit, Errors, FilesystemErrors, SocketErrors, NoErrors, errors_of, Denial, NotDenied, ByPolicy, ByRules, by_access, denial, is_answered}
use Rattle.reference_step.specs.Steps as step
use Rattle.reference_step.specs.Steps.{reference_step, Offer, Given, Lost, asks_host, is_heavy, args_weight, to_host, value_of, is_environment, is_folders}
use Rattle.reference_host.specs.Sound.{IsSound}
use Rattle.reference_host.specs.Typed.{is_free, reaches_host, AsksTyped, AnswersAreTypedWhereAsked, AnswersAreTyped}
use Rattle.reference_host.proofs.TypeLaws.{first_true, second_true, nameless_result, from_nameless, to_nameless, to_alike, from_alike, renumbered_typed}
use Rattle.reference_host.proofs.ValueForms.{variable, folder, append_pass, filter_pass, each_pass}
use Rattle.reference_host.proofs.RowForms.{RowHas, both_true}
use Rattle.reference_host.proofs.RowTypes.{row_has}
use Rattle.reference_host.proofs.ArgumentLaws.{light_short}
use Rattle.reference_host.proofs.ListedLaw.{has_code, has_errors, is_ruled, if_so, variables, folders, is_form, IsDue, is_listed}

-- ---- answers by types

if_true : (a b : Bool) → if_so a b ≡ true → a ≡ true → b ≡ true
if_true true b e is = e
if_true false b e is = cc

answer_to : (a b : Option Plain) (x : PlainAnswer) → alike_results a b ≡ true → IsAnswerTo a x → IsAnswerTo b x
answer_to a b (Gives v) e is = to_alike a b v e is
answer_to a b Trap e is = tt
answer_to a b Ended e is = tt
answer_to a b Bad e is = tt

answer_from : (a b : Option Plain) (x : PlainAnswer) → alike_results a b ≡ true → IsAnswerTo b x → IsAnswerTo a x
answer_from a b (Gives v) e is = from_alike a b v e is
answer_from a b Trap e is = tt
answer_from a b Ended e is = tt
answer_from a b Bad e is = tt

form_answer : (ty answer : Option Plain) (x : PlainAnswer) → alike_results ty (nameless_result answer) ≡ true → IsAnswerTo ty x → IsAnswerTo answer x
form_answer ty answer (Gives v) e is = from_nameless answer v (to_alike ty (nameless_result answer) v e is)
form_answer ty answer Trap e is = tt
form_answer ty answer Ended e is = tt
form_answer ty answer Bad e is = tt

-- the items of a value of a list type, or of none
list_items : (item : Plain) (v : PlainValue) → is_of (ListType item) v ≡ true → all_pass (λ x. is_of item x) (values (list_in v)) ≡ true
list_items item (ListValue vs) is = ap (all_pass (λ x. is_of item x)) (same vs) ∙ is
  where
    same : (xs : PlainValues) → values (items xs) ≡ xs
    same End = refl
    same (More x xs) = ap (More x) (same xs)
list_items item _ is = cc

-- ---- the rules on addresses

ruled_by : (net : NetRules) (f : Name) (args : PlainValues) → refused_by net f args ≡ true → is_ruled f ≡ true
ruled_by net f args is = by (bytes_eq f (codes "[method]tcp-socket.start-connect")) (bytes_eq f (codes "[method]tcp-socket.start-bind")) (bytes_eq f (codes "[method]udp-socket.start-bind")) (bytes_eq f (codes "[method]udp-socket.stream")) (bytes_eq f (codes "[method]outgoing-datagram-stream.send")) (bytes_eq f (codes "resolve-addresses")) _ _ _ _ _ _ is
  where
    by : (a b c d e g u v w x y z : Bool) → (if a then u else if b then v else if c then w else if d then x else if e then y else if g then z else false) ≡ true → (if a then true else if b then true else if c then true else if d then true else if e then true else g) ≡ true
    by true b c d e g u v w x y z is = refl
    by false true c d e g u v w x y z is = refl
    by false false true d e g u v w x y z is = refl
    by false false false true e g u v w x y z is = refl
    by false false false false true g u v w x y z is = refl
    by false false false false false true u v w x y z is = refl
    by false false false false false false u v w x y z is = cc

ruled : (p : Policy) (f : Name) (args : PlainValues) → refused p f args ≡ true → is_ruled f ≡ true
ruled p f args is = ruled_by p.net f args (second_true _ (refused_by p.net f args) is)

refused_then : (a : Access) (b : Bool) → by_access a b ≡ ByRules → b ≡ true
refused_then Denied b is = cc
refused_then Hosted true is = refl
refused_then Hosted false is = cc
refused_then Virtual true is = refl
refused_then Virtual false is = cc

-- the answer of a reaction has the type
unfoldable Gets : {S : Type 0} → Option Plain → Reaction S → Type 0
Gets ty x = IsAnswerTo ty x.answer

module _ {S : Type 0} where
  got : (ty : Option Plain) (x : Reaction S) → IsAnswerTo ty x.answer → Gets ty x
  unfolding Gets
  got ty x is = is

  is_got : (ty : Option Plain) (x : Reaction S) → Gets ty x → IsAnswerTo ty x.answer
  unfolding Gets
  is_got ty x is = is

  trapped : (ty : Option Plain) (seen : List PlainObservation) (next : S) → Gets ty (record { seen = seen; answer = Trap; next = next })
  unfolding Gets
  trapped ty seen next = tt

  by_test : (ty : Option Plain) (b : Bool) (x y : Reaction S) → (b ≡ true → Gets ty x) → (b ≡ false → Gets ty y) → Gets ty (if b then x else y)
  by_test ty true x y p q = p refl
  by_test ty false x y p q = q refl

  of_form : (ty answer : Option Plain) (x : Reaction S) → alike_results ty (nameless_result answer) ≡ true → Gets ty x → Gets answer x
  unfolding Gets
  of_form ty answer x e is = form_answer ty answer x.answer e is

  code_got : (ty : Option Plain) (e : ℕ) (next : S) → has_code ty e ≡ true → Gets ty (record { seen = []; answer = Gives (Some (error_code e)); next = next })
  unfolding Gets
  code_got None e next is = cc
  code_got (Some ty) e next is = is

module _ {S : Type 0} (h : HostStep S) where
  -- ---- folders, one by one

  all_given : (r : Reference S) (seen : List PlainObservation) (vs : List PlainValue) → all_pass (λ x. is_of folder x) (values vs) ≡ true → Gets {S = Reference S} folders (record { seen = seen; answer = Gives (Some (list vs)); next = r })
  unfolding Gets
  all_given r seen vs all = all

  offered : (r : Reference S) (seen : List PlainObservation) (vs : List PlainValue) (os : List (Offer h)) → all_pass (λ x. is_of folder x) (values vs) ≡ true → Gets folders (step.offers h r seen vs os)
  offered r seen vs [] all = all_given r seen vs all
  offered r seen vs (Given content name ∷ rest) all =
      by_test folders (fit r.setup.policy r.live descriptor 1) _ _
      (λ e. offered (step.with_folder h r content) seen (vs ++ step.folder_value h (fresh_id r.live) name ∷ []) rest (append_pass (λ x. is_of folder x) vs (step.folder_value h (fresh_id r.live) name ∷ []) all refl))
      (λ e. trapped folders seen r)
  offered r seen vs (Lost id ∷ rest) all = offered (step.with_lost h r (step.host_drops h r.setup r.inner descriptor id)) (seen ++ (step.host_drops h r.setup r.inner descriptor id).seen) vs rest all

  -- ---- what is made of the host's answer

  variable_items : (v : Option PlainValue) → IsResult variables v → all_pass (λ x. is_of variable x) (values (list_in (value_of h v))) ≡ true
  variable_items None is = absurd is
  variable_items (Some v) is = list_items variable v is

  variables_given : (r : Reference S) (seen : List PlainObservation) (answer : PlainValue) → all_pass (λ x. is_of variable x) (values (list_in answer)) ≡ true
      → Gets {S = Reference S} variables (record { seen = seen; answer = Gives (Some (list (all_variables r.setup.policy answer))); next = r })
  unfolding Gets
  variables_given r seen answer all =
      let test : PlainValue → Bool = λ x. is_of variable x in
      let keep : PlainValue → Bool = λ x. is_passed r.setup.policy (text_in (nth 0 (fields_in x))) in
      append_pass test (filter keep (list_in answer)) (set_variables r.setup.policy) (filter_pass test keep (list_in answer) all) (each_pass test variable_value (λ x. refl) r.setup.policy.env_set)

  environment_typed : (r : Reference S) (seen : List PlainObservation) (f : Listed) (c : PlainCall) (v : Option PlainValue) → is_form variables f ≡ true → IsResult f.function.ty.answer v → Gets f.function.ty.answer (step.environment_gave h r seen f c v)
  environment_typed r seen f c v form is =
      let theirs = variable_items v (from_alike variables (nameless_result f.function.ty.answer) v form (to_nameless f.function.ty.answer v is)) in
      by_test f.function.ty.answer (is_heavy h r (step.list_weight h f c v (step.elements_weight h (length (all_variables r.setup.policy (value_of h v))) 16))) _ _
      (λ e. trapped f.function.ty.answer seen r) (λ e. of_form variables f.function.ty.answer _ form (variables_given r seen (value_of h v) theirs))

  folders_typed : (r : Reference S) (seen : List PlainObservation) (f : Listed) (c : PlainCall) (v : Option PlainValue) → is_form folders f ≡ true → Gets f.function.ty.answer (step.folders_gave h r seen f c v)
  folders_typed r seen f c v form =
      let all = map (step.offer_of h r.setup.policy) (list_in (value_of h v)) ++ step.own_offers h r.setup in
      by_test f.function.ty.answer (is_heavy h r (step.list_weight h f c v (step.elements_weight h (step.given_count h all) 12))) _ _
      (λ e. trapped f.function.ty.answer seen r) (λ e. of_form folders f.function.ty.answer _ form (offered r seen [] all refl))

  entered : (r : Reference S) (seen : List PlainObservation) (ty : Option Plain) (v : Option PlainValue) (new : Live × List ℕ) → IsResult ty v → Gets ty (step.enters h r seen ty v new)
  unfolding Gets
  entered r seen ty v new is = renumbered_typed ty v new.1 is

  host_typed : (r : Reference S) (seen : List PlainObservation) (f : Listed) (c : PlainCall) (v : Option PlainValue) → IsResult f.function.ty.answer v → Gets f.function.ty.answer (step.host_gave h r seen f c v)
  host_typed r seen f c v is =
      by_test f.function.ty.answer (is_heavy h r (args_weight h f c + weight (result_atoms f.function.ty.answer v))) _ _
      (λ e. trapped f.function.ty.answer seen r) (λ e. entered r seen f.function.ty.answer v (step.entered h r.live (step.from_host h (handles (result_atoms f.function.ty.answer v)))) is)

  of_answer : (ty : Option Plain) (r : Reference S) (seen : List PlainObservation) (x : PlainAnswer) (go : Option PlainValue → Reaction (Reference S)) → IsAnswerTo ty x → ((v : Option PlainValue) → IsResult ty v → Gets ty (go v)) → Gets ty (step.by_answer h r seen x go)
  unfolding Gets
  of_answer ty r seen (Gives v) go is each = each v is
  of_answer ty r seen Trap go is each = tt
  of_answer ty r seen Ended go is each = tt
  of_answer ty r seen Bad go is each = tt

  asked_typed : (r : Reference S) (f : Listed) (c : PlainCall) (go : Reference S → List PlainObservation → Option PlainValue → Reaction (Reference S)) → IsAnswerTo f.function.ty.answer (h.call r.inner (to_host h r f c)).answer
      → ((s : Reference S) (seen : List PlainObservation) (v : Option PlainValue) → IsResult f.function.ty.answer v → Gets f.function.ty.answer (go s seen v)) → Gets f.function.ty.answer (step.asks h r f c go)
  asked_typed r f c go is each =
      let reaction = h.call r.inner (to_host h r f c) in
      of_answer f.function.ty.answer (step.with_inner h r reaction.next) reaction.seen reaction.answer (go (step.with_inner h r reaction.next) reaction.seen) is (each (step.with_inner h r reaction.next) reaction.seen)

  hosted_typed : (r : Reference S) (f : Listed) (c : PlainCall) → IsDue f → IsAnswerTo f.function.ty.answer (h.call r.inner (to_host h r f c)).answer → Gets f.function.ty.answer (step.hosted h r f c)
  hosted_typed r f c due is =
      by_test f.function.ty.answer (is_environment h f) _ _
      (λ e. asked_typed r f c (λ s seen v. step.environment_gave h s seen f c v) is (λ s seen v has. environment_typed s seen f c v (if_true (is_environment h f) (is_form variables f) due.environment e) has))
      (λ other. by_test f.function.ty.answer (is_folders h f) _ _
      (λ e. asked_typed r f c (λ s seen v. step.folders_gave h s seen f c v) is (λ s seen v has. folders_typed s seen f c v (if_true (is_folders h f) (is_form folders f) due.folders e)))
      (λ e. asked_typed r f c (λ s seen v. step.host_gave h s seen f c v) is (λ s seen v has. host_typed s seen f c v has)))

  -- ---- what is answered without it

  row_typed : (r : Reference S) (f : Listed) (c : PlainCall) (row : Row) → RowHas f.function.ty.answer row → Gets f.function.ty.answer (step.by_row h r f c row)
  unfolding RowHas
  row_typed r f c Traps has = trapped f.function.ty.answer [] r
  row_typed r f c (Does e) has =
      let kept : Reference S = record r { scratch = step.or_as_it_was h r.scratch e.scratch } in
      entered kept [] f.function.ty.answer e.value (step.entered h (step.becomes h r.live (nth 0 c.args) e.becomes) (step.made_for h e.makes (handles (result_atoms f.function.ty.answer e.value)))) has

  module _ (r : Reference S) (c : PlainCall) (f : Listed) (due : IsDue f) (sound : IsSound (view_of r)) where
    abbrev Typed : Reaction (Reference S) → Type 0
    Typed x = Gets f.function.ty.answer x

    virtual_typed : are_of f.function.ty.params c.args ≡ true → is_heavy h r (args_weight h f c) ≡ false → Typed (step.virtual h r f c)
    virtual_typed args light =
        let short = light_short f.function.ty.params c.args r.setup.policy.transfer_limit due.sized args (ltb-false r.setup.policy.transfer_limit (args_weight h f c) light) sound.limit in
        by_test f.function.ty.answer (is_folders h f) _ _
        (λ e. of_form folders f.function.ty.answer _ (if_true (is_folders h f) (is_form folders f) due.folders e) (offered r [] [] (step.own_offers h r.setup) refl))
        (λ e. row_typed r f c (row_of f.interface f.function.name (view_of r) c.args) (row_has (view_of r) sound f.interface f.function.name f.function.ty.answer c.args due.row short))

    -- ---- the tests before

    full_typed : (e : Errors) → has_errors e f.function.ty.answer ≡ true → Typed (step.full h r e)
    full_typed FilesystemErrors is = code_got f.function.ty.answer code.insufficient_memory r is
    full_typed SocketErrors is = code_got f.function.ty.answer code.out_of_memory r (first_true (has_code f.function.ty.answer code.out_of_memory) (has_code f.function.ty.answer code.access_denied) is)
    full_typed NoErrors is = trapped f.function.ty.answer [] r

    policy_code : (d : Deny) (e : Errors) → has_errors e f.function.ty.answer ≡ true → is_answered d e ≡ true → has_code f.function.ty.answer code.access_denied ≡ true
    policy_code DenyByError SocketErrors has is = second_true (has_code f.function.ty.answer code.out_of_memory) (has_code f.function.ty.answer code.access_denied) has
    policy_code DenyByError FilesystemErrors has is = cc
    policy_code DenyByError NoErrors has is = cc
    policy_code DenyByTrap e has is = cc

    denied_typed : (d : Denial) → denial r.setup.policy f c ≡ d → (d ≡ NotDenied → Typed (step.answered h r f c)) → Typed (step.denied h r f c d)
    denied_typed NotDenied is go = go refl
    denied_typed ByPolicy is go =
        by_test f.function.ty.answer (is_answered r.setup.policy.deny (errors_of f)) _ _ (λ e. code_got f.function.ty.answer code.access_denied r (policy_code r.setup.policy.deny (errors_of f) due.errors e)) (λ e. trapped f.function.ty.answer [] r)
    denied_typed ByRules is go =
        let refuses = refused_then (access r.setup.policy f.interface f.function.name) (refused r.setup.policy f.function.name c.args) is in
        code_got f.function.ty.answer code.access_denied r (if_true (is_ruled f.function.name) (has_code f.function.ty.answer code.access_denied) due.ruled (ruled r.setup.policy f.function.name c.args refuses))

    module _ (passed : passes r.live f c ≡ true) (asked : reaches_host h r c f ≡ true → IsAnswerTo f.function.ty.answer (h.call r.inner (to_host h r f c)).answer) where
      reaches : is_heavy h r (args_weight h f c) ≡ false → has_places r.setup.policy r.live f.function.ty.answer ≡ true → denial r.setup.policy f c ≡ NotDenied → asks_host h r f c ≡ true → reaches_host h r c f ≡ true
      reaches light room free asks = both_true _ _ passed (both_true _ _ (ap not light) (both_true _ _ room (both_true _ _ (ap is_free free) asks)))

      args_typed : are_of f.function.ty.params c.args ≡ true
      args_typed = first_true (are_of f.function.ty.params c.args) (alike_results f.function.ty.answer c.answer && are_live r.live (given f c)) passed

      answered_typed : is_heavy h r (args_weight h f c) ≡ false → has_places r.setup.policy r.live f.function.ty.answer ≡ true → denial r.setup.policy f c ≡ NotDenied → Typed (step.answered h r f c)
      answered_typed light room free =
          by_test f.function.ty.answer (asks_host h r f c) _ _ (λ e. hosted_typed r f c due (asked (reaches light room free e))) (λ e. virtual_typed args_typed light)

      weighed_typed : Typed (step.weighed h r f c)
      weighed_typed =
          by_test f.function.ty.answer (is_heavy h r (args_weight h f c)) _ _ (λ e. trapped f.function.ty.answer [] r)
          (λ light. by_test f.function.ty.answer (has_places r.setup.policy r.live f.function.ty.answer) _ _
          (λ room. denied_typed (denial r.setup.policy f c) refl (λ free. answered_typed light room free))
          (λ e. full_typed (errors_of f) due.errors))

  -- ---- a call

  same_answer : (live : Live) (f : Listed) (c : PlainCall) → passes live f c ≡ true → alike_results f.function.ty.answer c.answer ≡ true
  same_answer live f c passed =
      first_true (alike_results f.function.ty.answer c.answer) (are_live live (given f c))
      (second_true (are_of f.function.ty.params c.args) (alike_results f.function.ty.answer c.answer && are_live live (given f c)) passed)

  guarded_typed : (r : Reference S) (c : PlainCall) (o : Option Listed) → listed_function r.setup.version c.interface c.function ≡ o → IsSound (view_of r) → AsksTyped h r c → IsAnswerTo c.answer (step.guarded h r c o).answer
  guarded_typed r c None is sound asked = tt
  guarded_typed r c (Some f) is sound asked = is_got c.answer (step.guarded h r c (Some f)) (by_test c.answer (passes r.live f c) _ _ passing (λ e. trapped c.answer [] r))
    where
      passing : passes r.live f c ≡ true → Gets c.answer (step.weighed h r f c)
      passing passed =
          let same = same_answer r.live f c passed in
          let theirs = λ (reaches : reaches_host h r c f ≡ true). answer_from f.function.ty.answer c.answer (h.call r.inner (to_host h r f c)).answer same (asked f is reaches) in
          let weighed = weighed_typed r c f (is_listed r.setup.version c.interface c.function f is) sound passed theirs in
          got c.answer (step.weighed h r f c) (answer_to f.function.ty.answer c.answer (step.weighed h r f c).answer same (is_got f.function.ty.answer (step.weighed h r f c) weighed))

  pub typed_where_asked : AnswersAreTypedWhereAsked h
  unfolding reference_step
  typed_where_asked r c sound asked = guarded_typed r c (listed_function r.setup.version c.interface c.function) refl sound asked

  pub typed : AnswersAreTyped h
  typed each r c sound = typed_where_asked r c sound (λ f is reaches. each r.inner (to_host h r f c))
