-- The host that is asked, and what is done with its answer.
use Rattle.std.proofs.Common.{◌≡◌, ℕ, List, [], ◌++◌, length, Option, Result, Ok, Err, sym, ap, subst, ◌∙◌}
use Rattle.std.specs.Prelude.{IfOk, OnOk}
use Rattle.std.proofs.lemmas.List.{append_assoc, append-nil, map-append, length-map}
use Rattle.wit_types.specs.PlainValue.{PlainValue}
use Rattle.host_port.specs.Calls.{PlainCall, PlainAnswer, PlainObservation}
use Rattle.host_port.specs.Hosts.{HostStep, IsAnswerTo, Reaction, Kept, answer_of, reacts}
use Rattle.reference_step.specs.Handles.{Live, content_of}
use Rattle.reference_step.specs.State.{Reference}
use Rattle.reference_step.specs.Steps.{by_answer, host_id, host_ids, reacted, with_inner}
use Rattle.ref_host_calls.specs.Reactions.{IsReaction}

-- what holds of a value holds of it in another form
pub ok_map : {A E : Type 0} (r : Result A E) (P Q : A → Type 0) → ((x : A) → P x → Q x) → IfOk r P → IfOk r Q
ok_map (Ok x) P Q go p = go x p
ok_map (Err e) P Q go p = p

pub on_map : {A E : Type 0} (r : Result A E) (P Q : Type 0) → (P → Q) → OnOk r P → OnOk r Q
on_map (Ok x) P Q go p = go p
on_map (Err e) P Q go p = p

-- two facts of a value, and what follows
pub ok_both : {A E : Type 0} (r : Result A E) (P Q : A → Type 0) (R : Type 0) → ((x : A) → P x → Q x → R) → IfOk r P → IfOk r Q → OnOk r R
ok_both (Ok x) P Q R go p q = go x p q
ok_both (Err e) P Q R go p q = tt

module _ {S : Type 0} (h : HostStep S) where
  -- the answer to a call, and to an equal one
  pub typed_as : (k : Kept S) (theirs q : PlainCall) (a : PlainAnswer) → theirs ≡ q → a ≡ answer_of h k theirs → IsAnswerTo theirs.answer a → IsAnswerTo q.answer (answer_of h k q)
  typed_as k theirs q a same is typed = subst (λ (x : PlainCall). IsAnswerTo x.answer (answer_of h k x)) same (subst (IsAnswerTo theirs.answer) is typed)

  pub host_ids-append : (live : Live) (a b : List (ℕ × ℕ)) → host_ids h live (a ++ b) ≡ host_ids h live a ++ host_ids h live b
  host_ids-append live a b = map-append (λ (g : ℕ × ℕ). host_id h (content_of live g.1)) a b

  -- the numbers of one handle more
  pub ids_next : (live : Live) (done new : List ℕ) (a b all : List (ℕ × ℕ)) (goal : List ℕ) → all ≡ a ++ b → new ≡ done ++ host_ids h live a → done ++ host_ids h live all ≡ goal → new ++ host_ids h live b ≡ goal
  ids_next live done new a b all goal is noted before =
      ap (λ ns. ns ++ host_ids h live b) noted
      ∙ append_assoc done (host_ids h live a) (host_ids h live b)
      ∙ ap (λ ns. done ++ ns) (sym (host_ids-append live a b))
      ∙ ap (λ gs. done ++ host_ids h live gs) (sym is)
      ∙ before

  pub ids_end : (live : Live) (done : List ℕ) (gs : List (ℕ × ℕ)) (goal : List ℕ) → gs ≡ [] → done ++ host_ids h live gs ≡ goal → done ≡ goal
  ids_end live done gs goal none before = sym (append-nil done) ∙ ap (λ xs. done ++ host_ids h live xs) (sym none) ∙ before

  -- as many numbers as handles
  pub ids_count : (live : Live) (gs : List (ℕ × ℕ)) → length (host_ids h live gs) ≡ length gs
  ids_count live gs = length-map gs (λ (g : ℕ × ℕ). host_id h (content_of live g.1))

  abbrev Go : Type 0
  Go = Reference S → List PlainObservation → Option PlainValue → Reaction (Reference S)

  module _ (r : Reference S) (q : PlainCall) (go : Go) (a : PlainAnswer) (k k' : Kept S) (is : a ≡ answer_of h k q) (next : k' ≡ reacts h k q) where
    abbrev there : Reaction S
    there = h.call k.state q

    pub by_that : reacted h r there go ≡ by_answer h (with_inner h r k'.state) there.seen a (go (with_inner h r k'.state) there.seen)
    by_that =
        ap (λ x. by_answer h (with_inner h r there.next) there.seen x (go (with_inner h r there.next) there.seen)) (sym is)
        ∙ ap (λ (x : S). by_answer h (with_inner h r x) there.seen a (go (with_inner h r x) there.seen)) (sym (ap (λ (x : Kept S). x.state) next))

    pub seen_then : k'.seen ≡ k.seen ++ there.seen
    seen_then = ap (λ (x : Kept S). x.seen) next

    -- where what is done with the answer is known whatever was seen
    pub reacts_as : (ans : PlainAnswer) (new : Reference S) → ((seen : List PlainObservation) → by_answer h (with_inner h r k'.state) seen a (go (with_inner h r k'.state) seen) ≡ record { seen = seen; answer = ans; next = new })
        → IsReaction (reacted h r there go) ans new k.seen k'.seen
    reacts_as ans new done =
        let whole = by_that ∙ done there.seen in
        record {
          answer = sym (ap (λ (x : Reaction (Reference S)). x.answer) whole);
          next = sym (ap (λ (x : Reaction (Reference S)). x.next) whole);
          seen = seen_then ∙ sym (ap (λ (x : Reaction (Reference S)). k.seen ++ x.seen) whole);
        }

    -- where it goes on asking the host
    pub reacts_on : (ans : PlainAnswer) (new : Reference S) (after : List PlainObservation) → IsReaction (by_answer h (with_inner h r k'.state) there.seen a (go (with_inner h r k'.state) there.seen)) ans new k.seen after
        → IsReaction (reacted h r there go) ans new k.seen after
    reacts_on ans new after done = rw by_that done
