use Rattle.std.proofs.Common.{◌≡◌, ◌+◌, ◌++◌, ◌*◌, List, [], length, map, true, false, nat_le, rules, sym, ap, subst, ◌∙◌}
use Rattle.tree_table.specs.Tables.{Forest}
use Rattle.wit_types.specs.Layout.{align_to}
use Rattle.wit_types.specs.PlainValue.{PlainValue, plain_value}
use Rattle.policy_data.specs.declared.policy.Policy.{Policy}
use Rattle.host_port.specs.Calls.{plain_answer, plain_option}
use Rattle.host_port.specs.Hosts.{Reaction}
use Rattle.reference_step.specs.Atoms.{result_atoms, weight}
use Rattle.reference_step.specs.State.{Reference}
use Rattle.reference_step.specs.Steps.{Offer as PlainOffer, offer_of, offers, roots_from, scratch_offer}
use Rattle.reference_step.specs.Values.{list_in}
use Rattle.ref_guards.specs.declared.atoms.Atom.{Atom}
use Rattle.ref_guards.specs.Noted.{shown_all as shown_atoms}
use Rattle.ref_host_calls.specs.Requests.{listed_of, call_of}
use Rattle.ref_host_calls.specs.Reactions.{IsReaction}
use Rattle.ref_host_calls.specs.declared.offers.Offer.{Offer}
use Rattle.ref_host_calls.specs.Offers.{AreInside, folders_at, shown_all}
use Rattle.ref_host_calls.proofs.OfferLemmas.{theirs_inside}
use Rattle.ref_host_calls.proofs.OfferedLemmas.{ok_map, folders_heavy, folders_light}
use Rattle.ref_host_calls.proofs.top.give_folders.Goals as goal

pub returns-then-not-is_light_list-clause-reaction : goal.returns-then-not-is_light_list-clause-reaction
returns-then-not-is_light_list-clause-reaction g c = λ f r base seen holds before.
    let heavy : c.is_light_list.result ≡ false = search rules in
    let h = g.H.Host.step in
    let at = folders_at r f c.args.folders c.args.live.now (g.H.Host.kept c.args.inner.now).state in
    let ty = (listed_of c.args.request).function.ty.answer in
    let v = plain_option c.args.value in
    let policy = c.args.folders.policy.now in
    let own = roots_from h 0 c.args.folders.trees.now ++ scratch_offer h policy.fs_scratch in
    let room = c.requires.noted.left ∙ ap (λ (p : Policy). p.transfer_limit) c.requires.policy in
    let atoms = ap shown_atoms c.as_slice-2.ensures.value ∙ c.in_ok-note_result.ensures ∙ ap (λ (xs : List Atom). shown_atoms xs ++ result_atoms ty v) c.new-noted.ensures.items in
    let these = ap (shown_all h f) c.as_slice.ensures.value ∙ c.in_ok-note_own.ensures.noted f holds
    ∙ ap (λ (xs : List (PlainOffer h)). xs ++ own) (c.in_ok-note_theirs.ensures f
    ∙ ap (λ (xs : List Offer). shown_all h f xs ++ map (λ x. offer_of h policy x) (list_in (plain_value c.value_of-answer.result))) c.new-offers.ensures.items
    ∙ ap (λ (w : PlainValue). map (λ x. offer_of h policy x) (list_in w)) c.value_of-answer.ensures) in
    let light_is = ap (λ xs. nat_le (weight xs + align_to (c.given_count-count.result * 12) 8) c.args.request.left) (sym atoms) ∙ sym c.is_light_list.ensures in
    let is = folders_heavy h at seen (listed_of c.args.request) (call_of c.args.request) v c.args.request.left room c.given_count-count.result (shown_all h f c.as_slice.result.now) these (c.given_count-count.ensures f) (light_is ∙ heavy) in
    record {
      answer = sym (ap (λ (x : Reaction (Reference g.H.Host.State)). x.answer) is);
      next = sym (ap (λ (x : Reaction (Reference g.H.Host.State)). x.next) is);
      seen = before ∙ sym (ap (λ (x : Reaction (Reference g.H.Host.State)). base ++ x.seen) is);
    }

pub returns-clause-reaction : goal.returns-clause-reaction
returns-clause-reaction g c = ok_map c.offer_all.result _ _ (λ a e f r base seen holds before.
    let light : c.is_light_list.result ≡ true = search rules in
    let h = g.H.Host.step in
    let at = folders_at r f c.args.folders c.args.live.now (g.H.Host.kept c.args.inner.now).state in
    let ty = (listed_of c.args.request).function.ty.answer in
    let v = plain_option c.args.value in
    let policy = c.args.folders.policy.now in
    let own = roots_from h 0 c.args.folders.trees.now ++ scratch_offer h policy.fs_scratch in
    let room = c.requires.noted.left ∙ ap (λ (p : Policy). p.transfer_limit) c.requires.policy in
    let atoms = ap shown_atoms c.as_slice-2.ensures.value ∙ c.in_ok-note_result.ensures ∙ ap (λ (xs : List Atom). shown_atoms xs ++ result_atoms ty v) c.new-noted.ensures.items in
    let these = ap (shown_all h f) c.as_slice.ensures.value ∙ c.in_ok-note_own.ensures.noted f holds
    ∙ ap (λ (xs : List (PlainOffer h)). xs ++ own) (c.in_ok-note_theirs.ensures f
    ∙ ap (λ (xs : List Offer). shown_all h f xs ++ map (λ x. offer_of h policy x) (list_in (plain_value c.value_of-answer.result))) c.new-offers.ensures.items
    ∙ ap (λ (w : PlainValue). map (λ x. offer_of h policy x) (list_in w)) c.value_of-answer.ensures) in
    let light_is = ap (λ xs. nat_le (weight xs + align_to (c.given_count-count.result * 12) 8) c.args.request.left) (sym atoms) ∙ sym c.is_light_list.ensures in
    let is = folders_light h at seen (listed_of c.args.request) (call_of c.args.request) v c.args.request.left room c.given_count-count.result (shown_all h f c.as_slice.result.now) these (c.given_count-count.ensures f) (light_is ∙ light) in
    let same = ap (λ (xs : List Offer). offers h at seen [] (shown_all h f xs)) (c.as_slice-3.ensures.value ∙ sym c.as_slice.ensures.value) in
    subst (λ (x : Reaction (Reference g.H.Host.State)). IsReaction x (plain_answer a) (folders_at r f c.args.folders c.offer_all.new.live (g.H.Host.kept c.offer_all.new.inner).state) base (g.H.Host.kept c.offer_all.new.inner).seen) (same ∙ sym is) (e f r base seen before)) c.offer_all.ensures.reaction

nowhere : Forest
nowhere = record { roots = 0; rows = [] }

pub offer_all-requires-clause-inside : goal.offer_all-requires-clause-inside
offer_all-requires-clause-inside g c =
    let h = g.H.Host.step in
    let policy = c.args.folders.policy.now in
    let vs = list_in (plain_value c.value_of-answer.result) in
    let n = length c.args.folders.trees.now in
    subst (AreInside n) (sym c.as_slice-3.ensures.value)
    (c.in_ok-note_own.ensures.inside
    (theirs_inside h nowhere policy n c.note_theirs.new.offers.items vs
    (c.in_ok-note_theirs.ensures nowhere ∙ ap (λ (xs : List Offer). shown_all h nowhere xs ++ map (λ x. offer_of h policy x) vs) c.new-offers.ensures.items)))
