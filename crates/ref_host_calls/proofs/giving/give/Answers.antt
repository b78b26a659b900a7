use Rattle.std.proofs.Common.{◌≡◌, ◌++◌, List, Option, true, nat_le, rules, refl, sym, ap, ◌∙◌}
use Rattle.wit_types.specs.PlainValue.{PlainValue}
use Rattle.host_port.specs.Calls.{Gives, plain_option}
use Rattle.reference_step.specs.Atoms.{handles, result_atoms, weight}
use Rattle.ref_answers.specs.Seen.{live_in}
use Rattle.ref_rules.specs.Lives.{LiveTable}
use Rattle.ref_guards.specs.declared.atoms.Atom.{Atom}
use Rattle.ref_guards.specs.Noted.{shown_all}
use Rattle.ref_guards.specs.declared.standing.Standing.TheVariants.{Hosts as Entering}
use Rattle.ref_guards.specs.Entering.{with_handles}
use Rattle.ref_guards.specs.Contents.{Hosts}
use Rattle.ref_guards.proofs.KeepLaws.{keeps-handles, keeps-same}
use Rattle.ref_host_calls.specs.Requests.{listed_of, call_of}
use Rattle.ref_host_calls.specs.Reactions.{state_at}
use Rattle.ref_host_calls.proofs.GiveLemmas.{gave_light}
use Rattle.ref_host_calls.proofs.giving.give.Goals as goal

pub returns-clause-gave : goal.returns-clause-gave
returns-clause-gave g c = λ f r seen.
    let ty = (listed_of c.args.request).function.ty.answer in
    let v = plain_option c.args.value in
    let atoms : shown_all c.as_slice.result.now ≡ result_atoms ty v = ap shown_all c.as_slice.ensures.value ∙ c.in_ok-note_result.ensures ∙ ap (λ (xs : List Atom). shown_all xs ++ result_atoms ty v) c.new-noted.ensures.items in
    let yes : c.are_light.result ≡ true = search rules in
    let light : nat_le (weight (result_atoms ty v)) c.args.request.left ≡ true = ap (λ xs. nat_le (weight xs) c.args.request.left) (sym atoms) ∙ sym c.are_light.ensures ∙ yes in
    gave_light g.H.Host.step (state_at r f c.args.request.policy.now c.args.live.now r.inner) seen (listed_of c.args.request) (call_of c.args.request) v c.args.request.left c.requires.noted.left f c.args.live.now.handles refl light
    ∙ ap (λ (x : Option PlainValue). record { seen = seen; answer = Gives x; next = record (state_at r f c.args.request.policy.now c.args.live.now r.inner) { live = live_in f (with_handles Entering c.args.live.now.handles (handles (result_atoms ty v))) } }) (sym c.in_ok-given.ensures.value)
    ∙ ap (λ (l : LiveTable). record { seen = seen; answer = Gives (plain_option c.in_ok-given.given); next = state_at r f c.args.request.policy.now l r.inner }) (sym c.in_ok-given.ensures.entered)

pub returns-clause-keeps : goal.returns-clause-keeps
returns-clause-keeps g c = keeps-handles Hosts c.args.live.now c.enter_value.new.live Entering _ (λ P may id. may id) c.requires.room c.in_ok-given.ensures.entered

pub returns-then-not-are_light-clause-keeps : goal.returns-then-not-are_light-clause-keeps
returns-then-not-are_light-clause-keeps g c = keeps-same Hosts _ _ refl
