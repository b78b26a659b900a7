use Rattle.std.proofs.Common.{refl, sym, ap, ◌∙◌}
use Rattle.host_port.specs.Calls.{Gives, Trap, Ended, Bad, plain_answer, plain_option}
use Rattle.reference_step.specs.Steps.{folders_gave, to_host}
use Rattle.ref_guards.proofs.KeepLaws.{on_always}
use Rattle.ref_host_calls.specs.Requests.{listed_of, call_of}
use Rattle.ref_host_calls.proofs.AskLemmas.{reacts_as, reacts_on, seen_then}
use Rattle.ref_host_calls.specs.Offers.{folders_at}
use Rattle.ref_host_calls.proofs.OfferedLemmas.{ok_map}
use Rattle.ref_host_calls.proofs.top.ask_folders.Goals as goal

pub returns-in-Value-clause-reaction : goal.returns-in-Value-clause-reaction
returns-in-Value-clause-reaction g c = ok_map c.give_folders.result _ _ (λ a e f r holds.
    let h = g.H.Host.step in
    let k = g.H.Host.kept c.args.inner.now in
    let at = folders_at r f c.args.folders c.args.live.now k.state in
    let q = to_host h at (listed_of c.args.request) (call_of c.args.request) in
    let is = ap plain_answer (sym c.in-Value.is) ∙ c.in_ok-value.ensures.answer f at in
    let next = c.in_ok-value.ensures.next f at in
    reacts_on h at q (λ s seen v. folders_gave h s seen (listed_of c.args.request) (call_of c.args.request) v) (Gives (plain_option c.in-Value.value)) k (g.H.Host.kept c.ask.new.inner) is next
    (plain_answer a) (folders_at r f c.args.folders c.give_folders.new.live (g.H.Host.kept c.give_folders.new.inner).state) (g.H.Host.kept c.give_folders.new.inner).seen
    (e f r k.seen (h.call k.state q).seen holds (seen_then h at q (λ s seen v. folders_gave h s seen (listed_of c.args.request) (call_of c.args.request) v) (Gives (plain_option c.in-Value.value)) k (g.H.Host.kept c.ask.new.inner) is next))) c.give_folders.ensures.reaction

pub returns-in-Trap-clause-reaction : goal.returns-in-Trap-clause-reaction
returns-in-Trap-clause-reaction g c = λ f r holds.
    let at = folders_at r f c.args.folders c.args.live.now (g.H.Host.kept c.args.inner.now).state in
    let is = ap plain_answer (sym c.in-Trap.is) ∙ c.in_ok-value.ensures.answer f at in
    reacts_as g.H.Host.step at (to_host g.H.Host.step at (listed_of c.args.request) (call_of c.args.request)) (λ s seen v. folders_gave g.H.Host.step s seen (listed_of c.args.request) (call_of c.args.request) v) Trap (g.H.Host.kept c.args.inner.now) (g.H.Host.kept c.ask.new.inner) is (c.in_ok-value.ensures.next f at)
    Trap (folders_at r f c.args.folders c.args.live.now (g.H.Host.kept c.ask.new.inner).state) (λ seen. refl)

pub returns-in-Ended-clause-reaction : goal.returns-in-Ended-clause-reaction
returns-in-Ended-clause-reaction g c = λ f r holds.
    let at = folders_at r f c.args.folders c.args.live.now (g.H.Host.kept c.args.inner.now).state in
    let is = ap plain_answer (sym c.in-Ended.is) ∙ c.in_ok-value.ensures.answer f at in
    reacts_as g.H.Host.step at (to_host g.H.Host.step at (listed_of c.args.request) (call_of c.args.request)) (λ s seen v. folders_gave g.H.Host.step s seen (listed_of c.args.request) (call_of c.args.request) v) Ended (g.H.Host.kept c.args.inner.now) (g.H.Host.kept c.ask.new.inner) is (c.in_ok-value.ensures.next f at)
    Ended (folders_at r f c.args.folders c.args.live.now (g.H.Host.kept c.ask.new.inner).state) (λ seen. refl)

pub returns-in-Bad-clause-reaction : goal.returns-in-Bad-clause-reaction
returns-in-Bad-clause-reaction g c = λ f r holds.
    let at = folders_at r f c.args.folders c.args.live.now (g.H.Host.kept c.args.inner.now).state in
    let is = ap plain_answer (sym c.in-Bad.is) ∙ c.in_ok-value.ensures.answer f at in
    reacts_as g.H.Host.step at (to_host g.H.Host.step at (listed_of c.args.request) (call_of c.args.request)) (λ s seen v. folders_gave g.H.Host.step s seen (listed_of c.args.request) (call_of c.args.request) v) Bad (g.H.Host.kept c.args.inner.now) (g.H.Host.kept c.ask.new.inner) is (c.in_ok-value.ensures.next f at)
    Bad (folders_at r f c.args.folders c.args.live.now (g.H.Host.kept c.ask.new.inner).state) (λ seen. refl)

pub returns-in-Value-clause-typed : goal.returns-in-Value-clause-typed
returns-in-Value-clause-typed g c = on_always c.give_folders.result _ c.in_ok-value.ensures.typed
