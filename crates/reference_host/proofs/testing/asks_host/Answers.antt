use Rattle.std.proofs.Common.{◌≡◌, ◌&&◌, Bool, true, false, not, rules, sym, ap, ◌∙◌}
use Rattle.std.specs.Prelude.{codes}
use Rattle.std.specs.Str.{bytes_eq}
use Rattle.reference_step.specs.Atoms.{handles}
use Rattle.reference_step.specs.Rules.{given}
use Rattle.reference_step.specs.Steps.{are_host, is_empty_poll, is_none_given}
use Rattle.ref_answers.specs.Seen.{live_in}
use Rattle.ref_host_calls.specs.Requests.{call_of, listed_of}
use Rattle.reference_host.proofs.testing.asks_host.Goals as goal

pub returns-then-not-is_by_host : goal.returns-then-not-is_by_host
returns-then-not-is_by_host g c = λ f.
    let no : c.is_by_host.result ≡ false = search rules in
    sym (ap (λ (b : Bool). b && (are_host g.H.Host.step (live_in f c.args.live.now.handles) (given (listed_of c.args.request) (call_of c.args.request)) && not (is_empty_poll g.H.Host.step (listed_of c.args.request) (call_of c.args.request)))) (sym c.is_by_host.ensures ∙ no))

pub returns-then-not-are_host : goal.returns-then-not-are_host
returns-then-not-are_host g c = λ f.
    let h = g.H.Host.step in
    let yes : c.is_by_host.result ≡ true = search rules in
    let no : c.are_host.result ≡ false = search rules in
    let live = live_in f c.args.live.now.handles in
    let poll = not (is_empty_poll h (listed_of c.args.request) (call_of c.args.request)) in
    let hosts = are_host h live (given (listed_of c.args.request) (call_of c.args.request)) in
    sym (ap (λ (b : Bool). b && (hosts && poll)) (sym c.is_by_host.ensures ∙ yes) ∙ ap (λ (b : Bool). b && poll) (ap (λ xs. are_host h live (handles xs)) (sym c.requires.noted) ∙ sym (c.are_host.ensures f) ∙ no))

pub returns : goal.returns
returns g c = λ f.
    let h = g.H.Host.step in
    let yes : c.is_by_host.result ≡ true = search rules in
    let host : c.are_host.result ≡ true = search rules in
    let live = live_in f c.args.live.now.handles in
    let poll = not (is_empty_poll h (listed_of c.args.request) (call_of c.args.request)) in
    let hosts = are_host h live (given (listed_of c.args.request) (call_of c.args.request)) in
    sym (ap (λ (b : Bool). b && (hosts && poll)) (sym c.is_by_host.ensures ∙ yes)
    ∙ ap (λ (b : Bool). b && poll) (ap (λ xs. are_host h live (handles xs)) (sym c.requires.noted) ∙ sym (c.are_host.ensures f) ∙ host)
    ∙ ap not (ap (λ xs. bytes_eq (listed_of c.args.request).function.name (codes "poll") && is_none_given h (handles xs)) (sym c.requires.noted) ∙ sym c.is_empty_poll.ensures))
