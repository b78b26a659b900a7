use Rattle.std.proofs.Common.{◌≡◌, ◌++◌, ◌∙◌, ap, sym, subst, ℕ, List, length, map, take, drop, rules, vec_len}
use Rattle.core_body.specs.Numbers.{letter}
use Rattle.core_body.specs.Parts.{Lies, Grows}
use Rattle.core_body.proofs.PartLemmas.{lies-behind, grows-behind, lies-there-too}
use Rattle.core_body.proofs.parts.lay.Goals as goal

pub returns-clause-lies : goal.returns-clause-lies
returns-clause-lies c =
    let old = c.args.text.now.items in
    let types = c.args.types.now in
    let is : c.extend_from_slice.new.self.items ≡ old ++ map letter types =
    c.in_ok-extend_from_slice.ensures.items ∙ ap (λ w. old ++ w) (c.as_slice-3.ensures.value ∙ c.in_ok-word.ensures) in
    let counted : vec_len c.args.text.now ≡ length old = search rules in
    let at : c.len-at.result ≡ length old = c.len-at.ensures ∙ counted in
    subst (λ (t : List ℕ). Lies t c.len-at.result types) (sym is) (subst (λ n. Lies (old ++ map letter types) n types) (sym at) (lies-behind old types))

pub returns-clause-grows : goal.returns-clause-grows
returns-clause-grows c =
    subst (λ (t : List ℕ). Grows c.args.text.now.items t) (sym c.in_ok-extend_from_slice.ensures.items) (grows-behind c.args.text.now.items c.as_slice-3.result.now)

pub returns-in-Some-clause-lies : goal.returns-in-Some-clause-lies
returns-in-Some-clause-lies c =
    let text = c.args.text.now.items in
    let word = c.in_ok-word.word.items in
    let there : take (length word) (drop c.in-Some.place text) ≡ word =
    subst (λ (t : List ℕ). take (length word) (drop c.in-Some.place t) ≡ word) c.as_slice.ensures.value
    (subst (λ (w : List ℕ). take (length w) (drop c.in-Some.place c.as_slice.result.now) ≡ w) c.as_slice-2.ensures.value c.in-Some.ensures) in
    lies-there-too text word c.in-Some.place c.args.types.now c.in_ok-word.ensures there
