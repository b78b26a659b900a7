use Rattle.std.proofs.Common.{◌≡◌, ◌∙◌, ◌+◌, ◌∷◌, [], ◌++◌, ap, sym, take, get_or, arith}
use Rattle.std.proofs.lemmas.Grind.{common_steps}
use Rattle.std.proofs.lemmas.List.{take_more}
use Rattle.comp_facts.specs.Keys.{and_number, and_bytes}
use Rattle.comp_facts.proofs.KeyLemmas.{bytes-more}
use Rattle.comp_facts.proofs.keys.and_name.Goals as goal

pub loop-byte-preserved : goal.loop-byte-preserved
loop-byte-preserved c =
    let key = c.args.key in
    let name = c.args.name.now in
    let i = c.loop-byte.byte-index in
    let b : c.from.result ≡ get_or name i 0 = grind (arith, common_steps, c.from.ensures) in
    c.and_number-key.ensures
    ∙ ((λ j. and_number (c.loop-byte.invariant j) (b j))
    ∙ (sym (bytes-more key (take i name) (get_or name i 0))
    ∙ ap (and_bytes key) (sym (take_more name i 0 c.loop-byte-test.true))))
