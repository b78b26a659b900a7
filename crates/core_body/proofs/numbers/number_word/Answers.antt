use Rattle.std.proofs.Common.{◌≡◌, ◌+◌, ◌∙◌, ap, sym, Some, None, cond, is_some}
use Rattle.std.specs.BTreeMap.{btree_map_len}
use Rattle.core_body.specs.Numbers.{number_of}
use Rattle.core_body.proofs.NumberLemmas.{word_updates, adds-new, adds-nothing}
use Rattle.core_body.proofs.numbers.number_word.Goals as goal

pub returns-in_ok-insert-in-None : goal.returns-in_ok-insert-in-None
returns-in_ok-insert-in-None c =
    let old = c.args.known.now in
    let new = c.insert.new.self in
    let word = c.args.word.items in
    let done = c.in_ok-insert-in-None.ensures in
    let none : number_of old word ≡ None = sym c.in-None.ensures.value in
    let longer : btree_map_len new ≡ btree_map_len old + 1 = done.len ∙ ap (λ o. btree_map_len old + cond (is_some o) 0 1) (done.old ∙ none) in
    adds-new old new word (c.len-n.result + 5) c.requires none (ap (λ n. n + 5) c.len-n.ensures.len) longer (word_updates word old new (Some (c.len-n.result + 5)) done.updates)

pub returns-in-Some : goal.returns-in-Some
returns-in-Some c = adds-nothing c.args.known.now _ _ c.requires (sym c.in-Some.ensures.value)
