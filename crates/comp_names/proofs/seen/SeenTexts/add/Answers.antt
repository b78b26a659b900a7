use Rattle.std.proofs.Common.{rules, ◌∙◌, ap, Some, true, is_some}
use Rattle.std.specs.Str.{bytes_eq}
use Rattle.std.specs.BTreeMap.{get_by}
use Rattle.std.specs.Cmp.Lexicographic.{slice_cmp}
use Rattle.std.specs.Ordering.{nat_cmp}
use Rattle.std.proofs.lemmas.Map.Text.{btree_map_updates_str}
use Rattle.comp_names.specs.Seen.{holds_text}
use Rattle.comp_names.proofs.SeenLemmas.{turned, either}
use Rattle.comp_names.proofs.seen.SeenTexts.add.Goals as goal

pub returns-in_err-old-clause-err : goal.returns-in_err-old-clause-err
unfolding holds_text
returns-in_err-old-clause-err c = search rules

pub returns-clause-new : goal.returns-clause-new
unfolding holds_text
returns-clause-new c = turned (is_some c.in_ok-old.old) c.is_none.result (is_some (get_by (λ k. slice_cmp nat_cmp c.args.name.now k.now) c.args.self.now.seen)) c.is_none.ensures
    (ap is_some c.in_ok-old.ensures.old)

pub returns-clause-added : goal.returns-clause-added
unfolding holds_text
returns-clause-added c = λ q.
    ap is_some (btree_map_updates_str c.args.name.now c.args.self.now.seen c.insert.new.self (Some true) c.in_ok-old.ensures.updates q)
    ∙ either (bytes_eq c.args.name.now q) (get_by (λ k. slice_cmp nat_cmp q k.now) c.args.self.now.seen)
