use Rattle.std.proofs.Common.{rules, ◌≡◌, ◌∙◌, ap, refl, sym, Option, Some, Bool, true, false, not, cond, is_some}
use Rattle.std.specs.Prelude.{◌||◌, string_bytes}
use Rattle.std.specs.BTreeMap.{get_by_text}
use Rattle.std.specs.Str.{bytes_eq}
use Rattle.std.proofs.lemmas.Map.Text.{btree_map_updates_text}
use Rattle.comp_names.specs.Same.{folded}
use Rattle.comp_names.specs.Seen.{holds}
use Rattle.comp_names.proofs.SeenLemmas.{turned, either}
use Rattle.comp_names.proofs.seen.SeenNames.add.Goals as goal

pub returns-in_err-old-clause-err : goal.returns-in_err-old-clause-err
unfolding holds
returns-in_err-old-clause-err c = search rules

pub returns-clause-new : goal.returns-clause-new
unfolding holds
returns-clause-new c = turned (is_some c.in_ok-old.old) c.is_none.result (is_some (get_by_text c.args.self.now.seen (folded c.args.name.now))) c.is_none.ensures
    (ap is_some c.in_ok-old.ensures.old ∙ ap (λ b. is_some (get_by_text c.args.self.now.seen b)) c.in_ok-key.ensures.ok)

pub returns-clause-added : goal.returns-clause-added
unfolding holds
returns-clause-added c = λ q.
    ap is_some (btree_map_updates_text (string_bytes c.in_ok-key.key) c.args.self.now.seen c.insert.new.self (Some true) c.in_ok-old.ensures.updates (folded q))
    ∙ (either (bytes_eq (string_bytes c.in_ok-key.key) (folded q)) (get_by_text c.args.self.now.seen (folded q))
    ∙ ap (λ b. bytes_eq b (folded q) || is_some (get_by_text c.args.self.now.seen (folded q))) c.in_ok-key.ensures.ok)
