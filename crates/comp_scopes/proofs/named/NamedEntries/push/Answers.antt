use Rattle.std.proofs.Common.{◌∙◌, ap, ◌≡◌, Some, true, is_some, cond}
use Rattle.std.specs.Prelude.{Result, Ok, Err, OnOk, string_bytes}
use Rattle.std.specs.Str.{bytes_eq}
use Rattle.std.specs.BTreeMap.{get_by_text}
use Rattle.std.proofs.lemmas.Map.Text.{btree_map_updates_text}
use Rattle.comp_names.specs.Same.{folded}
use Rattle.comp_types.specs.Items.{and_entry}
use Rattle.comp_types.specs.Views.{item_of}
use Rattle.comp_scopes.proofs.NameLemmas.{met-and}
use Rattle.comp_scopes.proofs.named.NamedEntries.push.Goals as goal

on_ok : {A E : Type 0} {P Q : Type 0} (r : Result A E) → (P → Q) → OnOk r P → OnOk r Q
on_ok (Ok a) f h = f h
on_ok (Err e) f h = h

pub returns : goal.returns
returns c = on_ok c.push.result (λ pushed es h. record {
  entries = pushed ∙ (ap (λ n. and_entry c.args.self.now.entries n (item_of c.args.item)) c.in_ok-copy.ensures ∙ ap (λ xs. and_entry xs c.args.name.now (item_of c.args.item)) h.entries);
  seen = λ q.
      let key : string_bytes c.in_ok-key.key ≡ folded c.args.name.now = c.in_ok-key.ensures.ok ∙ ap folded c.as_str.ensures in
      ap is_some (btree_map_updates_text (string_bytes c.in_ok-key.key) c.args.self.now.seen c.insert.new.self (Some true) c.in_ok-insert.ensures.updates (folded q))
      ∙ (ap (λ k. is_some (cond (bytes_eq k (folded q)) (Some true) (get_by_text c.args.self.now.seen (folded q)))) key
      ∙ met-and es c.args.name.now q (item_of c.args.item) (get_by_text c.args.self.now.seen (folded q)) (h.seen q));
}) c.push.ensures.ok
