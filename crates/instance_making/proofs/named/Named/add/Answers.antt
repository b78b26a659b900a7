use Rattle.std.proofs.Common.{◌≡◌, ◌∙◌, ap, sym, Some, true, false, cond}
use Rattle.std.specs.Prelude.{string_bytes, is_some}
use Rattle.std.proofs.lemmas.Map.Text.{btree_map_updates_text}
use Rattle.comp_types.specs.Items.{same_name}
use Rattle.instance_making.specs.Named.{found}
use Rattle.instance_making.proofs.NameLemmas.{known-name, new-name}
use Rattle.instance_making.proofs.named.Named.add.Goals as goal

pub returns-then-contains_key : goal.returns-then-contains_key
unfolding found
returns-then-contains_key g c =
    let is : is_some (found c.args.self.now c.args.name.now) ≡ true = ap (λ w. is_some (found c.args.self.now w)) (sym c.as_str.ensures) ∙ (sym c.contains_key.ensures ∙ c.if-contains_key.true) in
    λ q. known-name (found c.args.self.now) c.args.name.now q c.args.item is

pub returns : goal.returns
unfolding found
returns g c =
    let none : is_some (found c.args.self.now c.args.name.now) ≡ false = ap (λ w. is_some (found c.args.self.now w)) (sym c.as_str.ensures) ∙ (sym c.contains_key.ensures ∙ c.if-contains_key.false) in
    let key : string_bytes c.into_string.result ≡ c.args.name.now = c.into_string.ensures ∙ c.in_ok-key.ensures in
    λ q.
    btree_map_updates_text (string_bytes c.into_string.result) c.args.self.now.by_name c.insert.new.self (Some c.args.item) c.in_ok-insert.ensures.updates q
    ∙ (ap (λ n. cond (same_name n q) (Some c.args.item) (found c.args.self.now q)) key ∙ new-name (found c.args.self.now) c.args.name.now q c.args.item none)
