use Rattle.std.proofs.Common.{◌≡◌, ◌∙◌, length, vec_len, rules}
use Rattle.policy_toml.proofs.Counts.{item_count-view}
use Rattle.policy_toml.proofs.lists.item_count.Goals as goal

pub returns : goal.returns
returns c =
    let same : vec_len c.args.array.now ≡ length c.args.array.now.items = search rules in
    c.len.ensures ∙ (same ∙ item_count-view c.args.array.now.items)
