use Rattle.std.proofs.Common.{◌≡◌, ◌-◌, ◌+◌, ◌≤◌, List, [], ℕ, length, take, get_or, sym, ap, subst, ◌∙◌, arith}
use Rattle.std.proofs.lemmas.List.{take_more, take_all}
use Rattle.tree_table.specs.Linked.{IsLonger}
use Rattle.value_rows.proofs.trees.check.is_longer.Goals as goal

-- a path is longer than what is before its last name
cut : (lower : List (List ℕ)) → 1 ≤ length lower → IsLonger (take (length lower - 1) lower) lower
cut lower some =
    let size : length lower - 1 + 1 ≡ length lower = omega arith in
    record {
      name = get_or lower (length lower - 1) [];
      is = sym (take_all (length lower) lower (omega arith)) ∙ ap (λ n. take n lower) (sym size) ∙ take_more lower (length lower - 1) [] (omega arith);
    }

pub returns-in-len1-up : goal.returns-in-len1-up
returns-in-len1-up c = λ yes.
    let lower = c.args.lower.now in
    subst (λ (p : List (List ℕ)). IsLonger p lower) (sym (c.same_names.ensures yes)) (cut lower c.in-len1-up.len_at_least)
