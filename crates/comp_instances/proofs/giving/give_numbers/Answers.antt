use Rattle.std.proofs.Common.{◌≡◌, ◌∙◌, ◌+◌, ◌++◌, ◌∷◌, [], ap, sym, drop, get_or, length, append_assoc, arith}
use Rattle.std.proofs.lemmas.List.{drop_more}
use Rattle.comp_types.specs.Added.{new_numbers}
use Rattle.comp_types.specs.GivenResources.{numbered}
use Rattle.comp_instances.proofs.AlikeLemmas.{alike_onward}
use Rattle.comp_instances.proofs.giving.give_numbers.Goals as goal

pub loop-resource-preserved : goal.loop-resource-preserved
loop-resource-preserved c =
    let own = c.args.own.now in
    let i = c.loop-resource.resource-index in
    let old = c.loop-resource.fresh in
    let new = c.give_number.new.fresh in
    let x = get_or own i 0 in
    let rest = numbered (drop (i + 1) own) new.next in
    let gives = c.in_ok-give_number.ensures in
    let pairs : numbered (drop i own) old.next ≡ (x, old.next) ∷ rest =
    ap (λ xs. numbered xs old.next) (drop_more own i 0 c.loop-resource-test.true) ∙ ap (λ n. (x, old.next) ∷ numbered (drop (i + 1) own) n) (sym gives.next) in
    let more = ap length pairs in
    let all = c.loop-resource.invariant.next in
    let one = gives.next in
    record {
      by = alike_onward new.by old.by (c.args.by ++ numbered own c.args.next) ((x, old.next) ∷ []) rest (numbered (drop i own) old.next) gives.by pairs c.loop-resource.invariant.by;
      numbers =
          ap (λ ns. ns ++ new_numbers rest) gives.numbers
          ∙ (append_assoc old.numbers (old.next ∷ []) (new_numbers rest) ∙ (ap (λ ps. old.numbers ++ new_numbers ps) (sym pairs) ∙ c.loop-resource.invariant.numbers));
      next = omega arith;
    }
