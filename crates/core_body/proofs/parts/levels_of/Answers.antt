use Rattle.std.proofs.Common.{ℕ, List, sym, subst}
use Rattle.core_body.specs.Parts.{IsLevel}
use Rattle.core_body.proofs.parts.levels_of.Goals as goal

pub loop-preserved : goal.loop-preserved
loop-preserved c =
    let text = c.args.text.items in
    let names = c.loop.invariant.names in
    record {
      levels = c.in_ok-keep.ensures text c.loop.invariant.levels names;
      names = subst (λ n. IsLevel text n c.in_ok-next.next.items) (sym c.in-Some.ensures)
          (c.in_ok-next.ensures text (subst (λ (ns : List ℕ). IsLevel text c.loop.size ns) (sym c.as_slice.ensures.value) names));
    }
