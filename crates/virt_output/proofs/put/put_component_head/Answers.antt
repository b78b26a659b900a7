use Rattle.std.proofs.Common.{ℕ, List, [], ◌∷◌, ◌++◌, ap, ◌∙◌, append_assoc, arith}
use Rattle.virt_base.specs.Leb.{shortest_unsigned}
use Rattle.wasm_format.specs.Format.{u32_format}
use Rattle.virt_output.proofs.PieceLaws.{head_added}
use Rattle.virt_output.proofs.put.put_component_head.Goals as goal

pub returns-clause-spelled : goal.returns-clause-spelled
unfolding u32_format
returns-clause-spelled c =
    let old : List ℕ = c.args.out.now.items in
    let size : List ℕ = shortest_unsigned 4 c.args.size in
    head_added c.args.size old c.write_u32.new.out.items (omega (arith, c.ranges.size.fits))
    (c.in_ok-write_u32.ensures.ok ∙ ap (λ (z : List ℕ). z ++ size) c.in_ok-put_byte.ensures ∙ append_assoc old (4 ∷ []) size)
