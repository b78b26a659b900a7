-- Which options were met.
use Rattle.std.specs.Prelude.{Bool}
use Rattle.wasm_ast.specs.declared.component.CanonOption.{CanonOption}
use Rattle.wasm_ast.specs.declared.component.CanonOption.TheVariants as opts
use Rattle.comp_lifting.specs.declared.met.Met.{Met}

-- one of this kind was
abbrev pub has_met : Met → CanonOption → Bool
has_met m opts.Utf8 = m.utf8
has_met m (opts.Memory i) = m.memory
has_met m (opts.Realloc i) = m.realloc
has_met m (opts.PostReturn i) = m.post_return
