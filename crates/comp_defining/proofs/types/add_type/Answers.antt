use Rattle.std.proofs.Common.{refl, subst}
use Rattle.comp_types.specs.Items.{Kind}
use Rattle.comp_types.specs.Measures.{kind_depth}
use Rattle.comp_types.specs.Views.{kind_of}
use Rattle.comp_types.specs.Added.{and_depth, and_resource}
use Rattle.comp_types.specs.Spaces.{and_type, entry_of}
use Rattle.comp_scopes.specs.Stands.{Stands}
use Rattle.comp_defining.proofs.types.add_type.Goals as goal

pub returns : goal.returns
returns c = λ around s h k.
    let kind = kind_of c.args.kind in
    subst (λ (x : Kind). Stands (and_depth (and_resource (and_type s (entry_of x)) c.args.def.now) (entry_of x).depth) c.and_depth.new.scope) k
    (c.and_depth.ensures (and_resource (and_type s (entry_of kind)) c.args.def.now) (kind_depth kind)
    (c.in_ok-and_resource.ensures (and_type s (entry_of kind)) (c.in_ok-add_entry.ensures s (entry_of kind) h (record { kind = refl; depth = c.depth-depth.ensures })))
    c.depth-depth.ensures)
