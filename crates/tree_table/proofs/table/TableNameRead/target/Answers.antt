use Rattle.std.proofs.Common.{◌≡◌, ◌≢◌, ℕ, List, Option, Some, None, IfSome, IfNone, sym, ap, ◌∙◌}
use Rattle.std.specs.Borrow.{Bor}
use Rattle.tree_table.specs.declared.entries.Node.{Node}
use Rattle.tree_table.specs.declared.entries.Node.TheVariants.{Link}
use Rattle.tree_table.proofs.table.TableNameRead.target.Goals as goal

some_link : (there : Option Node) (node : Node) (found : Option (Bor (List ℕ))) → there ≡ Some node → IfSome found (λ target. node ≡ Link target.now) → IfSome found (λ target. there ≡ Some (Link target.now))
some_link there node None is h = h
some_link there node (Some target) is h = is ∙ ap Some h

no_link : (there : Option Node) (node : Node) (found : Option (Bor (List ℕ))) → there ≡ Some node → IfNone found ((target : List ℕ) → node ≢ Link target) → IfNone found ((target : List ℕ) → there ≢ Some (Link target))
no_link there node (Some target) is h = h
no_link there node None is h = λ target link. h target (inner node (Link target) (sym is ∙ link))
  where
    inner : (a b : Node) → Some a ≡ Some b → a ≡ b
    inner a b e = cc

pub returns-clause-link : goal.returns-clause-link
returns-clause-link c = some_link _ _ c.target.result c.target.ensures.there c.target.ensures.link

pub returns-clause-none : goal.returns-clause-none
returns-clause-none c = no_link _ _ c.target.result c.target.ensures.there c.target.ensures.none

pub returns-clause-parts : goal.returns-clause-parts
returns-clause-parts c = c.target.ensures.parts
