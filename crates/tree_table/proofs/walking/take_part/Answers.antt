use Rattle.std.proofs.Common.{◌≡◌, ◌≢◌, ℕ, false, List, [], ◌∷◌, Some, IsSome, sym, ap, subst, ◌∙◌, arith}
use Rattle.tree_table.specs.declared.entries.Node.TheVariants.{Link}
use Rattle.tree_table.specs.Paths.{is_file}
use Rattle.tree_table.proofs.Resolve.{nil_of_append, goes-up, to-child, stays}
use Rattle.tree_table.proofs.walking.take_part.Goals as goal

pub parent-requires-clause-below : goal.parent-requires-clause-below
parent-requires-clause-below g c = λ root.
    let path = g.N.NameRead.path c.args.names.now in
    let top : path c.args.start ≡ [] = nil_of_append c.requires.under.0 _ (sym c.requires.under.1 ∙ root) in
    c.if-current-start.false (sym (c.is_file.ensures.alone c.args.start c.requires.start (sym c.requires.same_tree) (top ∙ sym root)))

pub returns-in-Stay-clause-meets : goal.returns-in-Stay-clause-meets
returns-in-Stay-clause-meets g c = λ below is.
    let path = g.N.NameRead.path c.args.names.now in
    let look = g.N.NameRead.look c.args.names.now in
    let home = look (g.N.NameRead.tree c.args.names.now c.args.start) in
    let folder : is_file (home (path c.args.current)) ≡ false = ap (λ t. is_file (look t (path c.args.current))) (sym c.requires.same_tree) ∙ sym c.is_file.ensures.value ∙ c.if-is_file.false in
    (c.requires.current, c.requires.same_tree, (below, is, stays home (path c.args.start) c.args.follow c.args.last (path c.args.current) c.args.part.now folder (c.part_kind.ensures.stay c.in-Stay.is) below is))

pub returns-else-current-start-clause-meets : goal.returns-else-current-start-clause-meets
returns-else-current-start-clause-meets g c = λ below is.
    let path = g.N.NameRead.path c.args.names.now in
    let look = g.N.NameRead.look c.args.names.now in
    let home = look (g.N.NameRead.tree c.args.names.now c.args.start) in
    let folder : is_file (home (path c.args.current)) ≡ false = ap (λ t. is_file (look t (path c.args.current))) (sym c.requires.same_tree) ∙ sym c.is_file.ensures.value ∙ c.if-is_file.false in
    let other : path c.args.current ≢ path c.args.start = λ same. c.if-current-start.false (sym (c.is_file.ensures.alone c.args.start c.requires.start (sym c.requires.same_tree) (sym same))) in
    (c.parent.ensures.inside, c.parent.ensures.same_tree ∙ c.requires.same_tree, goes-up home (path c.args.start) c.args.follow c.args.last (path c.args.current) c.args.part.now (path c.parent.result) c.parent.ensures.parent other folder (c.part_kind.ensures.up c.in-Up.is) below is)

pub returns-in-None-clause-meets : goal.returns-in-None-clause-meets
returns-in-None-clause-meets g c = λ below is.
    let path = g.N.NameRead.path c.args.names.now in
    let look = g.N.NameRead.look c.args.names.now in
    let tree = g.N.NameRead.tree c.args.names.now in
    let home = look (tree c.args.start) in
    let folder : is_file (home (path c.args.current)) ≡ false = ap (λ t. is_file (look t (path c.args.current))) (sym c.requires.same_tree) ∙ sym c.is_file.ensures.value ∙ c.if-is_file.false in
    let child = c.in-Some.child in
    let found = c.in-Some.ensures.found in
    let children = c.children-from.ensures in
    let place : path child ≡ c.args.part.now ∷ path c.args.current =
    children.paths child found.0 found.1 ∙ ap (λ (name : List ℕ). name ∷ path c.args.current) found.2 in
    let kept : tree child ≡ tree c.args.start = children.trees child found.0 found.1 ∙ c.requires.same_tree in
    let there : IsSome (home (c.args.part.now ∷ path c.args.current)) = subst (λ t. IsSome (look t (c.args.part.now ∷ path c.args.current))) c.requires.same_tree (subst (λ p. IsSome (look (tree c.args.current) p)) place (children.there child found.0 found.1)) in
    let inside = children.inside in
    let other : (target : List ℕ) → home (c.args.part.now ∷ path c.args.current) ≢ Some (Link target) = λ target link. c.in-None.ensures.none target (ap (λ t. look t (path child)) kept ∙ ap home place ∙ link) in (
      omega (arith, found.1),
      kept,
      (
        c.args.part.now ∷ below,
        place ∙ ap (λ p. c.args.part.now ∷ p) is,
        to-child home (path c.args.start) c.args.follow c.args.last (path c.args.current) c.args.part.now folder (c.part_kind.ensures.named c.in-Named.is) there other below is,
      ),
    )
