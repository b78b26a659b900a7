use Rattle.std.proofs.Common.{◌≡◌, ◌∙◌, ap, sym, ℕ, List, Bool, true, false, not, map}
use Rattle.std.specs.Prelude.{◌||◌}
use Rattle.std.specs.List.{list_any}
use Rattle.path_names.specs.Paths.{Placed, clashes, is_clear}
use Rattle.policy_text.specs.PathKeys.{placed_of, rank, unrank}
use Rattle.policy_text.proofs.PathOrder.{unrank_all}
use Rattle.policy_text.proofs.PathEntries.{Entry, any-insert, is_clear-insert}
use Rattle.policy_text.proofs.paths.Paths.add.Goals as goal

-- the path of a key that was made of it
path_of_key : (key path : List ℕ) → key ≡ map rank path → map unrank key ≡ path
path_of_key key path made = ap (map unrank) made ∙ unrank_all path

-- a test of the map's entries as one of the paths
seen_as : (es : List Entry) (ps : List Placed) (key path : List ℕ) (leaf b : Bool) → map placed_of es ≡ ps → map unrank key ≡ path
    → list_any (clashes (record { path = map unrank key; leaf = leaf })) (map placed_of es) ≡ b
    → list_any (clashes (record { path = path; leaf = leaf })) ps ≡ b
seen_as es ps key path leaf b view made found = rw (← view, ← made) found

pub returns-then-clashes-clause-clear : goal.returns-then-clashes-clause-clear
returns-then-clashes-clause-clear c =
    let made = path_of_key c.in_ok-key.key.items c.args.path.now (rw c.as_bytes.ensures.value at c.in_ok-key.ensures) in
    sym (ap not (seen_as c.self.inside.leaves.entries c.args.self.now c.in_ok-key.key.items c.args.path.now c.args.leaf true c.self.view_is made
    (sym c.clashes.ensures ∙ c.if-clashes.true)))

pub returns-clause-clear : goal.returns-clause-clear
returns-clause-clear c =
    let made = path_of_key c.in_ok-key.key.items c.args.path.now (rw c.as_bytes.ensures.value at c.in_ok-key.ensures) in
    sym (ap not (seen_as c.self.inside.leaves.entries c.args.self.now c.in_ok-key.key.items c.args.path.now c.args.leaf false c.self.view_is made
    (sym c.clashes.ensures ∙ c.if-clashes.false)))

pub returns-clause-added : goal.returns-clause-added
returns-clause-added c = λ yes test.
    let made = path_of_key c.in_ok-key.key.items c.args.path.now (rw c.as_bytes.ensures.value at c.in_ok-key.ensures) in
    ap (λ es. list_any test (map placed_of es)) c.in_ok-insert.ensures.entries
    ∙ (any-insert test c.in_ok-key.key c.args.leaf c.self.inside.leaves.entries (sym c.clashes.ensures ∙ c.if-clashes.false)
    ∙ (ap (λ p. test (record { path = p; leaf = c.args.leaf }) || list_any test (map placed_of c.self.inside.leaves.entries)) made
    ∙ ap (λ ps. test (record { path = c.args.path.now; leaf = c.args.leaf }) || list_any test ps) c.self.view_is))

pub invariant_of-self-2 : goal.invariant_of-self-2
invariant_of-self-2 c =
    ap (λ es. is_clear (map placed_of es)) c.in_ok-insert.ensures.entries
    ∙ is_clear-insert c.in_ok-key.key c.args.leaf c.self.inside.leaves.entries c.self.invariant (sym c.clashes.ensures ∙ c.if-clashes.false)
