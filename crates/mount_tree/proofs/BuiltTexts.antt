-- What links of built trees lead to is text.
use Rattle.std.proofs.Common.{◌≡◌, refl, ℕ, ◌<◌, List, [], length, All, Option, Some, None, subst, arith}
use Rattle.std.specs.Prelude.{IsUtf8}
use Rattle.std.specs.List.{slice_get}
use Rattle.std.specs.Option.{option_map_or}
use Rattle.std.proofs.lemmas.Option.{slice_get_within, get_or_from_slice_get}
use Rattle.std.proofs.lemmas.List.Elements.{All-get_or}
use Rattle.tree_table.specs.declared.entries.Node.TheVariants.{Link}
use Rattle.tree_table.specs.declared.entries.Entry.{Entry}
use Rattle.tree_table.specs.declared.entries.NamedTree.{NamedTree}
use Rattle.tree_table.specs.Trees.{AreTrees, entries_of}
use Rattle.mount_tree.specs.Legal.{AreLegal, IsLegal, IsLinkTarget, KeepsNode}
use Rattle.mount_tree.specs.Woods.{AreBuilt}

found : {A : Type 0} (P : A → Type 0) (xs : List A) (i : ℕ) (x : A) → All P xs → slice_get xs i ≡ Some x → P x
found P xs i x all e = subst P (get_or_from_slice_get xs i x x e) (All-get_or P xs i x (slice_get_within xs i x e) all)

legal_by : (trees : List NamedTree) (t i : ℕ) (e : Entry) (tree : Option NamedTree) → All (λ (it : NamedTree). AreLegal it.entries) trees → slice_get trees t ≡ tree
    → slice_get (option_map_or (λ (it : NamedTree). it.entries) tree []) i ≡ Some e → IsLegal e
legal_by trees t i e None all none there = let within : i < length {A = Entry} [] = slice_get_within [] i e there in absurd (omega (arith, within))
legal_by trees t i e (Some tree) all is there = found IsLegal tree.entries i e (found (λ (it : NamedTree). AreLegal it.entries) trees t tree all is) there

pub built_legal : (trees : List NamedTree) → AreBuilt trees → (t i : ℕ) (e : Entry) → slice_get (entries_of trees t) i ≡ Some e → IsLegal e
built_legal trees built t i e there = legal_by trees t i e (slice_get trees t) built.legal refl there

-- a link leads to what a link may lead to
pub built_target : (trees : List NamedTree) → AreBuilt trees → (t i : ℕ) (e : Entry) (target : List ℕ) → slice_get (entries_of trees t) i ≡ Some e → e.node ≡ Link target → IsLinkTarget target
built_target trees built t i e target there is = subst KeepsNode is (built_legal trees built t i e there).kept

pub built_texts : (trees : List NamedTree) → AreBuilt trees → (t i : ℕ) (e : Entry) (target : List ℕ) → slice_get (entries_of trees t) i ≡ Some e → e.node ≡ Link target → IsUtf8 target
built_texts trees built t i e target there is = (built_target trees built t i e target there is).1

pub built_sound : (trees : List NamedTree) → AreBuilt trees → AreTrees trees
built_sound trees built = built.sound
