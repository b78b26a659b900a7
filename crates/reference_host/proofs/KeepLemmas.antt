-- What stays of the live handles.
use Rattle.std.proofs.Common.{◌≡◌, ℕ, ◌≤◌, ◌<◌, Bool, true, List, length, Option, Some, None, refl, sym, ap, subst, ◌∙◌, arith}
use Rattle.std.specs.Prelude.{IfSome, is_some, slice_index_or}
use Rattle.std.specs.Option.{option_map_or}
use Rattle.std.proofs.lemmas.Bool.Decides.{nat_tests}
use Rattle.tree_table.specs.declared.entries.NamedTree.{NamedTree}
use Rattle.tree_table.specs.Scratches.{ScratchMap, file_at}
use Rattle.tree_table.specs.Tables.{Forest, Holds, count_of}
use Rattle.ref_rules.specs.declared.content.Content.{Content}
use Rattle.ref_rules.specs.declared.content.Content.TheVariants.{Always}
use Rattle.ref_rules.specs.declared.content.Handle.{Handle}
use Rattle.ref_rules.specs.Contents.{open_file}
use Rattle.ref_guards.specs.Contents.{AllHold, KeepsContents}
use Rattle.ref_virtual.specs.Inside.{node_inside}
use Rattle.ref_virtual.specs.Held.{content_held}
use Rattle.ref_virtual.specs.Known.{file_open}
use Rattle.ref_host_calls.specs.Offers.{HoldsOfFolders}
use Rattle.reference_host.specs.declared.state_kept.Setting.{Setting}
use Rattle.reference_host.specs.declared.state_kept.Holding.{Holding}
use Rattle.reference_host.specs.Kept.{IsHolding, IsSetting}

-- ---- a fact of each content, and of what each number stands for

module _ (P : Content → Bool) (ready : P Always ≡ true) (handles : List (Option Handle)) where
  held_by : (id : ℕ) (o : Option Handle) → slice_index_or handles id None ≡ o → ((h : Handle) → o ≡ Some h → P h.content ≡ true) → P (option_map_or (λ h. h.content) o Always) ≡ true
  held_by id None is all = ready
  held_by id (Some h) is all = all h refl

  pub each_held : AllHold P handles → (id : ℕ) → P (content_held handles id) ≡ true
  each_held all id = held_by id (slice_index_or handles id None) refl (all id)

  pub all_held : ((id : ℕ) → P (content_held handles id) ≡ true) → AllHold P handles
  all_held each id h is = ap (λ (o : Option Handle). P (option_map_or (λ x. x.content) o Always)) (sym is) ∙ each id

-- ---- scratch files that are there

abbrev pub is_there : ScratchMap → Content → Bool
is_there m c = option_map_or (λ n. is_some (file_at m n)) (open_file c) true

module _ (m : ScratchMap) where
  opened : (o : Option ℕ) → option_map_or (λ n. is_some (file_at m n)) o true ≡ true → IfSome o (λ n. is_some (file_at m n) ≡ true)
  opened None is = tt
  opened (Some n) is = is

  there : (o : Option ℕ) → IfSome o (λ n. is_some (file_at m n) ≡ true) → option_map_or (λ n. is_some (file_at m n)) o true ≡ true
  there None is = refl
  there (Some n) is = is

  pub open_there : (c : Content) → is_there m c ≡ true → file_open m c
  open_there c is = opened (open_file c) is

  pub there_open : (c : Content) → file_open m c → is_there m c ≡ true
  there_open c is = there (open_file c) is

-- ---- what calls keep

module _ (g : Setting) (old new : Holding) (May : (Content → Bool) → Type 0) where
  -- where the scratch folder stays
  pub holding_kept : new.folder ≡ old.folder → (new.live.slots ≡ old.live.slots) × (new.live.files ≡ old.live.files) → KeepsContents May old.live new.live → May (node_inside (count_of g.table)) → May (is_there old.folder) → IsHolding g old → IsHolding g new
  holding_kept folder limits keeps nodes opens is =
      let same : length new.folder.files ≡ length old.folder.files = ap (λ (m : ScratchMap). length m.files) folder in
      record {
        slots = limits.0 ∙ is.slots;
        files = same ∙ is.files;
        held_files = same ∙ is.held_files ∙ sym limits.1;
        fits = keeps.fits is.fits;
        nodes = each_held (node_inside (count_of g.table)) refl new.live.handles (keeps.held (node_inside (count_of g.table)) nodes (all_held (node_inside (count_of g.table)) refl old.live.handles is.nodes));
        held_there = λ id. open_there new.folder (content_held new.live.handles id)
            (subst (λ (m : ScratchMap). is_there m (content_held new.live.handles id) ≡ true) (sym folder)
            (each_held (is_there old.folder) refl new.live.handles (keeps.held (is_there old.folder) opens (all_held (is_there old.folder) refl old.live.handles (λ n. there_open old.folder (content_held old.live.handles n) (is.held_there n)))) id));
      }

-- the roots of trees are nodes of their table
roots_first : (trees : List NamedTree) (f : Forest) → Holds trees f → length trees ≤ count_of f
roots_first trees f h = let roots = h.roots in let few = h.forest.some in omega (arith, roots, few)

pub folders_inside : (g : Setting) → IsSetting g → HoldsOfFolders (length g.trees) (node_inside (count_of g.table))
folders_inside g is = record {
  theirs = λ id. refl;
  roots = λ place lt. let few = roots_first g.trees g.table is.holds in let below : place < count_of g.table = omega (arith, lt, few) in grind (arith, nat_tests);
  scratch = refl;
}

pub folders_there : (trees : ℕ) (m : ScratchMap) → HoldsOfFolders trees (is_there m)
folders_there trees m = record { theirs = λ id. refl; roots = λ place lt. refl; scratch = refl }
