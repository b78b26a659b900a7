-- The trees that a policy and files stand for are one list of trees: the paths of each differ, so they have one order.
use Rattle.std.proofs.Common.{◌≡◌, ◌≢◌, ◌∙◌, refl, sym, ap, subst, ℕ, zero, suc, ◌+◌, ◌<◌, List, [], ◌∷◌, ◌++◌, Bool, true, false, not, ◌&&◌, ◌⊎◌, cond, nat_lt, codes, Ordering, nat_cmp, Result, Ok, Err, IfOk, All, length, get_or, inl, inr, arith, length-append, true≢false}
use Rattle.std.specs.List.{IsDistinct}
use Rattle.std.specs.Cmp.{IsTotalOrder}
use Rattle.std.specs.Cmp.Lexicographic.{slice_cmp}
use Rattle.std.specs.Ordering.{is_eq, ordering_then, eq_by_cmp}
use Rattle.std.specs.declared.cmp.Ordering.TheVariants.{Less, Equal, Greater}
use Rattle.std.proofs.lemmas.Bool.{cases_eq}
use Rattle.std.proofs.lemmas.Cmp.{on_total, nat_list_cmp_total, lists_total}
use Rattle.std.proofs.lemmas.List.{get_or_append_left, get_or-append-add, get_or_default}
use Rattle.std.proofs.lemmas.List.Elements.{All-head, All-nil, All-push, All-tail}
use Rattle.std.proofs.lemmas.Map.Keys.{IsDistinct-from_apart}
use Rattle.std.proofs.lemmas.Map.Lookups.{exact_bytes}
use Rattle.outside.specs.Files.{Held}
use Rattle.outside.specs.declared.files.Entry.{Entry as Listed}
use Rattle.outside.specs.declared.files.EntryKind.{EntryKind}
use Rattle.outside.specs.declared.files.EntryKind.TheVariants as kinds
use Rattle.path_names.specs.Paths.{names_of}
use Rattle.tree_table.specs.declared.entries.Node.{Node}
use Rattle.tree_table.specs.declared.entries.Node.TheVariants.{Folder, File, Link as LinkTo}
use Rattle.tree_table.specs.declared.entries.Entry.{Entry}
use Rattle.tree_table.specs.declared.entries.NamedTree.{NamedTree}
use Rattle.tree_table.specs.Linked.{end_name}
use Rattle.tree_table.specs.Stored.{path_at, root_entry}
use Rattle.tree_table.specs.Trees.{path_cmp}
use Rattle.policy_data.specs.declared.data.Content.{Content}
use Rattle.policy_data.specs.declared.data.Content.TheVariants as contents
use Rattle.policy_data.specs.declared.data.Embedded.{Embedded}
use Rattle.policy_data.specs.declared.data.EmbeddedFile.{EmbeddedFile}
use Rattle.policy_data.specs.declared.data.Link.{Link}
use Rattle.policy_data.specs.declared.data.TreeContent.{TreeContent}
use Rattle.policy_data.specs.declared.data.TreeContent.TheVariants.{Mount, Embedded as Written}
use Rattle.policy_data.specs.declared.data.TreeSource.{TreeSource}
use Rattle.policy_data.specs.declared.policy.Policy.{Policy}
use Rattle.mount_tree.specs.declared.fault.TreeFault.{TreeFault}
use Rattle.mount_tree.specs.declared.fault.TreeFault.TheVariants.{BadName, OverLimit}
use Rattle.mount_tree.specs.declared.forest.Forest.{Forest}
use Rattle.mount_tree.specs.declared.forest.MadeTree.{MadeTree}
use Rattle.mount_tree.specs.Runs.{Run, done, stops, and_next, next_by, each}
use Rattle.mount_tree.specs.Growing.{above_of, houses, is_free, with_folders, with_node}
use Rattle.mount_tree.specs.Legal.{is_entry_name}
use Rattle.mount_tree.specs.Making.{Sofar, count_with, few_nodes, with_above, with_file, with_other, with_tree}
use Rattle.mount_tree.specs.Building.{below, content_due, content_of, embedded_due, entry_by, entry_due, file_step, folder_step, inside, link_step, listing_due, mount_due, no_trees, reach, root_due, tree_step, trees_due}
use Rattle.mount_tree.specs.Ordered.{AreOrdered, IsOrdered}
use Rattle.mount_tree.proofs.GrowLemmas.{holds-at}
use Rattle.virt_engine.proofs.InOrder.{one_order}

-- ---- the paths of a tree in the making differ

abbrev AreApart : List Entry → Type 0
AreApart there = (i j : ℕ) → i < length there → j < length there → path_at there i ≡ path_at there j → i ≡ j

apart_more : (there : List Entry) (e : Entry) → AreApart there → ((k : ℕ) → k < length there → path_at there k ≢ e.path) → AreApart (there ++ e ∷ [])
apart_more there e apart new i j wi wj same = by (cases_eq i (length there)) (cases_eq j (length there))
  where
    long : length (there ++ e ∷ []) ≡ length there + 1
    long = length-append there (e ∷ [])

    front : (k : ℕ) → k < length there → path_at (there ++ e ∷ []) k ≡ path_at there k
    front k w = ap (λ (x : Entry). x.path) (get_or_append_left there (e ∷ []) root_entry k w)

    last : (k : ℕ) → k ≡ length there → path_at (there ++ e ∷ []) k ≡ e.path
    last k is = ap (λ n. path_at (there ++ e ∷ []) n) (is ∙ omega arith) ∙ ap (λ (x : Entry). x.path) (get_or-append-add there (e ∷ []) 0 root_entry)

    by : (i ≡ length there) ⊎ (i ≢ length there) → (j ≡ length there) ⊎ (j ≢ length there) → i ≡ j
    by (inl a) (inl b) = a ∙ sym b
    by (inl a) (inr b) = let low : j < length there = omega (arith, b, wj, long) in absurd (new j low (sym (front j low) ∙ sym same ∙ last i a))
    by (inr a) (inl b) = let low : i < length there = omega (arith, a, wi, long) in absurd (new i low (sym (front i low) ∙ same ∙ last j b))
    by (inr a) (inr b) =
        let lowi : i < length there = omega (arith, a, wi, long) in
        let lowj : j < length there = omega (arith, b, wj, long) in
        apart i j lowi lowj (sym (front i lowi) ∙ same ∙ front j lowj)

-- a name that is free is new
new_path : (there : List Entry) (above : List (List ℕ)) (name : List ℕ) → is_free there above name ≡ true → (k : ℕ) → k < length there → path_at there k ≢ above ++ name ∷ []
new_path there above name free k w is = true≢false (sym free ∙ rw (holds-at there k (above ++ name ∷ []) w is) (by (houses there above)))
  where
    by : (b : Bool) → (b && not true) ≡ false
    by true = refl
    by false = refl

apart_node : (there : List Entry) (above : List (List ℕ)) (name : List ℕ) (node : Node) → AreApart there → AreApart (with_node there above name node)
apart_node there above name node apart = by (is_free there above name) refl
  where
    e : Entry
    e = record { path = above ++ name ∷ []; node = node }

    by : (b : Bool) → is_free there above name ≡ b → AreApart (cond b (there ++ e ∷ []) there)
    by true free = apart_more there e apart (new_path there above name free)
    by false taken = apart

apart_folders : (there : List Entry) (above names : List (List ℕ)) → AreApart there → AreApart (with_folders there above names)
apart_folders there above [] apart = apart
apart_folders there above (name ∷ []) apart = apart
apart_folders there above (name ∷ next ∷ names) apart = apart_folders (with_node there above name Folder) (above ++ name ∷ []) (next ∷ names) (apart_node there above name Folder apart)

apart_root : AreApart (root_entry ∷ [])
apart_root i j wi wj same = omega (arith, wi, wj)

-- ---- and so in each step of building

abbrev IsApart : MadeTree → Type 0
IsApart made = AreApart made.nodes

abbrev IsSound : Sofar → Type 0
IsSound sofar = AreApart sofar.there × All IsApart sofar.before.trees

abbrev IsWhole : Forest → Type 0
IsWhole forest = All IsApart forest.trees

-- what comes of a run is so
abbrev Yields : {A : Type 0} → (A → Type 0) → Run A → Type 0
Yields P run = IfOk run.answer P

module _ {A B : Type 0} (P : A → Type 0) (Q : B → Type 0) (next : A → Run B) (then : (a : A) → P a → Yields Q (next a)) where
  by_answer : (asks : List (List ℕ)) (r : Result A TreeFault) → IfOk r P → Yields Q (next_by asks r next)
  by_answer asks (Ok a) h = then a h
  by_answer asks (Err fault) h = tt

  yields_next : (run : Run A) → Yields P run → Yields Q (and_next run next)
  yields_next run h = by_answer run.asks run.answer h

module _ {A B : Type 0} (Q : B → Type 0) (next : A → Run B) (then : (a : A) → Yields Q (next a)) where
  by_any : (asks : List (List ℕ)) (r : Result A TreeFault) → Yields Q (next_by asks r next)
  by_any asks (Ok a) = then a
  by_any asks (Err fault) = tt

  -- whatever comes of the first
  yields_then : (run : Run A) → Yields Q (and_next run next)
  yields_then run = by_any run.asks run.answer

yields_each : {S A : Type 0} (P : S → Type 0) (step : S → A → Run S) → ((s : S) (x : A) → P s → Yields P (step s x)) → (state : S) (xs : List A) → P state → Yields P (each step state xs)
yields_each P step keeps state [] h = h
yields_each P step keeps state (x ∷ xs) h = yields_next P P (λ next. each step next xs) (λ next k. yields_each P step keeps next xs k) (step state x) (keeps state x h)

few_keep : (b : Bool) (sofar : Sofar) (fault : TreeFault) → IsSound sofar → IfOk (cond b (Err fault) (Ok sofar)) IsSound
few_keep true sofar fault h = tt
few_keep false sofar fault h = h

reach_keeps : (sofar : Sofar) (path : List ℕ) → IsSound sofar → Yields IsSound (reach sofar path)
reach_keeps sofar path h = by (nat_lt 64 (length (names_of path)))
  where
    made : Sofar
    made = with_above sofar path

    by : (b : Bool) → IfOk (cond b (Err (OverLimit (codes "tree-depth") (length (names_of path)))) (few_nodes (count_with made path) made)) IsSound
    by true = tt
    by false = few_keep (nat_lt 65536 (count_with made path)) made (OverLimit (codes "tree-nodes") (count_with made path)) (apart_folders sofar.there [] (names_of path) h.0, h.1)

file_keeps : (held : Held) (sofar : Sofar) (path : List ℕ) (content : Content) → IsSound sofar → Yields IsSound (file_step held sofar path content)
file_keeps held sofar path content h =
    yields_next IsSound IsSound (λ made. and_next (content_due held made.bytes content) (λ bytes. done (with_file made path bytes))) (λ made k.
    yields_then IsSound (λ bytes. done (with_file made path bytes)) (λ bytes. (apart_node made.there (above_of (names_of path)) (end_name (names_of path)) (File bytes) k.0, k.1)) (content_due held made.bytes content)) (reach sofar path) (reach_keeps sofar path h)

other_keeps : (sofar : Sofar) (path : List ℕ) (node : Node) → IsSound sofar → Yields IsSound (and_next (reach sofar path) (λ made. done (with_other made path node)))
other_keeps sofar path node h =
    yields_next IsSound IsSound (λ made. done (with_other made path node)) (λ made k. (apart_node made.there (above_of (names_of path)) (end_name (names_of path)) node k.0, k.1)) (reach sofar path) (reach_keeps sofar path h)

embedded_keeps : (held : Held) (sofar : Sofar) (embedded : Embedded) → IsSound sofar → Yields IsSound (embedded_due held sofar embedded)
embedded_keeps held sofar embedded h =
    yields_next IsSound IsSound (λ files. and_next (each folder_step files embedded.folders) (λ folders. each (λ s (link : Link). link_step s link.path link.target) folders embedded.links)) (λ files k.
    yields_next IsSound IsSound (λ folders. each (λ s (link : Link). link_step s link.path link.target) folders embedded.links) (λ folders g.
    yields_each IsSound (λ s (link : Link). link_step s link.path link.target) (λ s link i. other_keeps s link.path (LinkTo link.target) i) folders embedded.links g) (each folder_step files embedded.folders)
    (yields_each IsSound folder_step (λ s path i. other_keeps s path Folder i) files embedded.folders k)) (each (λ s (file : EmbeddedFile). file_step held s file.path file.content) sofar embedded.files)
    (yields_each IsSound (λ s (file : EmbeddedFile). file_step held s file.path file.content) (λ s file i. file_keeps held s file.path file.content i) sofar embedded.files h)

module _ (deeper : List ℕ → List ℕ → Sofar → Run Sofar) (keeps : (outside path : List ℕ) (s : Sofar) → IsSound s → Yields IsSound (deeper outside path s)) (held : Held) where
  kind_keeps : (kind : EntryKind) (outside path : List ℕ) (sofar : Sofar) → IsSound sofar → Yields IsSound (entry_by deeper held kind outside path sofar)
  kind_keeps kinds.File outside path sofar h = file_keeps held sofar path (contents.File outside) h
  kind_keeps kinds.Folder outside path sofar h = yields_next IsSound IsSound (λ made. deeper outside path made) (λ made k. keeps outside path made k) (folder_step sofar path) (other_keeps sofar path Folder h)

  entry_keeps : (folder path : List ℕ) (sofar : Sofar) (entry : Listed) → IsSound sofar → Yields IsSound (entry_due deeper held folder path sofar entry)
  entry_keeps folder path sofar entry h = by (is_entry_name entry.name)
    where
      by : (b : Bool) → Yields IsSound (cond b (entry_by deeper held entry.kind (inside folder entry.name) (below path entry.name) sofar) (stops (BadName entry.name)))
      by true = kind_keeps entry.kind (inside folder entry.name) (below path entry.name) sofar h
      by false = tt

mount_keeps : (levels : ℕ) (held : Held) (folder path : List ℕ) (sofar : Sofar) → IsSound sofar → Yields IsSound (mount_due levels held folder path sofar)
mount_keeps zero held folder path sofar h = h
mount_keeps (suc levels) held folder path sofar h =
    yields_then IsSound (λ entries. each (entry_due (mount_due levels held) held folder path) sofar entries) (λ entries.
    yields_each IsSound (entry_due (mount_due levels held) held folder path)
    (λ s entry k. entry_keeps (mount_due levels held) (λ o p made g. mount_keeps levels held o p made g) held folder path s entry k) sofar entries h) (listing_due held folder)

content_keeps : (held : Held) (sofar : Sofar) (content : TreeContent) → IsSound sofar → Yields IsSound (content_of held sofar content)
content_keeps held sofar (Mount folder) h = mount_keeps 65 held folder [] sofar h
content_keeps held sofar (Written embedded) h = embedded_keeps held sofar embedded h

root_keeps : (forest : Forest) → IsWhole forest → Yields IsSound (root_due forest)
root_keeps forest h =
    few_keep (nat_lt 65536 (forest.nodes + 1)) (record { before = forest; bytes = forest.bytes; there = root_entry ∷ [] }) (OverLimit (codes "tree-nodes") (forest.nodes + 1)) (apart_root, h)

tree_keeps : (held : Held) (forest : Forest) (source : TreeSource) → IsWhole forest → Yields IsWhole (tree_step held forest source)
tree_keeps held forest source h =
    yields_next IsSound IsWhole (λ sofar. and_next (content_of held sofar source.content) (λ made. done (with_tree made source.name))) (λ sofar k.
    yields_next IsSound IsWhole (λ made. done (with_tree made source.name)) (λ made g. All-push IsApart made.before.trees (record { name = source.name; nodes = made.there }) g.1 g.0) (content_of held sofar source.content)
    (content_keeps held sofar source.content k)) (root_due forest) (root_keeps forest h)

forest_whole : (held : Held) (policy : Policy) (forest : Forest) → (trees_due held policy).answer ≡ Ok forest → IsWhole forest
forest_whole held policy forest is =
    subst (λ (r : Result Forest TreeFault). IfOk r IsWhole) is (yields_each IsWhole (tree_step held) (λ f source h. tree_keeps held f source h) no_trees policy.fs_tree (All-nil IsApart))

-- ---- so each has one order

abbrev entry_cmp : Entry → Entry → Ordering
entry_cmp a b = path_cmp a.path b.path

entries_total : IsTotalOrder entry_cmp
entries_total = on_total (λ (e : Entry). e.path) (lists_total nat_list_cmp_total)

tied_paths : (p q : List (List ℕ)) → path_cmp p q ≡ Equal → p ≡ q
tied_paths [] [] e = refl
tied_paths [] (y ∷ ys) e = cc
tied_paths (x ∷ xs) [] e = cc
tied_paths (x ∷ xs) (y ∷ ys) e = by (slice_cmp nat_cmp x y) refl e (λ k. tied_paths xs ys k)
  where
    by : (o : Ordering) → slice_cmp nat_cmp x y ≡ o → ordering_then o (path_cmp xs ys) ≡ Equal → (path_cmp xs ys ≡ Equal → xs ≡ ys) → x ∷ xs ≡ y ∷ ys
    by Less is e deeper = cc
    by Equal is e deeper = let first = exact_bytes x y is in let rest = deeper e in cc
    by Greater is e deeper = cc

apart_entries : (a b : Entry) → a.path ≢ b.path → eq_by_cmp entry_cmp a b ≡ false
apart_entries a b other = by (path_cmp a.path b.path) refl
  where
    by : (o : Ordering) → path_cmp a.path b.path ≡ o → is_eq o ≡ false
    by Less is = refl
    by Equal is = absurd (other (tied_paths a.path b.path is))
    by Greater is = refl

all_differ : (made : List Entry) → AreApart made → IsDistinct (eq_by_cmp entry_cmp) made
all_differ made apart =
    IsDistinct-from_apart (eq_by_cmp entry_cmp) made (λ i j d less within.
    apart_entries (get_or made i d) (get_or made j d) (λ is.
    let a = get_or_default made i root_entry d (omega (arith, less, within)) in
    let b = get_or_default made j root_entry d within in
    let one : i ≡ j = apart i j (omega (arith, less, within)) within (ap (λ (e : Entry). e.path) a ∙ is ∙ sym (ap (λ (e : Entry). e.path) b)) in
    omega (arith, one, less)))

one_tree : (made : MadeTree) (a b : NamedTree) → IsApart made → IsOrdered made a → IsOrdered made b → a ≡ b
one_tree made a b apart h g =
    let name : a.name ≡ b.name = h.name ∙ sym g.name in
    let entries : a.entries ≡ b.entries = one_order entries_total made.nodes a.entries b.entries (all_differ made.nodes apart) h.same g.same h.ordered g.ordered in
    ap (λ (n : List ℕ). record { name = n; entries = a.entries }) name ∙ ap (λ (es : List Entry). record { name = b.name; entries = es }) entries

one_list : (made : List MadeTree) (a b : List NamedTree) → All IsApart made → AreOrdered made a → AreOrdered made b → a ≡ b
one_list [] [] [] all h g = refl
one_list [] [] (y ∷ ys) all h g = absurd g
one_list [] (x ∷ xs) b all h g = absurd h
one_list (m ∷ ms) [] b all h g = absurd h
one_list (m ∷ ms) (x ∷ xs) [] all h g = absurd g
one_list (m ∷ ms) (x ∷ xs) (y ∷ ys) all h g =
    let first : x ≡ y = one_tree m x y (All-head IsApart m ms all) h.0 g.0 in
    let rest : xs ≡ ys = one_list ms xs ys (All-tail IsApart m ms all) h.1 g.1 in
    ap (λ (t : NamedTree). t ∷ xs) first ∙ ap (λ ts. y ∷ ts) rest

-- the trees of a policy
pub one_trees : (held : Held) (policy : Policy) (forest : Forest) (a b : List NamedTree) → (trees_due held policy).answer ≡ Ok forest → AreOrdered forest.trees a → AreOrdered forest.trees b → a ≡ b
one_trees held policy forest a b is h g = one_list forest.trees a b (forest_whole held policy forest is) h g
