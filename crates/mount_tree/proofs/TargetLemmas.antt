-- What building trees does to the targets of links: only a link adds bytes, and no more than its own.
use Rattle.std.proofs.Common.{◌≡◌, ◌∙◌, refl, sym, ap, subst, ℕ, ◌+◌, ◌≤◌, List, [], ◌∷◌, ◌++◌, Bool, true, false, cond, All, Result, Ok, Err, length, get_or, le_refl, arith}
use Rattle.std.specs.Prelude.{IfOk, codes, nat_lt, not}
use Rattle.std.specs.List.{slice_get, sum_by}
use Rattle.std.proofs.lemmas.List.Sums.{sum_by-cons, sum_by_push, sum_by-le-sum_by}
use Rattle.tree_table.specs.declared.entries.Node.{Node}
use Rattle.tree_table.specs.declared.entries.Node.TheVariants.{Folder, File, Link as LinkTo}
use Rattle.tree_table.specs.declared.entries.Entry.{Entry}
use Rattle.tree_table.specs.declared.entries.NamedTree.{NamedTree}
use Rattle.tree_table.specs.Linked.{end_name}
use Rattle.tree_table.specs.Stored.{root_entry}
use Rattle.tree_table.specs.Trees.{KeepLimits, target_length, total, total_in}
use Rattle.path_names.specs.Parts.{holds_byte}
use Rattle.path_names.specs.Paths.{is_name, names_of}
use Rattle.policy_data.specs.declared.data.EmbeddedFile.{EmbeddedFile}
use Rattle.policy_data.specs.declared.data.Link.{Link}
use Rattle.policy_data.specs.declared.data.Embedded.{Embedded}
use Rattle.policy_data.specs.declared.data.TreeContent.{TreeContent}
use Rattle.policy_data.specs.declared.data.TreeContent.TheVariants.{Mount, Embedded as Written}
use Rattle.policy_data.specs.declared.data.TreeSource.{TreeSource}
use Rattle.policy_data.specs.declared.policy.Policy.{Policy}
use Rattle.policy_data.specs.Sizes.{environment_size, file_size, link_size, policy_size, texts_size, tree_size}
use Rattle.mount_tree.specs.declared.fault.TreeFault.{TreeFault}
use Rattle.mount_tree.specs.declared.fault.TreeFault.TheVariants.{OverLimit}
use Rattle.mount_tree.specs.declared.forest.MadeTree.{MadeTree}
use Rattle.mount_tree.specs.declared.forest.Forest.{Forest}
use Rattle.mount_tree.specs.Building.{folder_step, link_step, root_due}
use Rattle.mount_tree.specs.Growing.{above_of, with_folders, with_node}
use Rattle.mount_tree.specs.Legal.{is_entry_name}
use Rattle.mount_tree.specs.Making.{Sofar, count_with, few_nodes, reached, with_above, with_file, with_other, with_tree}
use Rattle.mount_tree.specs.Ordered.{AreOrdered}
use Rattle.mount_tree.specs.Runs.{Run, Says, done, each, next_by}
use Rattle.mount_tree.specs.Targets.{content_targets, link_targets, made_targets, policy_targets, source_targets, targets_of}
use Rattle.mount_tree.specs.Woods.{AreBuilt}
use Rattle.mount_tree.proofs.BuiltTexts.{built_legal, built_target}
use Rattle.mount_tree.proofs.LegalLemmas.{both-true, total-node}
use Rattle.mount_tree.proofs.TreeLemmas.{totals-are}

-- ---- one path

folders-same : (there : List Entry) (above names : List (List ℕ)) → total_in target_length (with_folders there above names) ≤ total_in target_length there
folders-same there above [] = omega arith
folders-same there above (name ∷ []) = omega arith
folders-same there above (name ∷ next ∷ names) =
    omega (arith, folders-same (with_node there above name Folder) (above ++ name ∷ []) (next ∷ names), total-node target_length there above name Folder)

few-is : (n : ℕ) (sofar made : Sofar) → few_nodes n sofar ≡ Ok made → sofar ≡ made
few-is n sofar made e = by (nat_lt 65536 n) e
  where
    by : (b : Bool) → cond b (Err (OverLimit (codes "tree-nodes") n)) (Ok sofar) ≡ Ok made → sofar ≡ made
    by true h = cc
    by false h = cc

reached-same : (sofar made : Sofar) (path : List ℕ) → reached sofar path ≡ Ok made → targets_of made ≤ targets_of sofar
reached-same sofar made path e = by (nat_lt 64 (length (names_of path))) e
  where
    here : targets_of (with_above sofar path) ≤ targets_of sofar
    here = omega (arith, folders-same sofar.there [] (names_of path))

    by : (b : Bool) → cond b (Err (OverLimit (codes "tree-depth") (length (names_of path)))) (few_nodes (count_with (with_above sofar path) path) (with_above sofar path)) ≡ Ok made → targets_of made ≤ targets_of sofar
    by true h = cc
    by false h = subst (λ (m : Sofar). targets_of m ≤ targets_of sofar) (few-is (count_with (with_above sofar path) path) (with_above sofar path) made h) here

pub file_targets : (sofar made now : Sofar) (path bytes : List ℕ) → Says (reached sofar path) (Ok made) → now ≡ with_file made path bytes → targets_of now ≤ targets_of sofar
file_targets sofar made now path bytes h is =
    let more = total-node target_length made.there (above_of (names_of path)) (end_name (names_of path)) (File bytes) in
    let added : targets_of (with_file made path bytes) ≤ targets_of sofar = omega (arith, reached-same sofar made path h, more) in
    subst (λ (m : Sofar). targets_of m ≤ targets_of sofar) (sym is) added

other-more : (sofar made now : Sofar) (path : List ℕ) (node : Node) → reached sofar path ≡ Ok made → with_other made path node ≡ now → targets_of now ≤ targets_of sofar + target_length node
other-more sofar made now path node h is =
    let more = total-node target_length made.there (above_of (names_of path)) (end_name (names_of path)) node in
    let added : targets_of (with_other made path node) ≤ targets_of sofar + target_length node = omega (arith, reached-same sofar made path h, more) in
    subst (λ (m : Sofar). targets_of m ≤ targets_of sofar + target_length node) is added

other-by : (sofar now : Sofar) (path : List ℕ) (node : Node) (r : Result Sofar TreeFault) → reached sofar path ≡ r → (next_by [] r (λ m. done (with_other m path node))).answer ≡ Ok now
    → targets_of now ≤ targets_of sofar + target_length node
other-by sofar now path node (Err e) is h = cc
other-by sofar now path node (Ok made) is h = let same : with_other made path node ≡ now = cc in other-more sofar made now path node is same

pub folder_targets : (sofar now : Sofar) (path : List ℕ) → (folder_step sofar path).answer ≡ Ok now → targets_of now ≤ targets_of sofar
folder_targets sofar now path h = let more = other-by sofar now path Folder (reached sofar path) refl h in omega (arith, more)

link-more : (sofar now : Sofar) (path target : List ℕ) → (link_step sofar path target).answer ≡ Ok now → targets_of now ≤ targets_of sofar + length target
link-more sofar now path target h = other-by sofar now path (LinkTo target) (reached sofar path) refl h

-- ---- what a policy writes out

no-more : (sofar now : Sofar) (n : ℕ) (r : Result Sofar TreeFault) → r ≡ Ok sofar → r ≡ Ok now → targets_of now ≤ targets_of sofar + n
no-more sofar now n r is h = let same : sofar ≡ now = cc in subst (λ (m : Sofar). targets_of m ≤ targets_of sofar + n) same (omega arith)

then-folders : (sofar now : Sofar) (asks : List (List ℕ)) (r : Result Sofar TreeFault) (next : Sofar → Run Sofar)
    → ((made : Sofar) → r ≡ Ok made → targets_of made ≤ targets_of sofar) → ((made : Sofar) → (next made).answer ≡ Ok now → targets_of now ≤ targets_of made)
    → (next_by asks r next).answer ≡ Ok now → targets_of now ≤ targets_of sofar
then-folders sofar now asks (Err e) next first rest h = cc
then-folders sofar now asks (Ok made) next first rest h = omega (arith, first made refl, rest made h)

each-folders : (folders : List (List ℕ)) (sofar now : Sofar) → (each folder_step sofar folders).answer ≡ Ok now → targets_of now ≤ targets_of sofar
each-folders [] sofar now h = let same = no-more sofar now 0 (Ok sofar) refl h in omega (arith, same)
each-folders (x ∷ xs) sofar now h =
    then-folders sofar now (folder_step sofar x).asks (folder_step sofar x).answer (λ next. each folder_step next xs)
    (λ made is. folder_targets sofar made x is) (λ made k. each-folders xs made now k) h

abbrev link_of : Sofar → Link → Run Sofar
link_of s link = link_step s link.path link.target

then-links : (sofar now : Sofar) (m n : ℕ) (asks : List (List ℕ)) (r : Result Sofar TreeFault) (next : Sofar → Run Sofar)
    → ((made : Sofar) → r ≡ Ok made → targets_of made ≤ targets_of sofar + m) → ((made : Sofar) → (next made).answer ≡ Ok now → targets_of now ≤ targets_of made + n)
    → (next_by asks r next).answer ≡ Ok now → targets_of now ≤ targets_of sofar + (m + n)
then-links sofar now m n asks (Err e) next first rest h = cc
then-links sofar now m n asks (Ok made) next first rest h = omega (arith, first made refl, rest made h)

each-links : (links : List Link) (sofar now : Sofar) → (each link_of sofar links).answer ≡ Ok now → targets_of now ≤ targets_of sofar + link_targets links
each-links [] sofar now h = no-more sofar now (link_targets []) (Ok sofar) refl h
each-links (x ∷ xs) sofar now h =
    let more = then-links sofar now (length x.target) (link_targets xs) (link_of sofar x).asks (link_of sofar x).answer (λ next. each link_of next xs)
    (λ made is. link-more sofar made x.path x.target is) (λ made k. each-links xs made now k) h in
    omega (arith, more, sum_by-cons (λ (link : Link). length link.target) x xs)

pub links_targets : (embedded : Embedded) (sofar filed housed : Sofar) (r : Result Sofar TreeFault) → targets_of filed ≤ targets_of sofar
    → (each folder_step filed embedded.folders).answer ≡ Ok housed → Says (each link_of housed embedded.links).answer r
    → IfOk r (λ made. targets_of made ≤ targets_of sofar + link_targets embedded.links)
links_targets embedded sofar filed housed (Err e) first second h = tt
links_targets embedded sofar filed housed (Ok made) first second h =
    omega (arith, first, each-folders embedded.folders filed housed second, each-links embedded.links housed made h)

-- ---- a tree

pub root_targets : (forest : Forest) (made : Sofar) → Says (root_due forest).answer (Ok made) → targets_of made ≡ made_targets forest.trees
root_targets forest made h =
    let is = few-is (forest.nodes + 1) (record { before = forest; bytes = forest.bytes; there = root_entry ∷ [] }) made h in
    subst (λ (m : Sofar). targets_of m ≡ made_targets forest.trees) is (omega arith)

pub tree_targets : (made : Sofar) (name : List ℕ) (forest : Forest) → forest ≡ with_tree made name → made_targets forest.trees ≡ targets_of made
tree_targets made name forest is =
    let one : MadeTree = record { name = name; nodes = made.there } in
    ap (λ (f : Forest). made_targets f.trees) is ∙ sum_by_push (λ (tree : MadeTree). total_in target_length tree.nodes) made.before.trees one

pub sources_left : (source : TreeSource) (more rest : List TreeSource) → rest ≡ source ∷ more → source_targets rest ≡ content_targets source.content + source_targets more
sources_left source more rest is = ap source_targets is ∙ sum_by-cons (λ (s : TreeSource). content_targets s.content) source more

-- ---- all trees

content-below : (source : TreeSource) → content_targets source.content ≤ tree_size source
content-below source = by source.content
  where
    links-below : (links : List Link) → link_targets links ≤ sum_by link_size links
    links-below links = sum_by-le-sum_by (λ (link : Link). length link.target) link_size links (λ link. omega arith)

    by : (content : TreeContent) → content_targets content ≤ tree_size (record { name = source.name; content = content })
    by (Mount folder) = omega arith
    by (Written embedded) = omega (arith, links-below embedded.links)

-- they are no more than the strings of the policy
pub policy_below : (policy : Policy) → policy_targets policy ≤ policy_size policy
policy_below policy =
    let below : source_targets policy.fs_tree ≤ sum_by tree_size policy.fs_tree = sum_by-le-sum_by (λ (source : TreeSource). content_targets source.content) tree_size policy.fs_tree content-below in
    omega (arith, below)

pub trees_targets : (policy : Policy) (forest : Forest) (trees : List NamedTree) → made_targets forest.trees ≤ policy_targets policy → AreOrdered forest.trees trees
    → total target_length trees ≤ policy_targets policy
trees_targets policy forest trees few h = omega (arith, few, totals-are target_length forest.trees trees h)

pub built_limits : (policy : Policy) (trees : List NamedTree) → AreBuilt trees → total target_length trees ≤ policy_targets policy → policy_size policy ≤ 16777216 → KeepLimits trees
built_limits policy trees built few short = record {
  names = λ t i e is. let legal = built_legal trees built t i e is in λ k d within. (both-true (is_name (get_or e.path k d)) (not (holds_byte 47 (get_or e.path k d))) (legal.names k d within)).0;
  deep = λ t i e is. (built_legal trees built t i e is).few;
  targets = λ t i e target is link. (built_target trees built t i e target is link).0;
  files = built.light;
  links = omega (arith, few, short, policy_below policy);
}
