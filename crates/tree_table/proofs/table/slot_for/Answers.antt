use Rattle.std.proofs.Common.{◌≡◌, ℕ, ◌+◌, List, [], ◌++◌, Some, length, get_or, slice_get, IsUtf8, sym, ap, subst, ◌∙◌, arith, length-append, append_assoc}
use Rattle.std.specs.Option.{option_map_or}
use Rattle.std.proofs.lemmas.List.{get_or_read}
use Rattle.std.proofs.lemmas.Option.{slice_get_within, slice_get-get_or, get_or_from_slice_get}
use Rattle.tree_table.specs.declared.entries.Entry.{Entry}
use Rattle.tree_table.specs.declared.entries.Node.{Node}
use Rattle.tree_table.specs.declared.entries.Node.TheVariants.{Folder}
use Rattle.tree_table.specs.Trees.{entries_of}
use Rattle.tree_table.specs.Tables.{Row, content_of}
use Rattle.tree_table.specs.Slots.{kind_of, node_from, part}
use Rattle.tree_table.specs.Orders.{key_at}
use Rattle.tree_table.specs.Linked.{entry_of, path_in, end_name}
use Rattle.tree_table.proofs.BuildLemmas.{entries-few, tree-within}
use Rattle.tree_table.proofs.LayLemmas.{entry-there}
use Rattle.tree_table.specs.Stored.{entry_at, root_entry}
use Rattle.tree_table.specs.declared.entries.NamedTree.{NamedTree}
use Rattle.tree_table.specs.declared.order.Key.{Key}
use Rattle.tree_table.proofs.SlotLemmas.{part-mid, part-end, node-same}
use Rattle.tree_table.proofs.table.slot_for.Goals as goal

seen-at : (trees : List NamedTree) (key : Key) (d : NamedTree) (e : Entry) → entry_of trees key ≡ Some e → entry_at (get_or trees key.tree d).entries key.place ≡ e
seen-at trees key d e there =
    let low = tree-within trees key.tree key.place e there in
    let named = slice_get-get_or trees key.tree d low in
    let same : entries_of trees key.tree ≡ (get_or trees key.tree d).entries = ap (λ x. option_map_or (λ (t : NamedTree). t.entries) x []) named in
    get_or_from_slice_get (get_or trees key.tree d).entries key.place e root_entry (ap (λ (es : List Entry). slice_get es key.place) (sym same) ∙ there)

pub overflow_cast-result-2 : goal.overflow_cast-result-2
overflow_cast-result-2 c =
    let trees = c.args.trees.now in
    let key = key_at c.args.order.now c.args.node in
    let there = entry-there trees c.args.order.now c.requires.trees c.requires.order c.args.node c.requires.node in
    let low = slice_get_within (entries_of trees key.tree) key.place there.0 there.1 in
    let few = entries-few trees key.tree in
    let all = c.requires.trees.nodes in
    omega arith

pub returns-clause-bytes : goal.returns-clause-bytes
returns-clause-bytes c =
    let old = c.args.bytes.now.items in
    let name = c.name.result.now in
    let content = c.content.result.now in
    let bytes : c.append-2.new.bytes.items ≡ (old ++ name) ++ content = c.in_ok-content.ensures.bytes ∙ ap (λ (xs : List ℕ). xs ++ content) c.in_ok-name.ensures.bytes in
    (name ++ content, bytes ∙ append_assoc old name content)

pub returns-clause-within : goal.returns-clause-within
returns-clause-within c =
    let old = c.args.bytes.now.items in
    let name = c.name.result.now in
    let content = c.content.result.now in
    let one : c.append.new.bytes.items ≡ old ++ name = c.in_ok-name.ensures.bytes in
    let two : c.append-2.new.bytes.items ≡ c.append.new.bytes.items ++ content = c.in_ok-content.ensures.bytes in
    let both : c.append-2.new.bytes.items ≡ (old ++ name) ++ content = two ∙ ap (λ (xs : List ℕ). xs ++ content) one in
    let named : part c.append-2.new.bytes.items c.in_ok-name.name ≡ name =
    ap (λ (b : List ℕ). part b c.in_ok-name.name) both ∙ part-mid old name content c.in_ok-name.name.from c.in_ok-name.name.to c.in_ok-name.ensures.from (c.in_ok-name.ensures.to ∙ ap length one) in
    let size = length-append old name in
    let more = length-append c.append.new.bytes.items content in
    let first = ap length one in
    let second = ap length two in
    let from1 = c.in_ok-name.ensures.from in
    let to1 = c.in_ok-name.ensures.to in
    let from2 = c.in_ok-content.ensures.from in
    let to2 = c.in_ok-content.ensures.to in
    record {
      name_ordered = omega arith;
      name_inside = omega arith;
      content_ordered = omega arith;
      content_inside = omega arith;
      utf8 = subst IsUtf8 (sym named) c.name.ensures.utf8;
    }

pub returns-clause-row : goal.returns-clause-row
returns-clause-row c =
    let trees = c.args.trees.now in
    let order = c.args.order.now in
    let node = c.args.node in
    let links = c.requires.links in
    let within = c.requires.node in
    let key = key_at order node in
    let found = entry-there trees order c.requires.trees c.requires.order node within in
    let e = found.0 in
    let there : entry_of trees key ≡ Some e = found.1 in
    let seen = seen-at trees key c.index-trees-key.result e there in
    let old = c.args.bytes.now.items in
    let name = c.name.result.now in
    let content = c.content.result.now in
    let one : c.append.new.bytes.items ≡ old ++ name = c.in_ok-name.ensures.bytes in
    let two : c.append-2.new.bytes.items ≡ c.append.new.bytes.items ++ content = c.in_ok-content.ensures.bytes in
    let both : c.append-2.new.bytes.items ≡ (old ++ name) ++ content = two ∙ ap (λ (xs : List ℕ). xs ++ content) one in
    let named : part c.append-2.new.bytes.items c.in_ok-name.name ≡ end_name (path_in trees key) =
    ap (λ (b : List ℕ). part b c.in_ok-name.name) both ∙ part-mid old name content c.in_ok-name.name.from c.in_ok-name.name.to c.in_ok-name.ensures.from (c.in_ok-name.ensures.to ∙ ap length one)
    ∙ c.name.ensures.value ∙ ap (λ (e : Entry). end_name e.path) seen ∙ sym (ap (λ x. end_name (option_map_or (λ (e : Entry). e.path) x [])) there) in
    let held : part c.append-2.new.bytes.items c.in_ok-content.content ≡ content_of e.node =
    ap (λ (b : List ℕ). part b c.in_ok-content.content) two ∙ part-end c.append.new.bytes.items content c.in_ok-content.content.from c.in_ok-content.content.to c.in_ok-content.ensures.from (c.in_ok-content.ensures.to ∙ ap length two) ∙ c.content.ensures ∙ ap (λ (e : Entry). content_of e.node) seen in
    let is : node_from c.kind.result (part c.append-2.new.bytes.items c.in_ok-content.content) ≡ option_map_or (λ (e : Entry). e.node) (entry_of trees key) Folder =
    ap (λ k. node_from k (part c.append-2.new.bytes.items c.in_ok-content.content)) (c.kind.ensures ∙ ap (λ (e : Entry). kind_of e.node) seen) ∙ ap (node_from (kind_of e.node)) held ∙ node-same e.node ∙ sym (ap (λ x. option_map_or (λ (e : Entry). e.node) x Folder) there) in
    let parents = c.args.links.now.parents.items in
    let first = c.args.links.now.first.items in
    let many = links.parents_size in
    let firsts = links.first_size in
    let parent : c.index.result.now ≡ get_or parents node 0 = get_or_read parents node c.index.result.now (omega arith) c.index.ensures 0 in
    let from : c.index-2.result.now ≡ get_or first node (length order) = get_or_read first node c.index-2.result.now (omega arith) c.index-2.ensures (length order) in
    let to : c.index-3.result.now ≡ get_or first (node + 1) (length order) = get_or_read first (node + 1) c.index-3.result.now (omega arith) c.index-3.ensures (length order) in
    let P : List ℕ → ℕ → ℕ → ℕ → Node → Row = λ n p f t x. record { tree = key.tree; place = key.place; name = n; parent = p; from = f; to = t; node = x } in
    let x = node_from c.kind.result (part c.append-2.new.bytes.items c.in_ok-content.content) in
    ap (λ (n : List ℕ). P n c.index.result.now c.index-2.result.now c.index-3.result.now x) named
    ∙ ap (λ p. P (end_name (path_in trees key)) p c.index-2.result.now c.index-3.result.now x) parent
    ∙ ap (λ f. P (end_name (path_in trees key)) (get_or parents node 0) f c.index-3.result.now x) from
    ∙ ap (λ t. P (end_name (path_in trees key)) (get_or parents node 0) (get_or first node (length order)) t x) to
    ∙ ap (P (end_name (path_in trees key)) (get_or parents node 0) (get_or first node (length order)) (get_or first (node + 1) (length order))) is
