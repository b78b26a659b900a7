-- A table that is defined key by key holds no more than the keys and values that are defined.
use Rattle.std.proofs.Common.{◌≡◌, ◌∙◌, refl, ap, subst, ℕ, ◌+◌, ◌≤◌, List, [], ◌∷◌, ◌++◌, length, Option, Some, None, option_map, arith, inl, inr, nat_cmp, Ordering, Less, Equal, Greater}
use Rattle.std.proofs.lemmas.List.{append-nil}
use Rattle.std.proofs.lemmas.Bool.{cases_Bool}
use Rattle.std.proofs.lemmas.Option.{none-some, same_Some}
use Rattle.std.specs.Cmp.Lexicographic.{slice_cmp}
use Rattle.toml_parser.specs.Strings.{Key}
use Rattle.toml.specs.Data.{Data, table, Items, no_items, item, same_key, push_item}
use Rattle.toml.specs.Tables.{Origin, implicit, dotted, header, Node, value, open_table, open_array, Nodes, no_nodes, node, get_node, insert, replace, close_node, close, Edit, header_node, dot_node, by_header, by_dot, along_header, along_dots, Definition, key_value, std_table, array_table, new_node, redefine, at_found, at_key, put, Document, define}
use Rattle.toml.proofs.NodeLaws.{get_node-insert, get_node-replace}
use Rattle.toml_size.specs.Sizes.{data_size, items_size, members_size}
use Rattle.toml_size.proofs.Texts.{texts_size, key_size}

-- the bytes of the keys and strings of what is read so far
abbrev mutual
  pub node_size : Node → ℕ
  node_size (value d) = data_size d
  node_size (open_table origin ns) = nodes_size ns
  node_size (open_array done ns) = items_size done + nodes_size ns

  pub nodes_size : Nodes → ℕ
  nodes_size no_nodes = 0
  nodes_size (node key x ns) = length key + (node_size x + nodes_size ns)

pub push_size : (ds : Items) (d : Data) → items_size (push_item ds d) ≡ items_size ds + data_size d
push_size no_items d = omega arith
push_size (item e ds) d = omega (arith, push_size ds d)

mutual
  pub close_size : (ns : Nodes) → members_size (close ns) ≡ nodes_size ns
  close_size no_nodes = refl
  close_size (node key x ns) = omega (arith, close_node_size x, close_size ns)

  close_node_size : (x : Node) → data_size (close_node x) ≡ node_size x
  close_node_size (value d) = refl
  close_node_size (open_table origin ns) = close_size ns
  close_node_size (open_array done ns) = omega (arith, push_size done (table (close ns)), close_size ns)

insert_by : (o : Ordering) (k : List ℕ) (x : Node) (l : List ℕ) (y : Node) (ns : Nodes) → slice_cmp nat_cmp k l ≡ o
    → nodes_size (insert k x ns) ≤ nodes_size ns + (length k + node_size x)
    → nodes_size (insert k x (node l y ns)) ≤ nodes_size (node l y ns) + (length k + node_size x)
insert_by Less k x l y ns e more = rw e (omega arith)
insert_by Equal k x l y ns e more = rw e (omega arith)
insert_by Greater k x l y ns e more = rw e (omega arith)

pub insert_size : (k : List ℕ) (x : Node) (ns : Nodes) → nodes_size (insert k x ns) ≤ nodes_size ns + (length k + node_size x)
insert_size k x no_nodes = omega arith
insert_size k x (node l y ns) = insert_by (slice_cmp nat_cmp k l) k x l y ns refl (insert_size k x ns)

pub replace_size : (k : List ℕ) (x y : Node) (ns : Nodes) → get_node k ns ≡ Some y → nodes_size (replace k x ns) + node_size y ≡ nodes_size ns + node_size x
replace_size k x y no_nodes found = absurd (none-some y found)
replace_size k x y (node l z ns) found =
    elim (cases_Bool (same_key k l)) [
      | inl same ↦ let is : z ≡ y = same_Some z y (rw same at found) in rw (same, is) (omega arith)
      | inr other ↦ let more = rw other at found in rw other (omega (arith, replace_size k x y ns more))
    ]

-- ---- edits

-- an edit makes what it changes at most so much larger
abbrev pub Grows : ℕ → Nodes → Option Nodes → Type 0
Grows n old None = Unit {0}
Grows n old (Some new) = nodes_size new ≤ nodes_size old + n

abbrev NodeGrows : ℕ → Node → Option Node → Type 0
NodeGrows n old None = Unit {0}
NodeGrows n old (Some new) = node_size new ≤ node_size old + n

grows_replaced : (k : List ℕ) (n : ℕ) (ns : Nodes) (x : Node) (o : Option Node) → get_node k ns ≡ Some x → NodeGrows n x o
    → Grows n ns (option_map (λ new. replace k new ns) o)
grows_replaced k n ns x None found h = tt
grows_replaced k n ns x (Some y) found h = omega (arith, replace_size k y x ns found)

grows_table : (old new : Origin) (n : ℕ) (inner : Nodes) (o : Option Nodes) → Grows n inner o → NodeGrows n (open_table old inner) (option_map (open_table new) o)
grows_table old new n inner None h = tt
grows_table old new n inner (Some made) h = h

grows_last : (done : Items) (n : ℕ) (last : Nodes) (o : Option Nodes) → Grows n last o → NodeGrows n (open_array done last) (option_map (open_array done) o)
grows_last done n last None h = tt
grows_last done n last (Some new) h = omega arith

grows_inserted : (k : List ℕ) (origin : Origin) (n : ℕ) (ns : Nodes) (o : Option Nodes) → Grows n no_nodes o
    → Grows (length k + n) ns (option_map (λ new. insert k (open_table origin new) ns) o)
grows_inserted k origin n ns None h = tt
grows_inserted k origin n ns (Some new) h = omega (arith, insert_size k (open_table origin new) ns)

grows_more : (n m : ℕ) (ns : Nodes) (o : Option Nodes) → n ≤ m → Grows n ns o → Grows m ns o
grows_more n m ns None h grows = tt
grows_more n m ns (Some new) h grows = omega arith

-- ---- at the end of a dotted key

redefine_size : (what : Definition) (x : Node) → NodeGrows 0 x (redefine what x)
redefine_size (key_value d) x = tt
redefine_size std_table (value d) = tt
redefine_size std_table (open_table implicit inner) = omega arith
redefine_size std_table (open_table dotted inner) = tt
redefine_size std_table (open_table header inner) = tt
redefine_size std_table (open_array done last) = tt
redefine_size array_table (value d) = tt
redefine_size array_table (open_table origin inner) = tt
redefine_size array_table (open_array done last) = omega (arith, push_size done (table (close last)), close_size last)

-- what stands with a key
abbrev pub definition_size : Definition → ℕ
definition_size (key_value d) = data_size d
definition_size std_table = 0
definition_size array_table = 0

new_node_size : (what : Definition) → node_size (new_node what) ≡ definition_size what
new_node_size (key_value d) = refl
new_node_size std_table = refl
new_node_size array_table = omega arith

at_found_size : (k : List ℕ) (what : Definition) (ns : Nodes) (o : Option Node) → get_node k ns ≡ o → Grows (length k + definition_size what) ns (at_found k what ns o)
at_found_size k what ns None found = omega (arith, insert_size k (new_node what) ns, new_node_size what)
at_found_size k what ns (Some x) found =
    grows_more 0 _ ns (option_map (λ y. replace k y ns) (redefine what x)) (omega arith) (grows_replaced k 0 ns x (redefine what x) found (redefine_size what x))

pub at_key_size : (k : List ℕ) (what : Definition) (ns : Nodes) → Grows (length k + definition_size what) ns (at_key k what ns)
unfolding at_key
at_key_size k what ns = at_found_size k what ns (get_node k ns) refl

dot_node_size : (edit : Edit) (n : ℕ) (x : Node) → ((ns : Nodes) → Grows n ns (edit ns)) → NodeGrows n x (dot_node edit x)
dot_node_size edit n (value d) h = tt
dot_node_size edit n (open_table header inner) h = tt
dot_node_size edit n (open_table implicit inner) h = grows_table implicit dotted n inner (edit inner) (h inner)
dot_node_size edit n (open_table dotted inner) h = grows_table dotted dotted n inner (edit inner) (h inner)
dot_node_size edit n (open_array done last) h = tt

by_dot_size : (k : List ℕ) (edit : Edit) (n : ℕ) (ns : Nodes) (o : Option Node) → get_node k ns ≡ o → ((inner : Nodes) → Grows n inner (edit inner))
    → Grows (length k + n) ns (by_dot k edit ns o)
by_dot_size k edit n ns None found h = grows_inserted k dotted n ns (edit no_nodes) (h no_nodes)
by_dot_size k edit n ns (Some x) found h =
    grows_more n _ ns (option_map (λ new. replace k new ns) (dot_node edit x)) (omega arith) (grows_replaced k n ns x (dot_node edit x) found (dot_node_size edit n x h))

along_dots_size : (path : List (List ℕ)) (edit : Edit) (n : ℕ) (ns : Nodes) → ((inner : Nodes) → Grows n inner (edit inner))
    → Grows (texts_size path + n) ns (along_dots path edit ns)
unfolding along_dots
along_dots_size [] edit n ns h = grows_more n _ ns (edit ns) (omega arith) (h ns)
along_dots_size (k ∷ path) edit n ns h =
    grows_more (length k + (texts_size path + n)) _ ns (by_dot k (along_dots path edit) ns (get_node k ns)) (omega arith)
    (by_dot_size k (along_dots path edit) (texts_size path + n) ns (get_node k ns) refl (λ inner. along_dots_size path edit n inner h))

pub put_size : (key : Key) (d : Data) (ns : Nodes) → Grows (key_size key + data_size d) ns (put key d ns)
put_size key d ns =
    grows_more (texts_size key.0 + (length key.1 + data_size d)) _ ns (put key d ns) (omega arith)
    (along_dots_size key.0 (at_key key.1 (key_value d)) (length key.1 + data_size d) ns (λ inner. at_key_size key.1 (key_value d) inner))

-- ---- along a header, where the keys that are there add nothing

-- the nodes of a table or of the last element of an array
abbrev inner_nodes : Node → Nodes
inner_nodes (value d) = no_nodes
inner_nodes (open_table origin inner) = inner
inner_nodes (open_array done last) = last

abbrev missing_at : ℕ → (Nodes → ℕ) → Option Node → ℕ
missing_at all more None = all
missing_at all more (Some x) = more (inner_nodes x)

-- the bytes of the keys of a path, from the first one on that is not there
abbrev pub missing : List (List ℕ) → Nodes → ℕ
missing [] ns = 0
missing (k ∷ path) ns = missing_at (length k + texts_size path) (missing path) (get_node k ns)

missing_some : (k : List ℕ) (path : List (List ℕ)) (ns : Nodes) (x : Node) → get_node k ns ≡ Some x → missing (k ∷ path) ns ≡ missing path (inner_nodes x)
missing_some k path ns x found = ap (missing_at (length k + texts_size path) (missing path)) found

missing_at_most : (k : List ℕ) (path : List (List ℕ)) (o : Option Node) → ((ns : Nodes) → missing path ns ≤ texts_size path)
    → missing_at (length k + texts_size path) (missing path) o ≤ length k + texts_size path
missing_at_most k path None h = omega arith
missing_at_most k path (Some x) h = omega (arith, h (inner_nodes x))

missing_most : (path : List (List ℕ)) (ns : Nodes) → missing path ns ≤ texts_size path
missing_most [] ns = omega arith
missing_most (k ∷ path) ns = missing_at_most k path (get_node k ns) (λ inner. missing_most path inner)

header_node_size : (edit : Edit) (n : ℕ) (x : Node) → Grows n (inner_nodes x) (edit (inner_nodes x)) → NodeGrows n x (header_node edit x)
header_node_size edit n (value d) h = tt
header_node_size edit n (open_table origin inner) h = grows_table origin origin n inner (edit inner) h
header_node_size edit n (open_array done last) h = grows_last done n last (edit last) h

by_header_size : (k : List ℕ) (path : List (List ℕ)) (edit : Edit) (n : ℕ) (ns : Nodes) (o : Option Node) → get_node k ns ≡ o
    → ((inner : Nodes) → Grows (missing path inner + n) inner (along_header path edit inner))
    → Grows (missing_at (length k + texts_size path) (missing path) o + n) ns (by_header k (along_header path edit) ns o)
by_header_size k path edit n ns None found h =
    grows_more (length k + (missing path no_nodes + n)) _ ns (option_map (λ new. insert k (open_table implicit new) ns) (along_header path edit no_nodes))
    (omega (arith, missing_most path no_nodes)) (grows_inserted k implicit (missing path no_nodes + n) ns (along_header path edit no_nodes) (h no_nodes))
by_header_size k path edit n ns (Some x) found h =
    grows_replaced k (missing path (inner_nodes x) + n) ns x (header_node (along_header path edit) x) found
    (header_node_size (along_header path edit) (missing path (inner_nodes x) + n) x (h (inner_nodes x)))

along_header_size : (path : List (List ℕ)) (edit : Edit) (n : ℕ) (ns : Nodes) → ((inner : Nodes) → Grows n inner (edit inner))
    → Grows (missing path ns + n) ns (along_header path edit ns)
unfolding along_header
along_header_size [] edit n ns h = grows_more n _ ns (edit ns) (omega arith) (h ns)
along_header_size (k ∷ path) edit n ns h =
    by_header_size k path edit n ns (get_node k ns) refl (λ inner. along_header_size path edit n inner h)

-- ---- what a header or a pair leaves there

-- the edit leaves the path there
abbrev Leaves : List (List ℕ) → Option Nodes → Type 0
Leaves path None = Unit {0}
Leaves path (Some new) = missing path new ≡ 0

leaves_inserted : (k : List ℕ) (path : List (List ℕ)) (ns : Nodes) (o : Option Nodes) → Leaves path o
    → Leaves (k ∷ path) (option_map (λ new. insert k (open_table implicit new) ns) o)
leaves_inserted k path ns None h = tt
leaves_inserted k path ns (Some new) h = missing_some k path _ (open_table implicit new) (get_node-insert k (open_table implicit new) ns) ∙ h

leaves_replaced : (k : List ℕ) (path : List (List ℕ)) (ns : Nodes) (x : Node) (made : Nodes → Node) (o : Option Nodes) → get_node k ns ≡ Some x
    → ((new : Nodes) → inner_nodes (made new) ≡ new) → Leaves path o
    → Leaves (k ∷ path) (option_map (λ new. replace k new ns) (option_map made o))
leaves_replaced k path ns x made None found is h = tt
leaves_replaced k path ns x made (Some new) found is h =
    missing_some k path _ (made new) (get_node-replace k (made new) ns x found) ∙ (ap (missing path) (is new) ∙ h)

leaves_header : (k : List ℕ) (path : List (List ℕ)) (edit : Edit) (ns : Nodes) (x : Node) → get_node k ns ≡ Some x → ((inner : Nodes) → Leaves path (edit inner))
    → Leaves (k ∷ path) (option_map (λ new. replace k new ns) (header_node edit x))
leaves_header k path edit ns (value d) found h = tt
leaves_header k path edit ns (open_table origin inner) found h = leaves_replaced k path ns (open_table origin inner) (open_table origin) (edit inner) found (λ _. refl) (h inner)
leaves_header k path edit ns (open_array done last) found h = leaves_replaced k path ns (open_array done last) (open_array done) (edit last) found (λ _. refl) (h last)

leaves_by : (k : List ℕ) (path : List (List ℕ)) (edit : Edit) (ns : Nodes) (o : Option Node) → get_node k ns ≡ o → ((inner : Nodes) → Leaves path (edit inner))
    → Leaves (k ∷ path) (by_header k edit ns o)
leaves_by k path edit ns None found h = leaves_inserted k path ns (edit no_nodes) (h no_nodes)
leaves_by k path edit ns (Some x) found h = leaves_header k path edit ns x found h

along_leaves : (path rest : List (List ℕ)) (edit : Edit) (ns : Nodes) → ((inner : Nodes) → Leaves rest (edit inner)) → Leaves (path ++ rest) (along_header path edit ns)
unfolding along_header
along_leaves [] rest edit ns h = h ns
along_leaves (k ∷ path) rest edit ns h = leaves_by k (path ++ rest) (along_header path edit) ns (get_node k ns) refl (λ inner. along_leaves path rest edit inner h)

no_rest : (o : Option Nodes) → Leaves [] o
no_rest None = tt
no_rest (Some new) = refl

redefined_leaves : (k : List ℕ) (ns : Nodes) (x : Node) (o : Option Node) → get_node k ns ≡ Some x → Leaves (k ∷ []) (option_map (λ y. replace k y ns) o)
redefined_leaves k ns x None found = tt
redefined_leaves k ns x (Some y) found = missing_some k [] _ y (get_node-replace k y ns x found)

found_leaves : (k : List ℕ) (what : Definition) (ns : Nodes) (o : Option Node) → get_node k ns ≡ o → Leaves (k ∷ []) (at_found k what ns o)
found_leaves k what ns None found = missing_some k [] _ (new_node what) (get_node-insert k (new_node what) ns)
found_leaves k what ns (Some x) found = redefined_leaves k ns x (redefine what x) found

at_key_leaves : (k : List ℕ) (what : Definition) (ns : Nodes) → Leaves (k ∷ []) (at_key k what ns)
unfolding at_key
at_key_leaves k what ns = found_leaves k what ns (get_node k ns) refl

-- ---- a line

-- the document grows by at most so much, and its section is there
abbrev pub Defined : ℕ → Nodes → Option Document → Type 0
Defined n root None = Unit {0}
Defined n root (Some doc) = (nodes_size doc.0 ≤ nodes_size root + n) × (missing doc.1 doc.0 ≡ 0)

defined : (n : ℕ) (root : Nodes) (section : List (List ℕ)) (o : Option Nodes) → Grows n root o → Leaves section o → Defined n root (option_map (λ new. (new, section)) o)
defined n root section None grows leaves = tt
defined n root section (Some new) grows leaves = (grows, leaves)

pair_leaves : (path : List (List ℕ)) (edit : Edit) (ns : Nodes) → Leaves path (along_header path edit ns)
pair_leaves path edit ns = subst (λ p. Leaves p (along_header path edit ns)) (append-nil path) (along_leaves path [] edit ns (λ inner. no_rest (edit inner)))

header_size : (doc : Document) (key : Key) (what : Definition)
    → Defined (key_size key + definition_size what) doc.0 (option_map (λ root. (root, key.0 ++ key.1 ∷ [])) (along_header key.0 (at_key key.1 what) doc.0))
header_size doc key what =
    let made = along_header key.0 (at_key key.1 what) doc.0 in
    let fits : missing key.0 doc.0 + (length key.1 + definition_size what) ≤ key_size key + definition_size what = omega (arith, missing_most key.0 doc.0) in
    defined _ doc.0 (key.0 ++ key.1 ∷ []) made
    (grows_more _ _ doc.0 made fits (along_header_size key.0 (at_key key.1 what) (length key.1 + definition_size what) doc.0 (λ inner. at_key_size key.1 what inner)))
    (along_leaves key.0 (key.1 ∷ []) (at_key key.1 what) doc.0 (λ inner. at_key_leaves key.1 what inner))

pub define_size : (doc : Document) (key : Key) (what : Definition) → missing doc.1 doc.0 ≡ 0 → Defined (key_size key + definition_size what) doc.0 (define doc (key, what))
unfolding define
define_size doc key (key_value d) there =
    let made = along_header doc.1 (put key d) doc.0 in
    let fits : missing doc.1 doc.0 + (key_size key + data_size d) ≤ key_size key + data_size d = omega arith in
    defined _ doc.0 doc.1 made
    (grows_more _ _ doc.0 made fits (along_header_size doc.1 (put key d) (key_size key + data_size d) doc.0 (λ inner. put_size key d inner)))
    (pair_leaves doc.1 (put key d) doc.0)
define_size doc key std_table there = header_size doc key std_table
define_size doc key array_table there = header_size doc key array_table
