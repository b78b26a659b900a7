-- Members and items that are read in turn, and what is placed meanwhile.
use Rattle.std.proofs.Common.{◌≡◌, ◌∙◌, refl, ap, sym, ℕ, ◌+◌, ◌<◌, List, [], ◌∷◌, ◌++◌, Bool, true, false, Result, Ok, Err, map, drop, get_or, length}
use Rattle.std.specs.Prelude.{Option, Some, None, codes, String, string_bytes, ◌||◌, if◌then◌else◌}
use Rattle.std.specs.List.{list_any}
use Rattle.std.specs.declared.alloc.Global.{Global}
use mathlib.Core.Path.{fun_ext}
use Rattle.toml.specs.Data.{Data, string, integer, float, boolean, datetime, array, table, Items, no_items, item, Members, no_members, member, get_member}
use Rattle.toml.specs.View.{members_view, items_view, view}
use Rattle.toml.specs.declared.value.Value.{Value}
use Rattle.toml.proofs.Views.{items_view-drop}
use Rattle.policy_data.specs.declared.fault.ReadPolicyFault.{ReadPolicyFault}
use Rattle.policy_data.specs.declared.fault.ReadPolicyFault.TheVariants.{NotToml, BadKey, BadValue, BadName, OverLimit, NoMemory}
use Rattle.policy_toml.specs.Reading.{Gives, and_then, each_item, each_member}
use Rattle.path_names.specs.Paths.{Placed, clashes}
use Rattle.policy_toml.specs.Keys.{below, nth, optional, value_or}
use Rattle.policy_data.specs.declared.data.EmbeddedFile.{EmbeddedFile}
use Rattle.policy_data.specs.declared.data.Link.{Link}
use Rattle.policy_toml.specs.Trees.{placed_at, file_of, file_at, file_placed, folder_of, folder_at, folder_placed, folders_in, link_of, link_at, link_placed, links_in}

-- where a fault of a part is that of the whole
pub gives_stop : {A B : Type 0} (due : Result A ReadPolicyFault) (whole : Result B ReadPolicyFault) (e : ReadPolicyFault)
    → Gives due (Err e) → ((f : ReadPolicyFault) → due ≡ Err f → whole ≡ Err f) → Gives whole (Err e)
gives_stop due whole NotToml h stops = h
gives_stop due whole (BadKey path) h stops = stops (BadKey path) h
gives_stop due whole (BadValue path) h stops = stops (BadValue path) h
gives_stop due whole (BadName path) h stops = stops (BadName path) h
gives_stop due whole (OverLimit path n) h stops = stops (OverLimit path n) h
gives_stop due whole NoMemory h stops = tt

pub member_turn : {A : Type 0} (read : List A → List ℕ → Data → Result A ReadPolicyFault) (seen : List A) (a : A)
    (s t : List (String Global × Value)) (k : String Global) (v : Value) (key : List ℕ)
    → s ≡ (k, v) ∷ t → key ≡ string_bytes k → read seen key (view v) ≡ Ok a
    → each_member read seen (members_view s) ≡ each_member read (seen ++ a ∷ []) (members_view t)
member_turn read seen a s t k v key step same h =
    let here : read seen (string_bytes k) (view v) ≡ Ok a = (rw (← same) h) in
    ap (λ x. each_member read seen (members_view x)) step ∙ ap (λ r. and_then r (λ b. each_member read (seen ++ b ∷ []) (members_view t))) here

pub member_stop : {A : Type 0} (read : List A → List ℕ → Data → Result A ReadPolicyFault) (seen : List A) (e : ReadPolicyFault)
    (s t : List (String Global × Value)) (k : String Global) (v : Value) (key : List ℕ)
    → s ≡ (k, v) ∷ t → key ≡ string_bytes k → read seen key (view v) ≡ Err e
    → each_member read seen (members_view s) ≡ Err e
member_stop read seen e s t k v key step same h =
    let here : read seen (string_bytes k) (view v) ≡ Err e = (rw (← same) h) in
    ap (λ x. each_member read seen (members_view x)) step ∙ ap (λ r. and_then r (λ b. each_member read (seen ++ b ∷ []) (members_view t))) here

pub item_turn : {A : Type 0} (read : List A → Data → Result A ReadPolicyFault) (seen : List A) (a : A) (vs : List Value) (i : ℕ) (d : Value)
    → i < length vs → read seen (view (get_or vs i d)) ≡ Ok a
    → each_item read seen (items_view (drop i vs)) ≡ each_item read (seen ++ a ∷ []) (items_view (drop (i + 1) vs))
item_turn read seen a vs i d below h =
    ap (each_item read seen) (items_view-drop vs i d below)
    ∙ ap (λ r. and_then r (λ b. each_item read (seen ++ b ∷ []) (items_view (drop (i + 1) vs)))) h

pub item_stop : {A : Type 0} (read : List A → Data → Result A ReadPolicyFault) (seen : List A) (e : ReadPolicyFault) (vs : List Value) (i : ℕ) (d : Value)
    → i < length vs → read seen (view (get_or vs i d)) ≡ Err e
    → each_item read seen (items_view (drop i vs)) ≡ Err e
item_stop read seen e vs i d below h =
    ap (each_item read seen) (items_view-drop vs i d below)
    ∙ ap (λ r. and_then r (λ b. each_item read (seen ++ b ∷ []) (items_view (drop (i + 1) vs)))) h

-- ---- what is placed

pub placed_same : (path : List ℕ) (p : Placed) (ps qs : List Placed) → ((test : Placed → Bool) → list_any test ps ≡ list_any test qs)
    → placed_at path p ps ≡ placed_at path p qs
placed_same path p ps qs same = ap (λ (b : Bool). if b then Err (BadValue path) else Ok tt) (same (clashes p))

or_turned : (a b : Bool) → (a || b) ≡ (b || a)
or_turned true true = refl
or_turned true false = refl
or_turned false true = refl
or_turned false false = refl

or_third : (a b c : Bool) → (a || (b || c)) ≡ (b || (a || c))
or_third true true c = refl
or_third true false c = refl
or_third false b c = refl

pub any-placed_more : {A : Type 0} (test : Placed → Bool) (placed : A → Placed) (there : List Placed) (seen : List A) (a : A)
    → (test (placed a) || list_any test (there ++ map placed seen)) ≡ list_any test (there ++ map placed (seen ++ a ∷ []))
any-placed_more test placed [] [] a = refl
any-placed_more test placed [] (b ∷ seen) a =
    or_third (test (placed a)) (test (placed b)) (list_any test (map placed seen))
    ∙ ap (λ c. test (placed b) || c) (any-placed_more test placed [] seen a)
any-placed_more test placed (p ∷ there) seen a =
    or_third (test (placed a)) (test p) (list_any test (there ++ map placed seen))
    ∙ ap (λ c. test p || c) (any-placed_more test placed there seen a)

any-append : (test : Placed → Bool) (ps qs : List Placed) → list_any test (ps ++ qs) ≡ (list_any test ps || list_any test qs)
any-append test [] qs = refl
any-append test (p ∷ ps) qs = ap (λ b. test p || b) (any-append test ps qs) ∙ or_grouped (test p) (list_any test ps) (list_any test qs)
  where
    or_grouped : (a b c : Bool) → (a || (b || c)) ≡ ((a || b) || c)
    or_grouped true b c = refl
    or_grouped false b c = refl

pub any_more : (ps qs more : List Placed) → ((test : Placed → Bool) → list_any test ps ≡ list_any test qs)
    → (test : Placed → Bool) → list_any test (ps ++ more) ≡ list_any test (qs ++ more)
any_more ps qs more same test =
    any-append test ps more ∙ (ap (λ b. b || list_any test more) (same test) ∙ sym (any-append test qs more))

-- ---- what is there counts only by the tests of it

folder_same : (path : List ℕ) (ps qs : List Placed) → ((test : Placed → Bool) → list_any test ps ≡ list_any test qs)
    → (seen : List (List ℕ)) (d : Data) → folder_at path ps seen d ≡ folder_at path qs seen d
folder_same path ps qs same seen d =
    ap (λ (next : List ℕ → Result (List ℕ) ReadPolicyFault). and_then (folder_of (nth path (length seen)) d) next)
    (fun_ext (λ folder. ap (λ r. and_then r (λ _. Ok folder))
    (placed_same (nth path (length seen)) (folder_placed folder) (ps ++ map folder_placed seen) (qs ++ map folder_placed seen)
    (any_more ps qs (map folder_placed seen) same))))

link_same : (path : List ℕ) (ps qs : List Placed) → ((test : Placed → Bool) → list_any test ps ≡ list_any test qs)
    → (seen : List Link) (key : List ℕ) (d : Data) → link_at path ps seen key d ≡ link_at path qs seen key d
link_same path ps qs same seen key d =
    ap (λ (next : Link → Result Link ReadPolicyFault). and_then (link_of (below path key) key d) next)
    (fun_ext (λ link. ap (λ r. and_then r (λ _. Ok link))
    (placed_same (below path key) (link_placed link) (ps ++ map link_placed seen) (qs ++ map link_placed seen)
    (any_more ps qs (map link_placed seen) same))))

each_folder_same : (path : List ℕ) (ps qs : List Placed) → ((test : Placed → Bool) → list_any test ps ≡ list_any test qs)
    → (seen : List (List ℕ)) (ds : Items) → each_item (folder_at path ps) seen ds ≡ each_item (folder_at path qs) seen ds
each_folder_same path ps qs same seen no_items = refl
each_folder_same path ps qs same seen (item d ds) =
    ap (λ r. and_then r (λ a. each_item (folder_at path ps) (seen ++ a ∷ []) ds)) (folder_same path ps qs same seen d)
    ∙ ap (λ (next : List ℕ → Result (List (List ℕ)) ReadPolicyFault). and_then (folder_at path qs seen d) next)
    (fun_ext (λ a. each_folder_same path ps qs same (seen ++ a ∷ []) ds))

each_link_same : (path : List ℕ) (ps qs : List Placed) → ((test : Placed → Bool) → list_any test ps ≡ list_any test qs)
    → (seen : List Link) (ms : Members) → each_member (link_at path ps) seen ms ≡ each_member (link_at path qs) seen ms
each_link_same path ps qs same seen no_members = refl
each_link_same path ps qs same seen (member key d ms) =
    ap (λ r. and_then r (λ a. each_member (link_at path ps) (seen ++ a ∷ []) ms)) (link_same path ps qs same seen key d)
    ∙ ap (λ (next : Link → Result (List Link) ReadPolicyFault). and_then (link_at path qs seen key d) next)
    (fun_ext (λ a. each_link_same path ps qs same (seen ++ a ∷ []) ms))

folders_in_same : (path : List ℕ) (ps qs : List Placed) → ((test : Placed → Bool) → list_any test ps ≡ list_any test qs)
    → (d : Data) → folders_in ps path d ≡ folders_in qs path d
folders_in_same path ps qs same (string s) = refl
folders_in_same path ps qs same (integer z) = refl
folders_in_same path ps qs same (float x) = refl
folders_in_same path ps qs same (boolean b) = refl
folders_in_same path ps qs same (datetime t) = refl
folders_in_same path ps qs same (array ds) = each_folder_same path ps qs same [] ds
folders_in_same path ps qs same (table ms) = refl

links_in_same : (path : List ℕ) (ps qs : List Placed) → ((test : Placed → Bool) → list_any test ps ≡ list_any test qs)
    → (d : Data) → links_in ps path d ≡ links_in qs path d
links_in_same path ps qs same (string s) = refl
links_in_same path ps qs same (integer z) = refl
links_in_same path ps qs same (float x) = refl
links_in_same path ps qs same (boolean b) = refl
links_in_same path ps qs same (datetime t) = refl
links_in_same path ps qs same (array ds) = refl
links_in_same path ps qs same (table ms) = each_link_same path ps qs same [] ms

value_same : {A : Type 0} (path : List ℕ) (other : A) (read next : List ℕ → Data → Result A ReadPolicyFault)
    → ((d : Data) → read path d ≡ next path d) → (o : Option Data) → value_or path other read o ≡ value_or path other next o
value_same path other read next same None = refl
value_same path other read next same (Some d) = same d

pub folders_same : (path : List ℕ) (ps qs : List Placed) (ms : Members) → ((test : Placed → Bool) → list_any test ps ≡ list_any test qs)
    → optional path (codes "folders") [] (folders_in ps) ms ≡ optional path (codes "folders") [] (folders_in qs) ms
folders_same path ps qs ms same =
    value_same (below path (codes "folders")) [] (folders_in ps) (folders_in qs) (folders_in_same (below path (codes "folders")) ps qs same)
    (get_member (codes "folders") ms)

pub links_same : (path : List ℕ) (ps qs : List Placed) (ms : Members) → ((test : Placed → Bool) → list_any test ps ≡ list_any test qs)
    → optional path (codes "links") [] (links_in ps) ms ≡ optional path (codes "links") [] (links_in qs) ms
links_same path ps qs ms same =
    value_same (below path (codes "links")) [] (links_in ps) (links_in qs) (links_in_same (below path (codes "links")) ps qs same)
    (get_member (codes "links") ms)

-- ---- one more of each

pub file_turn : (path key at : List ℕ) (d : Data) (seen : List EmbeddedFile) (file : EmbeddedFile) (placed : List ℕ) (ps : List Placed)
    → at ≡ below path key → file_of at key d ≡ Ok file → placed ≡ file.path
    → placed_at at (record { path = placed; leaf = true }) ps ≡ Ok tt
    → ((test : Placed → Bool) → list_any test ps ≡ list_any test (map file_placed seen))
    → file_at path seen key d ≡ Ok file
file_turn path key at d seen file placed ps is reads named fits same =
    let fitted : placed_at at (file_placed file) ps ≡ Ok tt = (rw (← named) fits) in
    rw (← is) (ap (λ r. and_then r (λ f. and_then (placed_at at (file_placed f) (map file_placed seen)) (λ _. Ok f))) reads
    ∙ ap (λ r. and_then r (λ _. Ok file)) (sym (placed_same at (file_placed file) ps (map file_placed seen) same) ∙ fitted))

pub link_turn : (path key at : List ℕ) (d : Data) (there : List Placed) (seen : List Link) (link : Link) (placed : List ℕ) (ps : List Placed)
    → at ≡ below path key → link_of at key d ≡ Ok link → placed ≡ link.path
    → placed_at at (record { path = placed; leaf = true }) ps ≡ Ok tt
    → ((test : Placed → Bool) → list_any test ps ≡ list_any test (there ++ map link_placed seen))
    → link_at path there seen key d ≡ Ok link
link_turn path key at d there seen link placed ps is reads named fits same =
    let fitted : placed_at at (link_placed link) ps ≡ Ok tt = (rw (← named) fits) in
    rw (← is) (ap (λ r. and_then r (λ f. and_then (placed_at at (link_placed f) (there ++ map link_placed seen)) (λ _. Ok f))) reads
    ∙ ap (λ r. and_then r (λ _. Ok link)) (sym (placed_same at (link_placed link) ps (there ++ map link_placed seen) same) ∙ fitted))

pub folder_turn : (path at : List ℕ) (d : Data) (there : List Placed) (seen : List (List ℕ)) (folder placed : List ℕ) (ps : List Placed)
    → at ≡ nth path (length seen) → folder_of at d ≡ Ok folder → placed ≡ folder
    → placed_at at (record { path = placed; leaf = false }) ps ≡ Ok tt
    → ((test : Placed → Bool) → list_any test ps ≡ list_any test (there ++ map folder_placed seen))
    → folder_at path there seen d ≡ Ok folder
folder_turn path at d there seen folder placed ps is reads named fits same =
    let fitted : placed_at at (folder_placed folder) ps ≡ Ok tt = (rw (← named) fits) in
    rw (← is) (ap (λ r. and_then r (λ f. and_then (placed_at at (folder_placed f) (there ++ map folder_placed seen)) (λ _. Ok f))) reads
    ∙ ap (λ r. and_then r (λ _. Ok folder)) (sym (placed_same at (folder_placed folder) ps (there ++ map folder_placed seen) same) ∙ fitted))
