-- Folders that are noted one after another.
use Rattle.std.proofs.Common.{◌≡◌, ℕ, zero, suc, ◌+◌, ◌≤◌, ◌<◌, nat_lt, Bool, true, false, Option, None, List, [], ◌∷◌, ◌++◌, Some, length, drop, get_or, slice_get, map, Result, Ok, Err, refl, sym, ap, subst, ◌∙◌, arith, if◌then◌else◌}
use Rattle.std.specs.Prelude.{OnOk}
use Rattle.std.proofs.lemmas.Bool.Decides.{nat_tests}
use Rattle.std.proofs.Math.ListN.{drop_of_length-le}
use Rattle.std.proofs.Math.Seq.{drop-cons}
use Rattle.std.proofs.lemmas.List.{append_assoc, append-nil, map-append}
use Rattle.std.proofs.lemmas.List.Elements.{All-cons, All-nil, All-push}
use Rattle.wit_types.specs.declared.value.Value.{Value}
use Rattle.wit_types.specs.PlainValue.{PlainValue, plain_value, values_of}
use Rattle.policy_data.specs.declared.data.Pass.{Pass}
use Rattle.policy_data.specs.declared.policy.Policy.{Policy}
use Rattle.host_port.specs.Hosts.{HostStep}
use Rattle.tree_table.specs.declared.entries.NamedTree.{NamedTree}
use Rattle.tree_table.specs.Forests.{path_by, steps_up}
use Rattle.tree_table.specs.Tables.{Forest, Holds, name_of, parent_of, path_of}
use Rattle.tree_table.specs.Trees.{AreTrees, node_count}
use Rattle.reference_step.specs.Access.{all_files}
use Rattle.reference_step.specs.Handles as contents
use Rattle.reference_step.specs.Steps as reference
use Rattle.reference_step.specs.Values.{items}
use Rattle.ref_rules.specs.declared.content.Content.{Content}
use Rattle.ref_rules.specs.declared.content.Content.TheVariants.{Node}
use Rattle.ref_answers.specs.Seen.{content_in}
use Rattle.ref_host_calls.specs.declared.offers.Folder.{Folder}
use Rattle.ref_host_calls.specs.declared.offers.Folder.TheVariants.{Theirs, Root, Scratch}
use Rattle.ref_host_calls.specs.declared.offers.Offer.{Offer}
use Rattle.ref_host_calls.specs.declared.offers.Offer.TheVariants.{Given, Lost}
use Rattle.ref_host_calls.specs.Places.{stands_for}
use Rattle.ref_host_calls.specs.Offers.{AreInside, HoldsOfFolders, folder_inside, offer_inside, shown, shown_all}

pub items_listed : (vs : List Value) → items (values_of vs) ≡ map plain_value vs
items_listed [] = refl
items_listed (v ∷ vs) = ap (λ rest. plain_value v ∷ rest) (items_listed vs)

pub ruleset offer_rules = (items_listed)

one_more : (i : ℕ) → suc i ≡ i + 1
one_more i = omega arith

pub next_of : {A : Type 0} (xs : List A) (i : ℕ) (d : A) → i < length xs → drop i xs ≡ get_or xs i d ∷ drop (i + 1) xs
next_of xs i d lt = drop-cons xs i d lt ∙ ap (λ n. get_or xs i d ∷ drop n xs) (one_more i)

-- one more at the end of what was noted
pub noted_more : {A B : Type 0} (g : A → B) (old new : List A) (x : A) (y : B) (rest all : List B) → new ≡ old ++ x ∷ [] → g x ≡ y → map g old ++ y ∷ rest ≡ all → map g new ++ rest ≡ all
noted_more g old new x y rest all is same before =
    ap (λ zs. map g zs ++ rest) is
    ∙ ap (λ zs. zs ++ rest) (map-append g old (x ∷ []))
    ∙ append_assoc (map g old) (g x ∷ []) rest
    ∙ ap (λ z. map g old ++ z ∷ rest) same
    ∙ before

-- after the last one
pub noted_end : {B : Type 0} (done rest all : List B) → rest ≡ [] → done ++ rest ≡ all → done ≡ all
noted_end done rest all none before = sym (append-nil done) ∙ ap (λ ys. done ++ ys) (sym none) ∙ before

pub none_left : {A : Type 0} (xs : List A) (i : ℕ) → length xs ≤ i → drop i xs ≡ []
none_left xs i past = drop_of_length-le xs past

-- ---- roots

root_path : (roots : ℕ) (name : ℕ → List ℕ) (parent : ℕ → ℕ) (i : ℕ) → i < roots → path_by roots name parent i ≡ []
root_path roots name parent zero lt = refl
root_path roots name parent (suc i) lt =
    let inside : nat_lt (suc i) roots ≡ true = grind (arith, nat_tests) in
    ap (λ b. if b then [] else name (suc i) ∷ steps_up roots name parent i (parent (suc i))) inside

-- a root's number is the place of its tree
pub root_there : (trees : List NamedTree) (f : Forest) → Holds trees f → (place : ℕ) → place < length trees → content_in f (Node place) ≡ contents.Node place []
root_there trees f h place lt =
    let roots = h.roots in
    let inside : place < f.roots = omega (arith, roots, lt) in
    ap (λ (n : ℕ). contents.Node n (path_of f place)) (h.forest.roots_trees place inside)
    ∙ ap (λ (p : List (List ℕ)). contents.Node place p) (root_path f.roots (name_of f) (parent_of f) place inside)

some_first : {A : Type 0} (xs : List A) (x : A) → slice_get xs 0 ≡ Some x → 1 ≤ length xs
some_first [] x e = cc
some_first (y ∷ xs) x e = omega arith

as_many_nodes : (trees : List NamedTree) → ((t : ℕ) (tree : NamedTree) → slice_get trees t ≡ Some tree → 1 ≤ length tree.entries) → length trees ≤ node_count trees
as_many_nodes [] each = omega arith
as_many_nodes (tree ∷ trees) each = omega (arith, each 0 tree refl, as_many_nodes trees (λ t other is. each (suc t) other is))

pub few_trees : (trees : List NamedTree) → AreTrees trees → length trees ≤ 65536
few_trees trees are = omega (arith, as_many_nodes trees (λ t tree is. some_first tree.entries _ (are.each t tree is).root), are.nodes)

-- ---- counts

pub count_next : (n m all first : ℕ) (rest before : ℕ) → before ≡ first + rest → n + before ≡ all → m ≡ n + first → m + rest ≡ all
count_next n m all first rest before split is more = omega arith

-- ---- what holds after a call
pub on_map : {A E : Type 0} (r : Result A E) (P Q : Type 0) → (P → Q) → OnOk r P → OnOk r Q
on_map (Ok x) P Q go p = go p
on_map (Err e) P Q go p = p

pub behind : {A : Type 0} (new mid old rest first : List A) → new ≡ mid ++ rest → mid ≡ old ++ first → new ≡ old ++ (first ++ rest)
behind new mid old rest first is before = is ∙ ap (λ xs. xs ++ rest) before ∙ append_assoc old first rest

pub nothing_more : {A : Type 0} (xs ys : List A) → ys ≡ [] → xs ≡ xs ++ ys
nothing_more xs ys none = sym (append-nil xs) ∙ ap (λ zs. xs ++ zs) (sym none)

-- ---- what folders stand for

pub inside_more : (trees : ℕ) (old new : List Offer) (o : Offer) → new ≡ old ++ o ∷ [] → offer_inside trees o ≡ true → AreInside trees old → AreInside trees new
inside_more trees old new o is here all = subst (AreInside trees) (sym is) (All-push (λ x. offer_inside trees x ≡ true) old o all here)

pub root_inside : (place trees : ℕ) → place < trees → nat_lt place trees ≡ true
root_inside place trees lt = grind (arith, nat_tests)

-- what holds of each folder that may be given holds of this one
pub folder_holds : (trees : ℕ) (P : Content → Bool) (folder : Folder) → HoldsOfFolders trees P → folder_inside trees folder ≡ true → P (stands_for folder) ≡ true
folder_holds trees P (Theirs id) may inside = may.theirs id
folder_holds trees P (Root place) may inside = let below : place < trees = grind (arith, nat_tests) in may.roots place below
folder_holds trees P Scratch may inside = may.scratch

-- ---- the host's folders are no roots

module _ {S : Type 0} (h : HostStep S) (f : Forest) (policy : Policy) (trees : ℕ) where
  abbrev is_no_node : reference.Offer h → Bool
  is_no_node (reference.Given (contents.Node tree path) name) = false
  is_no_node (reference.Given content name) = true
  is_no_node (reference.Lost id) = true

  passed : (id : ℕ) (pass : Option Pass) → is_no_node (reference.by_pass h id pass) ≡ true
  passed id None = refl
  passed id (Some pass) = refl

  by_files : (all : Bool) (id : ℕ) (name : List ℕ) (pass : Option Pass) → is_no_node (if all then reference.Given (contents.Host id) name else reference.by_pass h id pass) ≡ true
  by_files true id name pass = refl
  by_files false id name pass = passed id pass

  no_root : (o : Offer) → is_no_node (shown h f o) ≡ true → offer_inside trees o ≡ true
  no_root (Given (Theirs id) name) is = refl
  no_root (Given (Root place) name) is = cc
  no_root (Given Scratch name) is = refl
  no_root (Lost id) is = refl

  first_is : {A : Type 0} (x y : A) (xs ys : List A) → x ∷ xs ≡ y ∷ ys → x ≡ y
  first_is x y xs ys is = cc

  rest_is : {A : Type 0} (x y : A) (xs ys : List A) → x ∷ xs ≡ y ∷ ys → xs ≡ ys
  rest_is x y xs ys is = cc

  pub theirs_inside : (offers : List Offer) (vs : List PlainValue) → shown_all h f offers ≡ map (λ v. reference.offer_of h policy v) vs → AreInside trees offers
  theirs_inside [] vs is = All-nil (λ o. offer_inside trees o ≡ true)
  theirs_inside (o ∷ os) [] is = cc
  theirs_inside (o ∷ os) (v ∷ vs) is =
      All-cons (λ x. offer_inside trees x ≡ true) o os (no_root o (ap is_no_node (first_is _ _ _ _ is) ∙ by_files (all_files policy.fs_host) _ _ _)) (theirs_inside os vs (rest_is _ _ _ _ is))
