-- Rows by where a text leads.
use Rattle.std.proofs.Common.{◌≡◌, ℕ, ◌+◌, ◌<◌, Bool, true, false, List, Some, Ok, Err, Result, refl, sym, ap, ◌∙◌}
use Rattle.std.specs.Prelude.{◌||◌, IfOk, if◌then◌else◌}
use Rattle.tree_table.specs.Tables.{Forest, count_of, tree_of, path_of, place_of, node_of, map_of}
use Rattle.tree_table.specs.Paths.{Path, Answer, At, Fails, resolve}
use Rattle.reference_step.specs.Nodes.{node_at, lead, hash_value}
use Rattle.reference_step.specs.Descriptors.{at_found, link_at, stat_of, hash_of, open_led, open_found, open_node, write_flag, mutate-directory, truncate, symlink-follow}
use Rattle.reference_step.specs.Codes as code
use Rattle.reference_step.specs.State.{View, Row, fails, returns}
use Rattle.reference_step.specs.Values.{ok}
use Rattle.ref_virtual.specs.Views.{HoldsTrees}
use Rattle.ref_virtual.proofs.SeenLemmas.{seen_node, seen_lead, seen_hash}

-- what holds of a value holds of it in another form
pub ok_map : {A E : Type 0} (r : Result A E) (P Q : A → Type 0) → ((x : A) → P x → Q x) → IfOk r P → IfOk r Q
ok_map (Ok x) P Q go p = go x p
ok_map (Err e) P Q go p = p

no_change : (a b c : Bool) → (a || (b || c)) ≡ false → (x y : Row) → (if a || b || c then x else y) ≡ y
no_change true b c e x y = cc
no_change false true c e x y = cc
no_change false false true e x y = cc
no_change false false false e x y = refl

module _ (f : Forest) (v : View) (h : HoldsTrees f v) (node : ℕ) (w : node < count_of f) where
  abbrev tree : ℕ
  tree = tree_of f node

  -- the node at which a text ended
  pub node_led : (at : ℕ) → at < count_of f → tree_of f at ≡ tree → node_at v.trees tree (path_of f at) ≡ Some (node_of f at)
  node_led at wa home = ap (λ n. node_at v.trees n (path_of f at)) (sym home) ∙ seen_node f v h at wa

  module _ (text : List ℕ) (follow flag : Bool) (same : follow ≡ flag) where
    abbrev Led : Answer → Type 0
    Led a = resolve (map_of f tree) (path_of f node) text follow ≡ a

    pub led : (a : Answer) → Led a → lead v.trees tree (path_of f node) text flag ≡ a
    led a e = ap (lead v.trees tree (path_of f node) text) (sym same) ∙ seen_lead f v h node w text follow a e

    pub led_nowhere : (go : Path → Row) (e : ℕ) → Led (Fails e) → fails e ≡ at_found (lead v.trees tree (path_of f node) text flag) go
    led_nowhere go e is = ap (λ a. at_found a go) (sym (led (Fails e) is))

    pub led_there : (go : Path → Row) (at : ℕ) → Led (At (path_of f at)) → go (path_of f at) ≡ at_found (lead v.trees tree (path_of f node) text flag) go
    led_there go at is = ap (λ a. at_found a go) (sym (led (At (path_of f at)) is))

    pub link_led : (at : ℕ) → at < count_of f → tree_of f at ≡ tree → Led (At (path_of f at)) → link_at (Some (node_of f at)) ≡ at_found (lead v.trees tree (path_of f node) text flag) (λ found. link_at (node_at v.trees tree found))
    link_led at wa home is = ap link_at (sym (node_led at wa home)) ∙ led_there (λ found. link_at (node_at v.trees tree found)) at is

    pub stat_led : (at : ℕ) → at < count_of f → tree_of f at ≡ tree → Led (At (path_of f at)) → returns (stat_of (Some (node_of f at))) ≡ at_found (lead v.trees tree (path_of f node) text flag) (λ found. returns (stat_of (node_at v.trees tree found)))
    stat_led at wa home is = ap (λ n. returns (stat_of n)) (sym (node_led at wa home)) ∙ led_there (λ found. returns (stat_of (node_at v.trees tree found))) at is

    pub hash_led : (at : ℕ) → at < count_of f → tree_of f at ≡ tree → Led (At (path_of f at)) → returns (ok (hash_value (place_of f at) (tree_of f at + 1))) ≡ at_found (lead v.trees tree (path_of f node) text flag) (λ found. hash_of v tree found)
    hash_led at wa home is = sym (seen_hash f v h at wa) ∙ ap (λ t. hash_of v t (path_of f at)) home ∙ led_there (λ found. hash_of v tree found) at is

  -- `open-at`, where no change is asked
  module _ (text : List ℕ) (follow flags rights : ℕ) (flag : Bool) (same : flag ≡ symlink-follow follow) (no : (write_flag rights || (mutate-directory rights || truncate flags)) ≡ false) where
    open_by : (a : Answer) → resolve (map_of f tree) (path_of f node) text flag ≡ a → open_led v tree a flags ≡ open_node v tree (path_of f node) follow text flags rights
    open_by a is =
        ap (λ x. open_led v tree x flags) (sym (led text flag (symlink-follow follow) same a is))
        ∙ sym (no_change (write_flag rights) (mutate-directory rights) (truncate flags) no (fails code.read_only) (open_led v tree (lead v.trees tree (path_of f node) text (symlink-follow follow)) flags))

    pub open_nowhere : (e : ℕ) → resolve (map_of f tree) (path_of f node) text flag ≡ Fails e → open_led v tree (Fails e) flags ≡ open_node v tree (path_of f node) follow text flags rights
    open_nowhere e is = open_by (Fails e) is

    pub open_there : (at : ℕ) → at < count_of f → tree_of f at ≡ tree → resolve (map_of f tree) (path_of f node) text flag ≡ At (path_of f at) → open_found (Some (node_of f at)) (tree_of f at) (path_of f at) flags ≡ open_node v tree (path_of f node) follow text flags rights
    open_there at wa home is =
        ap (λ t. open_found (Some (node_of f at)) t (path_of f at) flags) home
        ∙ ap (λ n. open_found n tree (path_of f at) flags) (sym (node_led at wa home))
        ∙ open_by (At (path_of f at)) is
