-- The names that are taken, as the code goes through them.
use Rattle.std.proofs.Common.{◌≡◌, ◌∙◌, refl, ap, ℕ, List, [], ◌∷◌, ◌++◌, Bool, true, false}
use Rattle.std.specs.Prelude.{◌||◌}
use Rattle.std.specs.List.{list_any}
use Rattle.std.specs.Str.{bytes_eq}
use Rattle.policy_toml.specs.Keys.{is_known}
use Rattle.policy_data.specs.declared.data.Pass.{Pass}
use Rattle.policy_data.specs.declared.data.TreeSource.{TreeSource}
use Rattle.policy_toml.specs.Fs.{shown_names}
use Rattle.policy_toml.specs.Trees.{tree_names}

or_assoc : (a b c : Bool) → (a || (b || c)) ≡ ((a || b) || c)
or_assoc true b c = refl
or_assoc false b c = refl

pub known_either : (passes : List Pass) (trees : List TreeSource) (name : List ℕ)
    → is_known (shown_names passes ++ tree_names trees) name
    ≡ (list_any (λ pass. bytes_eq name pass.shown) passes || list_any (λ tree. bytes_eq name tree.name) trees)
known_either [] [] name = refl
known_either [] (tree ∷ trees) name = ap (λ b. bytes_eq name tree.name || b) (known_either [] trees name)
known_either (pass ∷ passes) trees name =
    ap (λ b. bytes_eq name pass.shown || b) (known_either passes trees name)
    ∙ or_assoc (bytes_eq name pass.shown) (list_any (λ p. bytes_eq name p.shown) passes) (list_any (λ tree. bytes_eq name tree.name) trees)
