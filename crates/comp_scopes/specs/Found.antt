-- What is kept of exports and of modules.
use Rattle.std.specs.Prelude.{◌≡◌, ℕ, List, [], ◌∷◌, Option, Some, None, ⊤}
use Rattle.std.specs.BTreeMap.{get_by_text}
use Rattle.core_validate.specs.declared.item.CoreItem.{CoreItem}
use Rattle.core_validate.specs.declared.item.CoreExport.{CoreExport}
use Rattle.core_validate.specs.declared.item.ModuleType.{ModuleType}
use Rattle.comp_types.specs.CoreMatching.{core_look_up}
use Rattle.comp_scopes.specs.declared.by_name.CoreMap.{CoreMap}
use Rattle.comp_scopes.specs.declared.modules.KnownModule.{KnownModule}

-- the item that is kept under a name
unfoldable pub found : CoreMap → List ℕ → Option CoreItem
found m q = get_by_text m.items q

-- under each name is kept what the exports have first under it
abbrev pub HasExports : List CoreExport → CoreMap → Type 0
HasExports exports m = (q : List ℕ) → found m q ≡ core_look_up q exports

pub record IsKnownModule (ty : ModuleType) (m : KnownModule) : Type 0 where
  pub imports : m.imports ≡ ty.imports
  pub exports : HasExports ty.exports m.exports

-- ---- pairs in order

abbrev pub Each : {A B : Type 0} → (A → B → Type 0) → List A → List B → Type 0
Each R [] [] = ⊤
Each R (x ∷ xs) (y ∷ ys) = R x y × Each R xs ys
Each R _ _ = ⊥

-- both are there, or none
abbrev pub EachSome : {A B : Type 0} → (A → B → Type 0) → Option A → Option B → Type 0
EachSome R None None = ⊤
EachSome R (Some x) (Some y) = R x y
EachSome R _ _ = ⊥
