-- The adapter's two modules, of all that its functions do.
use Rattle.std.specs.Prelude.{◌≡◌, ◌≤◌, List, [], ◌∷◌, Bool, true, false, length}
use Rattle.std.specs.List.{list_any}
use Rattle.virt_base.specs.declared.core_type.CoreType.{CoreType}
use Rattle.virt_base.specs.declared.core_type.CoreType.TheVariants.{I32, I64}
use Rattle.wasm_ast.specs.declared.module.Module.{Module}
use Rattle.adapter_code.specs.Layout.{Fits}
use Rattle.adapter_state.specs.declared.parts.Posts.{Posts}
use Rattle.adapter_state.specs.State.{state_of}
use Rattle.adapter_stubs.specs.declared.stub.Stub.{Stub}
use Rattle.adapter_stubs.specs.Stubs.{stubs_of, AreStubs}
use Rattle.adapter_bytes.specs.declared.modules.Routines.{Routines}
use Rattle.adapter_bytes.specs.declared.posts.Flat.{Flat}
use Rattle.adapter_bytes.specs.declared.posts.Flat.TheVariants.{Bare, Narrow, Broad}

-- whether a function's results are these
abbrev pub is_flat : Flat → List CoreType → Bool
is_flat Bare [] = true
is_flat Narrow (I32 ∷ []) = true
is_flat Broad (I64 ∷ []) = true
is_flat flat results = false

abbrev pub needs : Flat → Stub → Bool
needs flat s = is_flat flat s.flat.results

-- a post-return for each of the flat results that some stub has
abbrev pub posts_in : List Stub → Posts
posts_in stubs = record { bare = list_any (needs Bare) stubs; narrow = list_any (needs Narrow) stubs; broad = list_any (needs Broad) stubs }

-- what is asked: the memory holds the parts, the static data is as long as the layout says, and each stub is well formed
pub record AreRoutines (r : Routines) : Type 0 where
  pub kinds : length r.kinds.items ≤ 14
  pub fits : Fits r.layout
  pub image : length r.image ≡ r.layout.image_len
  pub stubs : AreStubs r.stubs.items

abbrev pub state_in : Routines → Module
state_in r = state_of r.kinds.items r.layout r.image (posts_in r.stubs.items)

abbrev pub stubs_in : Routines → Module
stubs_in r = stubs_of r.kinds.items r.layout r.stubs.items
