-- The state of the reference host, and what its rows read of it and do.
use Rattle.std.specs.Prelude.{ℕ, Bool, List, [], ◌∷◌, Option, Some, None}
use Rattle.wit_types.specs.Plain.{Name}
use Rattle.wit_types.specs.PlainValue.{PlainValue, HandleValue}
use Rattle.policy_data.specs.declared.policy.Policy.{Policy}
use Rattle.policy_data.specs.declared.data.Scratch.{Scratch}
use Rattle.tree_table.specs.declared.entries.NamedTree.{NamedTree}
use Rattle.tree_table.specs.Scratches.{ScratchMap, empty_scratch}
use Rattle.reference_step.specs.Handles.{Content, Live, content_of, is_held}
use Rattle.reference_step.specs.Values.{ok, error_code}

-- what stays as it is: the policy, its trees, and the version under which each interface is listed
pub record Setup : Type 0 where
  pub policy : Policy
  pub trees : List NamedTree
  pub version : ℕ → Name

-- the state: what stays, the live handles, the scratch folder, and the state of the host that is asked
pub record Reference (S : Type 0) : Type 0 where
  pub setup : Setup
  pub live : Live
  pub scratch : ScratchMap
  pub inner : S

abbrev pub scratch_for : Option Scratch → ScratchMap
scratch_for None = empty_scratch 0 0
scratch_for (Some s) = empty_scratch s.blocks s.files

-- no handle is live, and the scratch folder is empty
abbrev pub opening : {S : Type 0} → Setup → S → Reference S
opening setup inner = record { setup = setup; live = []; scratch = scratch_for setup.policy.fs_scratch; inner = inner }

-- ---- what a row reads

pub record View : Type 0 where
  pub policy : Policy
  pub trees : List NamedTree
  pub scratch : ScratchMap
  -- what a live handle stands for
  pub content : ℕ → Content
  -- whether a scratch file is open
  pub held : ℕ → Bool

abbrev pub view_of : {S : Type 0} → Reference S → View
view_of r = record { policy = r.setup.policy; trees = r.setup.trees; scratch = r.scratch; content = content_of r.live; held = is_held r.live }

-- ---- what a row does

-- It returns a value, in which the handle of number i is the i-th that is made; and it may change what its first handle stands
-- for, and the scratch folder.
pub record Effect : Type 0 where
  pub value : Option PlainValue
  pub makes : List Content
  pub becomes : Option Content
  pub scratch : Option ScratchMap

pub data Row : Type 0 where
  Traps : Row
  Does : (effect : Effect) → Row

-- it returns a value, and changes nothing
abbrev pub returns : PlainValue → Row
returns v = Does (record { value = Some v; makes = []; becomes = None; scratch = None })

abbrev pub returns_nothing : Row
returns_nothing = Does (record { value = None; makes = []; becomes = None; scratch = None })

-- it returns an error code
abbrev pub fails : ℕ → Row
fails code = returns (error_code code)

-- it returns a new handle, or a new handle as `ok`
abbrev pub gives : Content → Row
gives content = Does (record { value = Some (HandleValue 0); makes = content ∷ []; becomes = None; scratch = None })

abbrev pub gives_ok : Content → Row
gives_ok content = Does (record { value = Some (ok (HandleValue 0)); makes = content ∷ []; becomes = None; scratch = None })

-- the same, and the scratch folder changes
abbrev pub gives_ok_in : ScratchMap → Content → Row
gives_ok_in m content = Does (record { value = Some (ok (HandleValue 0)); makes = content ∷ []; becomes = None; scratch = Some m })

-- it returns a value, and its first handle stands for something else
abbrev pub moves : Content → PlainValue → Row
moves content v = Does (record { value = Some v; makes = []; becomes = Some content; scratch = None })

-- it returns a value, and the scratch folder changes
abbrev pub stores : ScratchMap → PlainValue → Row
stores m v = Does (record { value = Some v; makes = []; becomes = None; scratch = Some m })

-- both
abbrev pub stores_and_moves : ScratchMap → Content → PlainValue → Row
stores_and_moves m content v = Does (record { value = Some v; makes = []; becomes = Some content; scratch = Some m })
