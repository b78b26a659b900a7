-- Core code in progress that fits what is after it: how many results it awaits, what it will answer, and that what it names is there.
-- Frames are given innermost first here, as in `Standing` of frame_laws.
use Rattle.std.specs.Prelude.{◌≡◌, ◌<◌, ℕ, List, [], ◌∷◌, ◌++◌, length, map, Option, Some, None, Bool, true, false}
use Rattle.virt_base.specs.declared.core_type.CoreType.{CoreType}
use Rattle.virt_base.specs.declared.core_type.CoreType.TheVariants.{I32}
use Rattle.core_store.specs.Scene.{Scene}
use Rattle.core_store.specs.Words.{values_in}
use Rattle.core_interp.specs.Session.{awaited}
use Rattle.instance_state.specs.declared.calls.CoreCall.{CoreCall}
use Rattle.wit_types.specs.Plain.{Plain}
use Rattle.wit_types.specs.PlainValue.{PlainValue}
use Rattle.abi_layout.specs.Functions.{lowered, core_params}
use Rattle.abi_layout.specs.Handles.{handles}
use Rattle.abi_layout.specs.Storing.{Step, Ask, Write, Place, Refuse, FlatItem}
use Rattle.abi_store.specs.Plan.{Due as PlanDue, Nothing as NothingDue, Given, Asked, number_in, core_values}
use Rattle.comp_worlds.specs.Passing.{answer_tuple}
use Rattle.comp_worlds.specs.Groups.{Nesting, type_of, Lifting, Due as GroupDue, Nothing, Served, Below}
use Rattle.comp_frames.specs.Within.{IsRoomy}
use Rattle.comp_frames.specs.Frames.{Asker, Caller, FromOutside, FromCode, Service, Back, ToOutside, ToCode}
use Rattle.instance_state.specs.Passed.{options_of}
use Rattle.call_moments.specs.declared.frame.Frame.{Frame}
use Rattle.call_moments.specs.declared.frame.Purpose.{Purpose}
use Rattle.call_moments.specs.declared.frame.Purpose.TheVariants as purposes
use Rattle.call_moments.specs.declared.frame.Storing.{Storing}
use Rattle.call_moments.specs.declared.frame.Stored.{Stored}
use Rattle.call_moments.specs.declared.frame.Stored.TheVariants as stored
use Rattle.call_moments.specs.declared.frame.Due.{Due}
use Rattle.call_moments.specs.declared.frame.Due.TheVariants as dues
use Rattle.call_moments.specs.Shown.{depth_of, caller_of, service_of, due_of, storing_of, back_of}
use Rattle.call_moments.specs.Standing.{Calls, with_calls}
use Rattle.call_moments.specs.Fits.{answers_of, OptionsFit, LiftingFits, Takes, HasMemory}

-- ---- how many results go to the code outside, where there is some

abbrev pub due_to : Caller → Option ℕ
due_to FromOutside = None
due_to (FromCode asker) = Some (length (lowered (type_of asker.target)).results)

abbrev pub due_back : Back → Option ℕ
due_back (ToOutside value) = None
due_back (ToCode results) = Some (length results)

-- values of these types were stored
abbrev pub due_next : List CoreType → Stored → Option ℕ
due_next types (stored.Params service) = due_to (caller_of service.caller)
due_next types (stored.Result due) = Some (length types)

abbrev pub due_behind : Purpose → Option ℕ
due_behind purposes.Starts = None
due_behind (purposes.Serves service) = due_to (caller_of service.caller)
due_behind (purposes.Grants s) = due_next s.plan.types s.then
due_behind (purposes.Returns back) = due_back (back_of back)
due_behind (purposes.Destroys visit) = Some 0

-- the instance of the innermost frame
abbrev pub instance_of : List Frame → ℕ
instance_of [] = 0
instance_of (f ∷ fs) = f.instance

-- ---- an answered call is left where that many calls were in progress in its function

abbrev pub IsDueAt : Nesting → Due → Type 0
IsDueAt e dues.Host = Unit {0}
IsDueAt e (dues.Served served) = depth_of served.depth ≡ e

-- values of the type hold no handle
abbrev pub HoldsNone : Plain → Type 0
HoldsNone ty = (v : PlainValue) → handles ty v ≡ []

-- ---- room is asked for by a plan

-- a request stands among the steps
abbrev pub HasRequest : List Step → Type 0
HasRequest [] = ⊥
HasRequest (Ask align len ∷ steps) = Unit {0}
HasRequest (Write base offset bytes ∷ steps) = HasRequest steps
HasRequest (Place base offset request ∷ steps) = HasRequest steps
HasRequest (Refuse ∷ steps) = HasRequest steps

-- or was made
abbrev pub AsksRoom : PlanDue → List Step → Type 0
AsksRoom NothingDue steps = HasRequest steps
AsksRoom (Given place align len) steps = HasRequest steps
AsksRoom (Asked align len) steps = Unit {0}

-- ---- what a frame's purpose names is there, in the stores of its instance and of that below it

module _ (scenes : List Scene) where
  -- what goes outside holds no handle
  abbrev pub CallerFits : ℕ → Lifting → Caller → Type 0
  CallerFits below lifting FromOutside = HoldsNone (answer_tuple lifting.ty)
  CallerFits below lifting (FromCode asker) = OptionsFit scenes below asker.options (type_of asker.target) × (lifting.ty ≡ type_of asker.target)

  abbrev pub ServiceFits : ℕ → Service → Type 0
  ServiceFits below service = LiftingFits scenes service.instance service.lifting × CallerFits below service.lifting service.caller

  -- a post-return takes what was answered
  abbrev pub DueFits : GroupDue → Type 0
  DueFits Nothing = Unit {0}
  DueFits (Served k lifting results) = (k < length scenes) × ((f : ℕ) → lifting.post ≡ Some f → Takes scenes k f (length results))
  DueFits (Below due) = Unit {0}

  abbrev pub NextFits : (below : ℕ) → Nesting → List CoreType → Stored → Type 0
  NextFits below e types (stored.Params service) = ServiceFits below (service_of service) × (types ≡ core_params (service_of service).lifting.ty)
  NextFits below e types (stored.Result due) = DueFits (due_of due) × IsDueAt e due

  -- what storing needs
  pub record StoringFits (below : ℕ) (s : Storing) : Type 0 where
    pub there : s.instance < length scenes
    pub next : NextFits below (depth_of s.depth) s.plan.types s.then
    pub realloc : (f : ℕ) → s.options.realloc ≡ Some f → Takes scenes s.instance f 4 × (answers_of scenes s.instance f ≡ I32 ∷ [])
    -- the room is in a memory
    pub memory : AsksRoom s.plan.due s.plan.left.steps → HasMemory scenes s.instance (options_of s.options)
    pub count : length s.plan.left.flats ≡ length s.plan.types
    pub numbers : (flats : List FlatItem) → core_values s.plan.types flats ≡ values_in 0 s.plan.types (map number_in flats)

  -- `realloc` runs for a plan that asked
  pub record GrantFits (below k : ℕ) (s : Storing) : Type 0 where
    pub here : s.instance ≡ k
    pub storing : StoringFits below s
    pub memory : HasMemory scenes k (options_of s.options)
    pub align : ℕ
    pub len : ℕ
    pub due : s.plan.due ≡ Asked align len

  abbrev pub PurposeFits : (below k : ℕ) → Purpose → Type 0
  PurposeFits below k purposes.Starts = Unit {0}
  PurposeFits below k (purposes.Serves service) = ServiceFits below (service_of service)
  PurposeFits below k (purposes.Grants s) = GrantFits below k s
  PurposeFits below k (purposes.Returns back) = Unit {0}
  PurposeFits below k (purposes.Destroys visit) = Unit {0}

  -- what the code of a frame will answer, where that is looked at
  abbrev pub WillAnswer : Purpose → List CoreType → Type 0
  WillAnswer purposes.Starts types = Unit {0}
  WillAnswer (purposes.Serves service) types = types ≡ answers_of scenes service.instance (service_of service).lifting.code
  WillAnswer (purposes.Grants s) types = types ≡ I32 ∷ []
  WillAnswer (purposes.Returns back) types = Unit {0}
  WillAnswer (purposes.Destroys visit) types = Unit {0}

  pub record FrameFits (f : Frame) (c : CoreCall) (fs : List Frame) : Type 0 where
    pub purpose : PurposeFits (instance_of fs) f.instance f.purpose
    pub answers : WillAnswer f.purpose (answers_of scenes f.instance c.machine.entry)

  -- each frame's call awaits what is due to it of what is inside, and what is after it fits
  abbrev pub AllAwait : Calls → List Frame → Option ℕ → Type 0
  AllAwait calls [] None = Unit {0}
  AllAwait calls [] (Some count) = ⊥
  AllAwait calls (f ∷ fs) None = ⊥
  AllAwait calls (f ∷ fs) (Some count) =
      (rest : List CoreCall) × (c : CoreCall) × (calls f.instance ≡ rest ++ c ∷ []) × (awaited c.machine ≡ count) × FrameFits f c fs × AllAwait (with_calls calls f.instance rest) fs (due_behind f.purpose)

-- ---- what is left to be stored stays within memories of these sizes

abbrev pub IsRoomyFor : (ℕ → ℕ → ℕ) → Storing → Type 0
IsRoomyFor sizes s = (at : ℕ) → s.options.memory ≡ Some at → IsRoomy (sizes s.instance at) s.plan.due s.plan.left

abbrev pub RoomOf : (ℕ → ℕ → ℕ) → Purpose → Type 0
RoomOf sizes purposes.Starts = Unit {0}
RoomOf sizes (purposes.Serves service) = Unit {0}
RoomOf sizes (purposes.Grants s) = IsRoomyFor sizes s
RoomOf sizes (purposes.Returns back) = Unit {0}
RoomOf sizes (purposes.Destroys visit) = Unit {0}

abbrev pub AllRoomy : (ℕ → ℕ → ℕ) → List Frame → Type 0
AllRoomy sizes [] = Unit {0}
AllRoomy sizes (f ∷ fs) = RoomOf sizes f.purpose × AllRoomy sizes fs
