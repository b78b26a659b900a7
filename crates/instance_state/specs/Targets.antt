-- For which targets of the definition these stand.
use Rattle.std.specs.Prelude.{ℕ}
use Rattle.comp_worlds.specs.Groups.{Lifting as GroupLifting, Target as GroupTarget, Mine as ItsOwn, Theirs as Imported, Func, LoweredFunc, ResourceNew, ResourceDrop, ResourceRep}
use Rattle.instance_state.specs.Passed.{options_of}
use Rattle.instance_state.specs.declared.target.Lifting.{Lifting}
use Rattle.instance_state.specs.declared.target.Target.{Target}
use Rattle.instance_state.specs.declared.target.Target.TheVariants.{Mine, Theirs}
use Rattle.instance_state.specs.declared.canon.Canon.{Canon}
use Rattle.instance_state.specs.declared.canon.Canon.TheVariants as canons

abbrev pub lifting_of : Lifting → GroupLifting
lifting_of l = record { code = l.code; ty = l.ty; options = options_of l.options; post = l.post }

abbrev pub target_of : Target → GroupTarget
target_of (Mine instance lifting) = ItsOwn instance (lifting_of lifting.value)
target_of (Theirs import) = Imported import.value

abbrev pub func_of : Canon → Func
func_of (canons.Lowered target options) = LoweredFunc (target_of target) (options_of options)
func_of (canons.New resource) = ResourceNew resource
func_of (canons.Drop resource) = ResourceDrop resource
func_of (canons.Rep resource) = ResourceRep resource
