-- The names of functions that are called from outside, and what is found by them.
use Rattle.std.specs.Prelude.{Bool, ℕ, ◌==◌, nat_lt, if◌then◌else◌, List, [], length, Option, Some, None, slice_get}
use Rattle.std.specs.List.{position_or_len, before_first, after_first}
use Rattle.wit_types.specs.Plain.{Name}
use Rattle.instance_state.specs.declared.target.Target.{Target}
use Rattle.instance_making.specs.declared.named.Named.{Named}
use Rattle.instance_making.specs.declared.given.Given.{Given}
use Rattle.instance_making.specs.declared.given.Given.TheVariants.{Func, Instance, Resource, «Type»}

abbrev pub is_hash : ℕ → Bool
is_hash byte = byte == 35

-- what stands before the first `#` of a name, and what after it; where it has none, all stands after
abbrev pub cut : Name → Name × Name
cut name = if nat_lt (position_or_len is_hash name) (length name) then (before_first is_hash name, after_first is_hash name) else ([], name)

abbrev pub function_in : Option Given → Option Target
function_in None = None
function_in (Some (Func target)) = Some target
function_in (Some (Instance number)) = None
function_in (Some (Resource resource)) = None
function_in (Some «Type») = None

abbrev pub instance_in : List (Named Given) → Option Given → Option (Named Given)
instance_in made None = None
instance_in made (Some (Func target)) = None
instance_in made (Some (Instance number)) = slice_get made number
instance_in made (Some (Resource resource)) = None
instance_in made (Some «Type») = None
