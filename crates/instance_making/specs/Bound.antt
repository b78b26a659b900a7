-- The numbers of instances and resources that are given.
use Rattle.std.specs.Prelude.{ℕ, Option, Some, None}
use Rattle.instance_making.specs.declared.given.Given.{Given}
use Rattle.instance_making.specs.declared.given.Given.TheVariants.{Func, Instance, Resource, «Type»}

abbrev pub number_of : Option Given → Option ℕ
number_of None = None
number_of (Some (Func target)) = None
number_of (Some (Instance number)) = Some number
number_of (Some (Resource resource)) = None
number_of (Some «Type») = None

abbrev pub resource_of : Option Given → Option ℕ
resource_of None = None
resource_of (Some (Func target)) = None
resource_of (Some (Instance number)) = None
resource_of (Some (Resource resource)) = Some resource
resource_of (Some «Type») = None
