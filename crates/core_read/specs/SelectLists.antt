-- What the lists are that the selects of a module share.
use Rattle.std.specs.Prelude.{◌≡◌, List, [], ◌∷◌}
use Rattle.virt_base.specs.declared.core_type.CoreType.{CoreType}
use Rattle.virt_base.specs.declared.core_type.CoreType.TheVariants.{I32, I64, Funcref, Externref}

pub record AreLists (none i32 i64 funcref externref : List CoreType) : Type 0 where
  pub of_none : none ≡ []
  pub of_i32 : i32 ≡ I32 ∷ []
  pub of_i64 : i64 ≡ I64 ∷ []
  pub of_funcref : funcref ≡ Funcref ∷ []
  pub of_externref : externref ≡ Externref ∷ []
