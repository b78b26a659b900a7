-- A component that is given an export as it is, with more in it than the component imports: an instance with two clocks, of which it
-- reads one.
use Rattle.std.specs.Prelude.{◌≡◌, [], ◌∷◌, codes, None}
use Rattle.wasm_ast.specs.declared.component.Sort.TheVariants as sorts
use Rattle.wasm_ast.specs.declared.component.Alias.TheVariants as aliases
use Rattle.host_port.specs.Calls.{Returned}
use Rattle.comp_grammar.specs.Trees.{Tree, Aliases}
use Rattle.comp_joins.specs.Joining.{Joint, joining, Fits, Agree, itself}
use Rattle.link_rows.specs.Trees.{somewhere, one_param, instance_type, import_h, func_of, exports_f}
use Rattle.link_rows.specs.Rows.{told, runs}
use Rattle.link_rows.specs.Sharing.{still, teller}

-- The whole gives the second, as k, the instance that the first exports as k.
abbrev pub giving_more : Joint
giving_more = record {
  front = instance_type (codes "tell") one_param None ∷ import_h ∷ [];
  first_span = somewhere;
  first_args = [];
  between = Aliases (aliases.Export sorts.Instance 1 (codes "k") ∷ []) ∷ [];
  second_span = somewhere;
  second_args = record { name = codes "h"; sort = sorts.Instance; index = 0 } ∷ record { name = codes "k"; sort = sorts.Instance; index = 2 } ∷ [];
  behind = Aliases (func_of 3 (codes "f") ∷ []) ∷ exports_f 0 ∷ [];
}

abbrev pub given_more : Tree
given_more = joining giving_more still teller

pub record GivingMoreExamples : Type 0 where
  pub tells : runs given_more 100 ≡ told 42 ∷ Returned None ∷ []

pub record GivingMorePremises : Type 0 where
  pub fits : Fits giving_more still teller itself itself
  pub agree : Agree given_more still teller itself itself
