-- What is added where an instance type is closed.
use Rattle.std.proofs.Common.{◌≡◌, ◌∙◌, ap, sym, refl, subst, ℕ, ◌+◌, List, ◌∷◌, min, max, Option, Some, None, arith}
use Rattle.std.specs.Prelude.{nat_le, ◌&&◌, IsTrue}
use Rattle.std.proofs.lemmas.Bool.Decides.{nat_tests}
use Rattle.comp_types.specs.Measures.{kind_parts}
use Rattle.comp_types.specs.Spaces.{Space, TypeEntry, and_type}
use Rattle.comp_types.specs.Added.{and_depth, instance_type}
use Rattle.comp_types.specs.Rules.{is_within_limits}
use Rattle.comp_scopes.specs.declared.scope.Scope.{Scope}
use Rattle.comp_scopes.specs.Stands.{Stands}
use Rattle.comp_defining.specs.declared.scopes.Scopes.{Scopes}
use Rattle.comp_defining.specs.Around.{StandAll}
use Rattle.comp_defining.proofs.Inner.{inner_stands}
use Rattle.type_table.specs.Covers.{Covers}
use Rattle.type_table.proofs.ScopeLaws.{covers_closed}
use Rattle.comp_validate.specs.Closing.{Closes, ClosesIn}

pub under : (x d most : ℕ) → d ≡ min x (most + 1) → nat_le d most ≡ nat_le x most
under x d most e = grind (arith, nat_tests)

pub numbered : (t : Space) (e : TypeEntry) (x : Scope) (next n d : ℕ) (k : ℕ) → Stands (and_type t e) x → k ≡ min e.depth 101 → n ≡ next → d ≡ max x.deepest k
    → Stands (and_depth (record (and_type t e) { next = next }) e.depth) (record x { next = n; deepest = d })
numbered t e x next n d k h f i j = record {
  core = record { functions = h.core.functions; tables = h.core.tables; memories = h.core.memories; globals = h.core.globals; modules = h.core.modules; instances = h.core.instances };
  rest = record {
    is_component = h.rest.is_component;
    functions = h.rest.functions;
    types = h.rest.types;
    instances = h.rest.instances;
    components = h.rest.components;
    imports = h.rest.imports;
    exports = h.rest.exports;
    imported = h.rest.imported;
    defined = h.rest.defined;
    deepest = omega (arith, h.rest.deepest);
    next = i;
  };
}

pub closes_in : (around : List Space) (t s : Space) (x : Scopes) (y : Scope) (rule : Option ℕ) → StandAll around t x → Covers x.types s → Closes t s y rule → ClosesIn around t s (record x { inner = y }) rule
closes_in around t s x y None h covers k = (k.0, inner_stands around t _ x y x.types h k.1 refl (covers_closed x.types t s (instance_type s).depth h.covered.0 covers, h.covered.1))
closes_in around t s x y (Some rule) h covers k = k
