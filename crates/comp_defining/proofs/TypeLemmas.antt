-- What the least rule that fails says of a type's definition, and what it leaves as it is.
use Rattle.std.proofs.Common.{◌≡◌, ◌∙◌, ap, refl, sym, subst, List, ℕ, ◌+◌, ◌∷◌, [], ◌++◌, Bool, true, false, Option, Some, None, max, min, arith}
use Rattle.std.specs.Prelude.{nat_le}
use Rattle.std.proofs.lemmas.Bool.Decides.{nat_tests}
use Rattle.wasm_ast.specs.declared.component.TypeDef.{TypeDef}
use Rattle.comp_types.specs.Spaces.{Space}
use Rattle.comp_types.specs.Declarations.{ATypeDef}
use Rattle.comp_types.specs.Definitions.{AType}
use Rattle.wasm_ast.specs.declared.component.TypeDef.TheVariants.{Resource}
use Rattle.comp_types.specs.Added.{after_declaration, and_depth, and_resource}
use Rattle.comp_scopes.specs.Numbers.{HasNumbers}
use Rattle.comp_scopes.specs.declared.numbers.Numbers.{Numbers}
use Rattle.std.specs.List.{list_all}
use Rattle.comp_names.specs.Labels.{is_label}
use Rattle.comp_types.specs.Measures.{kind_depth}
use Rattle.comp_types.specs.Faults.{fault, first_failing}
use Rattle.comp_types.specs.Rules.{lengths_of, def_stands, def_is_filled, is_within_limits, def_has_values, resources_are_due, functions_are_sound, resources_are_sound, def_labels}
use Rattle.comp_types.specs.Types.{kind_of}
use Rattle.comp_types.proofs.FaultLaws.{all_hold, least_fails}
use Rattle.comp_scopes.specs.declared.scope.Scope.{Scope}
use Rattle.comp_scopes.specs.Judged.{Judged}
use Rattle.comp_scopes.specs.Stands.{Stands}

pub broken_type : (around : List Space) (s : Space) (d : TypeDef) (x : Scope) (rule : ℕ) → Some rule ≡ fault around s (AType (ATypeDef d)) → Judged around s (AType (ATypeDef d)) x (Some rule)
broken_type around s d x rule e = least_fails around s (AType (ATypeDef d)) rule (sym e) tt tt

pub valid_type : (around : List Space) (s : Space) (d : TypeDef) (x : Scope) → None ≡ fault around s (AType (ATypeDef d)) → Stands (after_declaration around s (ATypeDef d)) x → Judged around s (AType (ATypeDef d)) x None
valid_type around s d x e h = (all_hold around s (AType (ATypeDef d)) (sym e) tt tt, h)

pub stands-resource : (s : Space) (x : Scope) (d : Option ℕ) (n : ℕ) (ns : Numbers) → Stands s x → HasNumbers (s.defined ++ x.next ∷ []) ns → n ≡ x.next + 1 → Stands (and_resource s (Resource d)) (record x { defined = ns; next = n })
stands-resource s x d n ns h k e = record {
  core = record { functions = h.core.functions; tables = h.core.tables; memories = h.core.memories; globals = h.core.globals; modules = h.core.modules; instances = h.core.instances };
  rest = record {
    is_component = h.rest.is_component;
    functions = h.rest.functions;
    types = h.rest.types;
    instances = h.rest.instances;
    components = h.rest.components;
    imports = h.rest.imports;
    exports = h.rest.exports;
    imported = h.rest.imported;
    defined = subst (λ (r : ℕ). HasNumbers (s.defined ++ r ∷ []) ns) h.rest.next k;
    deepest = h.rest.deepest;
    next = e ∙ ap (λ r. r + 1) h.rest.next;
  };
}

pub stands-depth : (s : Space) (x : Scope) (deep k d : ℕ) → Stands s x → k ≡ min deep 101 → d ≡ max x.deepest k → Stands (and_depth s deep) (record x { deepest = d })
stands-depth s x deep k d h e f = record {
  core = record { functions = h.core.functions; tables = h.core.tables; memories = h.core.memories; globals = h.core.globals; modules = h.core.modules; instances = h.core.instances };
  rest = record {
    is_component = h.rest.is_component;
    functions = h.rest.functions;
    types = h.rest.types;
    instances = h.rest.instances;
    components = h.rest.components;
    imports = h.rest.imports;
    exports = h.rest.exports;
    imported = h.rest.imported;
    defined = h.rest.defined;
    deepest = omega (arith, h.rest.deepest);
    next = h.rest.next;
  };
}

pub under : (x d most : ℕ) → d ≡ min x (most + 1) → nat_le d most ≡ nat_le x most
under x d most e = grind (arith, nat_tests)

-- ---- the rules that are asked of a type's definition

abbrev pub first_broken : (stands filled small kinds resources functions destructors labels : Bool) → Option ℕ
first_broken false filled small kinds resources functions destructors labels = Some 3
first_broken true false small kinds resources functions destructors labels = Some 9
first_broken true true false kinds resources functions destructors labels = Some 10
first_broken true true true false resources functions destructors labels = Some 11
first_broken true true true true false functions destructors labels = Some 12
first_broken true true true true true false destructors labels = Some 13
first_broken true true true true true true false labels = Some 14
first_broken true true true true true true true false = Some 20
first_broken true true true true true true true true = None

pub eight_rules : (a b c d e f g h : Bool)
    → first_failing (true ∷ true ∷ true ∷ a ∷ true ∷ true ∷ true ∷ true ∷ true ∷ b ∷ c ∷ d ∷ e ∷ f ∷ g ∷ true ∷ true ∷ true ∷ true ∷ true ∷ h ∷ true ∷ true ∷ true ∷ true ∷ [])
    ≡ first_broken a b c d e f g h
eight_rules false b c d e f g h = refl
eight_rules true false c d e f g h = refl
eight_rules true true false d e f g h = refl
eight_rules true true true false e f g h = refl
eight_rules true true true true false f g h = refl
eight_rules true true true true true false g h = refl
eight_rules true true true true true true false h = refl
eight_rules true true true true true true true false = refl
eight_rules true true true true true true true true = refl

pub fault_type : (around : List Space) (s : Space) (d : TypeDef)
    → fault around s (AType (ATypeDef d))
    ≡ first_broken (def_stands (lengths_of s) d) (def_is_filled d) (is_within_limits (record { kind = kind_of s d; depth = kind_depth (kind_of s d) })) (def_has_values s d) (resources_are_due s (AType (ATypeDef d))) (functions_are_sound s (AType (ATypeDef d))) (resources_are_sound s (AType (ATypeDef d))) (list_all is_label (def_labels d))
fault_type around s d = eight_rules (def_stands (lengths_of s) d) (def_is_filled d) (is_within_limits (record { kind = kind_of s d; depth = kind_depth (kind_of s d) })) (def_has_values s d) (resources_are_due s (AType (ATypeDef d))) (functions_are_sound s (AType (ATypeDef d))) (resources_are_sound s (AType (ATypeDef d))) (list_all is_label (def_labels d))

-- the answer, by what each test says
pub answered : (around : List Space) (s : Space) (d : TypeDef) (stands filled small kinds resources functions destructors labels : Bool)
    → stands ≡ def_stands (lengths_of s) d → filled ≡ def_is_filled d → small ≡ is_within_limits (record { kind = kind_of s d; depth = kind_depth (kind_of s d) }) → kinds ≡ def_has_values s d
    → resources ≡ resources_are_due s (AType (ATypeDef d)) → functions ≡ functions_are_sound s (AType (ATypeDef d)) → destructors ≡ resources_are_sound s (AType (ATypeDef d)) → labels ≡ list_all is_label (def_labels d)
    → first_broken stands filled small kinds resources functions destructors labels ≡ fault around s (AType (ATypeDef d))
answered around s d stands filled small kinds resources functions destructors labels e f g h j k l m =
    (λ i. first_broken (e i) (f i) (g i) (h i) (j i) (k i) (l i) (m i)) ∙ sym (fault_type around s d)
