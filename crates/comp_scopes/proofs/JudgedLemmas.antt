-- What the least rule that fails says of a definition, where no type is stated and no component is instantiated.
use Rattle.std.proofs.Common.{◌≡◌, sym, List, ℕ, Some, None}
use Rattle.wasm_ast.specs.declared.component.CoreInstance.{CoreInstance}
use Rattle.wasm_ast.specs.declared.component.Alias.{Alias}
use Rattle.comp_types.specs.Spaces.{Space}
use Rattle.comp_types.specs.Definitions.{ACoreInstance, AnAlias}
use Rattle.comp_types.specs.Added.{after}
use Rattle.comp_types.specs.Faults.{fault}
use Rattle.comp_types.proofs.FaultLaws.{all_hold, least_fails}
use Rattle.comp_scopes.specs.declared.scope.Scope.{Scope}
use Rattle.comp_scopes.specs.Judged.{Judged}
use Rattle.comp_scopes.specs.Stands.{Stands}

pub broken_core_instance : (around : List Space) (s : Space) (i : CoreInstance) (x : Scope) (rule : ℕ) → Some rule ≡ fault around s (ACoreInstance i) → Judged around s (ACoreInstance i) x (Some rule)
broken_core_instance around s i x rule e = least_fails around s (ACoreInstance i) rule (sym e) tt tt

pub valid_core_instance : (around : List Space) (s : Space) (i : CoreInstance) (x : Scope) → None ≡ fault around s (ACoreInstance i) → Stands (after around s (ACoreInstance i)) x → Judged around s (ACoreInstance i) x None
valid_core_instance around s i x e h = (all_hold around s (ACoreInstance i) (sym e) tt tt, h)

pub broken_alias : (around : List Space) (s : Space) (a : Alias) (x : Scope) (rule : ℕ) → Some rule ≡ fault around s (AnAlias a) → Judged around s (AnAlias a) x (Some rule)
broken_alias around s a x rule e = least_fails around s (AnAlias a) rule (sym e) tt tt

pub valid_alias : (around : List Space) (s : Space) (a : Alias) (x : Scope) → None ≡ fault around s (AnAlias a) → Stands (after around s (AnAlias a)) x → Judged around s (AnAlias a) x None
valid_alias around s a x e h = (all_hold around s (AnAlias a) (sym e) tt tt, h)
