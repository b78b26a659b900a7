-- What the least rule that fails says of a canonical function, and that core functions of a scope are those of its index space.
use Rattle.std.proofs.Common.{◌≡◌, ap, sym, List, ℕ, Some, None, slice_get}
use Rattle.std.specs.Option.{option_and_then}
use mathlib.Core.Path.{fun_ext}
use Rattle.wasm_ast.specs.declared.component.Canon.{Canon}
use Rattle.comp_types.specs.Spaces.{Space, core_type_of, core_func_at}
use Rattle.comp_types.specs.Definitions.{ACanon}
use Rattle.comp_types.specs.Added.{after}
use Rattle.comp_types.specs.Faults.{fault}
use Rattle.comp_types.proofs.FaultLaws.{all_hold, least_fails}
use Rattle.comp_scopes.specs.declared.core_scope.CoreScope.{CoreScope}
use Rattle.comp_scopes.specs.Scopes.{IsCoreOf, func_in}
use Rattle.comp_scopes.specs.declared.scope.Scope.{Scope}
use Rattle.comp_scopes.specs.Judged.{Judged}
use Rattle.comp_scopes.specs.Stands.{Stands}

pub broken_canon : (around : List Space) (s : Space) (c : Canon) (x : Scope) (rule : ℕ) → Some rule ≡ fault around s (ACanon c) → Judged around s (ACanon c) x (Some rule)
broken_canon around s c x rule e = least_fails around s (ACanon c) rule (sym e) tt tt

pub valid_canon : (around : List Space) (s : Space) (c : Canon) (x : Scope) → None ≡ fault around s (ACanon c) → Stands (after around s (ACanon c)) x → Judged around s (ACanon c) x None
valid_canon around s c x e h = (all_hold around s (ACanon c) (sym e) tt tt, h)

pub same_funcs : (s : Space) (c : CoreScope) → IsCoreOf s c → (λ i. func_in c i) ≡ core_func_at s
unfolding func_in
same_funcs s c h = fun_ext (λ i. ap (λ xs. option_and_then core_type_of (slice_get xs i)) h.functions)
