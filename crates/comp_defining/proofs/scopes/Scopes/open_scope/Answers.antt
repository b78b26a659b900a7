use Rattle.std.proofs.Common.{sym, subst, refl, ℕ}
use Rattle.comp_types.specs.Spaces.{empty_space}
use Rattle.comp_scopes.specs.Stands.{Stands}
use Rattle.type_table.proofs.ScopeLaws.{covers_empty}
use Rattle.comp_defining.proofs.AroundLemmas.{pushed}
use Rattle.comp_defining.proofs.scopes.Scopes.open_scope.Goals as goal

pub returns : goal.returns
returns c = λ around s h e. record {
  inner = subst (Stands (empty_space c.args.is_component s.next)) (sym c.replace-scope.ensures.after)
      (subst (λ (n : ℕ). Stands (empty_space c.args.is_component n) c.new-inner.result) h.inner.rest.next c.new-inner.ensures);
  inside = e;
  outer = pushed around s c.args.self.now _ _ h c.replace-scope.ensures.value refl c.in_ok-push.ensures.items;
  covered = (covers_empty c.args.self.now.types c.args.is_component s.next h.covered.0.sound, h.covered);
}
