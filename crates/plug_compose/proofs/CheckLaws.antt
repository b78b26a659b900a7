-- What is checked of the whole.
use Rattle.std.proofs.Common.{◌≡◌, ◌∙◌, sym, ap, subst, List, [], ◌∷◌, Ok}
use Rattle.comp_grammar.specs.Trees.{Tree}
use Rattle.comp_types.specs.Items.{Entries, Signature}
use Rattle.comp_validate.specs.Answer.{Answers}
use Rattle.comp_signature.specs.Signatures.{component_signature}
use Rattle.comp_signature.specs.declared.ComponentType.{ComponentType}
use Rattle.output_same.specs.Holding.{components_in}
use Rattle.comp_joined.specs.Form.{IsJoining}
use Rattle.wasi_match.specs.Listed.{IsListed}
use Rattle.wasi_match.specs.declared.listed.Listed.{Listed}
use Rattle.wasi_match.specs.declared.listed.ListedUse.{ListedUse}
use Rattle.plug_compose.specs.Plugged.{IsRight}

pub is_right : (whole : Tree) (exported : Entries) (imported : List ListedUse) (ty : ComponentType) (l : Listed) → Answers whole (Ok ty) → IsListed (component_signature ty) l.uses → l.uses ≡ imported → ty.exports ≡ exported
    → ((first second : Tree) → components_in whole ≡ first ∷ second ∷ [] → IsJoining first second whole) → IsRight whole exported imported ty l
is_right whole exported imported ty l valid listed imports exports joins = record {
  valid = valid.0;
  typed = valid.1;
  listed = subst (λ (s : Signature). IsListed s l.uses) valid.1 listed;
  imports = imports;
  exports = sym (ap (λ (s : Signature). s.exports) valid.1) ∙ exports;
  joins = joins;
}
