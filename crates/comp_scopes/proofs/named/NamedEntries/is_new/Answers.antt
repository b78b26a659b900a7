use Rattle.std.proofs.Common.{◌∙◌, ap, is_some, not}
use Rattle.std.specs.BTreeMap.{get_by_text}
use Rattle.comp_names.specs.Same.{folded}
use Rattle.comp_scopes.proofs.named.NamedEntries.is_new.Goals as goal

pub returns : goal.returns
returns c = λ es h.
    ap not (c.contains_key.ensures
    ∙ (ap (λ b. is_some (get_by_text c.args.self.now.seen b)) (c.as_str-2.ensures.value ∙ (c.in_ok-key.ensures.ok ∙ ap folded c.as_str.ensures))
    ∙ h.seen c.args.name.now))
