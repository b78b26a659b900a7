-- Lines put together.
use Rattle.std.proofs.Common.{◌≡◌, ℕ, List, [], ◌∷◌, ◌++◌, ◌∙◌, refl, ap, sym, append_assoc}
use Rattle.wit_types.specs.Plain.{Name}
use Rattle.adapter_world.specs.Names.{named}
use Rattle.adapter_world.specs.declared.needs.NeededInterface.{NeededInterface}
use Rattle.inspect_engine.specs.Texts.{names_text, import_text, output_line}

names_joined : (import : Name) (a b : List Name) → names_text import (a ++ b) ≡ names_text import a ++ names_text import b
names_joined import [] b = refl
names_joined import (n ∷ ns) b = ap (λ t. output_line import n ++ t) (names_joined import ns b) ∙ sym (append_assoc (output_line import n) (names_text import ns) (names_text import b))

-- the names of an interface, kind by kind
pub import_joined : (before : List ℕ) (one : NeededInterface)
    → ((before ++ names_text one.name one.uses) ++ names_text one.name one.types) ++ names_text one.name one.names ≡ before ++ import_text (named one)
import_joined before one =
    let u = names_text one.name one.uses in
    let t = names_text one.name one.types in
    let n = names_text one.name one.names in
    let all : import_text (named one) ≡ (u ++ t) ++ n =
    names_joined one.name (one.uses ++ one.types) one.names ∙ ap (λ x. x ++ n) (names_joined one.name one.uses one.types) in
    append_assoc (before ++ u) t n ∙ append_assoc before u (t ++ n) ∙ ap (λ x. before ++ x) (sym (append_assoc u t n) ∙ sym all)
