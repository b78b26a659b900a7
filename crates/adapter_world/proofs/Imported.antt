-- What is needed of an interface, in its parts.
use Rattle.std.proofs.Common.{◌≡◌, ◌∙◌, ℕ, List, ◌++◌, map, ap}
use Rattle.std.specs.List.{flat_map}
use Rattle.wit_types.specs.Plain.{Name}
use Rattle.policy_data.specs.declared.policy.Policy.{Policy}
use Rattle.wasi_table.specs.declared.interface.Use.{Use}
use Rattle.wasi_table.specs.Plain.{PlainInterface, PlainNamed}
use Rattle.wasi_listed.specs.Listed.{described}
use Rattle.wasi_match.specs.declared.listed.ListedUse.{ListedUse}
use Rattle.adapter_world.specs.declared.type_names.TypeName.{TypeName}
use Rattle.adapter_world.specs.Needed.{func_name, needed_from}
use Rattle.adapter_world.specs.Names.{if_among, if_some, import_name, needed_import, types_among}

pub import_is : (p : Policy) (uses : List ListedUse) (types : List TypeName) (number : ℕ) (i : PlainInterface) (name : Name) (shown own names : List Name) →
    i ≡ described number → name ≡ import_name uses number i.name →
    shown ≡ flat_map (λ (u : Use). if_among types number u.name) i.uses → own ≡ flat_map (λ (t : PlainNamed). if_among types number t.name) i.types →
    names ≡ map func_name (needed_from p uses number 0 i.functions) →
    if_some name (shown ++ own ++ names) ≡ needed_import p uses types number (described number)
import_is p uses types number i name shown own names is n s o f =
    let all : shown ++ own ++ names ≡ types_among types number i ++ map func_name (needed_from p uses number 0 i.functions) =
    ap (λ (xs : List Name). xs ++ own ++ names) s
    ∙ ap (λ (xs : List Name). flat_map (λ (u : Use). if_among types number u.name) i.uses ++ xs ++ names) o
    ∙ ap (λ (xs : List Name). types_among types number i ++ xs) f in
    ap (λ (m : Name). if_some m (shown ++ own ++ names)) n ∙ ap (if_some (import_name uses number i.name)) all
    ∙ ap (λ (d : PlainInterface). if_some (import_name uses number d.name) (types_among types number d ++ map func_name (needed_from p uses number 0 d.functions))) is
