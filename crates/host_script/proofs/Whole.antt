-- Faults of a script as a whole.
use Rattle.std.proofs.Common.{◌≡◌, ◌≢◌, ◌∙◌, ℕ, List, length, refl, ap, sym, Bool, true, false, codes, arith}
use Rattle.std.specs.Prelude.{Option, Some, None, Result, Ok, Err, option_map, IsUtf8, if◌then◌else◌}
use Rattle.std.specs.Str.{is_utf8}
use Rattle.std.proofs.lemmas.Str.{is_utf8-from_IsUtf8, IsUtf8-from_is_utf8}
use Rattle.serde_json.specs.Data.{Data}
use Rattle.serde_json.specs.Read.{read}
use Rattle.serde_json.specs.Errors.{IsMemory}
use Rattle.serde_json.specs.declared.error.Error.{Error}
use Rattle.host_port.specs.Untyped.{Untyped, Members}
use Rattle.host_script.specs.Json.{untyped}
use Rattle.host_script.specs.declared.fault.ScriptFault.{ScriptFault}
use Rattle.host_script.specs.declared.fault.ScriptFault.TheVariants.{BadScript, NoMemory}
use Rattle.host_script.specs.declared.script.Script.{Script}
use Rattle.host_script.specs.Script.{Exports, Gives, IsBad, IsNoJson, and_then, array_in, value_at, unless_bad, first_unknown, made_of, script_in, due_script, script_of, script_seen, json_in}

-- a fault at the path that is due
pub bad_given : {A B : Type 0} (see : A → B) (due : Result B ScriptFault) (path : List ℕ) (fault : ScriptFault) → IsBad path fault → due ≡ Err (BadScript path) → Gives see due (Err fault)
bad_given see due path (BadScript kept) is d = d ∙ ap (λ p. Err (BadScript p)) (sym is)
bad_given see due path NoMemory is d = tt

pub ruleset bads = (bad_given)

-- ---- what is no JSON

pub json_is : (bytes : List ℕ) (d : Data) → IsUtf8 bytes → read bytes ≡ Some d → json_in bytes ≡ Some (untyped d)
json_is bytes d text is = ap (λ b. if b then option_map untyped (read bytes) else None) (is_utf8-from_IsUtf8 bytes text) ∙ ap (option_map untyped) is

by_test : (b : Bool) (o : Option Data) → (b ≡ true → o ≡ None) → (if b then option_map untyped o else None) ≡ None
by_test true o h = ap (option_map untyped) (h refl)
by_test false o h = refl

pub none_read : (bytes : List ℕ) → (IsUtf8 bytes → read bytes ≡ None) → json_in bytes ≡ None
none_read bytes h = by_test (is_utf8 bytes) (read bytes) (λ e. h (IsUtf8-from_is_utf8 bytes e))

pub no_json_given : (exports : Exports) (bytes : List ℕ) (e : Error) (fault : ScriptFault) → IsNoJson e fault → ((IsMemory e → ⊥) → IsUtf8 bytes → read bytes ≡ None)
    → Gives script_seen (due_script exports (json_in bytes)) (Err fault)
no_json_given exports bytes e (BadScript path) is h = ap (due_script exports) (none_read bytes (h is.0)) ∙ ap (λ p. Err (BadScript p)) (sym is.1)
no_json_given exports bytes e NoMemory is h = tt

pub json_given : (exports : Exports) (bytes : List ℕ) (d : Data) (r : Result Script ScriptFault) → IsUtf8 bytes → read bytes ≡ Some d → Gives script_seen (script_of exports (untyped d)) r
    → Gives script_seen (due_script exports (json_in bytes)) r
json_given exports bytes d r text is h = rw (json_is bytes d text is) h

-- a fault is the same of a script that is read whole
pub fault_given : {A B C : Type 0} (see : A → B) (other : C → B) (due : Result B ScriptFault) (fault : ScriptFault) → Gives see due (Err fault) → Gives other due (Err fault)
fault_given see other due (BadScript path) h = h
fault_given see other due NoMemory h = tt

-- two texts that are read alike
pub json_same : (bytes text : List ℕ) (d : Data) → IsUtf8 bytes → read bytes ≡ Some d → IsUtf8 text → read text ≡ Some d → json_in bytes ≡ json_in text
json_same bytes text d utf8 is utf8' same = json_is bytes d utf8 is ∙ sym (json_is text d utf8' same)

-- ---- the two arrays

pub not_answers : codes "calls" ≢ codes "answers"
not_answers e = let h = ap length e in omega (arith, h)

keys_passed : (exports : Exports) (ms : Members) → unless_bad (first_unknown ms) ≡ Ok tt
    → script_in exports ms ≡ and_then (array_in (codes "answers") (value_at (codes "answers") ms)) (λ answers. and_then (array_in (codes "calls") (value_at (codes "calls") ms)) (λ calls. made_of exports answers calls))
keys_passed exports ms h = ap (λ r. and_then r (λ _. and_then (array_in (codes "answers") (value_at (codes "answers") ms)) (λ answers. and_then (array_in (codes "calls") (value_at (codes "calls") ms)) (λ calls. made_of exports answers calls)))) h

pub keys_wrong : (exports : Exports) (ms : Members) (e : ScriptFault) → unless_bad (first_unknown ms) ≡ Err e → script_in exports ms ≡ Err e
keys_wrong exports ms e h = ap (λ r. and_then r (λ _. and_then (array_in (codes "answers") (value_at (codes "answers") ms)) (λ answers. and_then (array_in (codes "calls") (value_at (codes "calls") ms)) (λ calls. made_of exports answers calls)))) h

pub answers_wrong : (exports : Exports) (ms : Members) (o : Option Untyped) (e : ScriptFault) → unless_bad (first_unknown ms) ≡ Ok tt → o ≡ value_at (codes "answers") ms
    → array_in (codes "answers") o ≡ Err e → script_in exports ms ≡ Err e
answers_wrong exports ms o e keys is wrong =
    keys_passed exports ms keys
    ∙ ap (λ r. and_then r (λ answers. and_then (array_in (codes "calls") (value_at (codes "calls") ms)) (λ calls. made_of exports answers calls))) (ap (array_in (codes "answers")) (sym is) ∙ wrong)

pub calls_next : (exports : Exports) (ms : Members) (o p : Option Untyped) (answers : _) → unless_bad (first_unknown ms) ≡ Ok tt → o ≡ value_at (codes "answers") ms → array_in (codes "answers") o ≡ Ok answers
    → p ≡ value_at (codes "calls") ms → script_in exports ms ≡ and_then (array_in (codes "calls") p) (λ calls. made_of exports answers calls)
calls_next exports ms o p answers keys is there same =
    keys_passed exports ms keys
    ∙ (ap (λ r. and_then r (λ items. and_then (array_in (codes "calls") (value_at (codes "calls") ms)) (λ calls. made_of exports items calls))) (ap (array_in (codes "answers")) (sym is) ∙ there)
    ∙ ap (λ q. and_then (array_in (codes "calls") q) (λ calls. made_of exports answers calls)) (sym same))
