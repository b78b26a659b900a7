-- Refusals of a component, one step after another.
use Rattle.std.proofs.Common.{◌≡◌, ◌∙◌, ℕ, ◌≤◌, ◌<◌, List, refl, sym, subst, length, codes, inl, inr, Bool, true, false, arith}
use Rattle.std.specs.Prelude.{Option, Some, None, option_map, Result, Ok, Err}
use Rattle.std.proofs.lemmas.Bool.{false≢true}
use Rattle.virt_base.specs.declared.fault.AppFault.{AppFault}
use Rattle.virt_base.specs.declared.fault.AppFault.TheVariants.{Malformed, Unsupported, Invalid, Unlisted, WrongType, TwoVersions, HandleExport}
use Rattle.wit_types.specs.Plain.{Name}
use Rattle.comp_grammar.specs.Trees.{Tree}
use Rattle.comp_types.specs.Items.{Signature}
use Rattle.comp_read.specs.Answers.{IsTheComponent, Answers as ReadAnswers}
use Rattle.comp_read.specs.declared.reading.CompReadFault.TheVariants as read_faults
use Rattle.comp_types.specs.Added.{type_of}
use Rattle.component_judge.specs.Sizes.{tree_code, capped}
use Rattle.component_judge.specs.declared.refusal.Refusal.{Refusal}
use Rattle.component_judge.specs.declared.refusal.Refusal.TheVariants.{Refused, OverLimit, BadScript, NoMemory}
use Rattle.component_judge.specs.declared.component.Judged.{Judged}
use Rattle.component_judge.specs.declared.limits.Purpose.{Purpose}
use Rattle.component_judge.specs.declared.limits.Purpose.TheVariants.{Run}
use Rattle.component_judge.specs.Limits.{bytes_limit, IsOver, IsWithin}
use Rattle.component_judge.specs.Types.{first_unmet, first_handle, or_later, type_fault, Fits}
use Rattle.component_judge.specs.Components.{Faulting, IsSmall, IsSound, IsUnfit, IsNeverAtFault, IsMisfit, IsRefusalBy, IsRefusal, Judges, JudgesSound, Reads, HasFewBytes, HasFewCode, HasLittleCode, Validates}

-- ---- quantities

pub over : (what : List ℕ) (limit value : ℕ) (fault : Refusal) → IsOver what value fault → limit < value → IsWithin what limit value (Err fault)
over what limit value (OverLimit kept v) h k = (k, h.0, h.1)
over what limit value NoMemory h k = tt
over what limit value (Refused fault) h k = absurd h
over what limit value (BadScript path) h k = absurd h

pub nested : (bytes : List ℕ) (depth : ℕ) (fault : Refusal) → IsOver (codes "nesting") depth fault → ReadAnswers (Err (read_faults.TooNested depth)) bytes → Reads bytes (Err fault)
nested bytes depth (OverLimit kept v) h k = (h.0, subst (λ n. ReadAnswers (Err (read_faults.TooNested n)) bytes) (sym h.1) k)
nested bytes depth NoMemory h k = tt
nested bytes depth (Refused fault) h k = absurd h
nested bytes depth (BadScript path) h k = absurd h

pub few_code : (bytes : List ℕ) (tree : Tree) (value : ℕ) (r : Result (Unit {0}) Refusal) → value ≡ capped (tree_code bytes tree) → IsWithin (codes "code-bytes") 67108864 value r → HasLittleCode bytes tree r
few_code bytes tree value (Ok u) is h = omega (arith, is, h)
few_code bytes tree value (Err (OverLimit what v)) is h = (h.1, omega (arith, is, h.0), h.2 ∙ is)
few_code bytes tree value (Err NoMemory) is h = tt
few_code bytes tree value (Err (Refused fault)) is h = absurd h
few_code bytes tree value (Err (BadScript path)) is h = absurd h

-- ---- what each step refuses

pub too_long : (p : Purpose) (bytes : List ℕ) (e : Refusal) → HasFewBytes p (length bytes) (Err e) → IsRefusalBy p IsNeverAtFault bytes e
too_long p bytes (OverLimit what value) h = inl (h.1, h.0, h.2)
too_long p bytes NoMemory h = tt
too_long p bytes (Refused fault) h = absurd h
too_long p bytes (BadScript path) h = absurd h

pub unread : (p : Purpose) (bytes : List ℕ) (e : Refusal) → length bytes ≤ bytes_limit p → Reads bytes (Err e) → IsRefusalBy p IsNeverAtFault bytes e
unread p bytes (Refused (Malformed at)) short h = (short, h)
unread p bytes (Refused (Unsupported at byte)) short h = (short, h)
unread p bytes (Refused (Invalid rule section)) short h = absurd h
unread p bytes (Refused (Unlisted name)) short h = absurd h
unread p bytes (Refused (WrongType name)) short h = absurd h
unread p bytes (Refused (TwoVersions name)) short h = absurd h
unread p bytes (Refused (HandleExport name)) short h = absurd h
unread p bytes (OverLimit what value) short h = inr (inl (h.0, (short, h.1)))
unread p bytes (BadScript path) short h = absurd h
unread p bytes NoMemory short h = tt

pub much_code : (p : Purpose) (bytes : List ℕ) (tree : Tree) (e : Refusal) → length bytes ≤ bytes_limit p → IsTheComponent tree bytes → HasFewCode p bytes tree (Err e) → IsRefusalBy p IsNeverAtFault bytes e
much_code p bytes tree (OverLimit what value) short spelled h = inr (inr (h.0, record { tree = tree; short = short; spelled = spelled; much = h.1; told = h.2 }))
much_code p bytes tree NoMemory short spelled h = tt
much_code p bytes tree (Refused fault) short spelled h = absurd h
much_code p bytes tree (BadScript path) short spelled h = absurd h

pub invalid : (p : Purpose) (bytes : List ℕ) (tree : Tree) (e : Refusal) → IsSmall p bytes tree → Validates tree (Err e) → IsRefusalBy p IsNeverAtFault bytes e
invalid p bytes tree (Refused (Invalid rule section)) small h = (tree, small, h)
invalid p bytes tree (Refused (Malformed at)) small h = absurd h
invalid p bytes tree (Refused (Unsupported at byte)) small h = absurd h
invalid p bytes tree (Refused (Unlisted name)) small h = absurd h
invalid p bytes tree (Refused (WrongType name)) small h = absurd h
invalid p bytes tree (Refused (TwoVersions name)) small h = absurd h
invalid p bytes tree (Refused (HandleExport name)) small h = absurd h
invalid p bytes tree (OverLimit what value) small h = absurd h
invalid p bytes tree (BadScript path) small h = absurd h
invalid p bytes tree NoMemory small h = tt

-- what is refused where types are at fault so is refused where they are at fault otherwise too
pub refused_too : (p : Purpose) (AtFault Other : Faulting) → ((ty : Signature) (fault : AppFault) → AtFault ty fault → Other ty fault) → (bytes : List ℕ) (e : Refusal)
    → IsRefusalBy p AtFault bytes e → IsRefusalBy p Other bytes e
refused_too p AtFault Other more bytes (Refused (Malformed at)) h = h
refused_too p AtFault Other more bytes (Refused (Unsupported at byte)) h = h
refused_too p AtFault Other more bytes (Refused (Invalid rule section)) h = h
refused_too p AtFault Other more bytes (Refused (Unlisted name)) h = (h.0, h.1, more (type_of h.0) (Unlisted name) h.2)
refused_too p AtFault Other more bytes (Refused (WrongType name)) h = (h.0, h.1, more (type_of h.0) (WrongType name) h.2)
refused_too p AtFault Other more bytes (Refused (TwoVersions name)) h = (h.0, h.1, more (type_of h.0) (TwoVersions name) h.2)
refused_too p AtFault Other more bytes (Refused (HandleExport name)) h = (h.0, h.1, more (type_of h.0) (HandleExport name) h.2)
refused_too p AtFault Other more bytes (OverLimit what value) h = h
refused_too p AtFault Other more bytes (BadScript path) h = absurd h
refused_too p AtFault Other more bytes NoMemory h = tt

-- what is refused before its type is asked is refused however types are
pub before_type : (p : Purpose) (AtFault : Faulting) (bytes : List ℕ) (e : Refusal) → IsRefusalBy p IsNeverAtFault bytes e → IsRefusalBy p AtFault bytes e
before_type p AtFault bytes e h = refused_too p IsNeverAtFault AtFault (λ ty fault never. absurd never) bytes e h

-- a type is at fault by its imports or its exports alone
abbrev is_of_types : AppFault → Bool
is_of_types (Unlisted name) = true
is_of_types (HandleExport name) = true
is_of_types (Malformed at) = false
is_of_types (Unsupported at byte) = false
is_of_types (Invalid rule section) = false
is_of_types (WrongType name) = false
is_of_types (TwoVersions name) = false

of_types : (o p : Option Name) (fault : AppFault) → or_later (option_map Unlisted o) (option_map HandleExport p) ≡ Some fault → is_of_types fault ≡ true
of_types (Some n) p fault h = let same : Unlisted n ≡ fault = cc in subst (λ f. is_of_types f ≡ true) same refl
of_types None (Some n) fault h = let same : HandleExport n ≡ fault = cc in subst (λ f. is_of_types f ≡ true) same refl
of_types None None fault h = cc

misfit_by : (bytes : List ℕ) (fault : AppFault) → is_of_types fault ≡ true → IsMisfit Run IsUnfit bytes fault → IsRefusal bytes (Refused fault)
misfit_by bytes (Unlisted name) t h = h
misfit_by bytes (HandleExport name) t h = h
misfit_by bytes (WrongType name) t h = h
misfit_by bytes (TwoVersions name) t h = h
misfit_by bytes (Malformed at) t h = absurd (false≢true t)
misfit_by bytes (Unsupported at byte) t h = absurd (false≢true t)
misfit_by bytes (Invalid rule section) t h = absurd (false≢true t)

pub misfit : (bytes : List ℕ) (tree : Tree) (ty : Signature) (e : Refusal) → IsSound Run bytes tree → ty ≡ type_of tree → Fits ty (Err e) → IsRefusal bytes e
misfit bytes tree ty (Refused fault) sound same h =
    misfit_by bytes fault (of_types (first_unmet ty.imports) (first_handle ty.exports) fault h) (tree, sound, subst (λ (t : Signature). type_fault t ≡ Some fault) same h)
misfit bytes tree ty NoMemory sound same h = tt
misfit bytes tree ty (OverLimit what value) sound same h = absurd h
misfit bytes tree ty (BadScript path) sound same h = absurd h

-- ---- an answer that is handed on

pub leaves_sound : (p : Purpose) (bytes : List ℕ) (r : Result Judged Refusal) (e : Refusal) → r ≡ Err e → IsRefusalBy p IsNeverAtFault bytes e → JudgesSound p bytes r
leaves_sound p bytes r e same h = subst (λ (x : Result Judged Refusal). JudgesSound p bytes x) (sym same) h

pub leaves : (bytes : List ℕ) (r : Result Judged Refusal) (e : Refusal) → r ≡ Err e → IsRefusal bytes e → Judges bytes r
leaves bytes r e same h = subst (λ (x : Result Judged Refusal). Judges bytes x) (sym same) h
