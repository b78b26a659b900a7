-- Bytes are refused for one cause alone.
use Rattle.std.proofs.Common.{◌≡◌, ◌≢◌, ◌∙◌, ◌⊎◌, refl, sym, ap, subst, ℕ, ◌<◌, ◌≤◌, List, length, Option, Some, None, Err, inl, inr, arith}
use Rattle.std.specs.Prelude.{codes}
use Rattle.virt_base.specs.declared.fault.AppFault.{AppFault}
use Rattle.virt_base.specs.declared.fault.AppFault.TheVariants.{Malformed, Unsupported, Invalid, Unlisted, WrongType, TwoVersions, HandleExport}
use Rattle.comp_grammar.specs.Trees.{Tree}
use Rattle.comp_read.specs.Answers.{IsTheComponent, Answers}
use Rattle.comp_read.specs.declared.reading.CompReadFault.{CompReadFault}
use Rattle.comp_read.specs.declared.reading.CompReadFault.TheVariants as read_faults
use Rattle.comp_types.specs.Items.{Signature}
use Rattle.comp_types.specs.Added.{type_of}
use Rattle.comp_types.specs.Validity.{BreaksComponent, IsValidComponent}
use Rattle.comp_types.proofs.VerdictLaws.{fault_is_one, valid_breaks_nothing}
use Rattle.component_judge.specs.Sizes.{tree_code, capped}
use Rattle.wasi_match.specs.declared.fault.Cause.TheVariants as causes
use Rattle.wasi_match.specs.Verdicts.{Verdict, Accepted, Refused as RefusedFor, IsVerdict}
use Rattle.wasi_match.proofs.VerdictLaws.{one_verdict}
use Rattle.component_judge.proofs.ReadLaws.{one_read_fault, unread_no_component}
use Rattle.component_judge.specs.declared.refusal.Refusal.{Refusal}
use Rattle.component_judge.specs.declared.refusal.Refusal.TheVariants.{Refused, OverLimit, BadScript, NoMemory}
use Rattle.component_judge.specs.declared.limits.Purpose.{Purpose}
use Rattle.component_judge.specs.declared.limits.Purpose.TheVariants.{Run}
use Rattle.component_judge.specs.Limits.{bytes_limit, bytes_name, code_limit, Keeps, Passes}
use Rattle.component_judge.specs.Components.{Faulting, IsTooMuch, IsMisfit, IsUnfit, IsRefusalBy, IsRefusal}
use Rattle.component_judge.proofs.Keeping.{keeps_or_passes}
use Rattle.component_judge.specs.Applications.{IsUnlisted, IsApplicationRefusal}

-- ---- why bytes are refused: each question is asked where those before it have a good answer

abbrev unread_as : CompReadFault → Refusal
unread_as (read_faults.Malformed at) = Refused (Malformed at)
unread_as (read_faults.Unsupported at byte) = Refused (Unsupported at byte)
unread_as (read_faults.TooNested depth) = OverLimit (codes "nesting") depth
unread_as read_faults.NoMemory = NoMemory

record IsLong (p : Purpose) (bytes : List ℕ) (refusal : Refusal) : Type 0 where
  long : bytes_limit p < length bytes
  is : refusal ≡ OverLimit (bytes_name p) (length bytes)

record IsUnreadFor (bytes : List ℕ) (refusal : Refusal) : Type 0 where
  fault : CompReadFault
  known : fault ≢ read_faults.NoMemory
  unread : Answers (Err fault) bytes
  is : refusal ≡ unread_as fault

record HasMuch (p : Purpose) (bytes : List ℕ) (tree : Tree) (refusal : Refusal) : Type 0 where
  much : Passes (code_limit p) (tree_code bytes tree)
  is : refusal ≡ OverLimit (codes "code-bytes") (capped (tree_code bytes tree))

record IsBroken (tree : Tree) (refusal : Refusal) : Type 0 where
  rule : ℕ
  section : ℕ
  breaks : BreaksComponent tree rule section
  is : refusal ≡ Refused (Invalid rule section)

record IsFaulty (AtFault : Faulting) (tree : Tree) (refusal : Refusal) : Type 0 where
  fault : AppFault
  valid : IsValidComponent tree
  at : AtFault (type_of tree) fault
  is : refusal ≡ Refused fault

-- of a component within its limits
abbrev Faults : Faulting → Tree → Refusal → Type 0
Faults AtFault tree refusal = IsBroken tree refusal ⊎ IsFaulty AtFault tree refusal

abbrev OfTree : Purpose → Faulting → List ℕ → Tree → Refusal → Type 0
OfTree p AtFault bytes tree refusal = HasMuch p bytes tree refusal ⊎ (Keeps (code_limit p) (tree_code bytes tree) × Faults AtFault tree refusal)

record IsSpelledFor (p : Purpose) (AtFault : Faulting) (bytes : List ℕ) (refusal : Refusal) : Type 0 where
  tree : Tree
  spelled : IsTheComponent tree bytes
  why : OfTree p AtFault bytes tree refusal

abbrev OfShort : Purpose → Faulting → List ℕ → Refusal → Type 0
OfShort p AtFault bytes refusal = IsUnreadFor bytes refusal ⊎ IsSpelledFor p AtFault bytes refusal

abbrev Why : Purpose → Faulting → List ℕ → Refusal → Type 0
Why p AtFault bytes refusal = IsLong p bytes refusal ⊎ ((length bytes ≤ bytes_limit p) × OfShort p AtFault bytes refusal)

-- how types are at fault, in one way alone
pub record IsOne (AtFault : Faulting) : Type 0 where
  pub one : (ty : Signature) (a b : AppFault) → AtFault ty a → AtFault ty b → a ≡ b

over_same : (a b : List ℕ) (v w : ℕ) → a ≡ b → v ≡ w → OverLimit a v ≡ OverLimit b w
over_same a b v w e f = λ i. OverLimit (e i) (f i)

module _ (p : Purpose) (AtFault : Faulting) (bytes : List ℕ) where
  why_misfit : (fault : AppFault) → IsMisfit p AtFault bytes fault → Why p AtFault bytes (Refused fault)
  why_misfit fault h = inr (
    h.1.small.short,
    inr (record {
      tree = h.0;
      spelled = h.1.small.spelled;
      why = inr (h.1.small.code, inr (record { fault = fault; valid = h.1.valid; at = h.2; is = refl }));
    }),
  )

  why_over : (what : List ℕ) (value : ℕ) → IsTooMuch p bytes what value → Why p AtFault bytes (OverLimit what value)
  why_over what value (inl h) = inl (record { long = h.1; is = over_same what (bytes_name p) value (length bytes) h.0 h.2 })
  why_over what value (inr (inl h)) =
      inr (h.1.0, inl (record { fault = read_faults.TooNested value; known = λ e. cc; unread = h.1.1; is = over_same what (codes "nesting") value value h.0 refl }))
  why_over what value (inr (inr h)) = inr (
    h.1.short,
    inr (record {
      tree = h.1.tree;
      spelled = h.1.spelled;
      why = inl (record { much = h.1.much; is = over_same what (codes "code-bytes") value (capped (tree_code bytes h.1.tree)) h.0 h.1.told });
    }),
  )

  why : (refusal : Refusal) → refusal ≢ NoMemory → IsRefusalBy p AtFault bytes refusal → Why p AtFault bytes refusal
  why (Refused (Malformed at)) known h = inr (h.0, inl (record { fault = read_faults.Malformed at; known = λ e. cc; unread = h.1; is = refl }))
  why (Refused (Unsupported at byte)) known h = inr (h.0, inl (record { fault = read_faults.Unsupported at byte; known = λ e. cc; unread = h.1; is = refl }))
  why (Refused (Invalid rule section)) known h = inr (
    h.1.short,
    inr (record {
      tree = h.0;
      spelled = h.1.spelled;
      why = inr (h.1.code, inl (record { rule = rule; section = section; breaks = h.2; is = refl }));
    }),
  )
  why (Refused (Unlisted name)) known h = why_misfit (Unlisted name) h
  why (Refused (WrongType name)) known h = why_misfit (WrongType name) h
  why (Refused (TwoVersions name)) known h = why_misfit (TwoVersions name) h
  why (Refused (HandleExport name)) known h = why_misfit (HandleExport name) h
  why (OverLimit what value) known h = why_over what value h
  why (BadScript path) known h = absurd h
  why NoMemory known h = absurd (known refl)

  -- ---- two of them

  module _ (ones : IsOne AtFault) where
    of_faults : (tree : Tree) (a b : Refusal) → Faults AtFault tree a → Faults AtFault tree b → a ≡ b
    of_faults tree a b (inl u) (inl v) =
        let one = fault_is_one tree u.rule v.rule u.section v.section u.breaks v.breaks in
        u.is ∙ ap (λ n. Refused (Invalid n u.section)) one.0 ∙ ap (λ n. Refused (Invalid v.rule n)) one.1 ∙ sym v.is
    of_faults tree a b (inl u) (inr v) = absurd (valid_breaks_nothing tree u.rule u.section v.valid u.breaks)
    of_faults tree a b (inr u) (inl v) = absurd (valid_breaks_nothing tree v.rule v.section u.valid v.breaks)
    of_faults tree a b (inr u) (inr v) = u.is ∙ ap Refused (ones.one (type_of tree) u.fault v.fault u.at v.at) ∙ sym v.is

    of_tree : (tree : Tree) (a b : Refusal) → OfTree p AtFault bytes tree a → OfTree p AtFault bytes tree b → a ≡ b
    of_tree tree a b (inl u) (inl v) = u.is ∙ sym v.is
    of_tree tree a b (inl u) (inr v) = absurd (keeps_or_passes (code_limit p) (tree_code bytes tree) v.0 u.much)
    of_tree tree a b (inr u) (inl v) = absurd (keeps_or_passes (code_limit p) (tree_code bytes tree) u.0 v.much)
    of_tree tree a b (inr u) (inr v) = of_faults tree a b u.1 v.1

    unread_spelled : (refusal : Refusal) (tree : Tree) → IsUnreadFor bytes refusal → IsTheComponent tree bytes → ⊥
    unread_spelled refusal tree u h = unread_no_component bytes u.fault u.known u.unread tree h.0

    of_short : (a b : Refusal) → OfShort p AtFault bytes a → OfShort p AtFault bytes b → a ≡ b
    of_short a b (inl u) (inl v) = u.is ∙ ap unread_as (one_read_fault bytes u.fault v.fault u.known v.known u.unread v.unread) ∙ sym v.is
    of_short a b (inl u) (inr v) = absurd (unread_spelled a v.tree u v.spelled)
    of_short a b (inr u) (inl v) = absurd (unread_spelled b u.tree v u.spelled)
    of_short a b (inr u) (inr v) =
        let same : v.tree ≡ u.tree = u.spelled.1 v.tree v.spelled.0.0 in
        of_tree u.tree a b u.why (subst (λ (t : Tree). OfTree p AtFault bytes t b) same v.why)

    both : (a b : Refusal) → Why p AtFault bytes a → Why p AtFault bytes b → a ≡ b
    both a b (inl u) (inl v) = u.is ∙ sym v.is
    both a b (inl u) (inr v) = absurd (omega (arith, u.long, v.0))
    both a b (inr u) (inl v) = absurd (omega (arith, u.0, v.long))
    both a b (inr u) (inr v) = of_short a b u.1 v.1

    pub one : (a b : Refusal) → a ≢ NoMemory → b ≢ NoMemory → IsRefusalBy p AtFault bytes a → IsRefusalBy p AtFault bytes b → a ≡ b
    one a b x y h g = both a b (why a x h) (why b y g)

some_same : (a b : AppFault) → Some a ≡ Some b → a ≡ b
some_same a b e = cc

-- ---- over a script alone

unfit_is_one : IsOne IsUnfit
unfit_is_one = record { one = λ ty a b h g. some_same a b (sym h ∙ g) }

pub one_refusal : (bytes : List ℕ) (a b : Refusal) → a ≢ NoMemory → b ≢ NoMemory → IsRefusal bytes a → IsRefusal bytes b → a ≡ b
one_refusal bytes a b x y h g = one Run IsUnfit bytes unfit_is_one a b x y h g

-- ---- under a policy

-- the fault that a verdict of a type calls for
abbrev fault_by : Verdict → Option AppFault
fault_by (Accepted uses) = None
fault_by (RefusedFor causes.Unlisted name) = Some (Unlisted name)
fault_by (RefusedFor causes.TwoVersions name) = Some (TwoVersions name)
fault_by (RefusedFor causes.WrongType name) = Some (WrongType name)
fault_by (RefusedFor causes.HandleExport name) = Some (HandleExport name)

verdict_for : (ty : Signature) (fault : AppFault) → IsUnlisted ty fault → (v : Verdict) × IsVerdict ty v × (fault_by v ≡ Some fault)
verdict_for ty (Unlisted name) h = (RefusedFor causes.Unlisted name, h, refl)
verdict_for ty (TwoVersions name) h = (RefusedFor causes.TwoVersions name, h, refl)
verdict_for ty (WrongType name) h = (RefusedFor causes.WrongType name, h, refl)
verdict_for ty (HandleExport name) h = (RefusedFor causes.HandleExport name, h, refl)
verdict_for ty (Malformed at) h = absurd h
verdict_for ty (Unsupported at byte) h = absurd h
verdict_for ty (Invalid rule section) h = absurd h

pub one_unlisted : (ty : Signature) (a b : AppFault) → IsUnlisted ty a → IsUnlisted ty b → a ≡ b
one_unlisted ty a b h g =
    let v = verdict_for ty a h in
    let w = verdict_for ty b g in
    some_same a b (sym v.2 ∙ ap fault_by (one_verdict ty v.0 w.0 v.1 w.1) ∙ w.2)

pub unlisted_is_one : IsOne IsUnlisted
unlisted_is_one = record { one = one_unlisted }

pub one_application_refusal : (p : Purpose) (bytes : List ℕ) (a b : Refusal) → a ≢ NoMemory → b ≢ NoMemory → IsApplicationRefusal p bytes a → IsApplicationRefusal p bytes b → a ≡ b
one_application_refusal p bytes a b x y h g = one p IsUnlisted bytes unlisted_is_one a b x y h g
