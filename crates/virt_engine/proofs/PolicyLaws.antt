-- The policy that a text stands for, and the status that a fault of it calls for.
use Rattle.std.proofs.Common.{◌≡◌, ℕ, ◌≤◌, List, Bool, true, false, refl, sym, ap, subst, ◌∙◌, length, inr, inl, Ok, Err}
use Rattle.std.specs.Prelude.{Option, Some, None, Result, IsUtf8, codes}
use Rattle.std.proofs.lemmas.Bool.{le-ltb}
use Rattle.outside.specs.Files.{Held}
use Rattle.std.specs.Str.{is_utf8}
use Rattle.std.proofs.lemmas.Str.{is_utf8-from_IsUtf8, IsUtf8-from_is_utf8}
use Rattle.toml.specs.Data.{Members}
use Rattle.toml.specs.Parse.{parse_document}
use Rattle.policy_data.specs.declared.policy.Policy.{Policy}
use Rattle.policy_data.specs.declared.fault.ReadPolicyFault.{ReadPolicyFault}
use Rattle.policy_data.specs.declared.fault.ReadPolicyFault.TheVariants.{NotToml, BadKey, BadValue, BadName, OverLimit, NoMemory}
use Rattle.policy_toml.specs.Policy.{policy_of, IsWellFormed, GivesPolicy}
use Rattle.virt_engine.specs.declared.status.Status.{Status}
use Rattle.virt_engine.specs.declared.status.Status.TheVariants.{Done, Usage}
use Rattle.virt_engine.specs.Fetching.{with_input}
use Rattle.virt_engine.specs.Policies.{policy_limit, policy_due, document_due, refused_for, with_policy, policy_verdict, IsPolicyVerdict, IsPolicyFile, ReadsPolicy}

due_of : (text : List ℕ) → is_utf8 text ≡ true → policy_due text ≡ document_due (parse_document text)
unfolding policy_due parse_document
due_of text e = rw e refl

document_is_due : (text : List ℕ) (ms : Members) (due : Result Policy ReadPolicyFault) → IsUtf8 text → parse_document text ≡ Some ms → policy_of ms ≡ due → policy_due text ≡ due
document_is_due text ms due utf e p = due_of text (is_utf8-from_IsUtf8 text utf) ∙ ap document_due e ∙ p

pub well_formed_due : (text : List ℕ) (policy : Policy) → IsWellFormed text policy → policy_due text ≡ Ok policy
well_formed_due text policy w = document_is_due text w.1 (Ok policy) w.0 w.2 w.3

not_toml : (text : List ℕ) (b : Bool) → is_utf8 text ≡ b → (IsUtf8 text → parse_document text ≡ None) → policy_due text ≡ Err NotToml
unfolding policy_due
not_toml text true e none = due_of text e ∙ ap document_due (none (IsUtf8-from_is_utf8 text e))
not_toml text false e none = rw e refl

known : (text : List ℕ) (fault : ReadPolicyFault) → policy_due text ≡ Err fault → ReadsPolicy text (Err (refused_for fault))
known text fault due = inr (fault, due, refl)

reads_refused : (text : List ℕ) (fault : ReadPolicyFault) → GivesPolicy text (Err fault) → ReadsPolicy text (Err (refused_for fault))
reads_refused text NotToml h = known text NotToml (not_toml text (is_utf8 text) refl h)
reads_refused text (BadKey path) h = known text (BadKey path) (document_is_due text h.1 (Err (BadKey path)) h.0 h.2 h.3)
reads_refused text (BadValue path) h = known text (BadValue path) (document_is_due text h.1 (Err (BadValue path)) h.0 h.2 h.3)
reads_refused text (BadName path) h = known text (BadName path) (document_is_due text h.1 (Err (BadName path)) h.0 h.2 h.3)
reads_refused text (OverLimit path value) h = known text (OverLimit path value) (document_is_due text h.1 (Err (OverLimit path value)) h.0 h.2 h.3)
reads_refused text NoMemory h = inl refl

pub reads_fault : (text : List ℕ) (fault : ReadPolicyFault) (status : Status) → GivesPolicy text (Err fault) → refused_for fault ≡ status → ReadsPolicy text (Err status)
reads_fault text fault status h e = subst (λ (v : Status). ReadsPolicy text (Err v)) e (reads_refused text fault h)

-- ---- a policy's file

-- what is due of a file within its limit is what comes next
pub input_here : (file : Option (List ℕ)) (bytes what name : List ℕ) (limit : ℕ) (next : List ℕ → Status) → file ≡ Some bytes → length bytes ≤ limit → with_input file what limit name next ≡ next bytes
input_here file bytes what name limit next e short = rw (e, le-ltb _ _ short) refl

-- its text decides
pub text_decides : (held : Held) (name text : List ℕ) → held.file name ≡ Some text → length text ≤ policy_limit → (next : Policy → Status) → policy_verdict held name next ≡ with_policy (policy_due text) next
text_decides held name text there short next = input_here (held.file name) text (codes "policy-bytes") name policy_limit (λ z. with_policy (policy_due z) next) there short

pub policy_decides : (held : Held) (name : List ℕ) (policy : Policy) → IsPolicyFile held name policy → (next : Policy → Status) → policy_verdict held name next ≡ next policy
policy_decides held name policy f next =
    text_decides held name f.text f.there f.short next ∙ ap (λ (due : Result Policy ReadPolicyFault). with_policy due next) (well_formed_due f.text policy f.well_formed)

done_or_usage : Done ≡ Usage → ⊥
done_or_usage h = cc

-- so it is not refused
pub policy_stands : (held : Held) (name : List ℕ) (policy : Policy) (status : Status) → IsPolicyFile held name policy → IsPolicyVerdict held name status → ⊥
policy_stands held name policy status f h =
    done_or_usage (sym (policy_decides held name policy f (λ p. Done)) ∙ h (λ p. Done) ∙ sym (h (λ p. Usage)) ∙ policy_decides held name policy f (λ p. Usage))

same_some : (a b : List ℕ) → Some a ≡ Some b → a ≡ b
same_some a b e = cc

same_ok : (a b : Policy) → ◌≡◌ {A = Result Policy ReadPolicyFault} (Ok a) (Ok b) → a ≡ b
same_ok a b e = cc

pub one_policy : (held : Held) (name : List ℕ) (a b : Policy) → IsPolicyFile held name a → IsPolicyFile held name b → a ≡ b
one_policy held name a b f g =
    let text : f.text ≡ g.text = same_some f.text g.text (sym f.there ∙ g.there) in
    same_ok a b (sym (well_formed_due f.text a f.well_formed) ∙ ap policy_due text ∙ well_formed_due g.text b g.well_formed)
