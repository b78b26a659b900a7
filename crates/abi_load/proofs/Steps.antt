-- One step of loading after another.
use Rattle.std.proofs.Common.{◌≡◌, ℕ, ◌+◌, ap, sym, ◌∙◌, List, Option, Some, None}
use Rattle.std.specs.Prelude.{if◌then◌else◌, nat_lt, option_and_then, option_map}
use Rattle.wit_types.specs.Plain.{Plain, Parts}
use Rattle.wit_types.specs.PlainValue.{PlainValue, Payload, VariantValue, Without}
use Rattle.wit_types.specs.Layout.{discriminant_size, count}
use Rattle.abi_layout.specs.Loading.{read, case_at, payload_offset, loads_at}
use Rattle.abi_load.specs.Loaded.{payload_at, chosen_at, variant_at, enum_at}
use Rattle.std.specs.Prelude.{Result, Ok, Err, IfOk}
use Rattle.abi_load.specs.declared.fault.LoadFault.{LoadFault}
use Rattle.wit_types.specs.declared.types.WitType.{WitType}
use Rattle.wit_types.specs.declared.value.Value.{Value}
use Rattle.wit_types.specs.Plain.{plain}
use Rattle.wit_types.specs.PlainValue.{plain_value}
use Rattle.wit_types.specs.HasType.{is_of, HasType}
use Rattle.abi_layout.proofs.TypeLaws.{passed, loaded_passes}

-- a variant
pub variant_of : (m : List ℕ) (cases : Parts) (at width n place : ℕ) (p : Payload) → width ≡ discriminant_size (count cases) → place ≡ at + payload_offset cases → read m at width ≡ Some n → case_at m cases n place ≡ Some p →
    variant_at m cases at ≡ Some (VariantValue n p)
variant_of m cases at width n place p wide there is so =
    ap (option_and_then (λ k. option_map (VariantValue k) (case_at m cases k (at + payload_offset cases)))) (ap (read m at) (sym wide) ∙ is)
    ∙ ap (λ k. option_map (VariantValue n) (case_at m cases n k)) (sym there) ∙ ap (option_map (VariantValue n)) so

pub variant_leads : (m : List ℕ) (cases : Parts) (at width n place : ℕ) (p : Option Plain) → width ≡ discriminant_size (count cases) → place ≡ at + payload_offset cases → read m at width ≡ Some n →
    case_at m cases n place ≡ payload_at m p place → variant_at m cases at ≡ chosen_at m n p place
variant_leads m cases at width n place p wide there is so =
    ap (option_and_then (λ k. option_map (VariantValue k) (case_at m cases k (at + payload_offset cases)))) (ap (read m at) (sym wide) ∙ is)
    ∙ ap (λ k. option_map (VariantValue n) (case_at m cases n k)) (sym there) ∙ ap (option_map (VariantValue n)) so

pub variant_none : (m : List ℕ) (cases : Parts) (at width n place : ℕ) → width ≡ discriminant_size (count cases) → place ≡ at + payload_offset cases → read m at width ≡ Some n → case_at m cases n place ≡ None →
    variant_at m cases at ≡ None
variant_none m cases at width n place wide there is so =
    ap (option_and_then (λ k. option_map (VariantValue k) (case_at m cases k (at + payload_offset cases)))) (ap (read m at) (sym wide) ∙ is)
    ∙ ap (λ k. option_map (VariantValue n) (case_at m cases n k)) (sym there) ∙ ap (option_map (VariantValue n)) so

pub variant_unread : (m : List ℕ) (cases : Parts) (at width : ℕ) → width ≡ discriminant_size (count cases) → read m at width ≡ None → variant_at m cases at ≡ None
variant_unread m cases at width wide is =
    ap (option_and_then (λ k. option_map (VariantValue k) (case_at m cases k (at + payload_offset cases)))) (ap (read m at) (sym wide) ∙ is)

pub enum_of : (m : List ℕ) (labels at width n : ℕ) (r : Option PlainValue) → width ≡ discriminant_size labels → read m at width ≡ Some n → (if nat_lt n labels then Some (VariantValue n Without) else None) ≡ r → enum_at m labels at ≡ r
enum_of m labels at width n r wide is so = ap (option_and_then (λ k. if nat_lt k labels then Some (VariantValue k Without) else None)) (ap (read m at) (sym wide) ∙ is) ∙ so

pub ok_typed : (m : List ℕ) (ty : WitType) (at : ℕ) (r : Result Value LoadFault) → IfOk r (λ v. loads_at m (plain ty) at ≡ Some (plain_value v)) → IfOk r (λ v. HasType v ty)
ok_typed m ty at (Ok v) is = passed (λ x. is_of (plain ty) x) (loads_at m (plain ty) at) (plain_value v) (loaded_passes m (plain ty) at) is
ok_typed m ty at (Err e) is = tt

-- a fault stays what it is after a `?`
pub fault_kept : {A B E : Type 0} (x y : E) → (let r : Result A E = Err x in r) ≡ Err y → (let r : Result B E = Err x in r) ≡ Err y
fault_kept x y h = let e : x ≡ y = cc in ap (λ z. Err z) e
