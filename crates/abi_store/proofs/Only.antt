-- Types of another form.
use Rattle.std.proofs.Common.{◌≡◌, ◌∙◌, ◌^◌, ℕ, refl, sym, Option, Some, None, Global, List}
use Rattle.std.specs.Prelude.{IfOk, Result}
use Rattle.std.specs.declared.rc.Rc.{Rc}
use Rattle.virt_base.specs.declared.items.Items.{Items}
use Rattle.virt_base.specs.declared.text.Text.{Text}
use Rattle.wit_types.specs.declared.types.Types.{Types}
use Rattle.wit_types.specs.declared.types.Fields.{Fields, Fields'}
use Rattle.wit_types.specs.declared.types.Cases.{Cases}
use Rattle.wit_types.specs.declared.types.WitType.{WitType, out-WitType, roll-WitType, roll-out-WitType, None' as Bare', Some' as Typed'}
use Rattle.wit_types.specs.declared.types.WitType.TheVariants.{Bool as Boolean, S8, U8, S16, U16, S64, U64, Str, Record, Record', Tuple, Tuple', rolls-Tuple, Variant, Variant', List as ListOf, List' as ListOf', Flags, Enum, Option as Optional, Option' as Optional', Result as Outcome, Result' as Outcome'}
use Rattle.core_store.specs.State.{State}
use Rattle.wit_types.specs.Plain.{plain}
use Rattle.wit_types.specs.PlainValue.{PlainValue}
use Rattle.wit_types.specs.Layout.{count, discriminant_size}
use Rattle.abi_layout.specs.Loading.{payload_offset}
use Rattle.abi_layout.specs.Numbers.{number_of}
use Rattle.abi_layout.specs.Storing.{number_bytes, one_number, lower_flat}
use Rattle.abi_store.specs.declared.slot.Slot.{Slot}
use Rattle.abi_store.specs.declared.work.Begun.{Begun}
use Rattle.abi_store.specs.Parts.{cases_in, case_type}
use Rattle.abi_store.specs.Slots.{Appends}
use Rattle.abi_store.specs.Works.{Took, write_at, begun_lowered, value_lowered}
use Rattle.abi_store.proofs.PartLemmas.{case_type-bare}

not_tuple : (p : _) (s : _) (y : _) → ((x : Rc Types Global) → Tuple' p s y ≡ Tuple x → ⊥) → ⊥
unfolding out-WitType roll-WitType denote.Hole.Carrier.out
not_tuple p s y h = h _ (sym (roll-out-WitType (Tuple' p s y)) ∙ rolls-Tuple _)

pub other_width : (t : WitType) →
    ((x : Rc Cases Global) → t ≡ Variant x → ⊥) → ((x : Rc (Items Text) Global) → t ≡ Enum x → ⊥) → ((x : Rc WitType Global) → t ≡ Optional x → ⊥) → ((x y : Option (Rc WitType Global)) → t ≡ Outcome x y → ⊥) →
    1 ≡ discriminant_size (count (cases_in (plain t)))
unfolding plain
other_width (Variant' p y) a b c d = absurd (a (record { ptr = p.ptr; value = y }) refl)
other_width (Enum x) a b c d = absurd (b x refl)
other_width (Optional' p y) a b c d = absurd (c (record { ptr = p.ptr; value = y }) refl)
other_width (Outcome' Bare' Bare') a b c d = absurd (d None None refl)
other_width (Outcome' Bare' (Typed' p y)) a b c d = absurd (d None (Some (record { ptr = p.ptr; value = y })) refl)
other_width (Outcome' (Typed' p y) Bare') a b c d = absurd (d (Some (record { ptr = p.ptr; value = y })) None refl)
other_width (Outcome' (Typed' p y) (Typed' q z)) a b c d = absurd (d (Some (record { ptr = p.ptr; value = y })) (Some (record { ptr = q.ptr; value = z })) refl)
other_width (Record' p (Fields' s y)) a b c d = refl
other_width _ a b c d = refl

pub other_place : (t : WitType) →
    ((x : Rc Cases Global) → t ≡ Variant x → ⊥) → ((x : Rc (Items Text) Global) → t ≡ Enum x → ⊥) → ((x : Rc WitType Global) → t ≡ Optional x → ⊥) → ((x y : Option (Rc WitType Global)) → t ≡ Outcome x y → ⊥) →
    1 ≡ payload_offset (cases_in (plain t))
unfolding plain
other_place (Variant' p y) a b c d = absurd (a (record { ptr = p.ptr; value = y }) refl)
other_place (Enum x) a b c d = absurd (b x refl)
other_place (Optional' p y) a b c d = absurd (c (record { ptr = p.ptr; value = y }) refl)
other_place (Outcome' Bare' Bare') a b c d = absurd (d None None refl)
other_place (Outcome' Bare' (Typed' p y)) a b c d = absurd (d None (Some (record { ptr = p.ptr; value = y })) refl)
other_place (Outcome' (Typed' p y) Bare') a b c d = absurd (d (Some (record { ptr = p.ptr; value = y })) None refl)
other_place (Outcome' (Typed' p y) (Typed' q z)) a b c d = absurd (d (Some (record { ptr = p.ptr; value = y })) (Some (record { ptr = q.ptr; value = z })) refl)
other_place (Record' p (Fields' s y)) a b c d = refl
other_place _ a b c d = refl

pub other_payload : (n : ℕ) (t : WitType) →
    ((x : Rc Cases Global) → t ≡ Variant x → ⊥) → ((x : Rc WitType Global) → t ≡ Optional x → ⊥) → ((x y : Option (Rc WitType Global)) → t ≡ Outcome x y → ⊥) →
    None ≡ case_type (cases_in (plain t)) n
unfolding plain
other_payload n (Variant' p y) a b c = absurd (a (record { ptr = p.ptr; value = y }) refl)
other_payload n (Optional' p y) a b c = absurd (b (record { ptr = p.ptr; value = y }) refl)
other_payload n (Outcome' Bare' Bare') a b c = absurd (c None None refl)
other_payload n (Outcome' Bare' (Typed' p y)) a b c = absurd (c None (Some (record { ptr = p.ptr; value = y })) refl)
other_payload n (Outcome' (Typed' p y) Bare') a b c = absurd (c (Some (record { ptr = p.ptr; value = y })) None refl)
other_payload n (Outcome' (Typed' p y) (Typed' q z)) a b c = absurd (c (Some (record { ptr = p.ptr; value = y })) (Some (record { ptr = q.ptr; value = z })) refl)
other_payload n (Enum labels) a b c = sym (case_type-bare labels.value n)
other_payload n (Record' p (Fields' s y)) a b c = refl
other_payload n _ a b c = refl

pub four_bytes : {E : Type 0} (old new : State) (m at : ℕ) (r : Result Begun E) (held : PlainValue) (t : WitType) →
    (t ≡ Boolean → ⊥) → (t ≡ S8 → ⊥) → (t ≡ U8 → ⊥) → (t ≡ S16 → ⊥) →
    (t ≡ U16 → ⊥) → (t ≡ S64 → ⊥) → (t ≡ U64 → ⊥) → (t ≡ Str → ⊥) →
    ((x : Rc Fields Global) → t ≡ Record x → ⊥) → ((x : Rc Types Global) → t ≡ Tuple x → ⊥) → ((x : Rc Cases Global) → t ≡ Variant x → ⊥) → ((x : Rc WitType Global) → t ≡ ListOf x → ⊥) →
    ((x : Rc (Items Text) Global) → t ≡ Flags x → ⊥) → ((x : Rc (Items Text) Global) → t ≡ Enum x → ⊥) → ((x : Rc WitType Global) → t ≡ Optional x → ⊥) → ((x y : Option (Rc WitType Global)) → t ≡ Outcome x y → ⊥) →
    IfOk r (λ b. Took old new m (write_at at (number_bytes 4 held)) (begun_lowered b)) →
    IfOk r (λ b. Took old new m (value_lowered (plain t) held at) (begun_lowered b))
unfolding plain
four_bytes old new m at r held Boolean a b c d e f g h i j k l n o u v did = absurd (a refl)
four_bytes old new m at r held S8 a b c d e f g h i j k l n o u v did = absurd (b refl)
four_bytes old new m at r held U8 a b c d e f g h i j k l n o u v did = absurd (c refl)
four_bytes old new m at r held S16 a b c d e f g h i j k l n o u v did = absurd (d refl)
four_bytes old new m at r held U16 a b c d e f g h i j k l n o u v did = absurd (e refl)
four_bytes old new m at r held S64 a b c d e f g h i j k l n o u v did = absurd (f refl)
four_bytes old new m at r held U64 a b c d e f g h i j k l n o u v did = absurd (g refl)
four_bytes old new m at r held Str a b c d e f g h i j k l n o u v did = absurd (h refl)
four_bytes old new m at r held (Record' p y) a b c d e f g h i j k l n o u v did = absurd (i (record { ptr = p.ptr; value = y }) refl)
four_bytes old new m at r held (Tuple' p s y) a b c d e f g h i j k l n o u v did = absurd (not_tuple p s y j)
four_bytes old new m at r held (Variant' p y) a b c d e f g h i j k l n o u v did = absurd (k (record { ptr = p.ptr; value = y }) refl)
four_bytes old new m at r held (ListOf' p y) a b c d e f g h i j k l n o u v did = absurd (l (record { ptr = p.ptr; value = y }) refl)
four_bytes old new m at r held (Flags x) a b c d e f g h i j k l n o u v did = absurd (n x refl)
four_bytes old new m at r held (Enum x) a b c d e f g h i j k l n o u v did = absurd (o x refl)
four_bytes old new m at r held (Optional' p y) a b c d e f g h i j k l n o u v did = absurd (u (record { ptr = p.ptr; value = y }) refl)
four_bytes old new m at r held (Outcome' Bare' Bare') a b c d e f g h i j k l n o u v did = absurd (v None None refl)
four_bytes old new m at r held (Outcome' Bare' (Typed' p y)) a b c d e f g h i j k l n o u v did = absurd (v None (Some (record { ptr = p.ptr; value = y })) refl)
four_bytes old new m at r held (Outcome' (Typed' p y) Bare') a b c d e f g h i j k l n o u v did = absurd (v (Some (record { ptr = p.ptr; value = y })) None refl)
four_bytes old new m at r held (Outcome' (Typed' p y) (Typed' q z)) a b c d e f g h i j k l n o u v did = absurd (v (Some (record { ptr = p.ptr; value = y })) (Some (record { ptr = q.ptr; value = z })) refl)
four_bytes old new m at r held _ a b c d e f g h i j k l n o u v did = did

pub short_number : {A E : Type 0} (old new : List Slot) (res : Result A E) (held : PlainValue) (t : WitType) →
    (t ≡ S64 → ⊥) → (t ≡ U64 → ⊥) → (t ≡ Str → ⊥) → ((x : Rc Fields Global) → t ≡ Record x → ⊥) →
    ((x : Rc Types Global) → t ≡ Tuple x → ⊥) → ((x : Rc Cases Global) → t ≡ Variant x → ⊥) → ((x : Rc WitType Global) → t ≡ ListOf x → ⊥) → ((x : Rc (Items Text) Global) → t ≡ Enum x → ⊥) →
    ((x : Rc WitType Global) → t ≡ Optional x → ⊥) → ((x y : Option (Rc WitType Global)) → t ≡ Outcome x y → ⊥) →
    IfOk res (λ _. Appends old new (λ k. one_number (number_of (2 ^ 32) held))) →
    IfOk res (λ _. Appends old new (lower_flat (plain t) held))
unfolding plain
short_number old new res held S64 a b c d e f g h i j did = absurd (a refl)
short_number old new res held U64 a b c d e f g h i j did = absurd (b refl)
short_number old new res held Str a b c d e f g h i j did = absurd (c refl)
short_number old new res held (Record' p y) a b c d e f g h i j did = absurd (d (record { ptr = p.ptr; value = y }) refl)
short_number old new res held (Tuple' p s y) a b c d e f g h i j did = absurd (not_tuple p s y e)
short_number old new res held (Variant' p y) a b c d e f g h i j did = absurd (f (record { ptr = p.ptr; value = y }) refl)
short_number old new res held (ListOf' p y) a b c d e f g h i j did = absurd (g (record { ptr = p.ptr; value = y }) refl)
short_number old new res held (Enum x) a b c d e f g h i j did = absurd (h x refl)
short_number old new res held (Optional' p y) a b c d e f g h i j did = absurd (i (record { ptr = p.ptr; value = y }) refl)
short_number old new res held (Outcome' Bare' Bare') a b c d e f g h i j did = absurd (j None None refl)
short_number old new res held (Outcome' Bare' (Typed' p y)) a b c d e f g h i j did = absurd (j None (Some (record { ptr = p.ptr; value = y })) refl)
short_number old new res held (Outcome' (Typed' p y) Bare') a b c d e f g h i j did = absurd (j (Some (record { ptr = p.ptr; value = y })) None refl)
short_number old new res held (Outcome' (Typed' p y) (Typed' q z)) a b c d e f g h i j did = absurd (j (Some (record { ptr = p.ptr; value = y })) (Some (record { ptr = q.ptr; value = z })) refl)
short_number old new res held _ a b c d e f g h i j did = did
