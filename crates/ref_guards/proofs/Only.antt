-- A type of another form is not alike.
use Rattle.std.proofs.Common.{◌≡◌, ℕ, refl, Bool, false, Option, Some, None, Global, List as Lst}
use Rattle.std.specs.declared.rc.Rc.{Rc}
use Rattle.virt_base.specs.declared.items.Items.{Items}
use Rattle.virt_base.specs.declared.text.Text.{Text}
use Rattle.wit_types.specs.declared.types.Fields.{Fields, Fields'}
use Rattle.wit_types.specs.declared.types.Cases.{Cases, Cases'}
use Rattle.wit_types.specs.declared.types.WitType.{WitType, None', Some'}
use Rattle.wit_types.specs.declared.types.WitType.TheVariants.{Bool as Truth, S8, U8, S16, U16, S32, U32, S64, U64, Char, Str, Record, Record', Variant, Variant', List, List', Flags, Enum, Option as Optional, Option', Result, Result', Own, Borrow}
use Rattle.wit_types.specs.Plain.{Name, AsRecord, AsVariant, AsEnum, AsOption, AsResult, Plain, Parts, plain}
use Rattle.reference_step.specs.Rules.{is_list_type, is_record_type, is_variant_type, is_flags_type, is_own, is_borrow}
use Rattle.ref_guards.specs.Leaves.{leaf_of}

pub only-Record : (test : Parts → Bool) (t : WitType) → ((x : Rc Fields Global) → t ≡ Record x → ⊥) → is_record_type AsRecord test (plain t) ≡ false
unfolding plain
only-Record test (Record' q u) h = absurd (h (record { ptr = q.ptr; value = u }) refl)
only-Record test (Variant' x (Cases' s r)) h = refl
only-Record test _ h = refl

pub only-Variant : (test : Parts → Bool) (t : WitType) → ((x : Rc Cases Global) → t ≡ Variant x → ⊥) → is_variant_type AsVariant test (plain t) ≡ false
unfolding plain
only-Variant test (Variant' q u) h = absurd (h (record { ptr = q.ptr; value = u }) refl)
only-Variant test (Record' x (Fields' s r)) h = refl
only-Variant test _ h = refl

pub only-List : (test : Plain → Bool) (t : WitType) → ((x : Rc WitType Global) → t ≡ List x → ⊥) → is_list_type test (plain t) ≡ false
unfolding plain
only-List test (List' q u) h = absurd (h (record { ptr = q.ptr; value = u }) refl)
only-List test (Record' x (Fields' s r)) h = refl
only-List test (Variant' x (Cases' s r)) h = refl
only-List test _ h = refl

pub only-Option : (test : Parts → Bool) (t : WitType) → ((x : Rc WitType Global) → t ≡ Optional x → ⊥) → is_variant_type AsOption test (plain t) ≡ false
unfolding plain
only-Option test (Option' q u) h = absurd (h (record { ptr = q.ptr; value = u }) refl)
only-Option test (Record' x (Fields' s r)) h = refl
only-Option test (Variant' x (Cases' s r)) h = refl
only-Option test _ h = refl

pub only-Result : (test : Parts → Bool) (t : WitType) → ((x y : Option (Rc WitType Global)) → t ≡ Result x y → ⊥) → is_variant_type AsResult test (plain t) ≡ false
unfolding plain
only-Result test (Result' None' None') h = absurd (h None None refl)
only-Result test (Result' None' (Some' q u)) h = absurd (h None (Some (record { ptr = q.ptr; value = u })) refl)
only-Result test (Result' (Some' p t) None') h = absurd (h (Some (record { ptr = p.ptr; value = t })) None refl)
only-Result test (Result' (Some' p t) (Some' q u)) h = absurd (h (Some (record { ptr = p.ptr; value = t })) (Some (record { ptr = q.ptr; value = u })) refl)
only-Result test (Record' x (Fields' s r)) h = refl
only-Result test (Variant' x (Cases' s r)) h = refl
only-Result test _ h = refl

pub only-Flags : (ls : Lst Name) (t : WitType) → ((x : Rc (Items Text) Global) → t ≡ Flags x → ⊥) → is_flags_type ls (plain t) ≡ false
unfolding plain
only-Flags ls (Flags x) h = absurd (h x refl)
only-Flags ls (Record' x (Fields' s r)) h = refl
only-Flags ls (Variant' x (Cases' s r)) h = refl
only-Flags ls _ h = refl

pub only-Enum : (test : Parts → Bool) (t : WitType) → ((x : Rc (Items Text) Global) → t ≡ Enum x → ⊥) → is_variant_type AsEnum test (plain t) ≡ false
unfolding plain
only-Enum test (Enum x) h = absurd (h x refl)
only-Enum test (Record' x (Fields' s r)) h = refl
only-Enum test (Variant' x (Cases' s r)) h = refl
only-Enum test _ h = refl

pub only-Own : (t : WitType) → ((x : ℕ) → t ≡ Own x → ⊥) → is_own (plain t) ≡ false
unfolding plain
only-Own (Own x) h = absurd (h x refl)
only-Own (Record' x (Fields' s r)) h = refl
only-Own (Variant' x (Cases' s r)) h = refl
only-Own _ h = refl

pub only-Borrow : (t : WitType) → ((x : ℕ) → t ≡ Borrow x → ⊥) → is_borrow (plain t) ≡ false
unfolding plain
only-Borrow (Borrow x) h = absurd (h x refl)
only-Borrow (Record' x (Fields' s r)) h = refl
only-Borrow (Variant' x (Cases' s r)) h = refl
only-Borrow _ h = refl

pub only-leaf : (t : WitType) → (t ≡ Truth → ⊥) → (t ≡ S8 → ⊥) → (t ≡ U8 → ⊥) → (t ≡ S16 → ⊥) → (t ≡ U16 → ⊥) → (t ≡ S32 → ⊥) → (t ≡ U32 → ⊥) → (t ≡ S64 → ⊥) → (t ≡ U64 → ⊥) → (t ≡ Char → ⊥) → (t ≡ Str → ⊥) → leaf_of (plain t) ≡ None
unfolding plain
only-leaf Truth a b c d e f g h i j k = absurd (a refl)
only-leaf S8 a b c d e f g h i j k = absurd (b refl)
only-leaf U8 a b c d e f g h i j k = absurd (c refl)
only-leaf S16 a b c d e f g h i j k = absurd (d refl)
only-leaf U16 a b c d e f g h i j k = absurd (e refl)
only-leaf S32 a b c d e f g h i j k = absurd (f refl)
only-leaf U32 a b c d e f g h i j k = absurd (g refl)
only-leaf S64 a b c d e f g h i j k = absurd (h refl)
only-leaf U64 a b c d e f g h i j k = absurd (i refl)
only-leaf Char a b c d e f g h i j k = absurd (j refl)
only-leaf Str a b c d e f g h i j k = absurd (k refl)
only-leaf (Record' x (Fields' s r)) a b c d e f g h i j k = refl
only-leaf (Variant' x (Cases' s r)) a b c d e f g h i j k = refl
only-leaf _ a b c d e f g h i j k = refl

pub ruleset only = (only-Record, only-Variant, only-List, only-Option, only-Result, only-Flags, only-Enum, only-Own, only-Borrow, only-leaf)
