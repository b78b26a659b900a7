-- Types of another form.
use Rattle.std.proofs.Common.{◌≡◌, ℕ, refl, sym, ◌∙◌, Option, Some, None, Global, List}
use Rattle.std.specs.Prelude.{IsTrue, option_and_then}
use Rattle.std.specs.declared.rc.Rc.{Rc}
use Rattle.virt_base.specs.declared.items.Items.{Items}
use Rattle.virt_base.specs.declared.text.Text.{Text}
use Rattle.wit_types.specs.declared.types.Types.{Types}
use Rattle.wit_types.specs.declared.types.Fields.{Fields, Fields'}
use Rattle.wit_types.specs.declared.types.Cases.{Cases, Cases'}
use Rattle.wit_types.specs.declared.types.WitType.{WitType, out-WitType, roll-WitType, roll-out-WitType, None' as Bare', Some' as Typed'}
use Rattle.wit_types.specs.declared.types.WitType.TheVariants.{Bool, S8, U8, S16, U16, S32, U32, S64, U64, Char, Str, Record, Record', Tuple, Tuple', rolls-Tuple, Variant, Variant', List as Listed, List' as Listed', Flags, Enum, Option as Optional, Option' as Optional', Result as Results, Result' as Results', Own, Borrow}
use Rattle.wit_types.specs.Plain.{plain}
use Rattle.abi_layout.specs.Numbers.{value_of}
use Rattle.abi_layout.specs.Loading.{loads_at, read}
use Rattle.abi_load.specs.Lifted.{is_short}

not_tuple : (p : _) (s : _) (y : _) → ((x : Rc Types Global) → Tuple' p s y ≡ Tuple x → ⊥) → ⊥
unfolding out-WitType roll-WitType denote.Hole.Carrier.out
not_tuple p s y h = h _ (sym (roll-out-WitType (Tuple' p s y)) ∙ rolls-Tuple _)

pub no_number : (n : ℕ) (t : WitType) →
    (t ≡ Bool → ⊥) → (t ≡ S8 → ⊥) → (t ≡ U8 → ⊥) → (t ≡ S16 → ⊥) →
    (t ≡ U16 → ⊥) → (t ≡ S32 → ⊥) → (t ≡ U32 → ⊥) → (t ≡ S64 → ⊥) →
    (t ≡ U64 → ⊥) → (t ≡ Char → ⊥) → ((x : Rc (Items Text) Global) → t ≡ Flags x → ⊥) → ((x : ℕ) → t ≡ Own x → ⊥) → ((x : ℕ) → t ≡ Borrow x → ⊥) →
    None ≡ value_of (plain t) n
unfolding plain
no_number n Bool a b c d e f g h i j k l o = absurd (a refl)
no_number n S8 a b c d e f g h i j k l o = absurd (b refl)
no_number n U8 a b c d e f g h i j k l o = absurd (c refl)
no_number n S16 a b c d e f g h i j k l o = absurd (d refl)
no_number n U16 a b c d e f g h i j k l o = absurd (e refl)
no_number n S32 a b c d e f g h i j k l o = absurd (f refl)
no_number n U32 a b c d e f g h i j k l o = absurd (g refl)
no_number n S64 a b c d e f g h i j k l o = absurd (h refl)
no_number n U64 a b c d e f g h i j k l o = absurd (i refl)
no_number n Char a b c d e f g h i j k l o = absurd (j refl)
no_number n (Flags x) a b c d e f g h i j k l o = absurd (k x refl)
no_number n (Own x) a b c d e f g h i j k l o = absurd (l x refl)
no_number n (Borrow x) a b c d e f g h i j k l o = absurd (o x refl)
no_number n (Record' p (Fields' s y)) a b c d e f g h i j k l o = refl
no_number n (Variant' p (Cases' s y)) a b c d e f g h i j k l o = refl
no_number n _ a b c d e f g h i j k l o = refl

pub short : (t : WitType) →
    (t ≡ S64 → ⊥) → (t ≡ U64 → ⊥) → (t ≡ Str → ⊥) → ((x : Rc WitType Global) → t ≡ Listed x → ⊥) →
    ((x : Rc Fields Global) → t ≡ Record x → ⊥) → ((x : Rc Types Global) → t ≡ Tuple x → ⊥) → ((x : Rc Cases Global) → t ≡ Variant x → ⊥) → ((x : Rc (Items Text) Global) → t ≡ Enum x → ⊥) →
    ((x : Rc WitType Global) → t ≡ Optional x → ⊥) → ((x y : Option (Rc WitType Global)) → t ≡ Results x y → ⊥) →
    IsTrue (is_short (plain t))
unfolding plain
short S64 a b c d e f g h i j = absurd (a refl)
short U64 a b c d e f g h i j = absurd (b refl)
short Str a b c d e f g h i j = absurd (c refl)
short (Listed' p y) a b c d e f g h i j = absurd (d (record { ptr = p.ptr; value = y }) refl)
short (Record' p y) a b c d e f g h i j = absurd (e (record { ptr = p.ptr; value = y }) refl)
short (Tuple' p s y) a b c d e f g h i j = absurd (not_tuple p s y f)
short (Variant' p y) a b c d e f g h i j = absurd (g (record { ptr = p.ptr; value = y }) refl)
short (Enum x) a b c d e f g h i j = absurd (h x refl)
short (Optional' p y) a b c d e f g h i j = absurd (i (record { ptr = p.ptr; value = y }) refl)
short (Results' Bare' Bare') a b c d e f g h i j = absurd (j None None refl)
short (Results' Bare' (Typed' p y)) a b c d e f g h i j = absurd (j None (Some (record { ptr = p.ptr; value = y })) refl)
short (Results' (Typed' p y) Bare') a b c d e f g h i j = absurd (j (Some (record { ptr = p.ptr; value = y })) None refl)
short (Results' (Typed' p y) (Typed' q z)) a b c d e f g h i j = absurd (j (Some (record { ptr = p.ptr; value = y })) (Some (record { ptr = q.ptr; value = z })) refl)
short _ a b c d e f g h i j = refl

pub four_bytes : (m : List ℕ) (at : ℕ) (t : WitType) →
    (t ≡ Bool → ⊥) → (t ≡ S8 → ⊥) → (t ≡ U8 → ⊥) → (t ≡ S16 → ⊥) →
    (t ≡ U16 → ⊥) → (t ≡ S64 → ⊥) → (t ≡ U64 → ⊥) → (t ≡ Str → ⊥) →
    ((x : Rc (Items Text) Global) → t ≡ Flags x → ⊥) → ((x : Rc WitType Global) → t ≡ Listed x → ⊥) → ((x : Rc Fields Global) → t ≡ Record x → ⊥) → ((x : Rc Types Global) → t ≡ Tuple x → ⊥) →
    ((x : Rc Cases Global) → t ≡ Variant x → ⊥) → ((x : Rc (Items Text) Global) → t ≡ Enum x → ⊥) → ((x : Rc WitType Global) → t ≡ Optional x → ⊥) → ((x y : Option (Rc WitType Global)) → t ≡ Results x y → ⊥) →
    loads_at m (plain t) at ≡ option_and_then (λ n. value_of (plain t) n) (read m at 4)
unfolding plain
four_bytes m at Bool a b c d e f g h i j k l n o u v = absurd (a refl)
four_bytes m at S8 a b c d e f g h i j k l n o u v = absurd (b refl)
four_bytes m at U8 a b c d e f g h i j k l n o u v = absurd (c refl)
four_bytes m at S16 a b c d e f g h i j k l n o u v = absurd (d refl)
four_bytes m at U16 a b c d e f g h i j k l n o u v = absurd (e refl)
four_bytes m at S64 a b c d e f g h i j k l n o u v = absurd (f refl)
four_bytes m at U64 a b c d e f g h i j k l n o u v = absurd (g refl)
four_bytes m at Str a b c d e f g h i j k l n o u v = absurd (h refl)
four_bytes m at (Flags x) a b c d e f g h i j k l n o u v = absurd (i x refl)
four_bytes m at (Listed' p y) a b c d e f g h i j k l n o u v = absurd (j (record { ptr = p.ptr; value = y }) refl)
four_bytes m at (Record' p y) a b c d e f g h i j k l n o u v = absurd (k (record { ptr = p.ptr; value = y }) refl)
four_bytes m at (Tuple' p s y) a b c d e f g h i j k l n o u v = absurd (not_tuple p s y l)
four_bytes m at (Variant' p y) a b c d e f g h i j k l n o u v = absurd (n (record { ptr = p.ptr; value = y }) refl)
four_bytes m at (Enum x) a b c d e f g h i j k l n o u v = absurd (o x refl)
four_bytes m at (Optional' p y) a b c d e f g h i j k l n o u v = absurd (u (record { ptr = p.ptr; value = y }) refl)
four_bytes m at (Results' Bare' Bare') a b c d e f g h i j k l n o u v = absurd (v None None refl)
four_bytes m at (Results' Bare' (Typed' p y)) a b c d e f g h i j k l n o u v = absurd (v None (Some (record { ptr = p.ptr; value = y })) refl)
four_bytes m at (Results' (Typed' p y) Bare') a b c d e f g h i j k l n o u v = absurd (v (Some (record { ptr = p.ptr; value = y })) None refl)
four_bytes m at (Results' (Typed' p y) (Typed' q z)) a b c d e f g h i j k l n o u v = absurd (v (Some (record { ptr = p.ptr; value = y })) (Some (record { ptr = q.ptr; value = z })) refl)
four_bytes m at _ a b c d e f g h i j k l n o u v = refl
