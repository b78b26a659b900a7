-- Types without parts, and the others.
use Rattle.std.proofs.Common.{◌≡◌, ◌∙◌, ℕ, refl, sym, true, Option, Some, None, Global}
use Rattle.std.specs.Prelude.{IfOk, Result, nat_lt}
use Rattle.std.specs.declared.rc.Rc.{Rc}
use Rattle.virt_base.specs.declared.items.Items.{Items}
use Rattle.virt_base.specs.declared.text.Text.{Text}
use Rattle.wit_types.specs.declared.types.Types.{Types}
use Rattle.wit_types.specs.declared.types.Fields.{Fields, Fields'}
use Rattle.wit_types.specs.declared.types.Cases.{Cases, Cases'}
use Rattle.wit_types.specs.declared.types.WitType.{WitType, out-WitType, roll-WitType, roll-out-WitType, None' as Bare', Some' as Typed'}
use Rattle.wit_types.specs.declared.types.WitType.TheVariants.{Bool as Boolean, S8, U8, S16, U16, S32, U32, S64, U64, Char, Str, Record, Record', Tuple, Tuple', rolls-Tuple, Variant, Variant', List as ListOf, List' as ListOf', Flags, Enum, Option as Optional, Option' as Optional', Result as Outcome, Result' as Outcome', Own, Borrow}
use Rattle.wit_types.specs.Plain.{plain}
use Rattle.comp_types.specs.Matching.{primitive_number}
use Rattle.comp_types.specs.Substitution.{value_with}

pub not_tuple : (p : _) (s : _) (y : _) → ((x : Rc Types Global) → Tuple' p s y ≡ Tuple x → ⊥) → ⊥
unfolding out-WitType roll-WitType denote.Hole.Carrier.out
not_tuple p s y h = h _ (sym (roll-out-WitType (Tuple' p s y)) ∙ rolls-Tuple _)

pub no_primitive : (t : WitType) →
    (t ≡ Boolean → ⊥) → (t ≡ S8 → ⊥) → (t ≡ U8 → ⊥) → (t ≡ S16 → ⊥) →
    (t ≡ U16 → ⊥) → (t ≡ S32 → ⊥) → (t ≡ U32 → ⊥) → (t ≡ S64 → ⊥) →
    (t ≡ U64 → ⊥) → (t ≡ Char → ⊥) → (t ≡ Str → ⊥) →
    0 ≡ primitive_number (plain t)
unfolding plain
no_primitive Boolean a b c d e f g h i j k = absurd (a refl)
no_primitive S8 a b c d e f g h i j k = absurd (b refl)
no_primitive U8 a b c d e f g h i j k = absurd (c refl)
no_primitive S16 a b c d e f g h i j k = absurd (d refl)
no_primitive U16 a b c d e f g h i j k = absurd (e refl)
no_primitive S32 a b c d e f g h i j k = absurd (f refl)
no_primitive U32 a b c d e f g h i j k = absurd (g refl)
no_primitive S64 a b c d e f g h i j k = absurd (h refl)
no_primitive U64 a b c d e f g h i j k = absurd (i refl)
no_primitive Char a b c d e f g h i j k = absurd (j refl)
no_primitive Str a b c d e f g h i j k = absurd (k refl)
no_primitive (Record' p (Fields' s y)) a b c d e f g h i j k = refl
no_primitive (Variant' p (Cases' s y)) a b c d e f g h i j k = refl
no_primitive _ a b c d e f g h i j k = refl

pub is_primitive : (t : WitType) →
    ((x : Rc Fields Global) → t ≡ Record x → ⊥) → ((x : Rc Types Global) → t ≡ Tuple x → ⊥) → ((x : Rc Cases Global) → t ≡ Variant x → ⊥) → ((x : Rc WitType Global) → t ≡ ListOf x → ⊥) →
    ((x : Rc (Items Text) Global) → t ≡ Flags x → ⊥) → ((x : Rc (Items Text) Global) → t ≡ Enum x → ⊥) → ((x : Rc WitType Global) → t ≡ Optional x → ⊥) → ((x y : Option (Rc WitType Global)) → t ≡ Outcome x y → ⊥) →
    ((x : ℕ) → t ≡ Own x → ⊥) → ((x : ℕ) → t ≡ Borrow x → ⊥) →
    nat_lt 0 (primitive_number (plain t)) ≡ true
unfolding plain
is_primitive (Record' p y) a b c d e f g h i j = absurd (a (record { ptr = p.ptr; value = y }) refl)
is_primitive (Tuple' p s y) a b c d e f g h i j = absurd (not_tuple p s y b)
is_primitive (Variant' p y) a b c d e f g h i j = absurd (c (record { ptr = p.ptr; value = y }) refl)
is_primitive (ListOf' p y) a b c d e f g h i j = absurd (d (record { ptr = p.ptr; value = y }) refl)
is_primitive (Flags x) a b c d e f g h i j = absurd (e x refl)
is_primitive (Enum x) a b c d e f g h i j = absurd (f x refl)
is_primitive (Optional' p y) a b c d e f g h i j = absurd (g (record { ptr = p.ptr; value = y }) refl)
is_primitive (Outcome' Bare' Bare') a b c d e f g h i j = absurd (h None None refl)
is_primitive (Outcome' Bare' (Typed' p y)) a b c d e f g h i j = absurd (h None (Some (record { ptr = p.ptr; value = y })) refl)
is_primitive (Outcome' (Typed' p y) Bare') a b c d e f g h i j = absurd (h (Some (record { ptr = p.ptr; value = y })) None refl)
is_primitive (Outcome' (Typed' p y) (Typed' q z)) a b c d e f g h i j = absurd (h (Some (record { ptr = p.ptr; value = y })) (Some (record { ptr = q.ptr; value = z })) refl)
is_primitive (Own x) a b c d e f g h i j = absurd (i x refl)
is_primitive (Borrow x) a b c d e f g h i j = absurd (j x refl)
is_primitive _ a b c d e f g h i j = refl

pub kept_primitive : {E : Type 0} (f : ℕ → ℕ) (res : Result WitType E) (t : WitType) →
    ((x : Rc Fields Global) → t ≡ Record x → ⊥) → ((x : Rc Types Global) → t ≡ Tuple x → ⊥) → ((x : Rc Cases Global) → t ≡ Variant x → ⊥) → ((x : Rc WitType Global) → t ≡ ListOf x → ⊥) →
    ((x : Rc (Items Text) Global) → t ≡ Flags x → ⊥) → ((x : Rc (Items Text) Global) → t ≡ Enum x → ⊥) → ((x : Rc WitType Global) → t ≡ Optional x → ⊥) → ((x y : Option (Rc WitType Global)) → t ≡ Outcome x y → ⊥) →
    ((x : ℕ) → t ≡ Own x → ⊥) → ((x : ℕ) → t ≡ Borrow x → ⊥) →
    IfOk res (λ new. plain new ≡ plain t) →
    IfOk res (λ new. plain new ≡ value_with f (plain t))
unfolding plain
kept_primitive f res (Record' p y) a b c d e g h i j k did = absurd (a (record { ptr = p.ptr; value = y }) refl)
kept_primitive f res (Tuple' p s y) a b c d e g h i j k did = absurd (not_tuple p s y b)
kept_primitive f res (Variant' p y) a b c d e g h i j k did = absurd (c (record { ptr = p.ptr; value = y }) refl)
kept_primitive f res (ListOf' p y) a b c d e g h i j k did = absurd (d (record { ptr = p.ptr; value = y }) refl)
kept_primitive f res (Flags x) a b c d e g h i j k did = absurd (e x refl)
kept_primitive f res (Enum x) a b c d e g h i j k did = absurd (g x refl)
kept_primitive f res (Optional' p y) a b c d e g h i j k did = absurd (h (record { ptr = p.ptr; value = y }) refl)
kept_primitive f res (Outcome' Bare' Bare') a b c d e g h i j k did = absurd (i None None refl)
kept_primitive f res (Outcome' Bare' (Typed' p y)) a b c d e g h i j k did = absurd (i None (Some (record { ptr = p.ptr; value = y })) refl)
kept_primitive f res (Outcome' (Typed' p y) Bare') a b c d e g h i j k did = absurd (i (Some (record { ptr = p.ptr; value = y })) None refl)
kept_primitive f res (Outcome' (Typed' p y) (Typed' q z)) a b c d e g h i j k did = absurd (i (Some (record { ptr = p.ptr; value = y })) (Some (record { ptr = q.ptr; value = z })) refl)
kept_primitive f res (Own x) a b c d e g h i j k did = absurd (j x refl)
kept_primitive f res (Borrow x) a b c d e g h i j k did = absurd (k x refl)
kept_primitive f res _ a b c d e g h i j k did = did
