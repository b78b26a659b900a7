-- A type of another form is not equal.
use Rattle.std.proofs.Common.{◌≡◌, ℕ, refl, Option, Some, None, Global, List as Lst}
use Rattle.std.specs.declared.rc.Rc.{Rc}
use Rattle.virt_base.specs.declared.items.Items.{Items}
use Rattle.virt_base.specs.declared.text.Text.{Text}
use Rattle.wit_types.specs.declared.types.Types.{Types}
use Rattle.wit_types.specs.declared.types.Fields.{Fields, Fields'}
use Rattle.wit_types.specs.declared.types.Cases.{Cases, Cases'}
use Rattle.wit_types.specs.declared.types.WitType.{WitType, None', Some'}
use Rattle.wit_types.specs.declared.types.WitType.TheVariants.{Record, Record', Tuple, Tuple', Variant, Variant', List, List', Flags, Enum, Option as Optional, Option', Result, Result', Own, Borrow}
use Rattle.wit_types.specs.Plain.{Name, AsRecord, AsTuple, AsVariant, AsEnum, AsOption, AsResult, Plain, Parts, ListType, RecordType, VariantType, FlagsType, OwnType, BorrowType, plain}
use Rattle.comp_types.specs.Matching.{Pairs, matched_value}
use Rattle.comp_types.proofs.Primitives.{not_tuple}

pub only-Record : (m : Pairs) (ps : Parts) (t : WitType) → ((x : Rc Fields Global) → t ≡ Record x → ⊥) → matched_value m (RecordType AsRecord ps) (plain t) ≡ None
unfolding plain
only-Record m ps (Record' q u) h = absurd (h (record { ptr = q.ptr; value = u }) refl)
only-Record m ps (Variant' x (Cases' s r)) h = refl
only-Record m ps _ h = refl

pub only-Tuple : (m : Pairs) (ps : Parts) (t : WitType) → ((x : Rc Types Global) → t ≡ Tuple x → ⊥) → matched_value m (RecordType AsTuple ps) (plain t) ≡ None
unfolding plain
only-Tuple m ps (Tuple' q s u) h = absurd (not_tuple q s u h)
only-Tuple m ps (Record' x (Fields' s r)) h = refl
only-Tuple m ps (Variant' x (Cases' s r)) h = refl
only-Tuple m ps _ h = refl

pub only-Variant : (m : Pairs) (ps : Parts) (t : WitType) → ((x : Rc Cases Global) → t ≡ Variant x → ⊥) → matched_value m (VariantType AsVariant ps) (plain t) ≡ None
unfolding plain
only-Variant m ps (Variant' q u) h = absurd (h (record { ptr = q.ptr; value = u }) refl)
only-Variant m ps (Record' x (Fields' s r)) h = refl
only-Variant m ps _ h = refl

pub only-List : (m : Pairs) (p : Plain) (t : WitType) → ((x : Rc WitType Global) → t ≡ List x → ⊥) → matched_value m (ListType p) (plain t) ≡ None
unfolding plain
only-List m p (List' q u) h = absurd (h (record { ptr = q.ptr; value = u }) refl)
only-List m p (Record' x (Fields' s r)) h = refl
only-List m p (Variant' x (Cases' s r)) h = refl
only-List m p _ h = refl

pub only-Option : (m : Pairs) (ps : Parts) (t : WitType) → ((x : Rc WitType Global) → t ≡ Optional x → ⊥) → matched_value m (VariantType AsOption ps) (plain t) ≡ None
unfolding plain
only-Option m ps (Option' q u) h = absurd (h (record { ptr = q.ptr; value = u }) refl)
only-Option m ps (Record' x (Fields' s r)) h = refl
only-Option m ps (Variant' x (Cases' s r)) h = refl
only-Option m ps _ h = refl

pub only-Flags : (m : Pairs) (ls : Lst Name) (t : WitType) → ((x : Rc (Items Text) Global) → t ≡ Flags x → ⊥) → matched_value m (FlagsType ls) (plain t) ≡ None
unfolding plain
only-Flags m ls (Flags x) h = absurd (h x refl)
only-Flags m ls (Record' x (Fields' s r)) h = refl
only-Flags m ls (Variant' x (Cases' s r)) h = refl
only-Flags m ls _ h = refl

pub only-Enum : (m : Pairs) (ps : Parts) (t : WitType) → ((x : Rc (Items Text) Global) → t ≡ Enum x → ⊥) → matched_value m (VariantType AsEnum ps) (plain t) ≡ None
unfolding plain
only-Enum m ps (Enum x) h = absurd (h x refl)
only-Enum m ps (Record' x (Fields' s r)) h = refl
only-Enum m ps (Variant' x (Cases' s r)) h = refl
only-Enum m ps _ h = refl

pub only-Own : (m : Pairs) (a : ℕ) (t : WitType) → ((x : ℕ) → t ≡ Own x → ⊥) → matched_value m (OwnType a) (plain t) ≡ None
unfolding plain
only-Own m a (Own x) h = absurd (h x refl)
only-Own m a (Record' x (Fields' s r)) h = refl
only-Own m a (Variant' x (Cases' s r)) h = refl
only-Own m a _ h = refl

pub only-Borrow : (m : Pairs) (a : ℕ) (t : WitType) → ((x : ℕ) → t ≡ Borrow x → ⊥) → matched_value m (BorrowType a) (plain t) ≡ None
unfolding plain
only-Borrow m a (Borrow x) h = absurd (h x refl)
only-Borrow m a (Record' x (Fields' s r)) h = refl
only-Borrow m a (Variant' x (Cases' s r)) h = refl
only-Borrow m a _ h = refl

pub only-Result : (m : Pairs) (ps : Parts) (t : WitType) → ((x y : Option (Rc WitType Global)) → t ≡ Result x y → ⊥) → matched_value m (VariantType AsResult ps) (plain t) ≡ None
unfolding plain
only-Result m ps (Result' None' None') h = absurd (h None None refl)
only-Result m ps (Result' None' (Some' q u)) h = absurd (h None (Some (record { ptr = q.ptr; value = u })) refl)
only-Result m ps (Result' (Some' p t) None') h = absurd (h (Some (record { ptr = p.ptr; value = t })) None refl)
only-Result m ps (Result' (Some' p t) (Some' q u)) h = absurd (h (Some (record { ptr = p.ptr; value = t })) (Some (record { ptr = q.ptr; value = u })) refl)
only-Result m ps (Record' x (Fields' s r)) h = refl
only-Result m ps (Variant' x (Cases' s r)) h = refl
only-Result m ps _ h = refl

pub ruleset only = (only-Record, only-Tuple, only-Variant, only-List, only-Option, only-Flags, only-Enum, only-Own, only-Borrow, only-Result)
