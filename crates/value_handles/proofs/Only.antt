-- A value of another form, or of a type of another form, has no handles.
use Rattle.std.proofs.Common.{◌≡◌, ◌∙◌, ℕ, refl, sym, false, Option, Some, None, Box, Global, List as Lst, [], ◌++◌, append-nil}
use Rattle.std.specs.declared.rc.Rc.{Rc}
use Rattle.wit_types.specs.declared.types.Types.{Types}
use Rattle.wit_types.specs.declared.types.Fields.{Fields}
use Rattle.wit_types.specs.declared.types.Cases.{Cases}
use Rattle.wit_types.specs.declared.types.WitType.{WitType, out-WitType, roll-WitType, roll-out-WitType, None' as Bare', Some' as Typed'}
use Rattle.wit_types.specs.declared.types.WitType.TheVariants.{Record as RecordOf, Record' as RecordOf', Tuple, Tuple', rolls-Tuple, Variant as VariantOf, Variant' as VariantOf', List as ListOf, List' as ListOf', Option as Optional, Option', Result, Result', Enum, Own, Borrow}
use Rattle.wit_types.specs.declared.value.Value.{Value, None', Some'}
use Rattle.wit_types.specs.declared.value.Values.{Values}
use Rattle.wit_types.specs.declared.value.Value.TheVariants.{List, Record, Variant, Variant', Handle}
use Rattle.wit_types.specs.Plain.{AsEnum, plain}
use Rattle.wit_types.specs.PlainValue.{PlainValue, PlainValues, Payload, plain_value}
use Rattle.abi_layout.specs.Storing.{on_list, on_record, on_variant}
use Rattle.abi_layout.specs.Handles.{Handle as PlainHandle, on_handle, handles}
use Rattle.value_handles.specs.Whether.{has_handles}
use Rattle.value_handles.proofs.Laws.{no_label_handles, no_label_types}

pub only-List : (hs : Lst PlainHandle) (f : PlainValues → Lst PlainHandle) (v : Value) → ((x : Values) → v ≡ List x → ⊥) → hs ≡ hs ++ on_list [] f (plain_value v)
unfolding plain_value
only-List hs f (List x) h = absurd (h x refl)
only-List hs f _ h = sym (append-nil hs)

pub only-Record : (hs : Lst PlainHandle) (f : PlainValues → Lst PlainHandle) (v : Value) → ((x : Values) → v ≡ Record x → ⊥) → hs ≡ hs ++ on_record [] f (plain_value v)
unfolding plain_value
only-Record hs f (Record x) h = absurd (h x refl)
only-Record hs f _ h = sym (append-nil hs)

pub only-Variant : (hs : Lst PlainHandle) (f : ℕ → Payload → Lst PlainHandle) (v : Value) → ((x : ℕ) (y : Option (Box Value Global)) → v ≡ Variant x y → ⊥) → hs ≡ hs ++ on_variant [] f (plain_value v)
unfolding plain_value
only-Variant hs f (Variant' x None') h = absurd (h x None refl)
only-Variant hs f (Variant' x (Some' q u)) h = absurd (h x (Some (record { ptr = q.ptr; value = u; alloc = q.alloc })) refl)
only-Variant hs f _ h = sym (append-nil hs)

pub only_handle : (hs : Lst PlainHandle) (f : ℕ → Lst PlainHandle) (v : Value) → ((x : ℕ) → v ≡ Handle x → ⊥) → hs ++ on_handle [] f (plain_value v) ≡ hs
unfolding plain_value
only_handle hs f (Handle x) h = absurd (h x refl)
only_handle hs f _ h = append-nil hs

not_tuple : (p : _) (s : _) (y : _) → ((x : Rc Types Global) → Tuple' p s y ≡ Tuple x → ⊥) → ⊥
unfolding out-WitType roll-WitType denote.Hole.Carrier.out
not_tuple p s y h = h _ (sym (roll-out-WitType (Tuple' p s y)) ∙ rolls-Tuple _)

pub without_handles : (hs : Lst PlainHandle) (held : PlainValue) (t : WitType) →
    ((x : Rc Fields Global) → t ≡ RecordOf x → ⊥) → ((x : Rc Types Global) → t ≡ Tuple x → ⊥) → ((x : Rc Cases Global) → t ≡ VariantOf x → ⊥) → ((x : Rc WitType Global) → t ≡ ListOf x → ⊥) →
    ((x : Rc WitType Global) → t ≡ Optional x → ⊥) → ((x y : Option (Rc WitType Global)) → t ≡ Result x y → ⊥) → ((x : ℕ) → t ≡ Own x → ⊥) → ((x : ℕ) → t ≡ Borrow x → ⊥) →
    hs ≡ hs ++ handles (plain t) held
unfolding plain
without_handles hs held (RecordOf' p y) r u v l o e w b = absurd (r (record { ptr = p.ptr; value = y }) refl)
without_handles hs held (Tuple' p s y) r u v l o e w b = absurd (not_tuple p s y u)
without_handles hs held (VariantOf' p y) r u v l o e w b = absurd (v (record { ptr = p.ptr; value = y }) refl)
without_handles hs held (ListOf' p y) r u v l o e w b = absurd (l (record { ptr = p.ptr; value = y }) refl)
without_handles hs held (Option' p y) r u v l o e w b = absurd (o (record { ptr = p.ptr; value = y }) refl)
without_handles hs held (Result' Bare' Bare') r u v l o e w b = absurd (e None None refl)
without_handles hs held (Result' Bare' (Typed' q z)) r u v l o e w b = absurd (e None (Some (record { ptr = q.ptr; value = z })) refl)
without_handles hs held (Result' (Typed' p y) Bare') r u v l o e w b = absurd (e (Some (record { ptr = p.ptr; value = y })) None refl)
without_handles hs held (Result' (Typed' p y) (Typed' q z)) r u v l o e w b = absurd (e (Some (record { ptr = p.ptr; value = y })) (Some (record { ptr = q.ptr; value = z })) refl)
without_handles hs held (Own x) r u v l o e w b = absurd (w x refl)
without_handles hs held (Borrow x) r u v l o e w b = absurd (b x refl)
without_handles hs held (Enum labels) r u v l o e w b = rw (no_label_handles AsEnum labels.value held) (sym (append-nil hs))
without_handles hs held _ r u v l o e w b = sym (append-nil hs)

pub no_handles_in : (t : WitType) →
    ((x : Rc Fields Global) → t ≡ RecordOf x → ⊥) → ((x : Rc Types Global) → t ≡ Tuple x → ⊥) → ((x : Rc Cases Global) → t ≡ VariantOf x → ⊥) → ((x : Rc WitType Global) → t ≡ ListOf x → ⊥) →
    ((x : Rc WitType Global) → t ≡ Optional x → ⊥) → ((x y : Option (Rc WitType Global)) → t ≡ Result x y → ⊥) → ((x : ℕ) → t ≡ Own x → ⊥) → ((x : ℕ) → t ≡ Borrow x → ⊥) →
    has_handles (plain t) ≡ false
unfolding plain
no_handles_in (RecordOf' p y) r u v l o e w b = absurd (r (record { ptr = p.ptr; value = y }) refl)
no_handles_in (Tuple' p s y) r u v l o e w b = absurd (not_tuple p s y u)
no_handles_in (VariantOf' p y) r u v l o e w b = absurd (v (record { ptr = p.ptr; value = y }) refl)
no_handles_in (ListOf' p y) r u v l o e w b = absurd (l (record { ptr = p.ptr; value = y }) refl)
no_handles_in (Option' p y) r u v l o e w b = absurd (o (record { ptr = p.ptr; value = y }) refl)
no_handles_in (Result' Bare' Bare') r u v l o e w b = absurd (e None None refl)
no_handles_in (Result' Bare' (Typed' q z)) r u v l o e w b = absurd (e None (Some (record { ptr = q.ptr; value = z })) refl)
no_handles_in (Result' (Typed' p y) Bare') r u v l o e w b = absurd (e (Some (record { ptr = p.ptr; value = y })) None refl)
no_handles_in (Result' (Typed' p y) (Typed' q z)) r u v l o e w b = absurd (e (Some (record { ptr = p.ptr; value = y })) (Some (record { ptr = q.ptr; value = z })) refl)
no_handles_in (Own x) r u v l o e w b = absurd (w x refl)
no_handles_in (Borrow x) r u v l o e w b = absurd (b x refl)
no_handles_in (Enum labels) r u v l o e w b = no_label_types labels.value
no_handles_in _ r u v l o e w b = refl
