-- The tests that a call passes before it is answered, in their order: what must hold of it, weight, room, and denial.
use Rattle.std.specs.Prelude.{ℕ, ◌+◌, ◌==◌, nat_lt, nat_le, Bool, true, false, ◌&&◌, ◌||◌, List, [], ◌∷◌, Option, Some, None, if◌then◌else◌}
use Rattle.std.specs.List.{list_all}
use Rattle.std.specs.Str.{bytes_eq}
use Rattle.wit_types.specs.Plain.{Name, Plain, Parts, Width, OneByte, TwoBytes, FourBytes, EightBytes, RecordForm, AsRecord, AsTuple, VariantForm, AsVariant, AsEnum, AsOption, AsResult, BoolType, SignedType, UnsignedType, CharType, StringType, ListType, RecordType, VariantType, FlagsType, OwnType, BorrowType, End as NoParts, More as Part, Bare}
use Rattle.wit_types.specs.HasType.{are_of}
use Rattle.policy_data.specs.declared.words.Deny.{Deny}
use Rattle.policy_data.specs.declared.words.Deny.TheVariants.{Trap as DenyByTrap, Error as DenyByError}
use Rattle.policy_data.specs.declared.policy.Policy.{Policy}
use Rattle.host_port.specs.Calls.{PlainCall}
use Rattle.reference_step.specs.Atoms.{atoms_of, handles}
use Rattle.reference_step.specs.Handles.{Live, handle_at, is_of_kind, live_of_kind}
use Rattle.reference_step.specs.Listed.{Listed}
use Rattle.reference_step.specs.Access.{Access, Hosted, Denied, Virtual, access}
use Rattle.reference_step.specs.Refused.{refused}

-- ---- what must hold of a call: its arguments have the listed types, its result type is the listed one, but for the numbers of
-- handles, and each handle that it is given is live and of its kind

abbrev pub bytes_of : Width → ℕ
bytes_of OneByte = 1
bytes_of TwoBytes = 2
bytes_of FourBytes = 4
bytes_of EightBytes = 8

abbrev pub same_width : Width → Width → Bool
same_width a b = bytes_of a == bytes_of b

abbrev pub record_form : RecordForm → ℕ
record_form AsRecord = 0
record_form AsTuple = 1

abbrev pub variant_form : VariantForm → ℕ
variant_form AsVariant = 0
variant_form AsEnum = 1
variant_form AsOption = 2
variant_form AsResult = 3

abbrev pub same_labels : List Name → List Name → Bool
same_labels [] [] = true
same_labels [] (y ∷ ys) = false
same_labels (x ∷ xs) [] = false
same_labels (x ∷ xs) (y ∷ ys) = bytes_eq x y && same_labels xs ys

-- a type of the same form, whose parts pass
abbrev pub is_signed : Width → Plain → Bool
is_signed w (SignedType other) = same_width w other
is_signed w _ = false

abbrev pub is_unsigned : Width → Plain → Bool
is_unsigned w (UnsignedType other) = same_width w other
is_unsigned w _ = false

abbrev pub is_bool_type : Plain → Bool
is_bool_type BoolType = true
is_bool_type _ = false

abbrev pub is_char_type : Plain → Bool
is_char_type CharType = true
is_char_type _ = false

abbrev pub is_string_type : Plain → Bool
is_string_type StringType = true
is_string_type _ = false

abbrev pub is_list_type : (Plain → Bool) → Plain → Bool
is_list_type item (ListType other) = item other
is_list_type item _ = false

abbrev pub is_record_type : RecordForm → (Parts → Bool) → Plain → Bool
is_record_type form fields (RecordType other_form others) = record_form form == record_form other_form && fields others
is_record_type form fields _ = false

abbrev pub is_variant_type : VariantForm → (Parts → Bool) → Plain → Bool
is_variant_type form cases (VariantType other_form others) = variant_form form == variant_form other_form && cases others
is_variant_type form cases _ = false

abbrev pub is_flags_type : List Name → Plain → Bool
is_flags_type labels (FlagsType others) = same_labels labels others
is_flags_type labels _ = false

abbrev pub is_own : Plain → Bool
is_own (OwnType _) = true
is_own _ = false

abbrev pub is_borrow : Plain → Bool
is_borrow (BorrowType _) = true
is_borrow _ = false

abbrev pub is_end : Parts → Bool
is_end NoParts = true
is_end (Part _ _ _) = false
is_end (Bare _ _) = false

abbrev pub is_part : Name → (Plain → Bool) → (Parts → Bool) → Parts → Bool
is_part name ty rest (Part other other_ty others) = bytes_eq name other && (ty other_ty && rest others)
is_part name ty rest NoParts = false
is_part name ty rest (Bare _ _) = false

abbrev pub is_bare : Name → (Parts → Bool) → Parts → Bool
is_bare name rest (Bare other others) = bytes_eq name other && rest others
is_bare name rest NoParts = false
is_bare name rest (Part _ _ _) = false

abbrev mutual
  -- types that are equal but for the numbers of handles
  pub alike : Plain → Plain → Bool
  alike BoolType t = is_bool_type t
  alike (SignedType width) t = is_signed width t
  alike (UnsignedType width) t = is_unsigned width t
  alike CharType t = is_char_type t
  alike StringType t = is_string_type t
  alike (ListType item) t = is_list_type (λ other. alike item other) t
  alike (RecordType form fields) t = is_record_type form (λ others. alike_parts fields others) t
  alike (VariantType form cases) t = is_variant_type form (λ others. alike_parts cases others) t
  alike (FlagsType labels) t = is_flags_type labels t
  alike (OwnType kind) t = is_own t
  alike (BorrowType kind) t = is_borrow t

  pub alike_parts : Parts → Parts → Bool
  alike_parts NoParts ps = is_end ps
  alike_parts (Part name ty rest) ps = is_part name (λ other. alike ty other) (λ others. alike_parts rest others) ps
  alike_parts (Bare name rest) ps = is_bare name (λ others. alike_parts rest others) ps

abbrev pub alike_results : Option Plain → Option Plain → Bool
alike_results None None = true
alike_results None (Some ty) = false
alike_results (Some ty) None = false
alike_results (Some ty) (Some other) = alike ty other

-- the handles that arguments give: the number of the kind, and their own
abbrev pub given : Listed → PlainCall → List (ℕ × ℕ)
given f c = handles (atoms_of f.function.ty.params c.args)

abbrev pub are_live : Live → List (ℕ × ℕ) → Bool
are_live live wanted = list_all (λ h. is_of_kind h.0 (handle_at live h.1)) wanted

abbrev pub passes : Live → Listed → PlainCall → Bool
passes live f c = are_of f.function.ty.params c.args && (alike_results f.function.ty.answer c.answer && are_live live (given f c))

-- ---- room: as many places of a kind must be free as the result has own handles of it outside lists

abbrev pub same_kind : ℕ → ℕ → ℕ
same_kind kind other = if kind == other then 1 else 0

abbrev mutual
  pub owns : ℕ → Plain → ℕ
  owns kind BoolType = 0
  owns kind (SignedType width) = 0
  owns kind (UnsignedType width) = 0
  owns kind CharType = 0
  owns kind StringType = 0
  owns kind (ListType item) = 0
  owns kind (RecordType _ fields) = owns_in kind fields
  owns kind (VariantType _ cases) = owns_in kind cases
  owns kind (FlagsType labels) = 0
  owns kind (OwnType other) = same_kind kind other
  owns kind (BorrowType other) = 0

  pub owns_in : ℕ → Parts → ℕ
  owns_in kind NoParts = 0
  owns_in kind (Part _ ty rest) = owns kind ty + owns_in kind rest
  owns_in kind (Bare _ rest) = owns_in kind rest

abbrev pub owns_of : ℕ → Option Plain → ℕ
owns_of kind None = 0
owns_of kind (Some ty) = owns kind ty

-- whether that many more handles of a kind fit
abbrev pub fit : Policy → Live → ℕ → ℕ → Bool
fit p live kind more = nat_le (more + live_of_kind kind live) p.slots

abbrev pub kinds : List ℕ
kinds = 0 ∷ 1 ∷ 2 ∷ 3 ∷ 4 ∷ 5 ∷ 6 ∷ 7 ∷ 8 ∷ 9 ∷ 10 ∷ 11 ∷ 12 ∷ 13 ∷ []

abbrev pub has_places : Policy → Live → Option Plain → Bool
has_places p live ty = list_all (λ kind. owns_of kind ty == 0 || fit p live kind (owns_of kind ty)) kinds

-- ---- error codes by package

-- whose error codes a function's result has, if it has some
pub data Errors : Type 0 where
  FilesystemErrors : Errors
  SocketErrors : Errors
  NoErrors : Errors

abbrev pub of_package : ℕ → Errors
of_package interface = if nat_lt interface 18 then NoErrors else if nat_lt interface 20 then FilesystemErrors else SocketErrors

abbrev pub is_result : Option Plain → Bool
is_result (Some (VariantType AsResult cases)) = true
is_result _ = false

abbrev pub errors_of : Listed → Errors
errors_of f = if is_result f.function.ty.answer then of_package f.interface else NoErrors

-- ---- denial

pub data Denial : Type 0 where
  NotDenied : Denial
  -- the policy denies the function
  ByPolicy : Denial
  -- the rules refuse the address or the name
  ByRules : Denial

abbrev pub by_access : Access → Bool → Denial
by_access Denied refused = ByPolicy
by_access Hosted refused = if refused then ByRules else NotDenied
by_access Virtual refused = if refused then ByRules else NotDenied

abbrev pub denial : Policy → Listed → PlainCall → Denial
denial p f c = by_access (access p f.interface f.function.name) (refused p f.function.name c.args)

-- whether a denied function answers access-denied, in place of a trap
abbrev pub is_answered : Deny → Errors → Bool
is_answered DenyByError SocketErrors = true
is_answered DenyByError FilesystemErrors = false
is_answered DenyByError NoErrors = false
is_answered DenyByTrap _ = false
