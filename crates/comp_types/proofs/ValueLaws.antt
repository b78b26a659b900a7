-- Two value types match with some partners exactly where they are equal by them, and so do two types of functions.
use Rattle.std.proofs.Common.{◌≡◌, ◌∙◌, ap, refl, ℕ, List, [], ◌∷◌, Bool, true, false, Option, Some, None}
use Rattle.std.specs.Prelude.{◌&&◌}
use Rattle.std.specs.Cmp.Lexicographic.{pointwise}
use Rattle.std.proofs.lemmas.Bool.{false≢true}
use Rattle.std.proofs.lemmas.Slice.Eq.{bytes_eq-Decides}
use Rattle.wit_types.specs.Plain.{Name, RecordForm, AsRecord, AsTuple, VariantForm, AsVariant, AsEnum, AsOption, AsResult, Plain, Parts, PlainFunc, BoolType, SignedType, UnsignedType, CharType, StringType, ListType, RecordType, VariantType, FlagsType, OwnType, BorrowType, End, More, Bare}
use Rattle.comp_types.specs.Items.{same_name}
use Rattle.comp_types.specs.Equality.{IsSameValue, AreSameParts, AreSameParameters, IsSameAnswer, IsSameFunc}
use Rattle.comp_types.specs.Matching.{Pairs, onward, only_if, same_width, same_record_form, same_variant_form, matched_value, matched_parts, matched_answer, matched_parameters, matched_func}
use Rattle.comp_types.proofs.ValueLemmas.{width-sound, width-same}
use Rattle.comp_types.proofs.MeetLaws.{came_from, held, is_same, Grows, Agrees, grows-same, grows-then, agrees-before, met, AllMeet, IsFunction, meets}

-- ---- forms and names

record-sound : (f g : RecordForm) → same_record_form f g ≡ true → f ≡ g
record-sound AsRecord AsRecord h = refl
record-sound AsTuple AsTuple h = refl
record-sound _ _ h = absurd (false≢true h)

record-same : (f : RecordForm) → same_record_form f f ≡ true
record-same AsRecord = refl
record-same AsTuple = refl

variant-sound : (f g : VariantForm) → same_variant_form f g ≡ true → f ≡ g
variant-sound AsVariant AsVariant h = refl
variant-sound AsEnum AsEnum h = refl
variant-sound AsOption AsOption h = refl
variant-sound AsResult AsResult h = refl
variant-sound _ _ h = absurd (false≢true h)

variant-same : (f : VariantForm) → same_variant_form f f ≡ true
variant-same AsVariant = refl
variant-same AsEnum = refl
variant-same AsOption = refl
variant-same AsResult = refl

pub name-sound : (m n : Name) → same_name m n ≡ true → m ≡ n
name-sound m n = (bytes_eq-Decides m n).0

pub name-same : (n : Name) → same_name n n ≡ true
name-same n = (bytes_eq-Decides n n).1 refl

both : (a b : Bool) → (a && b) ≡ true → (a ≡ true) × (b ≡ true)
both true true h = (refl, refl)
both true false h = absurd (false≢true h)
both false b h = absurd (false≢true h)

and : (a b : Bool) → a ≡ true → b ≡ true → (a && b) ≡ true
and true true h g = refl
and true false h g = g
and false b h g = h

labels-sound : (ls ks : List Name) → pointwise same_name ls ks ≡ true → ls ≡ ks
labels-sound [] [] h = refl
labels-sound [] (k ∷ ks) h = absurd (false≢true h)
labels-sound (l ∷ ls) [] h = absurd (false≢true h)
labels-sound (l ∷ ls) (k ∷ ks) h =
    let each = both (same_name l k) (pointwise same_name ls ks) h in
    let first = name-sound l k each.0 in
    let rest = labels-sound ls ks each.1 in
    cc

labels-same : (ls : List Name) → pointwise same_name ls ls ≡ true
labels-same [] = refl
labels-same (l ∷ ls) = and (same_name l l) (pointwise same_name ls ls) (name-same l) (labels-same ls)

-- ---- what matches is equal

module _ (Meets : ℕ → ℕ → Type 0) where
  mutual
    pub value-sound : (by more : Pairs) (a b : Plain) → matched_value by a b ≡ Some more → Grows by more × (Agrees Meets more → IsSameValue Meets a b)
    value-sound by more BoolType BoolType e = (grows-same by more (is_same by more e), λ g. refl)
    value-sound by more (SignedType v) (SignedType w) e =
        let h = held _ _ more e in (grows-same by more (is_same by more h.1), λ g. ap SignedType (width-sound v w h.0))
    value-sound by more (UnsignedType v) (UnsignedType w) e =
        let h = held _ _ more e in (grows-same by more (is_same by more h.1), λ g. ap UnsignedType (width-sound v w h.0))
    value-sound by more CharType CharType e = (grows-same by more (is_same by more e), λ g. refl)
    value-sound by more StringType StringType e = (grows-same by more (is_same by more e), λ g. refl)
    value-sound by more (ListType a) (ListType b) e = let r = value-sound by more a b e in (r.0, λ g. (a, refl, r.1 g))
    value-sound by more (RecordType f ps) (RecordType k qs) e =
        let h = held _ _ more e in let r = parts-sound by more ps qs h.1 in
        (r.0, λ g. (ps, ap (λ form. RecordType form ps) (record-sound f k h.0), r.1 g))
    value-sound by more (VariantType f ps) (VariantType k qs) e =
        let h = held _ _ more e in let r = parts-sound by more ps qs h.1 in
        (r.0, λ g. (ps, ap (λ form. VariantType form ps) (variant-sound f k h.0), r.1 g))
    value-sound by more (FlagsType ls) (FlagsType ks) e =
        let h = held _ _ more e in (grows-same by more (is_same by more h.1), λ g. ap FlagsType (labels-sound ls ks h.0))
    value-sound by more (OwnType x) (OwnType y) e = let m = met by more y x e in (m.0, λ g. (x, refl, g y x m.1))
    value-sound by more (BorrowType x) (BorrowType y) e = let m = met by more y x e in (m.0, λ g. (x, refl, g y x m.1))
    value-sound by more _ _ e = cc

    pub parts-sound : (by more : Pairs) (ps qs : Parts) → matched_parts by ps qs ≡ Some more → Grows by more × (Agrees Meets more → AreSameParts Meets ps qs)
    parts-sound by more End End e = (grows-same by more (is_same by more e), λ g. refl)
    parts-sound by more (More m a ps) (More n b qs) e =
        let h = held _ _ more e in
        let c = came_from _ _ more h.1 in
        let r = value-sound by c.0 a b c.1 in
        let q = parts-sound c.0 more ps qs c.2 in
        (grows-then by c.0 more r.0 q.0, λ g. (a, ps, ap (λ name. More name a ps) (name-sound m n h.0), r.1 (agrees-before Meets c.0 more q.0 g), q.1 g))
    parts-sound by more (Bare m ps) (Bare n qs) e =
        let h = held _ _ more e in
        let q = parts-sound by more ps qs h.1 in
        (q.0, λ g. (ps, ap (λ name. Bare name ps) (name-sound m n h.0), q.1 g))
    parts-sound by more _ _ e = cc

  parameters-sound : (by more : Pairs) (ps qs : Parts) → matched_parameters by ps qs ≡ Some more → Grows by more × (Agrees Meets more → AreSameParameters Meets ps qs)
  parameters-sound by more End End e = (grows-same by more (is_same by more e), λ g. refl)
  parameters-sound by more (More m a ps) (More n b qs) e =
      let c = came_from _ _ more e in
      let r = value-sound by c.0 a b c.1 in
      let q = parameters-sound c.0 more ps qs c.2 in
      (grows-then by c.0 more r.0 q.0, λ g. (m, a, ps, refl, r.1 (agrees-before Meets c.0 more q.0 g), q.1 g))
  parameters-sound by more (Bare m ps) (Bare n qs) e =
      let q = parameters-sound by more ps qs e in (q.0, λ g. (m, ps, refl, q.1 g))
  parameters-sound by more _ _ e = cc

  answer-sound : (by more : Pairs) (a b : Option Plain) → matched_answer by a b ≡ Some more → Grows by more × (Agrees Meets more → IsSameAnswer Meets a b)
  answer-sound by more None None e = (grows-same by more (is_same by more e), λ g. refl)
  answer-sound by more (Some a) (Some b) e = let r = value-sound by more a b e in (r.0, λ g. (a, refl, r.1 g))
  answer-sound by more _ _ e = cc

  pub func-sound : (by more : Pairs) (a b : PlainFunc) → matched_func by a b ≡ Some more → Grows by more × (Agrees Meets more → IsSameFunc Meets a b)
  func-sound by more a b e =
      let c = came_from _ _ more e in
      let r = parameters-sound by c.0 a.params b.params c.1 in
      let q = answer-sound c.0 more a.answer b.answer c.2 in
      (grows-then by c.0 more r.0 q.0, λ g. record { params = r.1 (agrees-before Meets c.0 more q.0 g); answer = q.1 g })

-- ---- what is equal matches

abbrev pub Goes : (Meets : ℕ → ℕ → Type 0) → Option Pairs → Type 0
Goes Meets o = (more : Pairs) × (o ≡ Some more) × AllMeet Meets more

module _ (Meets : ℕ → ℕ → Type 0) (one : IsFunction Meets) where
  if_held : (b : Bool) (o : Option Pairs) → b ≡ true → Goes Meets o → Goes Meets (only_if b o)
  if_held true o h g = g
  if_held false o h g = absurd (false≢true h)

  pub goes-on : (f : Pairs → Option Pairs) (o : Option Pairs) → Goes Meets o → ((mid : Pairs) → AllMeet Meets mid → Goes Meets (f mid)) → Goes Meets (onward f o)
  goes-on f o g h = let n = h g.0 g.2 in (n.0, ap (onward f) g.1 ∙ n.1, n.2)

  mutual
    pub value-complete : (by : Pairs) (a b : Plain) → AllMeet Meets by → IsSameValue Meets a b → Goes Meets (matched_value by a b)
    value-complete by a BoolType m h = rw h (by, refl, m)
    value-complete by a (SignedType w) m h = rw h (if_held (same_width w w) (Some by) (width-same w) (by, refl, m))
    value-complete by a (UnsignedType w) m h = rw h (if_held (same_width w w) (Some by) (width-same w) (by, refl, m))
    value-complete by a CharType m h = rw h (by, refl, m)
    value-complete by a StringType m h = rw h (by, refl, m)
    value-complete by a (ListType b) m h = rw h.1 (value-complete by h.0 b m h.2)
    value-complete by a (RecordType k qs) m h = rw h.1 (if_held (same_record_form k k) (matched_parts by h.0 qs) (record-same k) (parts-complete by h.0 qs m h.2))
    value-complete by a (VariantType k qs) m h = rw h.1 (if_held (same_variant_form k k) (matched_parts by h.0 qs) (variant-same k) (parts-complete by h.0 qs m h.2))
    value-complete by a (FlagsType ks) m h = rw h (if_held (pointwise same_name ks ks) (Some by) (labels-same ks) (by, refl, m))
    value-complete by a (OwnType y) m h = rw h.1 (meets Meets one by y h.0 m h.2)
    value-complete by a (BorrowType y) m h = rw h.1 (meets Meets one by y h.0 m h.2)

    pub parts-complete : (by : Pairs) (ps qs : Parts) → AllMeet Meets by → AreSameParts Meets ps qs → Goes Meets (matched_parts by ps qs)
    parts-complete by ps End m h = rw h (by, refl, m)
    parts-complete by ps (More n b qs) m h =
        rw h.2 (if_held (same_name n n) (onward (λ more. matched_parts more h.1 qs) (matched_value by h.0 b)) (name-same n)
        (goes-on (λ more. matched_parts more h.1 qs) (matched_value by h.0 b) (value-complete by h.0 b m h.3) (λ mid am. parts-complete mid h.1 qs am h.4)))
    parts-complete by ps (Bare n qs) m h = rw h.1 (if_held (same_name n n) (matched_parts by h.0 qs) (name-same n) (parts-complete by h.0 qs m h.2))

  parameters-complete : (by : Pairs) (ps qs : Parts) → AllMeet Meets by → AreSameParameters Meets ps qs → Goes Meets (matched_parameters by ps qs)
  parameters-complete by ps End m h = rw h (by, refl, m)
  parameters-complete by ps (More n b qs) m h =
      rw h.3 (goes-on (λ more. matched_parameters more h.2 qs) (matched_value by h.1 b) (value-complete by h.1 b m h.4) (λ mid am. parameters-complete mid h.2 qs am h.5))
  parameters-complete by ps (Bare n qs) m h = rw h.2 (parameters-complete by h.1 qs m h.3)

  answer-complete : (by : Pairs) (a b : Option Plain) → AllMeet Meets by → IsSameAnswer Meets a b → Goes Meets (matched_answer by a b)
  answer-complete by a None m h = rw h (by, refl, m)
  answer-complete by a (Some b) m h = rw h.1 (value-complete by h.0 b m h.2)

  pub func-complete : (by : Pairs) (a b : PlainFunc) → AllMeet Meets by → IsSameFunc Meets a b → Goes Meets (matched_func by a b)
  func-complete by a b m h =
      goes-on (λ more. matched_answer more a.answer b.answer) (matched_parameters by a.params b.params) (parameters-complete by a.params b.params m h.params) (λ mid am. answer-complete mid a.answer b.answer am h.answer)
