-- Parts in order: those that were made, and those that are still to come.
use Rattle.std.proofs.Common.{◌≡◌, ◌∙◌, ap, refl, sym, List, [], ◌∷◌, ◌++◌, Option, Some, None, length, arith}
use Rattle.wit_types.specs.declared.types.Field.{Field, out-Field}
use Rattle.wit_types.specs.declared.types.Case.{Case, out-Case}
use Rattle.wit_types.specs.declared.types.WitType.{WitType}
use Rattle.wit_types.specs.Plain.{Name, Plain, Parts, End, More, Bare, plain, fields_of, types_of, cases_of, case_part, payload_of, bare}
use Rattle.comp_facts.specs.Facts.{and_part, and_bare}
use Rattle.comp_defining.specs.Parts.{and_case}

-- the one after the other
abbrev pub and_parts : Parts → Parts → Parts
and_parts End qs = qs
and_parts (More n t rest) qs = More n t (and_parts rest qs)
and_parts (Bare n rest) qs = Bare n (and_parts rest qs)

pub parts_end : (ps : Parts) → and_parts ps End ≡ ps
parts_end End = refl
parts_end (More n t rest) = ap (More n t) (parts_end rest)
parts_end (Bare n rest) = ap (Bare n) (parts_end rest)

pub part-first : (ps : Parts) (n : Name) (t : Plain) (qs : Parts) → and_parts (and_part ps n t) qs ≡ and_parts ps (More n t qs)
part-first End n t qs = refl
part-first (More m u rest) n t qs = ap (More m u) (part-first rest n t qs)
part-first (Bare m rest) n t qs = ap (Bare m) (part-first rest n t qs)

bare-first : (ps : Parts) (n : Name) (qs : Parts) → and_parts (and_bare ps n) qs ≡ and_parts ps (Bare n qs)
bare-first End n qs = refl
bare-first (More m u rest) n qs = ap (More m u) (bare-first rest n qs)
bare-first (Bare m rest) n qs = ap (Bare m) (bare-first rest n qs)

pub case-first : (ps : Parts) (n : Name) (o : Option Plain) (qs : Parts) → and_parts (and_case ps n o) qs ≡ and_parts ps (case_part n o qs)
case-first ps n None qs = bare-first ps n qs
case-first ps n (Some t) qs = part-first ps n t qs

-- ---- one more was made

pub fields-and : (xs : List Field) (f : Field) → fields_of (xs ++ f ∷ []) ≡ and_part (fields_of xs) (out-Field f).name (plain (out-Field f).ty)
fields-and [] f = refl
fields-and (x ∷ xs) f = ap (More (out-Field x).name (plain (out-Field x).ty)) (fields-and xs f)

pub types-and : (xs : List WitType) (t : WitType) → types_of (xs ++ t ∷ []) ≡ and_part (types_of xs) [] (plain t)
types-and [] t = refl
types-and (x ∷ xs) t = ap (More [] (plain x)) (types-and xs t)

case-behind : (n : Name) (o : Option Plain) (rest : Parts) (m : Name) (p : Option Plain) → and_case (case_part n o rest) m p ≡ case_part n o (and_case rest m p)
case-behind n None rest m None = refl
case-behind n None rest m (Some u) = refl
case-behind n (Some t) rest m None = refl
case-behind n (Some t) rest m (Some u) = refl

case-alone : (n : Name) (o : Option Plain) → case_part n o End ≡ and_case End n o
case-alone n None = refl
case-alone n (Some t) = refl

pub cases-and : (xs : List Case) (c : Case) → cases_of (xs ++ c ∷ []) ≡ and_case (cases_of xs) (out-Case c).name (payload_of (out-Case c).ty)
cases-and [] c = case-alone (out-Case c).name (payload_of (out-Case c).ty)
cases-and (x ∷ xs) c =
    ap (case_part (out-Case x).name (payload_of (out-Case x).ty)) (cases-and xs c)
    ∙ sym (case-behind (out-Case x).name (payload_of (out-Case x).ty) (cases_of xs) (out-Case c).name (payload_of (out-Case c).ty))

pub bare-and : (labels : List Name) (n : Name) → and_bare (bare labels) n ≡ bare (labels ++ n ∷ [])
bare-and [] n = refl
bare-and (l ∷ labels) n = ap (Bare l) (bare-and labels n)

pub result-cases : (ok err : Option Plain) → and_case (and_case End [] ok) [] err ≡ case_part [] ok (case_part [] err End)
result-cases None None = refl
result-cases None (Some e) = refl
result-cases (Some o) None = refl
result-cases (Some o) (Some e) = refl

pub nil_of : {A : Type 0} (xs : List A) → length xs ≡ 0 → xs ≡ []
nil_of [] h = refl
nil_of (x ∷ xs) h = absurd (omega arith)
