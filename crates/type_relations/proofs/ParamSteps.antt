-- Tables with the types of parameters.
use Rattle.std.proofs.Common.{◌≡◌, ◌∙◌, ap, sym, subst, ℕ, ◌+◌, ◌<◌, List, [], ◌∷◌, ◌++◌, take, get_or, length}
use Rattle.std.proofs.lemmas.List.{take_more}
use Rattle.wit_types.specs.declared.types.Field.{Field, out-Field}
use Rattle.wit_types.specs.Plain.{plain, fields_of}
use Rattle.type_table.specs.Tables.{Types, IsSound, Has, HasParts, Grew}
use Rattle.type_table.proofs.HasLaws.{parts-grew}

field-push : (T : Types) (fs : List Field) (x : Field) → HasParts T (fields_of fs) → Has T (plain (out-Field x).ty) → HasParts T (fields_of (fs ++ x ∷ []))
field-push T [] x h k = (k, tt)
field-push T (y ∷ fs) x h k = (h.0, field-push T fs x h.1 k)

-- one more parameter
pub field_more : (T U : Types) (fs : List Field) (i : ℕ) (x : Field) → i < length fs → x ≡ get_or fs i x → (IsSound T → Grew T U) → (IsSound T → Has U (plain (out-Field x).ty))
    → IsSound T → HasParts T (fields_of (take i fs)) → IsSound U × HasParts U (fields_of (take (i + 1) fs))
field_more T U fs i x lt x_is grew has s h =
    let more : take (i + 1) fs ≡ take i fs ++ x ∷ [] = take_more fs i x lt ∙ ap (λ z. take i fs ++ z ∷ []) (sym x_is) in
    ((grew s).sound s, subst (λ l. HasParts U (fields_of l)) (sym more) (field-push U (take i fs) x (parts-grew T U (fields_of (take i fs)) (grew s) h) (has s)))
