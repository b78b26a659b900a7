-- What the component exports, by computation.
use Rattle.std.proofs.Common.{◌≡◌, cond, [], Bool, true, false, Option, Some, None, refl, sym, ap, subst}
use Rattle.std.specs.Prelude.{codes}
use Rattle.std.proofs.lemmas.Bool.{false≢true}
use Rattle.wit_types.specs.Plain.{PlainFunc, BoolType, OwnType, BorrowType, End as NoParts, More as Part}
use Rattle.comp_types.specs.Items.{Item, Entries, InstanceItem, KindItem, ValueKind, End, More, same_name, look_up}
use Rattle.comp_types.specs.Added.{type_of}
use Rattle.comp_link.specs.Linking.{GivenType, Nothing, Giving, find, instance_in, linked}
use Rattle.comp_link.specs.Exports.{Either, IsOf, Finds}
use Rattle.comp_link.proofs.Shapes.{Has, has_exports}
use Rattle.link_rows.specs.WrapsTrees.{constant}
use Rattle.link_rows.specs.WrapsRows.{ExportsExamples}

abbrev entries_of : Option Item → Entries
entries_of (Some (InstanceItem entries)) = entries
entries_of o = End

-- the function f of the instance
instance_has : Has (instance_in (find (codes "i") (linked constant).exports)) (entries_of (look_up (codes "i") (type_of constant).exports))
instance_has = has_exports (instance_in (find (codes "i") (linked constant).exports)) (entries_of (look_up (codes "i") (type_of constant).exports)) (refl, refl, tt)

first_has : Has (Giving (codes "g") GivenType (Giving (codes "f") GivenType Nothing)) (More (codes "g") (KindItem (ValueKind BoolType)) End)
first_has name item is = at_test (same_name (codes "g") name) is
  where
    at_test : (b : Bool) → cond b (Some (KindItem (ValueKind BoolType))) None ≡ Some item → Either b (IsOf GivenType item) (Finds (Giving (codes "f") GivenType Nothing) name item)
    at_test true is' = subst (IsOf GivenType) (let q : KindItem (ValueKind BoolType) ≡ item = cc in q) refl
    at_test false is' = absurd (let q : None ≡ Some item = is' in cc)

pub exports_examples : ExportsExamples
exports_examples = record {
  item_by_item = (refl, refl, (refl, refl, (refl, instance_has, (refl, refl, tt))));
  of_the_instance = first_has;
  of_the_type = refl;
  of_another_type = λ h. absurd (let q : Part [] (OwnType 0) NoParts ≡ Part [] (BorrowType 0) NoParts = ap (λ (ty : PlainFunc). ty.params) h in cc);
  no_instance = λ h. h;
  no_resource = λ h. false≢true (sym h);
  one_more = λ h. h;
  defines = (tt, (tt, (tt, ((tt, (tt, (tt, tt))), (tt, (tt, (tt, tt)))))));
}
