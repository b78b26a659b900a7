-- The component that takes imports from both computes, and meets the premises of the law.
use Rattle.std.proofs.Common.{◌≡◌, inl, inr, ℕ, ◌&&◌, nat_eq, cond, [], Option, Some, None, Bool, true, false, refl, ap, subst, arith}
use Rattle.std.specs.Prelude.{codes}
use Rattle.comp_worlds.specs.Acts.{◌>>◌, gives, traps, spent, takes_step, with_more, shows}
use Rattle.comp_worlds.specs.Calls.{on, below, core, store_of, finds_room, deep_enough}
use Rattle.comp_worlds.specs.Groups.{Import, Theirs, Func, LoweredFunc}
use Rattle.comp_worlds.specs.Hosts.{reacts, loses, stays}
use Rattle.comp_worlds.specs.Observed.{runs_calls}
use Rattle.comp_worlds.specs.Parts.{IsImportOf}
use Rattle.wit_types.specs.Plain.{Name}
use Rattle.comp_types.specs.Items.{same_name}
use Rattle.comp_types.specs.Substitution.{partner_of}
use Rattle.comp_types.proofs.ValueLaws.{name-sound}
use Rattle.comp_link.specs.Linking.{Given, Nothing, find, group_of}
use Rattle.comp_inside.specs.Wrapping.{IsNamed}
use Rattle.comp_joins.specs.Alike.{IsNothing}
use Rattle.comp_joins.specs.Joining.{asked, made_second, over_host, Meets, Fits, Agree, itself}
use Rattle.comp_joins.specs.Numbers.{from, to, Partners}
use Rattle.comp_joins.specs.Handing.{HandsOn}
use Rattle.comp_joins.proofs.Finding.{alike_itself}
use Rattle.link_rows.specs.Sharing.{still, teller, sharing, shared, SharingExamples, SharingPremises, handed, SharingHands}
use Rattle.link_rows.proofs.Taking.{not_theirs}

pub sharing_examples : SharingExamples
unfolding ◌>>◌ gives traps spent takes_step with_more shows on below core store_of finds_room deep_enough reacts loses stays runs_calls
sharing_examples = record { tells = refl }

fits : Fits sharing still teller itself itself
fits = record {
  front = ((tt, refl, ((tt, tt), refl, tt)));
  between = ((tt, (tt, tt)), refl, ((tt, tt), refl, tt));
  behind = ((tt, tt), refl, ((tt, tt), refl, tt));
  first_given = alike_itself IsNothing refl Nothing;
  second_given = inl (record { given = alike_itself IsNothing refl (asked sharing still teller itself); exports = λ interface name. refl });
}

abbrev import_of : Option Func → Import → Import
import_of (Some (LoweredFunc (Theirs f) options)) other = f
import_of _ other = other

-- the clock is exported, and what is told goes to the host
types_agree : (f : Import) → IsImportOf (group_of teller) f → Meets (over_host shared still itself) itself f
types_agree f (inl (k, n, options, is)) = go (nat_eq 0 k && nat_eq 0 n) (nat_eq 0 k && nat_eq 1 n) is
  where
    go : (a b : Bool) → cond a ((group_of teller).canons 0 0) (cond b ((group_of teller).canons 0 1) None) ≡ Some (LoweredFunc (Theirs f) options) → Meets (over_host shared still itself) itself f
    go true b is' = subst (Meets (over_host shared still itself) itself) (ap (λ z. import_of z f) is') (_, refl, refl)
    go false true is' = subst (Meets (over_host shared still itself) itself) (ap (λ z. import_of z f) is') (_, refl, refl)
    go false false is' = absurd (let q : None ≡ Some (LoweredFunc (Theirs f) options) = is' in cc)
types_agree f (inr (interface, name, is)) = absurd (not_theirs _ _ interface name f is)

pub agree : Agree shared still teller itself itself
agree = record {
  first_stays = (tt, ((tt, tt), ((tt, tt), ((tt, tt), ((tt, tt), ((tt, tt), ((tt, tt), tt)))))));
  second_stays = (((tt, (tt, tt)), tt), ((tt, tt), (((tt, (tt, tt)), tt), ((tt, tt), ((tt, (tt, tt)), ((tt, (tt, tt)), ((tt, tt), (tt, ((tt, tt), ((tt, tt), ((tt, tt), ((tt, tt), ((tt, tt), tt)))))))))))));
  first_knows = (tt, (tt, (tt, ((tt, (tt, tt)), (tt, tt)))));
  second_knows = (tt, (tt, (tt, (tt, (tt, (tt, (tt, (tt, (tt, (tt, (tt, tt)))))))))));
  first_once = λ r s same. same;
  second_once = λ r s same. same;
  first_begins = refl;
  known_before = λ r known. absurd known;
  own_before = λ r more less. less;
  second_begins = refl;
  behind = λ r le. omega arith;
  types = types_agree;
  resources = λ r known. absurd known;
}

pub premises_hold : SharingPremises
premises_hold = record { fits = fits; agree = agree }

-- ---- handing on, and numbers

is_named : (name : Name) (b : Bool) → same_name (codes "f") name ≡ b → (item : Given) → cond b (find (codes "f") (made_second sharing still teller).exports) None ≡ Some item → IsNamed name handed
is_named name true e item is = inl (name-sound (codes "f") name e)
is_named name false e item is = absurd (let q : None ≡ Some item = is in cc)

hands : HandsOn sharing still teller 0 handed
hands = record {
  front = fits.front;
  between = fits.between;
  nothing = refl;
  behind = refl;
  are = record { each = ((_, refl, refl), tt); all = λ name item is. is_named name (same_name (codes "f") name) refl item is };
}

no_partner : (r g : ℕ) → partner_of [] r ≡ Some g → ⊥
no_partner r g is = let q : None ≡ Some g = is in cc

abbrev from_one : ℕ → ℕ
from_one = from shared still teller [] []

abbrev to_other : ℕ → ℕ
to_other = to shared still teller [] []

types_meet : (f : Import) → IsImportOf (group_of teller) f → Meets (over_host shared still from_one) to_other f
types_meet f (inl (k, n, options, is)) = go (nat_eq 0 k && nat_eq 0 n) (nat_eq 0 k && nat_eq 1 n) is
  where
    go : (a b : Bool) → cond a ((group_of teller).canons 0 0) (cond b ((group_of teller).canons 0 1) None) ≡ Some (LoweredFunc (Theirs f) options) → Meets (over_host shared still from_one) to_other f
    go true b is' = subst (Meets (over_host shared still from_one) to_other) (ap (λ z. import_of z f) is') (_, refl, refl)
    go false true is' = subst (Meets (over_host shared still from_one) to_other) (ap (λ z. import_of z f) is') (_, refl, refl)
    go false false is' = absurd (let q : None ≡ Some (LoweredFunc (Theirs f) options) = is' in cc)
types_meet f (inr (interface, name, is)) = absurd (not_theirs _ _ interface name f is)

partners : Partners shared still teller [] []
partners = record {
  before_first = record { imported = λ r g is. absurd (no_partner r g is); before = λ r g is. absurd (no_partner r g is); once = λ r s g is is'. absurd (no_partner r g is) };
  before_second = record { imported = λ r g is. absurd (no_partner r g is); before = λ r g is. absurd (no_partner r g is); once = λ r s g is is'. absurd (no_partner r g is) };
  known = λ r known. absurd known;
  types = types_meet;
  resources = λ r known. absurd known;
}

pub handing_holds : SharingHands
handing_holds = record { hands = hands; partners = partners }
