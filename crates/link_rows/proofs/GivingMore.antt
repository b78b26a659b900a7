-- The component that is given more than it imports computes, and meets the premises of the law.
use Rattle.std.proofs.Common.{◌≡◌, inr, [], ◌∷◌, cond, Option, Some, None, Bool, true, false, refl}
use Rattle.std.specs.Prelude.{codes}
use Rattle.wit_types.specs.Plain.{Name}
use Rattle.comp_types.specs.Items.{same_name}
use Rattle.comp_worlds.specs.Acts.{◌>>◌, gives, traps, spent, takes_step, with_more, shows}
use Rattle.comp_worlds.specs.Calls.{on, below, core, store_of, finds_room, deep_enough}
use Rattle.comp_worlds.specs.Groups.{Target}
use Rattle.comp_worlds.specs.Hosts.{reacts, loses, stays}
use Rattle.comp_worlds.specs.Observed.{runs_calls}
use Rattle.comp_link.specs.Linking.{Given, Givens, GivenFunc, GivenType, Nothing, Giving, find, instance_in, target_in, exported, linked}
use Rattle.comp_joins.specs.Alike.{IsNothing, IsAny, IsAmong}
use Rattle.comp_joins.specs.Joining.{given_second, made_second, or_nowhere, asked, found_with, Fits, Agree, itself}
use Rattle.comp_joins.proofs.Finding.{alike_itself, item_itself, instance_alike, giving_alike, nothing_among}
use Rattle.link_rows.specs.Sharing.{still, teller}
use Rattle.link_rows.specs.GivingMore.{giving_more, given_more, GivingMoreExamples, GivingMorePremises}
use Rattle.link_rows.proofs.Sharing.{agree as sharing_agree}

pub giving_more_examples : GivingMoreExamples
unfolding ◌>>◌ gives traps spent takes_step with_more shows on below core store_of finds_room deep_enough reacts loses stays runs_calls
giving_more_examples = record { tells = refl }

-- ---- one clock is in front of both

abbrev first_item : Givens → Given
first_item Nothing = GivenType
first_item (Giving name item rest) = item

abbrev rest_of : Givens → Givens
rest_of Nothing = Nothing
rest_of (Giving name item rest) = rest

abbrev those : Givens
those = asked giving_more still teller itself

abbrev these : Givens
these = given_second giving_more still teller

-- the items of k
abbrev clocks_of : Givens → Givens
clocks_of gs = instance_in (Some (first_item (rest_of gs)))

clocks : IsAmong (clocks_of those) (clocks_of these)
clocks =
    giving_alike IsAny tt (codes "now") (first_item (clocks_of those)) (first_item (clocks_of these)) Nothing (rest_of (clocks_of these))
    (item_itself IsAny tt (Some (first_item (clocks_of those))) (Some (first_item (clocks_of these))) refl) (nothing_among (rest_of (clocks_of these)))

given : IsAmong those these
given =
    giving_alike IsAny tt (codes "h") (first_item those) (first_item these) (rest_of those) (rest_of these)
    (item_itself IsAny tt (Some (first_item those)) (Some (first_item these)) refl)
    (giving_alike IsAny tt (codes "k") (first_item (rest_of those)) (first_item (rest_of these)) Nothing Nothing
    (instance_alike IsAny tt (clocks_of those) (clocks_of these) clocks)
    (alike_itself IsAny tt Nothing))

-- f alone is exported
same_target : (b : Bool) (t t' : Target) → target_in (cond b (Some (GivenFunc t)) None) ≡ found_with (target_in (cond b (Some (GivenFunc t')) None)) (target_in (cond b (Some (GivenFunc t)) None))
same_target true t t' = refl
same_target false t t' = refl

one_export : (t t' : Target) (interface name : Name) → target_in (exported (Giving (codes "f") (GivenFunc t) Nothing) interface name) ≡ found_with (target_in (exported (Giving (codes "f") (GivenFunc t') Nothing) interface name)) (target_in (exported (Giving (codes "f") (GivenFunc t) Nothing) interface name))
one_export t t' [] name = same_target (same_name (codes "f") name) t t'
one_export t t' (c ∷ cs) name = go (same_name (codes "f") (c ∷ cs))
  where
    inside : Bool → Target → Option Target
    inside b t = target_in (find name (instance_in (cond b (Some (GivenFunc t)) None)))

    go : (b : Bool) → inside b t ≡ found_with (inside b t') (inside b t)
    go true = refl
    go false = refl

abbrev f_of : Givens → Target
f_of exports = or_nowhere (target_in (find (codes "f") exports))

fits : Fits giving_more still teller itself itself
fits = record {
  front = ((tt, refl, ((tt, tt), refl, tt)));
  between = ((tt, tt), refl, tt);
  behind = ((tt, tt), refl, ((tt, tt), refl, tt));
  first_given = alike_itself IsNothing refl Nothing;
  second_given = inr (record {
    given = given;
    finds = ((tt, ((tt, tt), tt)), ((tt, ((tt, tt), tt)), (tt, (tt, (tt, (tt, (tt, (tt, (tt, (tt, (tt, tt)))))))))));
    exports = λ interface name. one_export (f_of (made_second giving_more still teller).exports) (f_of (linked teller).exports) interface name;
  });
}

agree : Agree given_more still teller itself itself
agree = record {
  first_stays = sharing_agree.first_stays;
  second_stays = sharing_agree.second_stays;
  first_knows = sharing_agree.first_knows;
  second_knows = sharing_agree.second_knows;
  first_once = λ r s same. same;
  second_once = λ r s same. same;
  first_begins = refl;
  known_before = λ r known. absurd known;
  own_before = λ r more less. less;
  second_begins = refl;
  behind = sharing_agree.behind;
  types = sharing_agree.types;
  resources = λ r known. absurd known;
}

pub more_premises_hold : GivingMorePremises
more_premises_hold = record { fits = fits; agree = agree }
