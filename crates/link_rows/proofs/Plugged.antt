-- The plugged component computes, and meets the premises of the law.
use Rattle.std.proofs.Common.{◌≡◌, inl, inr, ◌&&◌, nat_eq, cond, [], Option, Some, None, Bool, true, false, refl, ap, subst, arith}
use Rattle.comp_worlds.specs.Acts.{◌>>◌, gives, traps, spent, takes_step, with_more, shows}
use Rattle.comp_worlds.specs.Calls.{on, below, core, store_of, finds_room, deep_enough}
use Rattle.comp_worlds.specs.Groups.{Import, Target, Theirs, Func, LoweredFunc}
use Rattle.comp_worlds.specs.Hosts.{reacts, loses, stays}
use Rattle.comp_worlds.specs.Observed.{runs_calls}
use Rattle.comp_worlds.specs.Parts.{IsImportOf}
use Rattle.comp_link.specs.Linking.{all_outside, group_of}
use Rattle.comp_joins.specs.Alike.{IsNothing}
use Rattle.comp_joins.specs.Joining.{imports_of, asked, over_host, Meets, Fits, Agree, itself}
use Rattle.comp_joins.proofs.Finding.{alike_itself}
use Rattle.link_rows.specs.Trees.{reader}
use Rattle.link_rows.specs.Plugged.{adapter, joint, plugged, PluggedExamples, PluggedPremises}
use Rattle.link_rows.proofs.Taking.{not_theirs}

pub plugged_examples : PluggedExamples
unfolding ◌>>◌ gives traps spent takes_step with_more shows on below core store_of finds_room deep_enough reacts loses stays runs_calls
plugged_examples = record { whole = refl; fewer = refl; over = refl; fewer_over = refl }

fits : Fits joint adapter reader itself itself
fits = record {
  front = ((tt, refl, ((tt, tt), refl, tt)));
  between = ((tt, tt), refl, tt);
  behind = ((tt, tt), refl, ((tt, tt), refl, tt));
  first_given = alike_itself IsNothing refl (all_outside [] (imports_of adapter));
  second_given = inl (record { given = alike_itself IsNothing refl (asked joint adapter reader itself); exports = λ interface name. refl });
}

-- the one function that the reader lowers
abbrev import_of : Option Func → Import → Import
import_of (Some (LoweredFunc (Theirs f) options)) other = f
import_of _ other = other

types_agree : (f : Import) → IsImportOf (group_of reader) f → Meets (over_host plugged adapter itself) itself f
types_agree f (inl (k, n, options, is)) = go (nat_eq 0 k && nat_eq 0 n) is
  where
    go : (b : Bool) → cond b ((group_of reader).canons 0 0) None ≡ Some (LoweredFunc (Theirs f) options) → Meets (over_host plugged adapter itself) itself f
    go true is' = subst (Meets (over_host plugged adapter itself) itself) (ap (λ z. import_of z f) is') (_, refl, refl)
    go false is' = absurd (let q : None ≡ Some (LoweredFunc (Theirs f) options) = is' in cc)
types_agree f (inr (interface, name, is)) = absurd (not_theirs _ _ interface name f is)

agree : Agree plugged adapter reader itself itself
agree = record {
  first_stays = (((tt, (tt, tt)), tt), ((tt, tt), (tt, ((tt, tt), ((tt, tt), ((tt, tt), ((tt, tt), ((tt, tt), ((tt, tt), tt)))))))));
  second_stays = (((tt, (tt, tt)), tt), ((tt, tt), ((tt, tt), ((tt, tt), ((tt, tt), (tt, ((tt, tt), ((tt, tt), ((tt, tt), ((tt, tt), ((tt, tt), tt)))))))))));
  first_knows = (tt, (tt, (tt, (tt, ((tt, tt), (tt, tt))))));
  second_knows = (tt, (tt, (tt, (tt, (tt, (tt, (tt, (tt, tt))))))));
  first_once = λ r s same. same;
  second_once = λ r s same. same;
  first_begins = refl;
  known_before = λ r known. absurd known;
  own_before = λ r more less. less;
  second_begins = refl;
  behind = λ r le. omega arith;
  types = types_agree;
  resources = λ r known. absurd known;
}

-- the adapter exports the clock
abbrev Exported : Import → Type 0
Exported f = (target : Target) × ((group_of adapter).exports f.interface f.function ≡ Some target)

exports_all : (f : Import) → IsImportOf (group_of reader) f → Exported f
exports_all f (inl (k, n, options, is)) = go (nat_eq 0 k && nat_eq 0 n) is
  where
    go : (b : Bool) → cond b ((group_of reader).canons 0 0) None ≡ Some (LoweredFunc (Theirs f) options) → Exported f
    go true is' = subst Exported (ap (λ z. import_of z f) is') (_, refl)
    go false is' = absurd (let q : None ≡ Some (LoweredFunc (Theirs f) options) = is' in cc)
exports_all f (inr (interface, name, is)) = absurd (not_theirs _ _ interface name f is)

pub premises_hold : PluggedPremises
premises_hold = record { fits = fits; agree = agree; closed = record { imports = refl; functions = exports_all; resources = λ r known. absurd known } }
