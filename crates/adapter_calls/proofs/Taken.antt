-- What an answer takes of the handles leaves none that is borrowed, and it is lifted as a reply.
use Rattle.std.proofs.Common.{◌≡◌, ◌∙◌, refl, ap, subst, ℕ, List, [], ◌∷◌, Option, Some, None, false, not, ◌||◌}
use Rattle.std.specs.Option.{option_map, option_and_then}
use Rattle.std.specs.List.{list_any}
use Rattle.wit_types.specs.Plain.{PlainFunc}
use Rattle.wit_types.specs.PlainValue.{PlainValue}
use Rattle.abi_layout.specs.Handles.{handles}
use Rattle.handle_space.specs.HandleMap.{Entry, HandleMap, Answered, answered, take_own}
use Rattle.adapter_code.specs.Run.{State, own_resource}
use Rattle.comp_worlds.specs.Groups.{Config}
use Rattle.comp_worlds.specs.Locals.{Local, Args, has_no_borrow, done, also}
use Rattle.comp_worlds.specs.Passing.{has_borrow, is_borrow}
use Rattle.comp_inside.proofs.Tables.{has_borrow_to}
use Rattle.row_runs.specs.Passing.{Named, OwnAt, BorrowAt, answer_tuple, named_in, takes, and_answer}
use Rattle.adapter_calls.specs.Answering.{Reply, reply_with, reply_by}
use Rattle.adapter_calls.specs.Handling.{map_to, AreOwned}
use Rattle.adapter_calls.specs.Lifting.{lifted, lifted_by}
use Rattle.adapter_calls.proofs.Handling.{owned_taken}

module _ (own : ℕ → ℕ) where
  abbrev OwnedAfter : List Named → Type 0
  OwnedAfter ns = (b : Answered ℕ ℕ) → AreOwned b.map.entries → (d : Answered ℕ (List ℕ)) → takes own ns b.map ≡ Some d → AreOwned d.map.entries

  pub owned_takes : (ns : List Named) (m : HandleMap ℕ) (a : Answered ℕ (List ℕ)) → AreOwned m.entries → takes own ns m ≡ Some a → AreOwned a.map.entries
  owned_takes [] m a owned is = (let one : answered [] m ≡ a = cc in subst (λ (x : Answered ℕ (List ℕ)). AreOwned x.map.entries) one owned)
  owned_takes (BorrowAt r i ∷ ns) m a owned is = absurd cc
  owned_takes (OwnAt r i ∷ ns) m a owned is = first (λ b now d e. owned_takes ns b.map d now e) (take_own m i (own r)) refl is
    where
      rest : OwnedAfter ns → (b : Answered ℕ ℕ) → AreOwned b.map.entries → (o : Option (Answered ℕ (List ℕ))) → takes own ns b.map ≡ o → option_map (and_answer b.answer) o ≡ Some a → AreOwned a.map.entries
      rest more b now None e is = absurd cc
      rest more b now (Some d) e is = (let one : and_answer b.answer d ≡ a = cc in subst (λ (x : Answered ℕ (List ℕ)). AreOwned x.map.entries) one (more b now d e))

      first : OwnedAfter ns → (o : Option (Answered ℕ ℕ)) → take_own m i (own r) ≡ o → option_and_then (λ (b : Answered ℕ ℕ). option_map (and_answer b.answer) (takes own ns b.map)) o ≡ Some a → AreOwned a.map.entries
      first more None e is = absurd cc
      first more (Some b) e is = rest more b (owned_taken i (own r) b.answer m b.map e owned) (takes own ns b.map) refl is

none_borrowed : (es : List (Option (Entry ℕ))) → AreOwned es → list_any is_borrow es ≡ false
none_borrowed [] owned = refl
none_borrowed (None ∷ es) owned = ap (λ b. false || b) (none_borrowed es owned)
none_borrowed (Some e ∷ es) owned = ap (λ b. not b || list_any is_borrow es) owned.0 ∙ none_borrowed es owned.1

pub no_borrow_left : (to : ℕ → ℕ) (m : HandleMap ℕ) (c : Config ℕ) → c.map ≡ map_to to m → AreOwned m.entries → has_no_borrow [] c ≡ Some (done c)
no_borrow_left to m c is owned = ap (λ b. also (not b) (Some (done c))) (ap has_borrow is ∙ has_borrow_to to m ∙ none_borrowed m.entries owned)

-- the reply, and the handles that it leaves
abbrev pub as_lifted : (ℕ → ℕ) → PlainFunc → Config ℕ → Reply → Local ℕ (Args ℕ)
as_lifted to ty c r = lifted to ty c r.value r.taken

one_reply : (to : ℕ → ℕ) (ty : PlainFunc) (c : Config ℕ) (v : PlainValue) (o : Option (Answered ℕ (List ℕ))) → option_map (lifted to ty c v) o ≡ option_map (as_lifted to ty c) (option_map (reply_with v) o)
one_reply to ty c v None = refl
one_reply to ty c v (Some a) = refl

pub lifted_as_reply : (to : ℕ → ℕ) (ty : PlainFunc) (c : Config ℕ) (t : State) (o : Option PlainValue) → option_and_then (lifted_by to ty c t.table) o ≡ option_map (as_lifted to ty c) (option_and_then (reply_by ty t) o)
lifted_as_reply to ty c t None = refl
lifted_as_reply to ty c t (Some v) = one_reply to ty c v (takes own_resource (named_in (handles (answer_tuple ty) v)) t.table)

-- handles of a reply are what was taken
pub reply_owned : (ty : PlainFunc) (t : State) (o : Option PlainValue) (r : Reply) → AreOwned t.table.entries → option_and_then (reply_by ty t) o ≡ Some r → AreOwned r.taken.map.entries
reply_owned ty t None r owned is = absurd cc
reply_owned ty t (Some v) r owned is = at (takes own_resource (named_in (handles (answer_tuple ty) v)) t.table) refl is
  where
    at : (o : Option (Answered ℕ (List ℕ))) → takes own_resource (named_in (handles (answer_tuple ty) v)) t.table ≡ o → option_map (reply_with v) o ≡ Some r → AreOwned r.taken.map.entries
    at None e is = absurd cc
    at (Some a) e is = (let one : reply_with v a ≡ r = cc in subst (λ (x : Reply). AreOwned x.taken.map.entries) one (owned_takes own_resource (named_in (handles (answer_tuple ty) v)) t.table a owned e))
