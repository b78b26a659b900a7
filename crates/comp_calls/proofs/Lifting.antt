-- What lifting says, by the types of a function; and faults of an instance as the ends of a run.
use Rattle.std.proofs.Common.{◌≡◌, ◌==◌, ◌&&◌, ℕ, Bool, true, false, List, [], ◌∷◌, length, Some, Ok, Err, refl, sym, ap, subst, ◌∙◌, arith}
use Rattle.std.specs.Prelude.{Result, IsErrAnd, Vec, vec_len, not}
use Rattle.std.specs.Global.{Global}
use Rattle.std.proofs.lemmas.Bool.Decides.{nat_tests}
use Rattle.wit_types.specs.Plain.{Plain, PlainFunc}
use Rattle.wit_types.specs.declared.value.Value.{Value}
use Rattle.abi_layout.specs.Functions.{lifted}
use Rattle.abi_load.specs.Lifted.{words as numbers}
use Rattle.core_store.specs.Words.{words, HaveTypes}
use Rattle.host_port.specs.Hosts.{HostStep}
use Rattle.comp_worlds.specs.Groups.{Nesting, Options, Lifting, Config, ResourceNew}
use Rattle.comp_worlds.specs.Passing.{answer_tuple, most_results}
use Rattle.comp_worlds.specs.Locals.{lifts, makes, lends_nothing}
use Rattle.comp_worlds.specs.Calls.{plainly, owned_by}
use Rattle.core_store.specs.declared.value.CoreValue.{CoreValue}
use Rattle.instance_state.specs.declared.instance.Instance.{Instance}
use Rattle.instance_state.specs.Shown.{config_of, AnswersInMemory}
use Rattle.instance_state.specs.declared.fault.HandleFault.{HandleFault}
use Rattle.instance_state.specs.declared.fault.HandleFault.TheVariants.{Trap, NoMemory}
use Rattle.instance_state.specs.declared.loan.Loan.{Loan}
use Rattle.instance_state.specs.Loans.{indexes_of}
use Rattle.instance_state.specs.Owning.{owner_in}
use Rattle.instance_state.specs.Passed.{needs_memory}
use Rattle.instance_state.proofs.Words.{words_same}
use Rattle.call_moments.specs.Stops.{stop_of_handles}
use Rattle.call_moments.specs.Stores.{Lifts}
use Rattle.call_moments.specs.Words.{only_word_in}
use Rattle.call_moments.specs.declared.end.Stop.{Stop}
use Rattle.call_moments.specs.declared.end.Stop.TheVariants as stops
use Rattle.call_moments.specs.declared.frame.Flow.{Flow}
use Rattle.call_moments.specs.Leads.{Moment}
use Rattle.call_moments.specs.Canonical.{LiftsResult, Performs}
use Rattle.call_moments.proofs.Dropping.{makes_fails}
use Rattle.call_moments.proofs.Integers.{results_are_integers}
use Rattle.call_moments.proofs.Serves.{ends_as}
use Rattle.std.specs.Prelude.{slice_get}

-- the type by which it passes is the function's
pub lifts_as : (M : Type 0) (most most' : ℕ) (ty ty' : Plain) (o : Options) (ws : List ℕ) (c after : Config ℕ) (from : List Loan) (loans : List ℕ) (r : Result Value Stop) → most ≡ most' → ty ≡ ty' → from ≡ [] →
    Lifts (needs_memory most ty ≡ true → M) ty (lifts most ty o ws c) after (indexes_of from) loans r → Lifts (needs_memory most' ty' ≡ true → M) ty' (lifts most' ty' o ws c) after [] loans r
lifts_as M most most' ty ty' o ws c after from loans r m t f l =
    subst (λ (xs : List Loan). Lifts (needs_memory most' ty' ≡ true → M) ty' (lifts most' ty' o ws c) after (indexes_of xs) loans r) f
    (subst (λ x. Lifts (needs_memory most' x ≡ true → M) x (lifts most' x o ws c) after (indexes_of from) loans r) t
    (subst (λ n. Lifts (needs_memory n ty ≡ true → M) ty (lifts n ty o ws c) after (indexes_of from) loans r) m l))

-- what a lifted core function answered, by its types
pub result_lifts : (M : Type 0) (most : ℕ) (ty : Plain) (f : PlainFunc) (o : Options) (vs : List CoreValue) (c after : Config ℕ) (from : List Loan) (loans : List ℕ) (r : Result Value Stop) → most ≡ most_results → ty ≡ answer_tuple f → from ≡ [] →
    Lifts (needs_memory most ty ≡ true → M) ty (lifts most ty o (numbers vs) c) after (indexes_of from) loans r → HaveTypes (lifted f).results vs →
    Lifts (needs_memory most_results (answer_tuple f) ≡ true → M) (answer_tuple f) (lifts most_results (answer_tuple f) o (words vs) c) after [] loans r
result_lifts M most ty f o vs c after from loans r m t none l typed =
    subst (λ ws. Lifts (needs_memory most_results (answer_tuple f) ≡ true → M) (answer_tuple f) (lifts most_results (answer_tuple f) o ws c) after [] loans r) (words_same vs (results_are_integers f vs typed))
    (lifts_as M most most_results ty (answer_tuple f) o (numbers vs) c after from loans r m t none l)

pub lift_stops : {S : Type 0} (h : HostStep S) (old new : Moment S) (k : ℕ) (l : Lifting) (results : List CoreValue) (stop : Stop) (result : Result Value Stop) → IsErrAnd result (λ s. s ≡ stop) → LiftsResult h old k l results (Err stop) new → LiftsResult h old k l results result new
lift_stops h old new k l results stop (Ok v) e r = absurd e
lift_stops h old new k l results stop (Err s) e r = subst (λ x. LiftsResult h old k l results (Err x) new) (sym e) r

-- some loans
pub lends_some : (v : Vec Loan Global) → (vec_len v == 0) ≡ false → (b : Bool) → (lends_nothing (indexes_of v.items) && b) ≡ false
lends_some v e b = go v.items refl
  where
    go : (xs : List Loan) → v.items ≡ xs → (lends_nothing (indexes_of xs) && b) ≡ false
    go [] same = let none : v.len ≡ 0 = v.ok.0 ∙ ap (λ (ys : List Loan). length ys) same in absurd (grind (arith, nat_tests))
    go (x ∷ xs) same = refl

pub lends_none : (v : Vec Loan Global) → (vec_len v == 0) ≡ true → indexes_of v.items ≡ []
lends_none v e = go v.items refl
  where
    go : (xs : List Loan) → v.items ≡ xs → indexes_of xs ≡ []
    go [] same = refl
    go (x ∷ xs) same = let some : v.len ≡ length (x ∷ xs) = v.ok.0 ∙ ap (λ (ys : List Loan). length ys) same in absurd (grind (arith, nat_tests))

pub holds_some : (x b : Bool) → b ≡ true → (x && not b) ≡ false
holds_some true true e = refl
holds_some false true e = refl
holds_some x false e = absurd (cc)

module _ {S : Type 0} (h : HostStep S) (old : Moment S) (k : ℕ) (args : List CoreValue) (word : ℕ) (one : only_word_in args ≡ Some word) (i : Instance) (found : slice_get old.instances k ≡ Some i) (r : ℕ) (e : Nesting) (may : Bool)
    (owning : may ≡ owned_by (owner_in old.group.owners r) k) where
  pub makes_stops : (fault : HandleFault) (after : Config ℕ) (new : Moment S) (result : Result Flow Stop) → AnswersInMemory (λ (index : ℕ). index ∷ []) (makes plainly may r (word ∷ []) (config_of i)) after (Err fault) → new.kept ≡ old.kept →
      IsErrAnd result (λ s. s ≡ stop_of_handles fault) → Performs h old k e (ResourceNew r) args result new
  makes_stops Trap after new result d same err = makes_fails h old k args word one i found r e may owning new result d same err
  makes_stops NoMemory after new result d same err = λ G waiting w inner fits typed. ends_as h old new G _ stops.NoMemory result err tt
