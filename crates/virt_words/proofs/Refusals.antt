-- What a parse of `clap` says of the words.
use Rattle.std.proofs.Common.{◌≡◌, ◌∙◌, ℕ, refl, ap, sym, subst, map, codes, true, List, [], ◌∷◌, inl, inr, Result, Ok, Err}
use Rattle.std.specs.Prelude.{Option, None}
use Rattle.clap.specs.Words.{App, Row, Kinds, IsAmong, HasKind, FailsBy, is_simple_and_free, is_simple, fault_of, kind_of, HasMatchesOf, found_of, first_of, first_value}
use Rattle.clap.specs.declared.error.Error.{Error}
use Rattle.clap.specs.declared.error.kind.ErrorKind.{ErrorKind}
use Rattle.clap.specs.declared.error.kind.ErrorKind.TheVariants as kind
use Rattle.clap.specs.declared.parser.matches.ArgMatches.{ArgMatches}
use Rattle.clap.proofs.OnLiterals.{clap_on_literals}
use Rattle.clap.proofs.WalkLemmas.{first_value-rows}
use Rattle.virt_words.specs.declared.command.WordsFault.{WordsFault}
use Rattle.virt_words.specs.declared.command.WordsFault.TheVariants.{Usage, NoMemory}
use Rattle.virt_words.specs.declared.command.Command.{Command}
use Rattle.virt_words.specs.declared.command.InspectWords.{InspectWords}
use Rattle.virt_words.specs.Apps.{virt_app, run_app, gen_app, plug_app, inspect_app}
use Rattle.virt_words.specs.Words.{IsRefused, Matches, Reads, unless_refused, words_of, virt_from, virt_in, virt_words, run_from, run_in, run_words, gen_from, gen_in, gen_words, plug_from, plug_in, plug_words, inspect_from, inspect_in, inspect_words}

pub virt_is_free : is_simple_and_free virt_app ≡ true
unfolding clap_on_literals
virt_is_free = refl

pub virt_is_simple : is_simple virt_app ≡ true
unfolding clap_on_literals
virt_is_simple = refl

pub run_is_free : is_simple_and_free run_app ≡ true
unfolding clap_on_literals
run_is_free = refl

pub run_is_simple : is_simple run_app ≡ true
unfolding clap_on_literals
run_is_simple = refl

pub gen_is_free : is_simple_and_free gen_app ≡ true
unfolding clap_on_literals
gen_is_free = refl

pub gen_is_simple : is_simple gen_app ≡ true
unfolding clap_on_literals
gen_is_simple = refl

pub plug_is_free : is_simple_and_free plug_app ≡ true
unfolding clap_on_literals
plug_is_free = refl

pub plug_is_simple : is_simple plug_app ≡ true
unfolding clap_on_literals
plug_is_simple = refl

pub inspect_is_free : is_simple_and_free inspect_app ≡ true
unfolding clap_on_literals
inspect_is_free = refl

pub inspect_is_simple : is_simple inspect_app ≡ true
unfolding clap_on_literals
inspect_is_simple = refl

map_self : (ws : List (List ℕ)) → map (λ t. t) ws ≡ ws
map_self [] = refl
map_self (w ∷ ws) = ap (λ r. w ∷ r) (map_self ws)

-- what is said of the words as texts is said of the words
of_words : (app : App) (r : Result ArgMatches WordsFault) (ws : List (List ℕ)) → Matches app (map (λ t. t) ws) r → Matches app ws r
of_words app r ws h = let P : List (List ℕ) → Type 0 = λ w. Matches app w r in subst P (map_self ws) h

pub parse_ok : (app : App) (ws : List (List ℕ)) (m : ArgMatches) → is_simple app ≡ true → is_simple_and_free app ≡ true
    → (is_simple_and_free app ≡ true → FailsBy {T = ArgMatches} (fault_of app (map (λ t. t) ws)) (Ok m)) → HasMatchesOf app (map (λ t. t) ws) m
    → Matches app ws (Ok m)
parse_ok app ws m simple free kinds h =
    of_words app (Ok m) ws (kinds free, λ id. first_value-rows (found_of m) id ∙ ap (first_of id) (h simple).0)

refused_kind : (kinds : Kinds) (k : ErrorKind) → IsAmong k kinds → IsRefused kinds
refused_kind [] k h = absurd h
refused_kind (x ∷ xs) k h = tt

refused : (kinds : Kinds) (e : Error) → HasKind kinds e → (kind_of e ≡ kind.OutOfMemory → ⊥) → IsRefused kinds
refused kinds e (inl m) n = absurd (n m)
refused kinds e (inr k) n = refused_kind kinds (kind_of e) k

fault_says : (app : App) (ws : List (List ℕ)) (e : Error) (f : WordsFault) → HasKind (fault_of app ws) e
    → (f ≡ Usage → kind_of e ≡ kind.OutOfMemory → ⊥) → Matches app ws (Err f)
fault_says app ws e Usage has n = refused (fault_of app ws) e has (n refl)
fault_says app ws e NoMemory has n = tt

pub parse_err : (app : App) (ws : List (List ℕ)) (e : Error) (f : WordsFault) → is_simple_and_free app ≡ true
    → (is_simple_and_free app ≡ true → FailsBy {T = ArgMatches} (fault_of app (map (λ t. t) ws)) (Err e)) → (f ≡ Usage → kind_of e ≡ kind.OutOfMemory → ⊥)
    → Matches app ws (Err f)
parse_err app ws e f free kinds n = of_words app (Err f) ws (fault_says app (map (λ t. t) ws) e f (kinds free) n)

-- ---- the four commands, and that of the program that inspects

passed : {A : Type 0} (kinds : Kinds) (o : Option A) → kinds ≡ [] → unless_refused kinds o ≡ o
passed kinds o none = rw (none) refl

stopped : {A : Type 0} (kinds : Kinds) (o : Option A) → IsRefused kinds → unless_refused kinds o ≡ None
stopped [] o h = absurd h
stopped (k ∷ ks) o h = refl

refused_words : {A : Type 0} (app : App) (taken : List Row → Option A) (ws : List (List ℕ)) → Matches app ws (Err Usage) → words_of app taken ws ≡ None
refused_words app taken ws h = stopped (fault_of app ws) _ h

virt_taken : (ws : List (List ℕ)) (m : ArgMatches) → Matches virt_app ws (Ok m)
    → virt_from (first_value (found_of m) (codes "APP")) (first_value (found_of m) (codes "policy")) (first_value (found_of m) (codes "out")) ≡ virt_words ws
virt_taken ws m h = rw (h.1 (codes "APP"), h.1 (codes "policy"), h.1 (codes "out")) (sym (passed (fault_of virt_app ws) _ h.0))

run_taken : (ws : List (List ℕ)) (m : ArgMatches) → Matches run_app ws (Ok m)
    → run_from (first_value (found_of m) (codes "COMPONENT")) (first_value (found_of m) (codes "script")) (first_value (found_of m) (codes "policy")) (first_value (found_of m) (codes "steps")) ≡ run_words ws
run_taken ws m h = rw (h.1 (codes "COMPONENT"), h.1 (codes "script"), h.1 (codes "policy"), h.1 (codes "steps")) (sym (passed (fault_of run_app ws) _ h.0))

gen_taken : (ws : List (List ℕ)) (m : ArgMatches) → Matches gen_app ws (Ok m)
    → gen_from (first_value (found_of m) (codes "N")) (first_value (found_of m) (codes "OUT")) ≡ gen_words ws
gen_taken ws m h = rw (h.1 (codes "N"), h.1 (codes "OUT")) (sym (passed (fault_of gen_app ws) _ h.0))

plug_taken : (ws : List (List ℕ)) (m : ArgMatches) → Matches plug_app ws (Ok m)
    → plug_from (first_value (found_of m) (codes "A")) (first_value (found_of m) (codes "B")) (first_value (found_of m) (codes "policy")) (first_value (found_of m) (codes "out")) ≡ plug_words ws
plug_taken ws m h = rw (h.1 (codes "A"), h.1 (codes "B"), h.1 (codes "policy"), h.1 (codes "out")) (sym (passed (fault_of plug_app ws) _ h.0))

inspect_taken : (ws : List (List ℕ)) (m : ArgMatches) → Matches inspect_app ws (Ok m)
    → inspect_from (first_value (found_of m) (codes "COMPONENT")) (first_value (found_of m) (codes "policy")) ≡ inspect_words ws
unfolding inspect_words
inspect_taken ws m h = rw (h.1 (codes "COMPONENT"), h.1 (codes "policy")) (sym (passed (fault_of inspect_app ws) _ h.0))

stops : {A : Type 0} (app due : App) (taken : List Row → Option A) (ws : List (List ℕ)) (f : WordsFault) → app ≡ due → Matches app ws (Err f) → Reads (words_of due taken ws) (Err f)
stops app due taken ws Usage is h = refused_words due taken ws (subst (λ a. Matches a ws (Err Usage)) is h)
stops app due taken ws NoMemory is h = tt

pub virt_reads : (app : App) (ws : List (List ℕ)) (m : ArgMatches) (r : Result Command WordsFault) → app ≡ virt_app → Matches app ws (Ok m)
    → Reads (virt_from (first_value (found_of m) (codes "APP")) (first_value (found_of m) (codes "policy")) (first_value (found_of m) (codes "out"))) r → Reads (virt_words ws) r
virt_reads app ws m r is h reads = subst (λ due. Reads due r) (virt_taken ws m (subst (λ a. Matches a ws (Ok m)) is h)) reads

pub virt_stops : (app : App) (ws : List (List ℕ)) (f : WordsFault) → app ≡ virt_app → Matches app ws (Err f) → Reads (virt_words ws) (Err f)
virt_stops app ws f is h = stops app virt_app virt_in ws f is h

pub run_reads : (app : App) (ws : List (List ℕ)) (m : ArgMatches) (r : Result Command WordsFault) → app ≡ run_app → Matches app ws (Ok m)
    → Reads (run_from (first_value (found_of m) (codes "COMPONENT")) (first_value (found_of m) (codes "script")) (first_value (found_of m) (codes "policy")) (first_value (found_of m) (codes "steps"))) r → Reads (run_words ws) r
run_reads app ws m r is h reads = subst (λ due. Reads due r) (run_taken ws m (subst (λ a. Matches a ws (Ok m)) is h)) reads

pub run_stops : (app : App) (ws : List (List ℕ)) (f : WordsFault) → app ≡ run_app → Matches app ws (Err f) → Reads (run_words ws) (Err f)
run_stops app ws f is h = stops app run_app run_in ws f is h

pub gen_reads : (app : App) (ws : List (List ℕ)) (m : ArgMatches) (r : Result Command WordsFault) → app ≡ gen_app → Matches app ws (Ok m)
    → Reads (gen_from (first_value (found_of m) (codes "N")) (first_value (found_of m) (codes "OUT"))) r → Reads (gen_words ws) r
gen_reads app ws m r is h reads = subst (λ due. Reads due r) (gen_taken ws m (subst (λ a. Matches a ws (Ok m)) is h)) reads

pub gen_stops : (app : App) (ws : List (List ℕ)) (f : WordsFault) → app ≡ gen_app → Matches app ws (Err f) → Reads (gen_words ws) (Err f)
gen_stops app ws f is h = stops app gen_app gen_in ws f is h

pub plug_reads : (app : App) (ws : List (List ℕ)) (m : ArgMatches) (r : Result Command WordsFault) → app ≡ plug_app → Matches app ws (Ok m)
    → Reads (plug_from (first_value (found_of m) (codes "A")) (first_value (found_of m) (codes "B")) (first_value (found_of m) (codes "policy")) (first_value (found_of m) (codes "out"))) r → Reads (plug_words ws) r
plug_reads app ws m r is h reads = subst (λ due. Reads due r) (plug_taken ws m (subst (λ a. Matches a ws (Ok m)) is h)) reads

pub plug_stops : (app : App) (ws : List (List ℕ)) (f : WordsFault) → app ≡ plug_app → Matches app ws (Err f) → Reads (plug_words ws) (Err f)
plug_stops app ws f is h = stops app plug_app plug_in ws f is h

pub inspect_reads : (app : App) (ws : List (List ℕ)) (m : ArgMatches) (r : Result InspectWords WordsFault) → app ≡ inspect_app → Matches app ws (Ok m)
    → Reads (inspect_from (first_value (found_of m) (codes "COMPONENT")) (first_value (found_of m) (codes "policy"))) r → Reads (inspect_words ws) r
inspect_reads app ws m r is h reads = subst (λ due. Reads due r) (inspect_taken ws m (subst (λ a. Matches a ws (Ok m)) is h)) reads

pub inspect_stops : (app : App) (ws : List (List ℕ)) (f : WordsFault) → app ≡ inspect_app → Matches app ws (Err f) → Reads (inspect_words ws) (Err f)
unfolding inspect_words
inspect_stops app ws f is h = stops app inspect_app inspect_in ws f is h
