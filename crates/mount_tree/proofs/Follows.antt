-- How a run goes on from what was done so far.
use Rattle.std.proofs.Common.{◌≡◌, ◌∙◌, refl, sym, ap, subst, ℕ, List, [], ◌∷◌, ◌++◌, true, Contains, Result, Ok, Err, arith, le_refl}
use Rattle.std.proofs.lemmas.List.Elements.{Contains-append_left, Contains-append_right}
use Rattle.outside.specs.Files.{FilesState, Held, Goes}
use Rattle.outside.proofs.FailingLaws.{Rose-before}
use Rattle.mount_tree.specs.declared.fault.TreeFault.{TreeFault}
use Rattle.mount_tree.specs.declared.fault.TreeFault.TheVariants.{FileFault, BadName, OverLimit, NoMemory}
use Rattle.mount_tree.specs.Runs.{Run, done, and_next, next_by, Answers, IsFileFault, Gives, Says, each}

pub goes_on : (s t u : FilesState) → Goes s t → Goes t u → Goes s u
goes_on s t u g h = record {
  later = omega (arith, g.later, h.later);
  told = h.told ∙ g.told;
  steady = λ steady. h.steady (g.steady steady);
}

pub goes_none : (s : FilesState) → Goes s s
goes_none s = record { later = le_refl s.faults; told = refl; steady = λ steady. steady }

-- what is due is due from here on: `rest` is left of it
pub record Follows {A : Type 0} (due rest : Run A) (s t : FilesState) : Type 0 where
  pub goes : Goes s t
  pub stays : t.held ≡ s.held
  pub answer : s.told ≡ true → due.answer ≡ rest.answer
  pub asks : s.told ≡ true → (name : List ℕ) → Contains rest.asks name → Contains due.asks name
  pub quiet : s.told ≡ true → s.steady ≡ true → t.faults ≡ s.faults

pub follows_start : {A : Type 0} (due : Run A) (s : FilesState) → Follows due due s s
follows_start due s = record { goes = goes_none s; stays = refl; answer = λ told. refl; asks = λ told name h. h; quiet = λ told steady. refl }

then_answer : {A B : Type 0} (run : Run A) (next : A → Run B) (a : A) → run.answer ≡ Ok a → and_next run next ≡ record { asks = run.asks ++ (next a).asks; answer = (next a).answer }
then_answer run next a h = ap (λ r. next_by run.asks r next) h

then_fault : {A B : Type 0} (run : Run A) (next : A → Run B) (e : TreeFault) → run.answer ≡ Err e → (and_next run next).answer ≡ Err e
then_fault run next e h = ap (λ r. (next_by run.asks r next).answer) h

no_fault : {A : Type 0} (a : A) (r : Result A TreeFault) → r ≡ Ok a → ¬ (IsFileFault r)
no_fault a r is fault = subst IsFileFault is fault

-- one more step, which gave a value
pub follows_step : {A B : Type 0} (due : Run B) (run : Run A) (next : A → Run B) (a : A) (s t u : FilesState)
    → Follows due (and_next run next) s t → Gives run t u (Ok a) → Follows due (next a) s u
follows_step due run next a s t u f g =
    let is : s.told ≡ true → run.answer ≡ Ok a = λ told. g.answer (f.goes.told ∙ told) in
    record {
      goes = goes_on s t u f.goes g.goes;
      stays = g.stays ∙ f.stays;
      answer = λ told. f.answer told ∙ ap (λ (r : Run _). r.answer) (then_answer run next a (is told));
      asks = λ told name h. f.asks told name (subst (λ (r : Run _). Contains r.asks name) (sym (then_answer run next a (is told))) (Contains-append_right run.asks (next a).asks name h));
      quiet = λ told steady. g.quiet (f.goes.told ∙ told) (f.goes.steady steady) (no_fault a run.answer (is told)) ∙ f.quiet told steady;
    }

stop_asks : {A B : Type 0} (asks : List (List ℕ)) (r : Result A TreeFault) (next : A → Run B) (name : List ℕ) → Contains asks name → Contains (next_by asks r next).asks name
stop_asks asks (Ok a) next name h = Contains-append_left asks (next a).asks name h
stop_asks asks (Err e) next name h = h

fault_goes : {A B : Type 0} (asks : List (List ℕ)) (r : Result A TreeFault) (next : A → Run B) → IsFileFault r → IsFileFault (next_by asks r next).answer
fault_goes asks (Ok a) next h = absurd h
fault_goes asks (Err (FileFault name)) next h = tt
fault_goes asks (Err (BadName name)) next h = absurd h
fault_goes asks (Err (OverLimit what value)) next h = absurd h
fault_goes asks (Err NoMemory) next h = absurd h

stop_answer : {A B : Type 0} (due : Run B) (run : Run A) (next : A → Run B) (e : TreeFault) (s t u : FilesState)
    → Follows due (and_next run next) s t → Goes t u → Answers run t u (Err e) → Answers due s u (Err e)
stop_answer due run next (FileFault name) s t u f g h = (
  Rose-before s.faults t.faults u.faults f.goes.later h.0,
  λ told. f.asks told name (stop_asks run.asks run.answer next name (h.1 (f.goes.told ∙ told))),
  λ told steady. f.answer told ∙ then_fault run next (FileFault name) (h.2 (f.goes.told ∙ told) (f.goes.steady steady)),
)
stop_answer due run next (BadName name) s t u f g h = λ told. f.answer told ∙ then_fault run next (BadName name) (h (f.goes.told ∙ told))
stop_answer due run next (OverLimit what value) s t u f g h = (h.0, λ told. f.answer told ∙ then_fault run next (OverLimit what value) (h.1 (f.goes.told ∙ told)))
stop_answer due run next NoMemory s t u f g h = tt

-- one more step, which gave a fault
pub follows_stop : {A B : Type 0} (due : Run B) (run : Run A) (next : A → Run B) (e : TreeFault) (s t u : FilesState)
    → Follows due (and_next run next) s t → Gives run t u (Err e) → Gives due s u (Err e)
follows_stop due run next e s t u f g = record {
  goes = goes_on s t u f.goes g.goes;
  stays = g.stays ∙ f.stays;
  answer = stop_answer due run next e s t u f g.goes g.answer;
  quiet = λ told steady fine. g.quiet (f.goes.told ∙ told) (f.goes.steady steady)
      (λ fault. fine (subst IsFileFault (sym (f.answer told)) (fault_goes run.asks run.answer next fault))) ∙ f.quiet told steady;
}

-- nothing is left to do
pub follows_end : {A : Type 0} (due : Run A) (a : A) (s t : FilesState) → Follows due (done a) s t → Gives due s t (Ok a)
follows_end due a s t f = record { goes = f.goes; stays = f.stays; answer = f.answer; quiet = λ told steady fine. f.quiet told steady }

pub follows_memory : {A : Type 0} (due rest : Run A) (s t : FilesState) → Follows due rest s t → Gives due s t (Err NoMemory)
follows_memory due rest s t f = record { goes = f.goes; stays = f.stays; answer = tt; quiet = λ told steady fine. f.quiet told steady }

tail_answer : {A : Type 0} (due rest : Run A) (r : Result A TreeFault) (s t u : FilesState) → Follows due rest s t → Answers rest t u r → Answers due s u r
tail_answer due rest (Ok a) s t u f h = λ told. f.answer told ∙ h (f.goes.told ∙ told)
tail_answer due rest (Err (FileFault name)) s t u f h = (
  Rose-before s.faults t.faults u.faults f.goes.later h.0,
  λ told. f.asks told name (h.1 (f.goes.told ∙ told)),
  λ told steady. f.answer told ∙ h.2 (f.goes.told ∙ told) (f.goes.steady steady),
)
tail_answer due rest (Err (BadName name)) s t u f h = λ told. f.answer told ∙ h (f.goes.told ∙ told)
tail_answer due rest (Err (OverLimit what value)) s t u f h = (h.0, λ told. f.answer told ∙ h.1 (f.goes.told ∙ told))
tail_answer due rest (Err NoMemory) s t u f h = tt

-- a call does all that is left
pub follows_call : {A : Type 0} (due rest : Run A) (r : Result A TreeFault) (s t u : FilesState) → Follows due rest s t → Gives rest t u r → Gives due s u r
follows_call due rest r s t u f g = record {
  goes = goes_on s t u f.goes g.goes;
  stays = g.stays ∙ f.stays;
  answer = tail_answer due rest r s t u f g.answer;
  quiet = λ told steady fine. g.quiet (f.goes.told ∙ told) (f.goes.steady steady) (λ fault. fine (subst IsFileFault (sym (f.answer told)) fault)) ∙ f.quiet told steady;
}

-- ---- calls that ask nothing

says_answer : {A : Type 0} (run : Run A) (r : Result A TreeFault) (s : FilesState) → Says run.answer r → Answers run s s r
says_answer run (Ok a) s h = λ told. h
says_answer run (Err (FileFault name)) s h = absurd h
says_answer run (Err (BadName name)) s h = λ told. h
says_answer run (Err (OverLimit what value)) s h = (h.0, λ told. h.1)
says_answer run (Err NoMemory) s h = tt

pub says_gives : {A : Type 0} (run : Run A) (r : Result A TreeFault) (s : FilesState) → Says run.answer r → Gives run s s r
says_gives run r s h = record { goes = goes_none s; stays = refl; answer = says_answer run r s h; quiet = λ told steady fine. refl }

-- ---- for each item

pub each_on : {S A : Type 0} (due : Run S) (step : Held → S → A → Run S) (state after : S) (rest more : List A) (x : A) (s t u : FilesState)
    → Follows due (each (step s.held) state rest) s t → rest ≡ x ∷ more → Gives (step t.held state x) t u (Ok after) → Follows due (each (step s.held) after more) s u
each_on due step state after rest more x s t u f is g =
    let here : Follows due (each (step s.held) state (x ∷ more)) s t = subst (λ (xs : List _). Follows due (each (step s.held) state xs) s t) is f in
    let given : Gives (step s.held state x) t u (Ok after) = subst (λ (held : Held). Gives (step held state x) t u (Ok after)) f.stays g in
    follows_step due (step s.held state x) (λ next. each (step s.held) next more) after s t u here given

pub each_stop : {S A : Type 0} (due : Run S) (step : Held → S → A → Run S) (state : S) (rest more : List A) (x : A) (e : TreeFault) (s t u : FilesState)
    → Follows due (each (step s.held) state rest) s t → rest ≡ x ∷ more → Gives (step t.held state x) t u (Err e) → Gives due s u (Err e)
each_stop due step state rest more x e s t u f is g =
    let here : Follows due (each (step s.held) state (x ∷ more)) s t = subst (λ (xs : List _). Follows due (each (step s.held) state xs) s t) is f in
    let given : Gives (step s.held state x) t u (Err e) = subst (λ (held : Held). Gives (step held state x) t u (Err e)) f.stays g in
    follows_stop due (step s.held state x) (λ next. each (step s.held) next more) e s t u here given

pub each_end : {S A : Type 0} (due : Run S) (step : Held → S → A → Run S) (state : S) (rest : List A) (s t : FilesState)
    → Follows due (each (step s.held) state rest) s t → rest ≡ [] → Gives due s t (Ok state)
each_end due step state rest s t f is = follows_end due state s t (subst (λ (xs : List _). Follows due (each (step s.held) state xs) s t) is f)

-- the same where nothing is asked: what is left gives the answer
pub each_says : {S A : Type 0} (step : S → A → Run S) (state after : S) (rest more : List A) (x : A) → rest ≡ x ∷ more → (step state x).answer ≡ Ok after
    → (each step state rest).answer ≡ (each step after more).answer
each_says step state after rest more x is h =
    ap (λ xs. (each step state xs).answer) is ∙ ap (λ (r : Run _). r.answer) (then_answer (step state x) (λ next. each step next more) after h)

says_fault : {A B : Type 0} (run : Run A) (next : A → Run B) (e : TreeFault) → Says run.answer (Err e) → Says (and_next run next).answer (Err e)
says_fault run next (FileFault name) h = absurd h
says_fault run next (BadName name) h = then_fault run next (BadName name) h
says_fault run next (OverLimit what value) h = (h.0, then_fault run next (OverLimit what value) h.1)
says_fault run next NoMemory h = tt

pub says_from : {A : Type 0} (due rest : Result A TreeFault) (r : Result A TreeFault) → due ≡ rest → Says rest r → Says due r
says_from due rest r is h = subst (λ d. Says d r) (sym is) h

pub each_refused : {S A : Type 0} (step : S → A → Run S) (start state : S) (all rest more : List A) (x : A) (e : TreeFault)
    → (each step start all).answer ≡ (each step state rest).answer → rest ≡ x ∷ more → Says (step state x).answer (Err e) → Says (each step start all).answer (Err e)
each_refused step start state all rest more x e so is h =
    says_from (each step start all).answer (each step state (x ∷ more)).answer (Err e) (so ∙ ap (λ xs. (each step state xs).answer) is)
    (says_fault (step state x) (λ next. each step next more) e h)

pub then_says : {A B : Type 0} (run : Run A) (next : A → Run B) (a : A) (r : Result B TreeFault) → run.answer ≡ Ok a → Says (next a).answer r → Says (and_next run next).answer r
then_says run next a r is h = says_from (and_next run next).answer (next a).answer r (ap (λ (q : Run _). q.answer) (then_answer run next a is)) h

pub then_refused : {A B : Type 0} (run : Run A) (next : A → Run B) (e : TreeFault) → Says run.answer (Err e) → Says (and_next run next).answer (Err e)
then_refused = says_fault
