-- What reading the two files of a run comes to.
use Rattle.std.proofs.Common.{◌≡◌, ◌∙◌, sym, ap, subst, ℕ, List, true, inl, inr, arith, Ok, Err}
use Rattle.std.specs.Prelude.{Option, Some, IsSome, Result, codes}
use Rattle.outside.specs.Files.{FilesState, Held, Goes}
use Rattle.comp_grammar.specs.Trees.{Tree, plain}
use Rattle.comp_types.specs.Items.{Entries}
use Rattle.component_judge.specs.declared.script.Scripted.{Scripted}
use Rattle.wasi_match.specs.declared.listed.Listed.{Listed}
use Rattle.component_judge.specs.declared.refusal.Refusal.{Refusal}
use Rattle.component_judge.specs.declared.component.Judged.{Judged}
use Rattle.component_judge.specs.declared.application.Application.{Application}
use Rattle.component_judge.specs.Components.{IsRefusal, IsRunnable}
use Rattle.component_judge.specs.Applications.{IsApplicationRefusal}
use Rattle.component_judge.specs.declared.unready.Unready.{Unready}
use Rattle.component_judge.specs.declared.unready.Unready.TheVariants.{FileFault, Refused}
use Rattle.component_judge.specs.declared.inputs.Inputs.{Inputs}
use Rattle.component_judge.specs.declared.inputs.ListedInputs.{ListedInputs}
use Rattle.component_judge.specs.Fetching.{Cause, FetchesAs}
use Rattle.component_judge.specs.declared.limits.Purpose.TheVariants.{Run}
use Rattle.component_judge.specs.Limits.{bytes_name, bytes_limit, script_limit}
use Rattle.component_judge.specs.Inputs.{RefusesScript, HasComponent, HasApplication, HasScript, AreReady, AreListedReady, InputsCause, ListedCause, Fitting, IsListedBy, AreThere, FetchesBoth, FetchesComponent, FetchesApplication, FetchesScript, FetchesInputs, FetchesListed}

goes_on : (s t u : FilesState) → Goes s t → Goes t u → Goes s u
goes_on s t u a b = record {
  later = omega (arith, a.later, b.later);
  told = b.told ∙ a.told;
  steady = λ h. b.steady (a.steady h);
}

-- one file stays as it was
pub file_stays : (name : List ℕ) (s t : FilesState) → t.held ≡ s.held → t.held.file name ≡ s.held.file name
file_stays name s t stays = ap (λ (h : Held). h.file name) stays

-- why a file did not do that was read after another
pub earlier : (name what : List ℕ) (limit : ℕ) (Refuses : List ℕ → Refusal → Type 0) (s t u : FilesState) (e : Unready) → Goes s t → t.held ≡ s.held
    → Cause name what limit Refuses t u e → Cause name what limit Refuses s u e
earlier name what limit Refuses s t u (FileFault kept) goes stays h = record {
  asked = h.asked;
  counted = omega (arith, goes.later, h.counted);
  absent = λ told steady. sym (file_stays name s t stays) ∙ h.absent (goes.told ∙ told) (goes.steady steady);
}
earlier name what limit Refuses s t u (Refused refusal) goes stays (inl none) = inl none
earlier name what limit Refuses s t u (Refused refusal) goes stays (inr (inl long)) = inr (inl (record {
  value = long.value;
  named = long.named;
  over = long.over;
  there = λ told. let found = long.there (goes.told ∙ told) in (found.0, sym (file_stays name s t stays) ∙ found.1, found.2);
}))
earlier name what limit Refuses s t u (Refused refusal) goes stays (inr (inr h)) = inr (inr (record {
  bytes = h.bytes;
  refused = h.refused;
  there = λ told. sym (file_stays name s t stays) ∙ h.there (goes.told ∙ told);
}))

-- after a component that does
module _ {A B : Type 0} (what : List ℕ) (limit : ℕ) (Refuses : List ℕ → Refusal → Type 0) (Has : A → Type 0) (Ready : B → Type 0) (Fits : Fitting) (component script : List ℕ) (s t : FilesState)
    (a : A) (f : FetchesAs component what limit Refuses Has s t (Ok a)) (bytes : List ℕ) (tree : Tree) (here : s.told ≡ true → s.held.file component ≡ Some bytes) (fits : Fits bytes tree) where
  -- the script's file is there
  there_then : s.told ≡ true → AreThere Fits component script s.held → IsSome (t.held.file script)
  there_then told there =
      subst (λ (o : Option (List ℕ)). IsSome o) (sym (file_stays script s t f.stays)) (there.second bytes tree (here told) fits)

  -- the script does not
  no_script : (exports : Entries) (u : FilesState) (e : Unready) (Why : Unready → Type 0) → Why e → FetchesScript exports script t u (Err e) → FetchesBoth Ready Why Fits component script s u (Err e)
  no_script exports u e Why why g = record {
    goes = goes_on s t u f.goes g.goes;
    stays = g.stays ∙ f.stays;
    ready = tt;
    cause = why;
    quiet = λ told steady there.
        let first = f.quiet told steady there.first in
        let second = g.quiet (f.goes.told ∙ told) (f.goes.steady steady) (there_then told there) in
        (second.0 ∙ first.0, second.1);
  }

  -- the script does too
  both : (exports : Entries) (u : FilesState) (read : Scripted) (b : B) (Why : Unready → Type 0) → Ready b → FetchesScript exports script t u (Ok read) → FetchesBoth Ready Why Fits component script s u (Ok b)
  both exports u read b Why ready g = record {
    goes = goes_on s t u f.goes g.goes;
    stays = g.stays ∙ f.stays;
    ready = ready;
    cause = tt;
    quiet = λ told steady there.
        let first = f.quiet told steady there.first in
        let second = g.quiet (f.goes.told ∙ told) (f.goes.steady steady) (there_then told there) in
        (second.0 ∙ first.0, tt);
  }

-- a script that was read after another file
script_before : (exports : Entries) (name : List ℕ) (s t : FilesState) (script : Scripted) → Goes s t → t.held ≡ s.held → HasScript exports name t script → HasScript exports name s script
script_before exports name s t script goes stays h = record {
  bytes = h.bytes;
  judges = h.judges;
  typed = h.typed;
  functions = h.functions;
  there = λ told. sym (file_stays name s t stays) ∙ h.there (goes.told ∙ told);
}

-- why a listed component or its script did not do that were read after another file
pub listed_earlier : (component script : List ℕ) (s t u : FilesState) (e : Unready) → Goes s t → t.held ≡ s.held → ListedCause component script t u e → ListedCause component script s u e
listed_earlier component script s t u e goes stays (inl h) = inl (earlier component (bytes_name Run) (bytes_limit Run) (IsApplicationRefusal Run) s t u e goes stays h)
listed_earlier component script s t u e goes stays (inr h) = inr (
  h.0,
  h.1,
  record { bytes = h.2.bytes; judges = h.2.judges; runs = h.2.runs; there = λ told. sym (file_stays component s t stays) ∙ h.2.there (goes.told ∙ told) },
  earlier script (codes "script-bytes") script_limit (RefusesScript h.0.ty.exports) s t u e goes stays h.3,
)

pub ready_before : (component script : List ℕ) (s t : FilesState) (listed : ListedInputs) → Goes s t → t.held ≡ s.held → AreListedReady component script t listed → AreListedReady component script s listed
ready_before component script s t listed goes stays h = record {
  application = record {
    bytes = h.application.bytes;
    judges = h.application.judges;
    runs = h.application.runs;
    there = λ told. sym (file_stays component s t stays) ∙ h.application.there (goes.told ∙ told);
  };
  scripted = script_before listed.inputs.judged.ty.exports script s t listed.inputs.scripted goes stays h.scripted;
}

module _ (component script : List ℕ) (s t u : FilesState) where
  -- over a script alone
  module _ (judged : Judged) (f : FetchesComponent component s t (Ok judged)) where
    pub script_refused : (e : Unready) (r : Result Inputs Unready) → r ≡ Err e → FetchesScript judged.ty.exports script t u (Err e) → FetchesInputs component script s u r
    script_refused e r is g =
        subst (λ (x : Result Inputs Unready). FetchesInputs component script s u x) (sym is)
        (no_script (bytes_name Run) (bytes_limit Run) IsRefusal (HasComponent component s) (AreReady component script s) IsRunnable component script s t judged f f.ready.bytes
        (plain judged.component) f.ready.there f.ready.judges.0 judged.ty.exports u e (InputsCause component script s u) (inr (judged, f.ready, earlier script _ _ _ s t u e f.goes f.stays g.cause)) g)

    pub script_taken : (read : Scripted) → FetchesScript judged.ty.exports script t u (Ok read) → FetchesInputs component script s u (Ok (record { judged = judged; scripted = read }))
    script_taken read g =
        both (bytes_name Run) (bytes_limit Run) IsRefusal (HasComponent component s) (AreReady component script s) IsRunnable component script s t judged f f.ready.bytes
        (plain judged.component) f.ready.there f.ready.judges.0 judged.ty.exports u read (record { judged = judged; scripted = read }) (InputsCause component script s u)
        (record { runnable = f.ready; scripted = script_before judged.ty.exports script s t read f.goes f.stays g.ready }) g

  -- under a policy
  module _ (judged : Judged) (listed : Listed) (f : FetchesApplication component s t (Ok (record { judged = judged; listed = listed }))) where
    pub listed_refused : (e : Unready) (r : Result ListedInputs Unready) → r ≡ Err e → FetchesScript judged.ty.exports script t u (Err e) → FetchesListed component script s u r
    listed_refused e r is g =
        subst (λ (x : Result ListedInputs Unready). FetchesListed component script s u x) (sym is)
        (no_script (bytes_name Run) (bytes_limit Run) (IsApplicationRefusal Run) (λ (a : Application). HasApplication component s a.judged a.listed) (AreListedReady component script s) IsListedBy component script s t
        (record { judged = judged; listed = listed }) f f.ready.bytes (plain judged.component) f.ready.there (listed.uses, f.ready.judges.0) judged.ty.exports u e (ListedCause component script s u)
        (inr (judged, listed, f.ready, earlier script _ _ _ s t u e f.goes f.stays g.cause)) g)

    pub listed_taken : (read : Scripted) → FetchesScript judged.ty.exports script t u (Ok read)
        → FetchesListed component script s u (Ok (record { inputs = record { judged = judged; scripted = read }; listed = listed }))
    listed_taken read g =
        both (bytes_name Run) (bytes_limit Run) (IsApplicationRefusal Run) (λ (a : Application). HasApplication component s a.judged a.listed) (AreListedReady component script s) IsListedBy component script s t
        (record { judged = judged; listed = listed }) f f.ready.bytes (plain judged.component) f.ready.there (listed.uses, f.ready.judges.0) judged.ty.exports u read
        (record { inputs = record { judged = judged; scripted = read }; listed = listed }) (ListedCause component script s u)
        (record { application = f.ready; scripted = script_before judged.ty.exports script s t read f.goes f.stays g.ready }) g
