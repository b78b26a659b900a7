-- What reading the two components of a plugged one comes to.
use Rattle.std.proofs.Common.{◌≡◌, ◌∙◌, refl, sym, ap, subst, ℕ, List, true, inl, inr, Ok, Err}
use Rattle.std.specs.Prelude.{◌⊎◌, Option, Some, None, IsSome, IfSome, Result, Vec}
use Rattle.std.specs.declared.alloc.Global.{Global}
use Rattle.outside.specs.Files.{FilesState, Held}
use Rattle.virt_base.specs.declared.fault.AppFault.{AppFault}
use Rattle.comp_grammar.specs.Trees.{plain}
use Rattle.comp_write.specs.Copying.{SpellsBare}
use Rattle.comp_types.specs.Added.{type_of}
use Rattle.comp_types.specs.Items.{Entries, Signature}
use Rattle.comp_signature.specs.Signatures.{component_signature}
use Rattle.wasi_match.specs.declared.fault.Cause.TheVariants as causes
use Rattle.wasi_match.specs.declared.fault.MatchFault.{MatchFault}
use Rattle.wasi_match.specs.declared.fault.MatchFault.TheVariants as match_faults
use Rattle.plug_match.specs.declared.fault.SecondFault.{SecondFault}
use Rattle.plug_match.specs.declared.fault.SecondFault.TheVariants as second_faults
use Rattle.plug_match.specs.FirstWalk.{FirstVerdict, Asks, FirstAtFault, first_of}
use Rattle.plug_match.specs.Walk.{SecondVerdict, Plugs, SecondAtFault, MeetsNothing, second_of}
use Rattle.plug_match.specs.Answers.{first_fault, second_fault}
use Rattle.plug_match.specs.declared.first.First.{First}
use Rattle.plug_match.specs.declared.source.Second.{Second}
use Rattle.plug_compose.specs.declared.plugged.Half.{Half}
use Rattle.plug_compose.specs.declared.plugged.Plugged.{Plugged}
use Rattle.plug_compose.specs.Merged.{merged_uses}
use Rattle.plug_compose.specs.Sources.{host_uses}
use Rattle.plug_compose.specs.Plugged.{IsPlugged}
use Rattle.component_judge.specs.Components.{IsRefusalBy, IsNeverAtFault}
use Rattle.component_judge.specs.Fetching.{Cause, Fetches, RefusesNone}
use Rattle.component_judge.specs.Limits.{bytes_limit, bytes_name}
use Rattle.component_judge.specs.declared.inputs.Fetched.{Fetched}
use Rattle.component_judge.specs.declared.limits.Purpose.TheVariants.{Virt}
use Rattle.component_judge.specs.declared.refusal.Refusal.{Refusal}
use Rattle.component_judge.specs.declared.refusal.Refusal.TheVariants as refusals
use Rattle.component_judge.specs.declared.unready.Unready.{Unready}
use Rattle.component_judge.specs.declared.unready.Unready.TheVariants.{FileFault as Faulted, Refused}
use Rattle.component_judge.proofs.Both.{earlier}
use Rattle.virt_engine.specs.declared.plugging.Part.{Part}
use Rattle.virt_engine.specs.declared.plugging.Part.TheVariants.{Sound, AtFault}
use Rattle.virt_engine.specs.declared.plugging.Asking.{Asking}
use Rattle.virt_engine.specs.declared.plugging.Joining.{Joining}
use Rattle.virt_engine.specs.declared.status.PlugFault.TheVariants as plug_faults
use Rattle.virt_engine.specs.declared.status.Status.{Status}
use Rattle.virt_engine.specs.declared.status.Status.TheVariants.{FileFault, PlugRefused}
use Rattle.virt_engine.specs.Fetching.{IsFileFault, unready_as}
use Rattle.virt_engine.specs.RunDue.{IsVerdictBy}
use Rattle.virt_engine.specs.Pairs.{Read, IsTooLarge, PairVerdict, Joins, IsPair, pair_verdict, after_first, after_second, fault_by, IsPartVerdict, IsPartFile}
use Rattle.virt_engine.specs.Parted.{IsSoundHalf, IsSoundPart, IsPartOf, read_of, part_bytes, ReadsPart, HasPart, FetchesPart, first_status, second_status, IsRefusedBy, AsksFirst, joined_verdict, pair_so, MeetsSecond, ArePlugged, PlugsParts, plugged_as, IsMadeOf}
use Rattle.virt_engine.specs.Plugging.{HasRead, PairCause, HasPlugged, NoPairFileDue, FetchesPair}
use Rattle.virt_engine.proofs.Adding.{goes_on}
use Rattle.virt_engine.proofs.Fetching.{no_fault}
use Rattle.virt_engine.proofs.Planning.{there}

-- ---- one part

-- what is above a limit when it is read is too large; a script is not read
pub large_at : (a b : List ℕ) (e : Refusal) (what : List ℕ) (value : ℕ) → a ≡ b → e ≡ refusals.OverLimit what value → IsRefusalBy Virt IsNeverAtFault a e → IsTooLarge b (refusals.OverLimit what value)
large_at a b e what value same is h =
    subst (λ (bytes : List ℕ). IsTooLarge bytes (refusals.OverLimit what value)) same (subst (λ (x : Refusal). IsRefusalBy Virt IsNeverAtFault a x) is h)

pub no_script : (a : List ℕ) (e : Refusal) (path : List ℕ) → e ≡ refusals.BadScript path → IsRefusalBy Virt IsNeverAtFault a e → ⊥
no_script a e path is h = subst (λ (x : Refusal). IsRefusalBy Virt IsNeverAtFault a x) is h

not_read : (name : List ℕ) (s t : FilesState) (e : Unready) → Cause name (bytes_name Virt) (bytes_limit Virt) RefusesNone s t e → Cause name (bytes_name Virt) (bytes_limit Virt) IsTooLarge s t e
not_read name s t (Faulted kept) h = h
not_read name s t (Refused refusal) (inl none) = inl none
not_read name s t (Refused refusal) (inr (inl long)) = inr (inl long)
not_read name s t (Refused refusal) (inr (inr h)) = absurd h.refused

pub no_part : (name : List ℕ) (s t : FilesState) (e : Unready) (r : Result Part Unready) → r ≡ Err e → Fetches name (bytes_name Virt) (bytes_limit Virt) s t (Err e) → FetchesPart name s t r
no_part name s t e r is f = subst (λ (x : Result Part Unready). FetchesPart name s t x) (sym is) (record {
  goes = f.goes;
  stays = f.stays;
  ready = tt;
  cause = not_read name s t e f.cause;
  quiet = f.quiet;
})

module _ (name : List ℕ) (s t : FilesState) (v : Vec ℕ Global) (f : Fetches name (bytes_name Virt) (bytes_limit Virt) s t (Ok v)) where
  pub part_fetched : (part : Part) → IsPartOf v.items part → FetchesPart name s t (Ok part)
  part_fetched part h = record {
    goes = f.goes;
    stays = f.stays;
    ready = record { bytes = v.items; is_part = h; there = f.bytes };
    cause = tt;
    quiet = λ told steady some. ((f.quiet told steady some).0, tt);
  }

  refused_so : (refusal : Refusal) → (refusal ≡ refusals.NoMemory) ⊎ IsTooLarge v.items refusal → Cause name (bytes_name Virt) (bytes_limit Virt) IsTooLarge s t (Refused refusal)
  refused_so refusal (inl none) = inl none
  refused_so refusal (inr large) = inr (inr (record { bytes = v.items; refused = large; there = f.bytes }))

  pub part_refused : (refusal : Refusal) → ReadsPart v.items (Err refusal) → FetchesPart name s t (Err (Refused refusal))
  part_refused refusal h = record {
    goes = f.goes;
    stays = f.stays;
    ready = tt;
    cause = refused_so refusal h;
    quiet = λ told steady some. ((f.quiet told steady some).0, λ (b : ⊥). b);
  }

-- ---- what the first comes to

known_first : (half : Half) → IsSoundHalf half → (v : FirstVerdict) → v ≡ first_of half.ty.imports → (second : Read) → pair_verdict (Ok (plain half.component)) second ≡ after_first (plain half.component) v second
known_first half h v is second =
    ap (λ (x : FirstVerdict). after_first (plain half.component) x second) (ap (λ (sig : Signature). first_of sig.imports) (sym h.typed) ∙ sym is)

first_asks : (half : Half) (asked : First) → IsSoundHalf half → Asks asked ≡ first_of half.ty.imports → AsksFirst (Sound half) (Ok (record { half = half; asked = asked }))
first_asks half asked h is = (refl, known_first half h (Asks asked) is)

first_refused : (half : Half) → IsSoundHalf half → (fault : MatchFault) (status : Status) → status ≡ first_status fault → IfSome (first_fault fault) (λ v. v ≡ first_of half.ty.imports) → AsksFirst (Sound half) (Err status)
first_refused half h (match_faults.Unlisted name) status is v = λ second. inr (plug_faults.First (fault_by causes.Unlisted name), known_first half h (FirstAtFault causes.Unlisted name) v second, is)
first_refused half h (match_faults.TwoVersions name) status is v = λ second. inr (plug_faults.First (fault_by causes.TwoVersions name), known_first half h (FirstAtFault causes.TwoVersions name) v second, is)
first_refused half h (match_faults.WrongType name) status is v = λ second. inr (plug_faults.First (fault_by causes.WrongType name), known_first half h (FirstAtFault causes.WrongType name) v second, is)
first_refused half h (match_faults.HandleExport name) status is v = λ second. inr (plug_faults.First (fault_by causes.HandleExport name), known_first half h (FirstAtFault causes.HandleExport name) v second, is)
first_refused half h match_faults.NoMemory status is v = λ second. inl is

-- ---- what the second comes to

known_second : (asking : Asking) (half : Half) → IsSoundHalf asking.half → IsSoundHalf half → (v : SecondVerdict) → v ≡ second_of asking.asked asking.half.ty.exports half.ty.imports half.ty.exports
    → joined_verdict asking (Ok (plain half.component)) ≡ after_second (plain asking.half.component) asking.asked (plain half.component) v
known_second asking half first second v is =
    let so : second_of asking.asked (type_of (plain asking.half.component)).exports (type_of (plain half.component)).imports (type_of (plain half.component)).exports
    ≡ second_of asking.asked asking.half.ty.exports half.ty.imports half.ty.exports =
    ap (λ (given : Signature). second_of asking.asked given.exports (type_of (plain half.component)).imports (type_of (plain half.component)).exports) (sym first.typed)
    ∙ ap (λ (sig : Signature). second_of asking.asked asking.half.ty.exports sig.imports sig.exports) (sym second.typed) in
    ap (λ (x : SecondVerdict). after_second (plain asking.half.component) asking.asked (plain half.component) x) (so ∙ sym is)

module _ (asking : Asking) (half : Half) (first : IsSoundHalf asking.half) (second : IsSoundHalf half) where
  second_meets : (joined : Second) → Plugs joined.sources ≡ second_of asking.asked asking.half.ty.exports half.ty.imports half.ty.exports
      → MeetsSecond asking (Sound half) (Ok (record { half = half; joined = joined }))
  second_meets joined is = (refl, known_second asking half first second (Plugs joined.sources) is)

  second_refused : (fault : SecondFault) (status : Status) → status ≡ second_status fault
      → IfSome (second_fault fault) (λ v. v ≡ second_of asking.asked asking.half.ty.exports half.ty.imports half.ty.exports) → MeetsSecond asking (Sound half) (Err status)
  second_refused (second_faults.Refused cause name) status is v = inr (plug_faults.Second (fault_by cause name), known_second asking half first second (SecondAtFault cause name) v, is)
  second_refused second_faults.NothingMet status is v = inr (plug_faults.NothingMet, known_second asking half first second MeetsNothing v, is)
  second_refused second_faults.NoMemory status is v = inl is

-- ---- both

-- a part that is sound is so
half_is : (part : Part) (half : Half) → IsSoundPart part → part ≡ Sound half → IsSoundHalf half
half_is part half h is = subst (λ (p : Part). IsSoundPart p) is h

pub first_asks_of : (part : Part) (half : Half) (asked : First) → part ≡ Sound half → IsSoundPart part → Asks asked ≡ first_of half.ty.imports → AsksFirst part (Ok (record { half = half; asked = asked }))
first_asks_of part half asked is h v = subst (λ (p : Part). AsksFirst p (Ok (record { half = half; asked = asked }))) (sym is) (first_asks half asked (half_is part half h is) v)

pub first_refused_of : (part : Part) (half : Half) (fault : MatchFault) (status : Status) → part ≡ Sound half → IsSoundPart part → status ≡ first_status fault → IfSome (first_fault fault) (λ v. v ≡ first_of half.ty.imports)
    → AsksFirst part (Err status)
first_refused_of part half fault status is h so v = subst (λ (p : Part). AsksFirst p (Err status)) (sym is) (first_refused half (half_is part half h is) fault status so v)

pub first_at_fault : (part : Part) (fault : AppFault) → part ≡ AtFault fault → AsksFirst part (Err (PlugRefused (plug_faults.First fault)))
first_at_fault part fault is = subst (λ (p : Part). AsksFirst p (Err (PlugRefused (plug_faults.First fault)))) (sym is) (λ second. inr (plug_faults.First fault, refl, refl))

pub second_meets_of : (asking : Asking) (part : Part) (half : Half) (joined : Second) → part ≡ Sound half → IsSoundHalf asking.half → IsSoundPart part
    → Plugs joined.sources ≡ second_of asking.asked asking.half.ty.exports half.ty.imports half.ty.exports → MeetsSecond asking part (Ok (record { half = half; joined = joined }))
second_meets_of asking part half joined is first h v =
    subst (λ (p : Part). MeetsSecond asking p (Ok (record { half = half; joined = joined }))) (sym is) (second_meets asking half first (half_is part half h is) joined v)

pub second_refused_of : (asking : Asking) (part : Part) (half : Half) (fault : SecondFault) (status : Status) → part ≡ Sound half → IsSoundHalf asking.half → IsSoundPart part → status ≡ second_status fault
    → IfSome (second_fault fault) (λ v. v ≡ second_of asking.asked asking.half.ty.exports half.ty.imports half.ty.exports) → MeetsSecond asking part (Err status)
second_refused_of asking part half fault status is first h so v = subst (λ (p : Part). MeetsSecond asking p (Err status)) (sym is) (second_refused asking half first (half_is part half h is) fault status so v)

pub second_at_fault : (asking : Asking) (part : Part) (fault : AppFault) → part ≡ AtFault fault → MeetsSecond asking part (Err (PlugRefused (plug_faults.Second fault)))
second_at_fault asking part fault is = subst (λ (p : Part). MeetsSecond asking p (Err (PlugRefused (plug_faults.Second fault)))) (sym is) (inr (plug_faults.Second fault, refl, refl))

-- its bytes spell it
pub spells : (half : Half) → IsSoundHalf half → SpellsBare 0 (plain half.component) half.bytes.items
spells half h = (plain half.component, h.sound.small.spelled.0.0, refl)

-- an answer that is handed on
pub plugs_so : (first second : Part) (r : Result Fetched Status) (status : Status) → r ≡ Err status → PlugsParts first second (Err status) → PlugsParts first second r
plugs_so first second r status is h = subst (λ (x : Result Fetched Status). PlugsParts first second x) (sym is) h

pub no_first : (first second : Part) (status : Status) → AsksFirst first (Err status) → PlugsParts first second (Err status)
no_first first second status h = h (read_of second)

-- a verdict that is another is refused as that is
refused_as : (v w : PairVerdict) (status : Status) → v ≡ w → IsRefusedBy w status → IsRefusedBy v status
refused_as v w status is h = subst (λ (x : PairVerdict). IsRefusedBy x status) (sym is) h

module _ (first second : Part) (asking : Asking) (a : AsksFirst first (Ok asking)) where
  pub asking_sound : IsSoundPart first → IsSoundHalf asking.half
  asking_sound h = half_is first asking.half h a.0

  pub no_second : (status : Status) → MeetsSecond asking second (Err status) → PlugsParts first second (Err status)
  no_second status h = refused_as (pair_verdict (read_of first) (read_of second)) (joined_verdict asking (read_of second)) status (a.1 (read_of second)) h

  module _ (joining : Joining) (b : MeetsSecond asking second (Ok joining)) where
    pub joining_sound : IsSoundPart second → IsSoundHalf joining.half
    joining_sound h = half_is second joining.half h b.0

    first_as : read_of first ≡ Ok (plain asking.half.component)
    first_as = ap read_of a.0

    second_as : read_of second ≡ Ok (plain joining.half.component)
    second_as = ap read_of b.0

    joins : pair_verdict (Ok (plain asking.half.component)) (Ok (plain joining.half.component)) ≡ Joins (pair_so asking joining)
    joins =
        ap (λ (r : Read). pair_verdict r (Ok (plain joining.half.component))) (sym first_as)
        ∙ ap (λ (r : Read). pair_verdict (read_of first) r) (sym second_as)
        ∙ a.1 (read_of second) ∙ b.1

    bytes_first : asking.half.bytes.items ≡ part_bytes first
    bytes_first = ap part_bytes (sym a.0)

    bytes_second : joining.half.bytes.items ≡ part_bytes second
    bytes_second = ap part_bytes (sym b.0)

    abbrev IsMade : Plugged → Type 0
    IsMade p = IsPlugged (plain asking.half.component) (plain joining.half.component) (component_signature joining.half.ty).exports (merged_uses asking.asked.uses (host_uses joining.joined.sources)) asking.half.bytes.items joining.half.bytes.items p

    pub are_plugged : IsSoundPart first → IsSoundPart second → (p : Plugged) (f : Fetched) → plugged_as f ≡ p → IsMade p → ArePlugged first second f
    are_plugged h g p f same made_p =
        let made : IsMade (plugged_as f) = subst IsMade (sym same) made_p in
        let pair = pair_so asking joining in
        let exported : (component_signature joining.half.ty).exports ≡ (type_of (plain joining.half.component)).exports = ap (λ (sig : Signature). sig.exports) (joining_sound g).typed in
        let is : IsPair asking.half.bytes.items joining.half.bytes.items pair = record { first = (asking_sound h).sound; second = (joining_sound g).sound; joins = joins } in
        let made_so : IsMadeOf pair asking.half.bytes.items joining.half.bytes.items f =
        subst (λ (es : Entries). IsPlugged (plain asking.half.component) (plain joining.half.component) es (merged_uses asking.asked.uses (host_uses joining.joined.sources)) asking.half.bytes.items joining.half.bytes.items (plugged_as f)) exported made in
        record {
          pair = pair;
          is_pair = subst (λ (x : List ℕ). IsPair x (part_bytes second) pair) bytes_first (subst (λ (y : List ℕ). IsPair asking.half.bytes.items y pair) bytes_second is);
          made = subst (λ (x : List ℕ). IsMadeOf pair x (part_bytes second) f) bytes_first (subst (λ (y : List ℕ). IsMadeOf pair asking.half.bytes.items y f) bytes_second made_so);
          first_read = first_as;
          second_read = second_as;
        }

-- ---- both files

part_absent : (held : Held) (name : List ℕ) → held.file name ≡ None → IsPartVerdict held name (FileFault name)
part_absent held name none = subst (λ (file : Option (List ℕ)). IsVerdictBy IsTooLarge file name (FileFault name)) (sym none) refl

-- what a part's bytes are read as
read_so : (name : List ℕ) (s : FilesState) (bytes : List ℕ) (part : Part) → IsPartOf bytes part → (s.told ≡ true → s.held.file name ≡ Some bytes) → HasRead name s (read_of part)
read_so name s bytes (Sound half) h here = record { bytes = half.bytes.items; is_read = h.1.sound; there = λ told. here told ∙ ap (λ (z : List ℕ). Some z) (sym h.0) }
read_so name s bytes (AtFault fault) h here = record { bytes = bytes; is_read = h; there = here }

has_read : (name : List ℕ) (s : FilesState) (part : Part) → HasPart name s part → HasRead name s (read_of part)
has_read name s part h = read_so name s h.bytes part h.is_part h.there

pub part_sound : (bytes : List ℕ) (part : Part) → IsPartOf bytes part → IsSoundPart part
part_sound bytes (Sound half) h = h.1
part_sound bytes (AtFault fault) h = tt

-- the bytes of a part that is sound
part_there : (bytes : List ℕ) (part : Part) → IsPartOf bytes part → (tree : _) → read_of part ≡ Ok tree → bytes ≡ part_bytes part
part_there bytes (Sound half) h tree is = sym h.0
part_there bytes (AtFault fault) h tree is = absurd cc

pub read_file : (name : List ℕ) (s : FilesState) (read : Read) → HasRead name s read → s.told ≡ true → IsPartFile s.held name read
read_file name s read h told = record { bytes = h.bytes; there = h.there told; is_read = h.is_read }

module _ (first second : List ℕ) (s t : FilesState) where
  first_there : NoPairFileDue s.held first second → IsSome (s.held.file first)
  first_there fine = there (s.held.file first) (λ none. fine first (inl (part_absent s.held first none)))

  pub pair_no_first : (e : Unready) (r : Result Fetched Status) → r ≡ Err (unready_as e) → FetchesPart first s t (Err e) → FetchesPair first second s t r
  pair_no_first e r is f = subst (λ (x : Result Fetched Status). FetchesPair first second s t x) (sym is) (record {
    goes = f.goes;
    stays = f.stays;
    whole = tt;
    cause = inr (inl (e, f.cause, refl));
    quiet = λ told steady fine. let q = f.quiet told steady (first_there fine) in (q.0, no_fault e q.1);
  })

  module _ (p : Part) (f : FetchesPart first s t (Ok p)) (u : FilesState) where
    told_t : s.told ≡ true → t.told ≡ true
    told_t told = f.goes.told ∙ told

    quiet_first : s.told ≡ true → s.steady ≡ true → NoPairFileDue s.held first second → t.faults ≡ s.faults
    quiet_first told steady fine = (f.quiet told steady (first_there fine)).0

    abbrev first_read : HasRead first s (read_of p)
    first_read = has_read first s p f.ready

    second_there : s.told ≡ true → NoPairFileDue s.held first second → IsSome (t.held.file second)
    second_there told fine =
        there (t.held.file second)
        (λ none. fine second (inr (inl (read_of p, read_file first s (read_of p) first_read told, part_absent s.held second (subst (λ (held : Held). held.file second ≡ None) f.stays none)))))

    pub pair_no_second : (e : Unready) (r : Result Fetched Status) → r ≡ Err (unready_as e) → FetchesPart second t u (Err e) → FetchesPair first second s u r
    pair_no_second e r is g = subst (λ (x : Result Fetched Status). FetchesPair first second s u x) (sym is) (record {
      goes = goes_on s t u f.goes g.goes;
      stays = g.stays ∙ f.stays;
      whole = tt;
      cause = inr (inr (inl (read_of p, first_read, (e, earlier second (bytes_name Virt) (bytes_limit Virt) IsTooLarge s t u e f.goes f.stays g.cause, refl))));
      quiet = λ told steady fine. let q = g.quiet (told_t told) (f.goes.steady steady) (second_there told fine) in (q.0 ∙ quiet_first told steady fine, no_fault e q.1);
    })

    module _ (q : Part) (g : FetchesPart second t u (Ok q)) where
      quiet_both : s.told ≡ true → s.steady ≡ true → NoPairFileDue s.held first second → u.faults ≡ s.faults
      quiet_both told steady fine = (g.quiet (told_t told) (f.goes.steady steady) (second_there told fine)).0 ∙ quiet_first told steady fine

      abbrev part_before : HasPart second s q
      part_before = record {
        bytes = g.ready.bytes;
        is_part = g.ready.is_part;
        there = λ told. subst (λ (held : Held). held.file second ≡ Some g.ready.bytes) f.stays (g.ready.there (told_t told));
      }

      -- neither is a fault of a file
      silent : (status : Status) → IsRefusedBy (pair_verdict (read_of p) (read_of q)) status → ¬ (IsFileFault status)
      silent status (inl none) = subst (λ (x : Status). ¬ (IsFileFault x)) (sym none) (λ (b : ⊥). b)
      silent status (inr h) = subst (λ (x : Status). ¬ (IsFileFault x)) (sym h.2) (λ (b : ⊥). b)

      refused_pair : (status : Status) → IsRefusedBy (pair_verdict (read_of p) (read_of q)) status → PairCause first second s u status
      refused_pair status (inl none) = inl none
      refused_pair status (inr h) = inr (inr (inr (record {
        a = read_of p;
        b = read_of q;
        first_read = first_read;
        second_read = has_read second s q part_before;
        fault = h.0;
        refuses = h.1;
        told = h.2;
      })))

      has_plugged : (fetched : Fetched) → ArePlugged p q fetched → HasPlugged first second s fetched
      has_plugged fetched h =
          let a : f.ready.bytes ≡ part_bytes p = part_there f.ready.bytes p f.ready.is_part h.pair.first h.first_read in
          let b : g.ready.bytes ≡ part_bytes q = part_there g.ready.bytes q g.ready.is_part h.pair.second h.second_read in
          record {
            has_pair = record {
              a = part_bytes p;
              b = part_bytes q;
              pair = h.pair;
              is_pair = h.is_pair;
              first_there = λ told. f.ready.there told ∙ ap (λ (z : List ℕ). Some z) a;
              second_there = λ told. part_before.there told ∙ ap (λ (z : List ℕ). Some z) b;
            };
            made = h.made;
          }

      pub pair_fetched : (r : Result Fetched Status) → PlugsParts p q r → FetchesPair first second s u r
      pair_fetched (Ok fetched) h = record {
        goes = goes_on s t u f.goes g.goes;
        stays = g.stays ∙ f.stays;
        whole = has_plugged fetched h;
        cause = tt;
        quiet = λ told steady fine. (quiet_both told steady fine, tt);
      }
      pair_fetched (Err status) h = record {
        goes = goes_on s t u f.goes g.goes;
        stays = g.stays ∙ f.stays;
        whole = tt;
        cause = refused_pair status h;
        quiet = λ told steady fine. (quiet_both told steady fine, silent status h);
      }
