-- A call of `run`, by what its parts did.
use Rattle.std.proofs.Common.{◌≡◌, ◌∙◌, refl, sym, true, false, inl, inr, arith, Ok, Err}
use Rattle.std.specs.Prelude.{All}
use Rattle.outside.specs.Files.{FilesState}
use Rattle.outside.specs.Sink.{SinkState}
use Rattle.outside.specs.declared.sink.PutFailed.{PutFailed}
use Rattle.call_moments.specs.declared.end.RunEnd.{RunEnd}
use Rattle.call_moments.specs.declared.end.RunEnd.TheVariants as ends
use Rattle.virt_words.specs.Lines.{text_of, PutsAll}
use Rattle.virt_engine.specs.declared.runner.Shown.{Shown}
use Rattle.virt_engine.specs.Lines.{IsLine}
use Rattle.virt_engine.specs.declared.status.Status.{Status}
use Rattle.virt_engine.specs.declared.status.Status.TheVariants.{SinkFault, NoMemory}
use Rattle.virt_engine.specs.Command.{RunCommand}
use Rattle.virt_engine.specs.Line.{status_text}
use Rattle.virt_engine.specs.Report.{Reports}
use Rattle.virt_engine.specs.Runs.{ended_as, PutsShown, ShowsTask, RunsBy}

-- ---- lines that were put

pub all_put : (shown : Shown) (due : Status) (k l : SinkState) → All IsLine shown.lines → due ≡ ended_as shown.end → PutsAll (text_of shown.lines) k l (Ok tt) → PutsShown shown k l due
all_put shown due k l seen is p = record {
  seen = seen;
  puts = record {
    put = inl (record { status = is; bytes = p.ok });
    quiet = λ told steady fits. ((p.quiet told steady fits).0, is);
  };
}

true_false : true ≡ false → ⊥
true_false h = cc

pub put_broken : (shown : Shown) (k l : SinkState) (e : PutFailed) → All IsLine shown.lines → PutsAll (text_of shown.lines) k l (Err e) → PutsShown shown k l SinkFault
put_broken shown k l e seen p = record {
  seen = seen;
  puts = record {
    put = inr (record { status = refl; cause = p.cause; bytes = p.failed });
    quiet = λ told steady fits. absurd (true_false (p.quiet told steady fits).1);
  };
}

-- ---- the whole call

loud : (end : RunEnd) → ended_as end ≡ NoMemory → ⊥
loud (ends.Returned value) h = cc
loud ends.Trapped h = cc
loud ends.ScriptEnded h = cc
loud ends.Spent h = cc
loud ends.BadAnswer h = cc
loud ends.TooDeep h = cc

fault_is_loud : SinkFault ≡ NoMemory → ⊥
fault_is_loud h = cc

pub shown_is_loud : (shown : Shown) (k l : SinkState) (result : Status) → PutsShown shown k l result → result ≡ NoMemory → ⊥
shown_is_loud shown k l result p e = elim p.puts.put [
  | inl w ↦ loud shown.end (sym w.status ∙ e)
  | inr b ↦ fault_is_loud (sym b.status ∙ e)
]

pub runs_on : (c : RunCommand) (shown : Shown) (s t : FilesState) (k l : SinkState) (result : Status) → ShowsTask c s t (Ok shown) → PutsShown shown k l result → RunsBy c s t k l result
runs_on c shown s t k l result f w = record {
  goes = f.goes;
  stays = f.stays;
  end = inr (record { begins = f.begins.0; shown = shown; ends = f.ends; runs = f.begins.1; shows = w });
  kept = λ e. absurd (shown_is_loud shown k l result w e);
  quiet = f.quiet;
}

pub runs_not : (c : RunCommand) (why : Status) (s t : FilesState) (k l : SinkState) (result : Status) → ShowsTask c s t (Err why)
    → Reports why (status_text why) k l result → (result ≡ NoMemory → l ≡ k) → RunsBy c s t k l result
runs_not c why s t k l result f report silent = record {
  goes = f.goes;
  stays = f.stays;
  end = inl (record { why = why; cause = f.cause; report = report });
  kept = silent;
  quiet = f.quiet;
}

-- no memory for the words

pub runs_memory : (c : RunCommand) (s : FilesState) (k : SinkState) → RunsBy c s s k k NoMemory
runs_memory c s k = record {
  goes = record { later = omega arith; told = refl; steady = λ h. h };
  stays = refl;
  end = inl (record { why = NoMemory; cause = inl refl; report = inr (refl, refl) });
  kept = λ h. refl;
  quiet = λ told steady there. refl;
}
