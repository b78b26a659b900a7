-- What instantiation leaves.
use Rattle.std.proofs.Common.{◌≡◌, ◌∙◌, ◌++◌, ◌+◌, List, ℕ, length, map, sym, ap, subst, Ok, Err}
use Rattle.std.proofs.lemmas.List.{length-append, length-map}
use Rattle.wasm_ast.specs.declared.module.Module.{Module}
use Rattle.core_memory.specs.declared.fault.StoreFault.{StoreFault}
use Rattle.core_memory.specs.declared.fault.StoreFault.TheVariants.{Trap, NoMemory}
use Rattle.core_store.specs.State.{State}
use Rattle.core_store.specs.Scene.{scene_of}
use Rattle.core_instance.specs.declared.external.Extern.{Extern}
use Rattle.core_instance.specs.Instantiation.{Answers, allocated, instantiated}
use Rattle.core_instance.proofs.SceneLemmas.{Has, instantiated_scene}
use Rattle.instance_state.specs.declared.runs.Counts.{Counts}
use Rattle.instance_state.specs.Ready.{Runs}
use Rattle.instance_state.specs.Counting.{CountsOf, Counted}
use Rattle.instance_state.specs.Done.{Instantiates}
use Rattle.instance_state.proofs.Readying.{counts_on}

longer : {A B : Type 0} (n : ℕ) (xs : List A) (f : B → A) (ys : List B) → n ≡ length xs → n + length ys ≡ length (xs ++ map f ys)
longer n xs f ys e = ap (λ k. k + length ys) e ∙ (ap (λ k. length xs + k) (sym (length-map ys f)) ∙ sym (length-append xs (map f ys)))

pub counted : (s : State) (m : Module) (imports : List Extern) (t : State) (c d : Counts) → CountsOf s c → Counted c m d → instantiated s m imports ≡ Ok t → CountsOf t d
counted s m imports t c d is more e =
    counts_on (allocated s m imports) t d (sym (subst (Has (scene_of (allocated s m imports))) e (instantiated_scene s m imports))) (record {
      tables = more.tables ∙ longer c.tables s.tables _ m.tables is.tables;
      memories = more.memories ∙ longer c.memories s.memories _ m.memories is.memories;
      globals = more.globals ∙ longer c.globals s.globals _ m.globals is.globals;
    })

pub failed : (old : Runs) (m : Module) (imports : List Extern) (t : State) (new : Runs) (fault : StoreFault) → Answers old.store m imports t (Err fault) → Instantiates old m imports new (Err fault)
failed old m imports t new Trap a = λ going there match. (t, a)
failed old m imports t new NoMemory a = tt
