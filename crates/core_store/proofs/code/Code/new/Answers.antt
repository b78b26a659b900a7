use Rattle.std.proofs.Common.{◌-◌, arith, ap, ◌∙◌, refl}
use Rattle.std.specs.Prelude.{is_some, List, slice_get}
use Rattle.wasm_ast.specs.declared.instr.Instr.{Instr}
use Rattle.core_store.specs.Brackets.{ends_of}
use Rattle.core_store.proofs.Places.{slice_got, kept_none, kept_more, kept_never, kept_next}
use Rattle.core_store.proofs.code.Code.new.Goals as goal

pub loop-at-init : goal.loop-at-init
loop-at-init c = kept_none c.into_vec-code.result.items c.in_ok-jumps.jumps.items c.len-at.result c.new-opens.result.items (omega arith) (omega (arith, c.in_ok-jumps.ensures.len)) c.new-opens.ensures.items

pub lead-requires-clause-there : goal.lead-requires-clause-there
lead-requires-clause-there c = ap (λ (v : List Instr). slice_get v (c.loop-at.at - 1)) c.deref.ensures.value ∙ slice_got c.into_vec-code.result.items (c.loop-at.at - 1) c.index.result.now (omega arith) c.index.ensures

pub lead-requires-clause-opens : goal.lead-requires-clause-opens
lead-requires-clause-opens c = kept_next c.into_vec-code.result.items c.deref.result.now c.loop-at.jumps.items c.loop-at.at (c.loop-at.at - 1) c.loop-at.opens.items c.deref.ensures.value (omega arith) refl c.loop-at.invariant

pub loop-at-preserved : goal.loop-at-preserved
loop-at-preserved c = kept_more c.into_vec-code.result.items c.deref.result.now c.loop-at.jumps.items c.loop-at.at (c.loop-at.at - 1) c.index.result.now c.in-Some.jump c.in_ok-jump.field-0 c.loop-at.opens.items c.lead.new.opens.items
    c.deref.ensures.value (omega arith) refl (slice_got c.into_vec-code.result.items (c.loop-at.at - 1) c.index.result.now (omega arith) c.index.ensures) c.in-Some.is c.loop-at.invariant c.in_ok-jump.ensures.opens c.in_ok-jump.ensures.leads c.in_ok-jump.ensures.ends

pub returns-in-None-clause-found : goal.returns-in-None-clause-found
returns-in-None-clause-found c =
    kept_never c.into_vec-code.result.items c.deref.result.now c.loop-at.jumps.items c.loop-at.at (c.loop-at.at - 1) c.index.result.now c.in_ok-jump.field-0 c.loop-at.opens.items c.lead.new.opens.items
    c.deref.ensures.value (omega arith) refl (slice_got c.into_vec-code.result.items (c.loop-at.at - 1) c.index.result.now (omega arith) c.index.ensures) c.in-None.is c.loop-at.invariant c.in_ok-jump.ensures.ends
    ∙ ap (λ (v : List Instr). is_some (ends_of v)) c.into_vec-code.ensures
