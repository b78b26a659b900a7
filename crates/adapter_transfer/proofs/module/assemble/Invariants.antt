use Rattle.std.proofs.Common.{◌≡◌, ◌+◌, ◌++◌, length, map}
use Rattle.std.specs.Vec.Iter.{into_iter_items, into_iter_len}
use Rattle.adapter_transfer.specs.declared.module.Defined.{Defined}
use Rattle.adapter_transfer.specs.Module.{exports_from}
use Rattle.adapter_transfer.proofs.module.assemble.Given as goal

abbrev pub invariant-loop-name : goal.invariant-loop-name
invariant-loop-name l = record {
  functions : l.functions ≡ map (λ (d : Defined). d.ty) l.yielded;
  exports : l.exports ≡ l.initial.exports ++ exports_from l.initial.at l.yielded;
  code : l.code ≡ map (λ (d : Defined). d.body) l.yielded;
  index : l.at ≡ l.initial.at + length l.yielded;
  rest : l.yielded ++ into_iter_items l.name-iterator ≡ into_iter_items l.initial.name-iterator;
  count : into_iter_len l.name-iterator ≡ length (into_iter_items l.name-iterator);
}
