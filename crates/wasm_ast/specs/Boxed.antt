-- What a value on the heap is to contracts: the value alone, and not where it lies.

pub record Held (T : Type 0) : Type 0 where
  pub value : T
