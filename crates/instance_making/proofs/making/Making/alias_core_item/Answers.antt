use Rattle.std.proofs.Common.{◌∙◌, ap, sym, refl, Some, None}
use Rattle.core_instance.specs.declared.external.Extern.{Extern}
use Rattle.instance_making.proofs.PushLemmas.{item_here, and_core_function, and_core_table, and_core_memory, and_core_global}
use Rattle.core_instance.specs.declared.external.Extern.TheVariants.{Func, Table, Memory, Global}
use Rattle.instance_making.proofs.making.Making.alias_core_item.Goals as goal

pub returns-in-None : goal.returns-in-None
returns-in-None c = λ made g h. item_here made c.args.self.now _ g c.args.instance c.args.name.now None h (sym c.item_there.ensures ∙ c.in-None.is) h

pub returns-in_ok-push-in-Some-Func : goal.returns-in_ok-push-in-Some-Func
returns-in_ok-push-in-Some-Func c = λ made g h.
    let at = c.in-Some-Func.at in
    item_here made c.args.self.now _ g c.args.instance c.args.name.now (Some (Func at)) h (sym c.item_there.ensures ∙ (c.in-Some-Func.is ∙ ap (λ (x : Extern). Some x) c.in-Some-Func.field-0-is)) (and_core_function made c.args.self.now _ g at h refl c.in_ok-push-in-Some-Func.ensures.items)

pub returns-in_ok-push-in-Some-Table : goal.returns-in_ok-push-in-Some-Table
returns-in_ok-push-in-Some-Table c = λ made g h.
    let at = c.in-Some-Table.at in
    item_here made c.args.self.now _ g c.args.instance c.args.name.now (Some (Table at)) h (sym c.item_there.ensures ∙ (c.in-Some-Table.is ∙ ap (λ (x : Extern). Some x) c.in-Some-Table.field-0-is)) (and_core_table made c.args.self.now _ g at h refl c.in_ok-push-in-Some-Table.ensures.items)

pub returns-in_ok-push-in-Some-Memory : goal.returns-in_ok-push-in-Some-Memory
returns-in_ok-push-in-Some-Memory c = λ made g h.
    let at = c.in-Some-Memory.at in
    item_here made c.args.self.now _ g c.args.instance c.args.name.now (Some (Memory at)) h (sym c.item_there.ensures ∙ (c.in-Some-Memory.is ∙ ap (λ (x : Extern). Some x) c.in-Some-Memory.field-0-is)) (and_core_memory made c.args.self.now _ g at h refl c.in_ok-push-in-Some-Memory.ensures.items)

pub returns-in_ok-push-in-Some-Global : goal.returns-in_ok-push-in-Some-Global
returns-in_ok-push-in-Some-Global c = λ made g h.
    let at = c.in-Some-Global.at in
    item_here made c.args.self.now _ g c.args.instance c.args.name.now (Some (Global at)) h (sym c.item_there.ensures ∙ (c.in-Some-Global.is ∙ ap (λ (x : Extern). Some x) c.in-Some-Global.field-0-is)) (and_core_global made c.args.self.now _ g at h refl c.in_ok-push-in-Some-Global.ensures.items)
