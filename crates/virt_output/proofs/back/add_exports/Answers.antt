use Rattle.std.proofs.Common.{◌∙◌, sym, rules}
use Rattle.comp_types.specs.Views.{entries_of}
use Rattle.virt_output.proofs.EndLaws.{none_added, aliases_failed, both_added, leaves_exports}
use Rattle.virt_output.proofs.back.add_exports.Goals as goal

pub returns-then-is_empty : goal.returns-then-is_empty
returns-then-is_empty c = none_added c.args.entries.now c.args.out.now.items (sym c.is_empty.ensures ∙ c.if-is_empty.true)

pub returns-in_err-add : goal.returns-in_err-add
returns-in_err-add c =
    leaves_exports (entries_of c.args.entries.now) c.args.out.now.items c.add.new.out.items c.from_residual-in_err-add.result c.in_err-add.field-0.0 (search (rules, c.from_residual-in_err-add.ensures))
    (aliases_failed (entries_of c.args.entries.now) c.in_ok-aliases.aliases c.args.out.now.items c.add.new.out.items c.add.new.out.items c.in_err-add.field-0.0 c.in_ok-aliases.ensures.value c.in_err-add.ensures)

pub returns : goal.returns
returns c =
    both_added c.args.entries.now c.in_ok-aliases.aliases c.in_ok-exports.exports c.args.out.now.items c.add.new.out.items c.add-2.new.out.items c.add-2.result
    (sym c.is_empty.ensures ∙ c.if-is_empty.false) c.in_ok-aliases.ensures.value c.in_ok-exports.ensures.value c.in_ok-aliases.ensures.fits c.in_ok-exports.ensures.fits c.in_ok-add.ensures c.add-2.ensures
