use Rattle.std.proofs.Common.{◌∙◌, ap, map, refl}
use Rattle.wit_types.specs.PlainValue.{plain_value}
use Rattle.wit_types.proofs.ValueLemmas.{plain_value-Bool, plain_value-Int, plain_value-Char, plain_value-Str, plain_value-Record, plain_value-Variant, plain_value-Flags, plain_value-Handle}
use Rattle.ref_answers.proofs.PassLemmas.{nothing}
use Rattle.ref_answers.proofs.passing.keep_listed.Goals as goal

pub returns-in-Bool : goal.returns-in-Bool
returns-in-Bool c = nothing c.args.policy.now (map plain_value c.args.passed.now.items) (plain_value c.args.answer) _ (ap plain_value c.in-Bool.is ∙ plain_value-Bool _) refl

pub returns-in-Int : goal.returns-in-Int
returns-in-Int c = nothing c.args.policy.now (map plain_value c.args.passed.now.items) (plain_value c.args.answer) _ (ap plain_value c.in-Int.is ∙ plain_value-Int _) refl

pub returns-in-Char : goal.returns-in-Char
returns-in-Char c = nothing c.args.policy.now (map plain_value c.args.passed.now.items) (plain_value c.args.answer) _ (ap plain_value c.in-Char.is ∙ plain_value-Char _) refl

pub returns-in-Str : goal.returns-in-Str
returns-in-Str c = nothing c.args.policy.now (map plain_value c.args.passed.now.items) (plain_value c.args.answer) _ (ap plain_value c.in-Str.is ∙ plain_value-Str _) refl

pub returns-in-Record : goal.returns-in-Record
returns-in-Record c = nothing c.args.policy.now (map plain_value c.args.passed.now.items) (plain_value c.args.answer) _ (ap plain_value c.in-Record.is ∙ plain_value-Record _) refl

pub returns-in-Variant : goal.returns-in-Variant
returns-in-Variant c = nothing c.args.policy.now (map plain_value c.args.passed.now.items) (plain_value c.args.answer) _ (ap plain_value c.in-Variant.is ∙ plain_value-Variant _ _) refl

pub returns-in-Flags : goal.returns-in-Flags
returns-in-Flags c = nothing c.args.policy.now (map plain_value c.args.passed.now.items) (plain_value c.args.answer) _ (ap plain_value c.in-Flags.is ∙ plain_value-Flags _) refl

pub returns : goal.returns
returns c = nothing c.args.policy.now (map plain_value c.args.passed.now.items) (plain_value c.args.answer) _ (ap plain_value c.in-Handle.is ∙ plain_value-Handle _) refl
