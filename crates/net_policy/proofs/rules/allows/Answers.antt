use Rattle.std.proofs.Common.{◌≡◌, rules}
use Rattle.wit_types.specs.PlainValue.{plain_value}
use Rattle.net_policy.specs.Allowed.{address_in, is_allowed}
use Rattle.net_policy.proofs.AllowedLemmas.{says}
use Rattle.net_policy.proofs.rules.allows.Goals as goal

pub returns-clause-rule : goal.returns-clause-rule
returns-clause-rule c =
    let test : c.some_allows.result ≡ is_allowed c.args.rules.now (address_in (plain_value c.args.address.now)) = search rules in
    says c.args.rules.now (address_in (plain_value c.args.address.now)) c.some_allows.result test
