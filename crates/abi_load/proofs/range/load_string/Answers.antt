use Rattle.std.proofs.Common.{ℕ, ap, ◌∙◌, Global}
use Rattle.std.specs.Prelude.{Vec}
use Rattle.abi_load.specs.Loaded.{bytes_at}
use Rattle.abi_load.proofs.Strings.{string_is, string_invalid}
use Rattle.abi_load.proofs.range.load_string.Goals as goal

pub returns-in_default-clause-trap : goal.returns-in_default-clause-trap
returns-in_default-clause-trap c =
    λ h. string_invalid (bytes_at c.args.store.now c.args.memory) c.args.place c.args.len c.in_ok-bytes.bytes c.into_vec.result.items c.in_ok-bytes.ensures.1 c.into_vec.ensures (λ u. let k = c.in_default.ensures.succeeds u in cc)

pub returns-clause-ok : goal.returns-clause-ok
returns-clause-ok c =
    string_is (bytes_at c.args.store.now c.args.memory) c.args.place c.args.len c.in_ok-bytes.bytes c.from_string-text.result c.bytes-utf8.result.now c.in_ok-bytes.ensures.0 c.in_ok-bytes.ensures.1
    (c.from_string-text.ensures ∙ ap (λ (v : Vec ℕ Global). v.items) c.in-Ok.ensures.ok ∙ c.into_vec.ensures) c.bytes-utf8.ensures.value c.bytes-utf8.ensures.utf8
