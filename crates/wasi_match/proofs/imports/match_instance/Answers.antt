use Rattle.std.proofs.Common.{◌≡◌, ◌∙◌, sym, ap, subst, true, false, nat_eq, Option, List, ℕ}
use Rattle.std.specs.Cmp.{nat_eq_equiv}
use Rattle.std.specs.List.{list_any}
use Rattle.std.proofs.lemmas.Bool.{false≢true}
use Rattle.std.proofs.lemmas.Map.Views.{Contains-from_any, list_any-from_Contains}
use Rattle.comp_types.specs.Items.{and_entry}
use Rattle.comp_types.proofs.MeetLaws.{equal_number}
use Rattle.wasi_match.specs.VersionsViews.{plain_name}
use Rattle.wasi_match.specs.declared.listed.ListedUse.{ListedUse}
use Rattle.wasi_match.specs.Listed.{interfaces}
use Rattle.wasi_match.specs.Begun.{IsBegun, Fits}
use Rattle.wasi_match.proofs.BegunLaws.{begun_more, begun_mistyped}
use Rattle.wasi_match.proofs.imports.match_instance.Goals as goal

pub returns-then-is_used : goal.returns-then-is_used
returns-then-is_used c =
    let number = c.args.name.interface in
    let uses = c.args.matched.now.uses in
    let found : list_any (nat_eq number) (interfaces uses) ≡ true =
    ap (λ (us : List ListedUse). list_any (nat_eq number) (interfaces us)) (sym c.as_slice.ensures) ∙ sym c.is_used.ensures ∙ c.if-is_used.true in
    λ before text item b n. (plain_name c.args.name, c.args.instance.now.entries, n, Contains-from_any equal_number number (interfaces uses) found)

pub returns-in-None : goal.returns-in-None
returns-in-None c =
    let number = c.args.name.interface in
    let uses = c.args.matched.now.uses in
    let new : list_any (nat_eq number) (interfaces uses) ≡ false =
    ap (λ (us : List ListedUse). list_any (nat_eq number) (interfaces us)) (sym c.as_slice.ensures) ∙ sym c.is_used.ensures ∙ c.if-is_used.false in
    let fit = subst (λ (o : Option (List ℕ)). Fits o c.args.matched.now.kinds c.fit.new.kinds number c.args.instance.now.entries) c.in-None.is c.in_ok-fit.ensures in
    λ before text item b n.
    begun_mistyped before uses c.args.matched.now.kinds b text item (plain_name c.args.name) c.args.instance.now.entries n c.fit.new.kinds fit
    (λ h. false≢true (sym new ∙ list_any-from_Contains nat_eq_equiv number (interfaces uses) h))

abbrev taken : ℕ → List ℕ → List ℕ → ListedUse
taken interface functions version = record { interface = interface; version = version; functions = functions }

pub returns-in_ok-push-in-Some : goal.returns-in_ok-push-in-Some
returns-in_ok-push-in-Some c =
    let number = c.args.name.interface in
    let uses = c.args.matched.now.uses in
    let functions = c.in-Some.functions in
    let new : list_any (nat_eq number) (interfaces uses) ≡ false =
    ap (λ (us : List ListedUse). list_any (nat_eq number) (interfaces us)) (sym c.as_slice.ensures) ∙ sym c.is_used.ensures ∙ c.if-is_used.false in
    let fit = subst (λ (o : Option (List ℕ)). Fits o c.args.matched.now.kinds c.fit.new.kinds number c.args.instance.now.entries) c.in-Some.is c.in_ok-fit.ensures in
    λ before text item b n.
    let more = begun_more before uses c.args.matched.now.kinds b text item (plain_name c.args.name) c.args.instance.now.entries n functions c.fit.new.kinds
    (taken number functions c.in_ok-version-in-Some.version) fit new (ap (taken number functions) c.in_ok-version-in-Some.ensures) in
    subst (λ (us : List ListedUse). IsBegun (and_entry before text item) us c.fit.new.kinds) (sym c.in_ok-push-in-Some.ensures.ok) more
