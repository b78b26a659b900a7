use Rattle.std.proofs.Common.{rules, ◌≡◌, ◌-◌, suc, le_refl, arith}
use Rattle.std.proofs.lemmas.Result.{err_from_is_err_and}
use Rattle.mount_tree.proofs.Follows.{each_on, each_stop}
use Rattle.mount_tree.proofs.MountLemmas.{mount_begins, mount_missed, entry_step, entered_file, entered_not, entered_folder, entered_path}
use Rattle.mount_tree.proofs.mount.+add_contents.Goals as goal

pub returns-in_err-entries-clause-gives : goal.returns-in_err-entries-clause-gives
returns-in_err-entries-clause-gives g n c =
    let p = err_from_is_err_and c.from_residual.result c.from_residual.ensures.1 in
    let is : suc (c.args.levels - 1) ≡ c.args.levels = omega (arith, c.if-levels-eq0.false) in
    rw (p.1, p.2) (mount_missed _ _ c.args.folder.now c.args.path.now c.args.making c.args.levels (c.args.levels - 1) c.in_err-entries.field-0.0 is c.in_err-entries.ensures.gives)

pub loop-entry-init : goal.loop-entry-init
loop-entry-init g n c =
    let is : suc (c.args.levels - 1) ≡ c.args.levels = omega (arith, c.if-levels-eq0.false) in
    record {
      due = rw (c.as_slice-rest.ensures) (mount_begins _ _ c.args.folder.now c.args.path.now c.args.making c.args.levels (c.args.levels - 1) c.in_ok-entries.entries is c.in_ok-entries.ensures.gives);
      targets = le_refl _;
    }

pub returns-in_err-making-clause-gives : goal.returns-in_err-making-clause-gives
returns-in_err-making-clause-gives g n c =
    let p = err_from_is_err_and c.from_residual-in_err-making.result c.from_residual-in_err-making.ensures.1 in
    rw (p.1, p.2) (each_stop _ (entry_step (c.args.levels - 1) c.args.folder.now c.args.path.now) c.loop-entry.made c.loop-entry.rest.now c.in-Some.more.now c.in-Some.entry.now
    c.in_err-making.field-0.0 _ _ _ c.loop-entry.invariant.due c.in-Some.ensures.cases.0
    (entered_not (c.args.levels - 1) c.args.folder.now c.args.path.now c.loop-entry.made c.in-Some.entry.now _ _ c.in_err-making.field-0.0
    (rw (c.as_str.ensures, c.as_str-in-Some.ensures) at c.in_err-making.ensures.enters)))

pub returns-in_err-made-in-Some-inner-clause-gives : goal.returns-in_err-made-in-Some-inner-clause-gives
returns-in_err-made-in-Some-inner-clause-gives g n c =
    let p = err_from_is_err_and c.from_residual-in_err-made-in-Some-inner.result c.from_residual-in_err-made-in-Some-inner.ensures.1 in
    rw (p.1, p.2) (each_stop _ (entry_step (c.args.levels - 1) c.args.folder.now c.args.path.now) c.loop-entry.made c.loop-entry.rest.now c.in-Some.more.now c.in-Some.entry.now
    c.in_err-made-in-Some-inner.field-0.0 _ _ _ c.loop-entry.invariant.due c.in-Some.ensures.cases.0
    (entered_folder (c.args.levels - 1) c.args.folder.now c.args.path.now c.loop-entry.made c.in-Some.entry.now _ _ _ c.in_ok-making.field-0 c.in-Some-inner.inner _
    (search rules) (rw (c.as_str.ensures, c.as_str-in-Some.ensures) at c.in_ok-making.ensures.enters) c.in_err-made-in-Some-inner.ensures.gives))

pub loop-entry-preserved-in-None : goal.loop-entry-preserved-in-None
loop-entry-preserved-in-None g n c = record {
  due = each_on _ (entry_step (c.args.levels - 1) c.args.folder.now c.args.path.now) c.loop-entry.made c.in_ok-making.field-0.making c.loop-entry.rest.now c.in-Some.more.now c.in-Some.entry.now
      _ _ _ c.loop-entry.invariant.due c.in-Some.ensures.cases.0
      (entered_file (c.args.levels - 1) c.args.folder.now c.args.path.now c.loop-entry.made c.in-Some.entry.now _ _ c.in_ok-making.field-0
      (search rules) (rw (c.as_str.ensures, c.as_str-in-Some.ensures) at c.in_ok-making.ensures.enters));
  targets = omega (arith, c.in_ok-making.ensures.targets, c.loop-entry.invariant.targets);
}

pub loop-entry-preserved : goal.loop-entry-preserved
loop-entry-preserved g n c = record {
  due = each_on _ (entry_step (c.args.levels - 1) c.args.folder.now c.args.path.now) c.loop-entry.made c.in_ok-made-in-Some-inner.made c.loop-entry.rest.now c.in-Some.more.now c.in-Some.entry.now
      _ _ _ c.loop-entry.invariant.due c.in-Some.ensures.cases.0
      (entered_folder (c.args.levels - 1) c.args.folder.now c.args.path.now c.loop-entry.made c.in-Some.entry.now _ _ _ c.in_ok-making.field-0 c.in-Some-inner.inner _
      (search rules) (rw (c.as_str.ensures, c.as_str-in-Some.ensures) at c.in_ok-making.ensures.enters) c.in_ok-made-in-Some-inner.ensures.gives);
  targets = omega (arith, c.in_ok-made-in-Some-inner.ensures.targets, c.in_ok-making.ensures.targets, c.loop-entry.invariant.targets);
}

pub add_contents-requires : goal.add_contents-requires
add_contents-requires g n c = λ κs le.
    let inner = entered_path (c.args.levels - 1) c.args.folder.now c.args.path.now c.loop-entry.made c.in-Some.entry.now _ _ c.in_ok-making.field-0 c.in-Some-inner.inner
    (search rules) (rw (c.as_str.ensures, c.as_str-in-Some.ensures) at c.in_ok-making.ensures.enters) in
    (search (rules, arith), (search rules, inner))
