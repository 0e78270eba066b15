-- `accesses::live::drop_out` meets its contract: the ones of the copy-set are counted. Assumes nothing.
use Rattle.accesses.proofs.Prepared.{out_none, out_some, copies_none, copies_some}
use Rattle.copies.specs.Directory.{entry_at_lem, copies_told}
use Rattle.copies.specs.Banks.{of_holds}
use Rattle.model.specs.Definitions.Codec.{decode}
use native.Mathlib.Omega.{arith}
use lib.Count.{ones}
use mathlib.Core.Path.{ap, ◌∙◌}
use Rattle.accesses.proofs.live.drop_out.Goals as goal

pub read_copies-requires : goal.read_copies-requires
read_copies-requires c = entry_at_lem c.requires.0 _ c.requires.1

pub returns-then-count_copies-gt0 : goal.returns-then-count_copies-gt0
returns-then-count_copies-gt0 c =
    let e = c.count_copies.ensures
    ∙ ap ones (c.read_copies.ensures ∙ copies_told c.requires.0 _ c.requires.1) in
    rw (← out_some c.args.board c.args.page (decode c.args.bank.now) (copies_some _ _ e c.if-count_copies-gt0.true))
    c.drop_copies.ensures

pub returns-else-count_copies-gt0 : goal.returns-else-count_copies-gt0
returns-else-count_copies-gt0 c =
    let e = c.count_copies.ensures
    ∙ ap ones (c.read_copies.ensures ∙ copies_told c.requires.0 _ c.requires.1) in
    rw (← out_none c.args.board c.args.page (decode c.args.bank.now) (copies_none _ _ e (omega arith))) (of_holds c.requires.0)
