-- `accesses::live::live_verdict` meets its contract: code 6, then code 7. Assumes nothing.
use mathlib.Core.Path.{subst, ap, ◌∙◌, refl}
use Prim.Native.Nat.{ℕ}
use Rattle.model.specs.Definitions.Codec.{decode}
use Rattle.copies.specs.Directory.{entry_at_lem, owner_told}
use Rattle.std.specs.Prelude.{not}
use Rattle.accesses.specs.Asks.{Lacking}
use Rattle.accesses.proofs.Prepared.{none_told, refuses_owner, refuses_short, refuses_none, passes_idle}
use Rattle.accesses.proofs.live.live_verdict.Goals as goal

pub returns-then-is_none : goal.returns-then-is_none
returns-then-is_none c =
    λ a l.
    passes_idle (subst (λ (n : ℕ). Lacking c.args.pages a c.args.ask n (decode c.args.bank.now)) c.if-lacking-eq0.true l)
    c.requires.0.bank.count c.requires.0.formed (none_told _ (c.is_none.ensures ∙ ap not c.if-is_none.true))

pub read_owner-requires : goal.read_owner-requires
read_owner-requires c = entry_at_lem c.requires.0.bank _ c.in-Some.ensures.within

pub returns-in-Some : goal.returns-in-Some
returns-in-Some c =
    λ a l.
    refuses_owner l c.requires.0.bank.count (rw c.is_some.ensures at c.in-Some.ensures.found) _ _ refl
    (c.read_owner.ensures ∙ owner_told c.requires.0.bank _ c.in-Some.ensures.within)

pub returns-in-Some-short_board : goal.returns-in-Some-short_board
returns-in-Some-short_board c =
    λ a l. refuses_short l c.requires.0.bank.count (rw c.is_some.ensures at c.in_default.ensures.found) refl _ (c.in-Some-short_board.ensures.found a l)

pub returns-in-None : goal.returns-in-None
returns-in-None c = λ a l. refuses_none l c.requires.0.bank.count (rw c.is_some.ensures at c.in_default.ensures.found) refl (c.in-None.ensures.found a l)
