-- `accesses::live::prepare` meets its contract: a fetch, copies dropped, or nothing. Assumes nothing.
use mathlib.Core.Path.{◌≡◌, sym}
use native.Mathlib.Omega.{arith}
use Rattle.std.proofs.Common.{rules, [], ◌∷◌}
use Rattle.model.proofs.Laws.Keeps.Rights as rights
use Rattle.model.proofs.Laws.Keeps.Live.{can_fetch}
use Rattle.copies.specs.Copies.{pages_in}
use Rattle.accesses.proofs.Prepared.{page_told, asks_frames, pages_lacking_lem, one_lacking, prepared_fetch, prepared_own_write, prepared_local_read}
use Rattle.accesses.proofs.Prepared.{holder_space, came_idle}
use Rattle.accesses.proofs.live.prepare.Goals as goal

pub fetch-requires : goal.fetch-requires
fetch-requires c =
    let asks = c.requires.0 in
    let way = c.requires.2.1 in
    let frames = asks_frames asks in (
      asks.bank,
      asks.formed,
      rw (pages_lacking_lem way.lacking frames (omega arith), c.map.ensures.variant, ← way.lacking.stands.takes.takes)
          (can_fetch _ _ _ asks.formed way.can way.passed),
      page_told c.args.ask.write c.map.result (λ page. pages_in c.args.pages c.args.lacking ≡ page ∷ []) c.map.ensures.cases (λ w p q. search rules)
          (λ w e. one_lacking way.lacking frames (omega arith) w e c.if-lacking-ne0.true),
    )

pub returns-then-lacking-ne0 : goal.returns-then-lacking-ne0
returns-then-lacking-ne0 c =
    let did = c.fetch.ensures in
    record {
      run = λ a l n. rw (← prepared_fetch l (asks_frames c.requires.0) (omega arith) n c.if-lacking-ne0.true, ← c.map.ensures.variant) (did.run n);
      few = did.few;
    }

pub drop_out-requires : goal.drop_out-requires
drop_out-requires c =
    let asks = c.requires.0 in
    let way = c.requires.2.1 in
    let page = rw c.in-Some.is at c.requires.1 in (
      asks.bank,
      page,
      rights.entry_at_lem asks.formed _ (rw asks.bank.count at page),
      holder_space way.lacking (asks_frames asks) (omega arith) c.in-Some.w c.in-Some.is c.if-lacking-ne0.false asks.formed
          way.can way.passed,
    )

pub returns-in-Some-clause-run : goal.returns-in-Some-clause-run
returns-in-Some-clause-run c =
    λ a l n.
    rw (← prepared_own_write l (asks_frames c.requires.0) (omega arith) n c.in-Some.w c.in-Some.is c.if-lacking-ne0.false)
    (came_idle n _ c.drop_out.ensures.bytes)

pub returns-in_default-clause-run : goal.returns-in_default-clause-run
returns-in_default-clause-run c =
    λ a l n.
    rw (← prepared_local_read l (asks_frames c.requires.0) (omega arith) n c.in_default.is c.if-lacking-ne0.false)
    (came_idle n _ (sym c.requires.0.bank.bank.back))
