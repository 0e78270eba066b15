-- `engine::make::make` meets its contract: each return is one way through the call. Assumes nothing.
use Rattle.std.proofs.Common.{◌≡◌, sym, ◌∙◌, eq-eqb, ne_eqb}
use Rattle.model.specs.Definitions.Layout.{bank_size}
use Rattle.engine.specs.Replies.{refused_replied, done_replied}
use Rattle.engine.specs.Making.{make_range, make_length, make_done}
use Rattle.engine.proofs.make.make.Goals.{After-bank_size}
use Rattle.engine.proofs.make.make.Goals as goal

-- the length that is asked for is that of the sizes
long : (c : After-bank_size) → c.bank_size.result ≡ bank_size c.args.boards c.args.pages
long c = let same = c.in-Some.ensures.same in c.bank_size.ensures ∙ rw (same.0, same.1)

pub returns-in_default : goal.returns-in_default
returns-in_default c =
    let both = refused_replied (make_range _ _ _ (sym c.in_default.ensures.some)) c.from.ensures in
    record { reply = both.0; few = both.1 }

pub returns-then-bank-bank_size : goal.returns-then-bank-bank_size
returns-then-bank-bank_size c =
    let e = long (goal.at.returns-then-bank-bank_size c).After-bank_size in
    let both = refused_replied (make_length _ _ _ (sym c.in-Some.ensures.some) (ne_eqb _ _ (λ d. c.if-bank-bank_size.true (d ∙ sym e))))
    c.from-then-bank-bank_size.ensures in
    record { reply = both.0; few = both.1 }

pub returns : goal.returns
returns c =
    let same = c.in-Some.ensures.same in
    let e = long (goal.at.returns c).After-bank_size in
    let both = done_replied _ (make_done _ _ _ (sym c.in-Some.ensures.some) (eq-eqb _ _ (c.if-bank-bank_size.false ∙ e)))
    (c.write_fresh.ensures ∙ rw (same.0, same.1)) in
    record { reply = both.0; few = both.1 }
