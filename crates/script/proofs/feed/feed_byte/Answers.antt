-- `script::feed::feed_byte` meets its contract: each return is a case of the definition. Assumes nothing.
use mathlib.Core.Path.{sym, ◌∙◌}
use Rattle.script.specs.Laws.Machine.{fed_stopped, fed_line, fed_long, fed_more}
use Rattle.script.proofs.feed.feed_byte.Goals as goal

pub returns-then-stopped : goal.returns-then-stopped
returns-then-stopped c =
    fed_stopped c.args.c _ _ _ c.args.from c.requires (sym c.stopped.ensures ∙ c.if-stopped.true)

pub returns-then-c-eq-NEWLINE : goal.returns-then-c-eq-NEWLINE
returns-then-c-eq-NEWLINE c =
    fed_line c.args.c _ _ _ c.args.from c.requires c.run_line.result _ _
    (sym c.stopped.ensures
    ∙ c.if-stopped.false)
    c.if-c-eq-NEWLINE.true c.run_line.ensures
    c.run_line.auto.bank

pub returns-then-from-gt-MOST_BYTES : goal.returns-then-from-gt-MOST_BYTES
returns-then-from-gt-MOST_BYTES c =
    fed_long c.args.c _ _ _ c.args.from c.requires (sym c.stopped.ensures ∙ c.if-stopped.false)
    c.if-c-eq-NEWLINE.false c.if-from-gt-MOST_BYTES.true

pub returns : goal.returns
returns c =
    fed_more c.args.c _ _ _ c.args.from c.requires (sym c.stopped.ensures ∙ c.if-stopped.false)
    c.if-c-eq-NEWLINE.false c.if-from-gt-MOST_BYTES.false
