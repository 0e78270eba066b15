-- `lines::request::read_request` meets its contract: a letter, a space, and the words behind it. Assumes nothing.
use Rattle.std.proofs.Common.{sym, ◌∙◌, arith}
use Rattle.lines.specs.Definitions.Lines.{request_of}
use Rattle.lines.specs.Laws.Lines.{tail_part, request_letter_at}
use Rattle.lines.proofs.request.read_request.Goals as goal

pub returns-in-Some : goal.returns-in-Some
returns-in-Some c =
    c.request_of.ensures
    ∙ rw (c.deref.ensures.0, rw tail_part at c.in-Some.ensures)
    (sym (request_letter_at _ c.in-32.len_at_least c.if-line-gt-MOST_BYTES.false (omega arith)))

pub returns-in-None : goal.returns-in-None
unfolding request_of
returns-in-None c =
    sym (request_letter_at _ c.in-32.len_at_least c.if-line-gt-MOST_BYTES.false (omega arith) ∙ rw (← rw tail_part at c.in-None.ensures))
