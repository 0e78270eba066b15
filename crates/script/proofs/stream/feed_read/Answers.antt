-- `script::stream::feed_read` meets its contract: the machine with an empty output is fed. Assumes nothing.
use Rattle.script.specs.Laws.Stream.{read_streamed}
use Rattle.script.proofs.stream.feed_read.Goals as goal

pub returns : goal.returns
returns c =
    let fed = c.feed in
    read_streamed _ _ c.args.from _ fed.result _ _ _ _
    (rw c.empty_out.ensures at fed.ensures)
