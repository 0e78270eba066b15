-- `script::stream::end_input` meets its contract: the machine with an empty output is finished. Assumes nothing.
use Rattle.script.specs.Laws.Stream.{put_written, same_machine}
use Rattle.script.proofs.stream.end_input.Goals as goal

pub returns : goal.returns
returns c =
    let output = rw c.empty_out.ensures at c.finish.ensures.output in
    let bank = rw c.empty_out.ensures at c.finish.ensures.bank in
    let same = same_machine c.args.line.now c.args.bank.now c.args.from in
    record { output = put_written (rw same at output); bank = rw same at bank }
