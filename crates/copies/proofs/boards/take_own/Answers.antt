-- `copies::boards::take_own` meets its contract. Assumes nothing.
use Rattle.model.proofs.Laws.Boards.{took_own}
use Rattle.copies.proofs.boards.take_own.Goals as goal

pub returns : goal.returns
unfolding took_own
returns c = c.set_frame.ensures
