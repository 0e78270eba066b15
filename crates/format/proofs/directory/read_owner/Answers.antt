-- `format::directory::read_owner` meets its contract: a byte of the entry's part. Assumes nothing.
use mathlib.Core.Path.{sym, ◌∙◌}
use Prim.Native.Nat.{◌+◌, ◌*◌}
use native.Mathlib.Omega.{arith}
use Rattle.model.specs.Definitions.Layout.{head_size, owner_at, entry_size}
use Rattle.model.specs.Definitions.Codec.{decode_entry}
use Rattle.model.proofs.Laws.Parts.{byte_at_part}
use Rattle.format.proofs.directory.read_owner.Goals as goal

pub returns : goal.returns
unfolding decode_entry
returns c =
    c.get.ensures ∙ sym (byte_at_part c.args.bank.now (head_size + c.args.page * entry_size) entry_size owner_at (omega arith))
