-- Document 02, F-1, read off the definitions: "fuse 0 cuts the board then and there, with no store. It answers code 0, and in the roll fuse 0 answered 0 is a
-- cut answered 0." Assumes nothing.
use Rattle.std.specs.Prelude.{◌≡◌, refl, ◌≢◌, ℕ, ◌<◌, true, List, [], length}
use Rattle.std.proofs.Common.{lt-ltb}
use Rattle.types.specs.declared.State.TheVariants.{Down}
use Rattle.types.specs.declared.Answer.TheVariants.{Done}
use Rattle.model.specs.Definitions.Bank.{board_at}
use Rattle.model.specs.Definitions.Codec.{encode, decode}
use Rattle.model.specs.Definitions.Check.{well_formed}
use Rattle.model.specs.Definitions.Steps.{start, step, power_off, fuse_board}
use Rattle.model.specs.Definitions.Calls.{first_given, unless, finished, fuse_bank, Fusing, call_bank, reply_of, call}
use Rattle.model.specs.History.Statement.{LostPower, done_event, event_of}
use Rattle.model.proofs.Laws.Tests.{says_down}
use Rattle.model.proofs.Laws.Codes.Order.{refuted}

-- of a board that is there and has power: answer, stores and every byte
pub zero_fuse : (b : ℕ) (s : List ℕ) → well_formed s ≡ true → b < length (decode s).boards → (board_at (decode s) b).state ≢ Down
    → call (Fusing b 0) s ≡ record { outcome = record { answer = Done 0; stores = 0 }; bytes = encode (power_off b (decode s)); given = [] }
unfolding call call_bank fuse_bank fuse_board unless first_given finished step start reply_of
zero_fuse b s formed there power = cc (formed, lt-ltb b _ there, refuted _ (says_down (board_at (decode s) b).state) power)

-- and what that feeds to the history
pub feeds_power_loss : (b v : ℕ) (given : List ℕ) → event_of (Fusing b 0) (Done v) given ≡ LostPower b
unfolding event_of done_event
feeds_power_loss b v given = refl
