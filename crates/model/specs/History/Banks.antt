-- The history beside a bank, as the statement has it beside bytes. Definitions only. Assumes nothing.
use Rattle.std.specs.Prelude.{ℕ}
use Rattle.model.specs.Definitions.Bank.{Bank}
use Rattle.model.specs.Definitions.Codec.{encode}
use Rattle.model.specs.Definitions.Calls.{Call, call_bank}
use Rattle.model.specs.History.Statement.{History, System, event_of, fed, gave_in, granted_after}

-- a bank with its history
unfoldable pub system_of : Bank → History → (ℕ → ℕ) → System
system_of k h granted = record { bytes = encode k; history = h; granted = granted }

-- the history and the grants after a call, on the bank
unfoldable pub history_after : Call → Bank → History → History
history_after c k h = fed (event_of c (call_bank c k).answer (call_bank c k).given) (call_bank c k).run.bank h

unfoldable pub grants_after : Call → Bank → (ℕ → ℕ) → ℕ → ℕ
grants_after c k granted = granted_after (gave_in (event_of c (call_bank c k).answer (call_bank c k).given) k) k granted
