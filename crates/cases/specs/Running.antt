-- Scripts and histories run on the bank, by computation. Definitions only: what is computed with them rests on no law. Assumes nothing.
use Rattle.std.specs.Prelude.{ℕ, Bool, true, ◌&&◌, List, [], ◌∷◌, eqb}
use Rattle.model.specs.Definitions.Bank.{Bank, board_at, fresh}
use Rattle.model.specs.Definitions.Codec.{encode}
use Rattle.model.specs.Definitions.Replay.{recovery_point}
use Rattle.model.specs.Definitions.Calls.{Call, Result, call_bank}
use Rattle.model.specs.History.Statement.{History, no_history, access_of, zero_memory}
use Rattle.model.proofs.History.Tests.{premise_for, one_memory_test, repeat_for, grants_for}
use Rattle.model.specs.History.Banks.{history_after, grants_after}
use Rattle.cases.specs.Digest.{digest}
use Rattle.cases.specs.Table.{Line, Left, Anything, Digest, RecoveryPoint, Script, agrees}
use Rattle.cases.specs.Worked.{Worked}
use Rattle.model.specs.Definitions.Check.{sizes_allowed}

-- ---- the table of answers

unfoldable pub leaves_on : Left → Bank → Bool
leaves_on Anything k = true
leaves_on (Digest d) k = eqb (digest (encode k)) d
leaves_on (RecoveryPoint b n) k = eqb (recovery_point (board_at k b)) n

unfoldable pub passes_on : List Line → Left → Bank → Bool
passes_on [] left k = leaves_on left k
passes_on (l ∷ ls) left k =
    let t : Result = call_bank l.asks k in
    agrees l.prints (record { answer = t.answer; stores = t.run.stores }) && passes_on ls left t.run.bank

unfoldable pub passes_fresh : Script → Bool
passes_fresh c = passes_on c.lines c.left (fresh c.boards c.pages)

-- ---- premise and claim

unfoldable pub premises_on : List Call → Bank → History → Bool
premises_on [] k h = true
premises_on (c ∷ cs) k h =
    premise_for (call_bank c k).answer (λ b. (board_at k b).state) h (access_of c) && premises_on cs (call_bank c k).run.bank (history_after c k h)

unfoldable pub claims_on : List Call → Bank → History → (ℕ → ℕ) → Bool
claims_on [] k h granted = true
claims_on (c ∷ cs) k h granted =
    (one_memory_test zero_memory (history_after c k h).entries
    && (repeat_for (call_bank c k).answer (call_bank c k).given h (access_of c) && grants_for (call_bank c k).run.bank (grants_after c k granted)))
    && claims_on cs (call_bank c k).run.bank (history_after c k h) (grants_after c k granted)

-- the sizes are in range, and premise and claim hold throughout
unfoldable pub holds_on : Worked → Bool
holds_on h =
    sizes_allowed h.boards h.pages
    && (premises_on h.calls (fresh h.boards h.pages) no_history && claims_on h.calls (fresh h.boards h.pages) no_history (λ b. 0))

-- what each board gave in a list of calls
unfoldable pub grants_in : List Call → Bank → (ℕ → ℕ) → ℕ → ℕ
grants_in [] k g = g
grants_in (c ∷ cs) k g = grants_in cs (call_bank c k).run.bank (grants_after c k g)
