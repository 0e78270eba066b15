-- Document 02's F-7 worked through: what two logs held against each other yield in banks made by hand, and histories in which a board was cut, was
-- checkpointed or made a call that ended in code 8, so that there is a place: each of the three conditions of the claim is needed. Definitions only; the
-- theorems are in Computed. Assumes nothing.
use Rattle.std.specs.Prelude.{ℕ, Bool, false, ◌&&◌, ◌||◌, not, List, [], ◌∷◌, eqb}
use Rattle.types.specs.declared.CopyOrOwn.TheVariants.{GotCopy, GotOwn}
use Rattle.types.specs.declared.Kind.{Kind}
use Rattle.types.specs.declared.Kind.TheVariants.{Got, Shown, Dropped}
use Rattle.model.specs.Definitions.Parts.{zeros}
use Rattle.model.specs.Definitions.Layout.{page_size}
use Rattle.model.specs.Definitions.Bank.{Bank, fresh, on_board}
use Rattle.model.specs.Definitions.Answers.{code}
use Rattle.model.specs.Definitions.Steps.{Read, Write, ReadCells, note, power_off, stored_selector}
use Rattle.model.specs.Definitions.Calls.{Result, Call, Accessing, Checkpointing, Fusing, Restarting, Comparing, call_bank, call}
use Rattle.model.specs.Laws.Codes.Statement.{board_named}
use Rattle.model.specs.History.Statement.{Event, Accessed, Restarted, LostPower, Nothing, event_of}
use Rattle.cases.specs.Table.{agrees}
use Rattle.cases.specs.Cells.{with_stored}
use Rattle.cases.specs.Peers.{bank_after}

-- this code, value and who, without a store
unfoldable pub answers_as : (numbers : ℕ × ℕ × ℕ) → Call → Bank → Bool
answers_as n c k =
    let t : Result = call_bank c k in
    agrees (n.0, n.1, n.2, 0) (record { answer = t.answer; stores = t.run.stores })

-- two boards yield this place and taker, named in either order
unfoldable pub yields : (place taker : ℕ) → (b c : ℕ) → Bank → Bool
yields place taker b c k = answers_as (0, place, taker) (Comparing b c) k && answers_as (0, place, taker) (Comparing c b) k

-- ==== logs made by hand

-- of two boards: what board 0 stored, which names board 1, and what board 1 stored, which names board 0
unfoldable pub two_logs : (first second : List Kind) → Bank
two_logs first second = on_board 1 (with_stored 0 second) (on_board 0 (with_stored 1 first) (fresh 2 4))

-- "whose page differs": the second; "or that has no partner": the second, and the first. By place and not by page: the same pages in another order differ. A
-- got is of a copy or of ownership; a dropped is neither got nor shown; a shown without a got is no fault.
unfoldable pub one_pair : Bool
one_pair =
    yields 2 1 0 1 (two_logs (Shown 0 ∷ Shown 3 ∷ []) (Got GotCopy 0 ∷ Got GotOwn 2 ∷ []))
    && (yields 2 1 0 1 (two_logs (Shown 0 ∷ []) (Got GotOwn 0 ∷ Got GotCopy 2 ∷ []))
    && (yields 1 0 0 1 (two_logs (Got GotOwn 1 ∷ []) [])
    && (yields 1 1 0 1 (two_logs (Shown 0 ∷ Shown 2 ∷ []) (Got GotCopy 2 ∷ Got GotCopy 0 ∷ []))
    && (yields 0 0 0 1 (two_logs (Dropped 3 ∷ Shown 0 ∷ Shown 2 ∷ []) (Got GotCopy 0 ∷ Dropped 1 ∷ [])) && yields 0 0 0 1 (fresh 2 4)))))

-- "all gots with the lower board as giver come first": its place 2 before the other's place 1, and that one where the first direction has none
unfoldable pub lower_first : Bool
lower_first =
    yields 2 1 0 1 (two_logs (Shown 0 ∷ Got GotCopy 1 ∷ []) (Got GotCopy 0 ∷ Got GotOwn 2 ∷ []))
    && yields 1 0 0 1 (two_logs (Shown 0 ∷ Got GotCopy 1 ∷ []) (Got GotCopy 0 ∷ Shown 3 ∷ []))

-- "the stored logs of their selected areas": neither a volatile got nor one in the spare area counts, and none that names another board
unfoldable pub stored_only : Bool
stored_only =
    yields 0 0 0 1 (note 1 (Got GotCopy 2) 0 (zeros page_size) (fresh 2 4))
    && (yields 0 0 0 1 (on_board 1 (λ x. stored_selector (with_stored 0 (Got GotCopy 2 ∷ []) x)) (fresh 2 4))
    && (yields 0 0 0 1 (on_board 1 (with_stored 2 (Got GotCopy 2 ∷ [])) (fresh 3 4))
    && yields 1 1 1 2 (on_board 1 (with_stored 2 (Got GotCopy 2 ∷ [])) (fresh 3 4))))

-- "It works in every state of the boards": one board without power, both, and one replaying
unfoldable pub any_state : Bool
any_state =
    let k : Bank = power_off 1 (two_logs (Shown 0 ∷ []) (Got GotCopy 2 ∷ [])) in
    let j : Bank = bank_after (Accessing 0 (Read 1 0) ∷ Accessing 1 (Read 0 0) ∷ Checkpointing 1 ∷ Fusing 0 0 ∷ Restarting 0 ∷ []) (fresh 2 2) in
    yields 1 1 0 1 k && (yields 1 1 0 1 (power_off 0 k) && yields 1 0 0 1 j)

-- "The same board named twice gives code 12, tested after 2": in any state; and of no bank code 1
unfoldable pub codes_compared : Bool
codes_compared =
    answers_as (12, 0, 0) (Comparing 1 1) (power_off 1 (fresh 2 1))
    && (answers_as (2, 0, 0) (Comparing 2 2) (fresh 2 1)
    && (answers_as (2, 0, 0) (Comparing 0 2) (fresh 2 1)
    && (answers_as (2, 0, 0) (Comparing 4294967295 0) (fresh 2 1)
    && (answers_as (12, 0, 0) (Comparing 0 0) (fresh 1 1) && agrees (1, 0, 0, 0) (call (Comparing 0 0) []).outcome))))

-- ==== histories

-- what the claim asks of a board, broken by a call: it lost its power; it was checkpointed; it made a call that ended in code 8
unfoldable pub lost_board : ℕ → Event → Bool
lost_board b (Accessed c a bytes) = false
lost_board b (Restarted c v) = false
lost_board b (LostPower c) = eqb c b
lost_board b Nothing = false

unfoldable pub was_cut : ℕ → Call → Result → Bool
was_cut b c t = lost_board b (event_of c t.answer t.given)

unfoldable pub was_checkpointed : ℕ → Call → Result → Bool
was_checkpointed b (Accessing d a) t = false
was_checkpointed b (Checkpointing d) t = eqb d b && eqb (code t.answer) 0
was_checkpointed b (Fusing d n) t = false
was_checkpointed b (Restarting d) t = false
was_checkpointed b (Comparing d e) t = false

unfoldable pub called_in_vain : ℕ → Call → Result → Bool
called_in_vain b c t = eqb (board_named c) b && eqb (code t.answer) 8

-- .. by some call of a list, for one of the first two boards
unfoldable pub broken : (ℕ → Call → Result → Bool) → List Call → Bank → Bool
broken test [] k = false
broken test (c ∷ cs) k = (test 0 c (call_bank c k) || test 1 c (call_bank c k)) || broken test cs (call_bank c k).run.bank

-- what a history breaks
pub data Broken : Type 0 where
  Cut : Broken
  Checkpoint : Broken
  Code8 : Broken
  Unbroken : Broken

unfoldable pub breaks : Broken → (cut checkpoint code8 : Bool) → Bool
breaks Cut cut checkpoint code8 = cut && (not checkpoint && not code8)
breaks Checkpoint cut checkpoint code8 = not cut && (checkpoint && not code8)
breaks Code8 cut checkpoint code8 = not cut && (not checkpoint && code8)
breaks Unbroken cut checkpoint code8 = not cut && (not checkpoint && not code8)

-- it breaks this alone, of board 0 or 1, and these two then yield a place and a taker
unfoldable pub yields_by : Broken → (place taker : ℕ) → List Call → Bank → Bool
yields_by why place taker cs k =
    breaks why (broken was_cut cs k) (broken was_checkpointed cs k) (broken called_in_vain cs k) && yields place taker 0 1 (bank_after cs k)

-- "made no call that ended in code 8": board 2 dies while it gives, so board 0 takes no page, though board 1 has shown it one
unfoldable pub given_in_vain : List Call
given_in_vain =
    Fusing 2 1 ∷ Accessing 0 (ReadCells (1 ∷ 0 ∷ 2 ∷ 0 ∷ []) 2) ∷ Accessing 0 (Read 4 0) ∷ Accessing 1 (Read 0 0) ∷ []

-- the giver's log is empty when its replay has ended; the taker lost a got that was not stored
unfoldable pub giver_was_cut : List Call
giver_was_cut = Accessing 0 (Read 1 0) ∷ Accessing 1 (Read 0 0) ∷ Fusing 1 0 ∷ Restarting 1 ∷ []

unfoldable pub taker_was_cut : List Call
taker_was_cut = Accessing 1 (Read 0 0) ∷ Fusing 1 0 ∷ Restarting 1 ∷ Accessing 1 (Read 2 0) ∷ Accessing 0 (Read 1 0) ∷ []

-- the giver forgot what it had shown; the taker, what it had got
unfoldable pub giver_checkpointed : List Call
giver_checkpointed = Accessing 0 (Read 1 0) ∷ Accessing 1 (Read 0 0) ∷ Checkpointing 1 ∷ []

unfoldable pub taker_checkpointed : List Call
taker_checkpointed = Accessing 1 (Read 0 0) ∷ Checkpointing 1 ∷ Accessing 1 (Read 2 0) ∷ Accessing 0 (Read 1 0) ∷ []

-- nothing of it: pages go both ways, written ones too, and a third board dies
unfoldable pub nothing_broken : List Call
nothing_broken =
    Accessing 0 (Read 1 0)
    ∷ Accessing 1 (Write 0 0 7)
    ∷ Accessing 0 (Read 0 0)
    ∷ Fusing 2 1
    ∷ Accessing 1 (Read 3 0)
    ∷ Accessing 2 (Write 1 0 3)
    ∷ Accessing 1 (Read 2 0)
    ∷ Accessing 0 (Write 4 1 2)
    ∷ []

unfoldable pub each_needed : Bool
each_needed =
    yields_by Code8 1 0 given_in_vain (fresh 3 5)
    && (yields_by Cut 1 0 giver_was_cut (fresh 2 2)
    && (yields_by Cut 1 1 taker_was_cut (fresh 2 4)
    && (yields_by Checkpoint 1 0 giver_checkpointed (fresh 2 2)
    && (yields_by Checkpoint 1 1 taker_checkpointed (fresh 2 4) && yields_by Unbroken 0 0 nothing_broken (fresh 3 5)))))
