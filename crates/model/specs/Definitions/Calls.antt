-- Document 01's calls, with document 02's F-1 to F-8, for any numbers: first on a bank, then on bytes of any length and content.
-- Each refusal is in the table's order, and the list of tests shows that order. Assumes nothing.
use Rattle.std.specs.Prelude.{ℕ, ◌+◌, ◌%◌, Bool, true, false, ◌&&◌, ◌||◌, not, List, [], ◌∷◌, length, eqb, ltb}
use Rattle.std.proofs.Math.Option.{Option, none, some}
use Rattle.types.specs.declared.Frame.{Frame}
use Rattle.types.specs.declared.CopyOrOwn.{CopyOrOwn}
use Rattle.types.specs.declared.CopyOrOwn.TheVariants.{GotCopy, GotOwn}
use Rattle.types.specs.declared.Answer.{Answer}
use Rattle.types.specs.declared.Answer.TheVariants.{Done, Malformed, OutOfRange, WrongState, CountersFull, ReplayDiffers, OwnerNotUp, LogFull, PowerLost}
use Rattle.types.specs.declared.Answer.TheVariants.{WrongCells, SameBoard}
use Rattle.types.specs.declared.Outcome.{Outcome}
use Rattle.model.specs.Definitions.Parts.{every, first_below, sum_below, member}
use Rattle.model.specs.Definitions.Layout.{byte_values, page_size, most_cells, slot_count, no_fuse, last_since, last_number, bank_size}
use Rattle.model.specs.Definitions.Bank.{Board, Bank, board_at, entry_at, on_board, fresh}
use Rattle.model.specs.Definitions.Codec.{encode, decode}
use Rattle.model.specs.Definitions.Answers.{code}
use Rattle.model.specs.Definitions.WellFormed.{is_up, is_down, is_replaying}
use Rattle.model.specs.Definitions.Check.{well_formed, sizes_allowed}
use Rattle.model.specs.Definitions.Steps.{Run, start, step, fuse_board, checkpoint, Access, Read, Write, ReadCells, Cell, cells_asked, cells_read}
use Rattle.model.specs.Definitions.Steps.{cells_written, any_write, takes, lacks_page, lacking_pages, value_of, given_of, access, owner_up, giver, drop_copies}
use Rattle.model.specs.Definitions.Steps.{fetch}
use Rattle.model.specs.Definitions.Logs.{compared_logs}
use Rattle.model.specs.Definitions.Replay.{restarted, lacking, differs, took_due, replay_over, end_replay, end_if_over, replayed}

-- ==== a call's result on a bank

-- with the bytes that a done call gives into a second buffer, if one is lent
pub record Result : Type 0 where
  pub answer : Answer
  pub run : Run
  pub given : List ℕ

-- "Codes: checked in this order": the answer of the first test that holds
unfoldable pub first_given : List (Bool × Answer) → Option Answer
first_given [] = none
first_given (t ∷ ts) = elim t.0 [ true ↦ some t.1 | false ↦ first_given ts ]

-- a refusal leaves the run as it is; without one the call goes on. "Codes 1 to 7 change no byte, except that an access ending a replay keeps what the end
-- did."; "Codes from 10 on leave bytes as 1 to 7 do" (F-3)
unfoldable pub unless : List (Bool × Answer) → Run → Result → Result
unless tests r go = elim (first_given tests) [ some a ↦ record { answer = a; run = r; given = [] } | none ↦ go ]

-- "8: a fuse blew in this call; who: that board"; else done, with a value and the bytes for the second buffer, "which any code but 0 leaves unchanged" (F-3)
unfoldable pub finished : ℕ → List ℕ → Run → Result
finished v given r =
    elim r.lost [ some b ↦ record { answer = PowerLost b; run = r; given = [] } | none ↦ record { answer = Done v; run = r; given = given } ]

-- ==== an access of an up board

-- the page that an access writes, if it writes
unfoldable pub page_written : Access → ℕ
page_written a = elim (cells_written a) [ [] ↦ 0 | w ∷ ws ↦ w.0.page ]

-- whether an own write finds copies out
unfoldable pub copies_out : Access → Bank → Bool
copies_out a k = elim (cells_written a) [ [] ↦ false | w ∷ ws ↦ not (eqb (entry_at k w.0.page).copies 0) ]

-- "read fetch: reader 1, owner 1; write fetch: writer 1, owner 2, other holders 1": what board c needs when board b fetches page p from o;
-- "its need in code 7 moves to the giver" (F-4)
unfoldable pub fetch_need : CopyOrOwn → Bank → ℕ → ℕ → ℕ → ℕ → ℕ
fetch_need GotCopy k b o p c = elim (eqb c b) [ true ↦ 1 | false ↦ elim (eqb c o) [ true ↦ 1 | false ↦ 0 ] ]
fetch_need GotOwn k b o p c =
    elim (eqb c b) [
      | true ↦ 1
      | false ↦ elim (eqb c o) [ true ↦ 2 | false ↦ elim (member c (entry_at k p).copies) [ true ↦ 1 | false ↦ 0 ] ]
    ]

-- "own write: holders 1"
unfoldable pub drop_need : Access → Bank → ℕ → ℕ → ℕ
drop_need a k p c = elim (any_write (cells_written a) p && member c (entry_at k p).copies) [ true ↦ 1 | false ↦ 0 ]

-- whether an access of board b lacks a right, and the pages to which it does
unfoldable pub lacking_of : ℕ → Access → Bank → Bool
lacking_of b a k = lacking a (board_at k b).working.frames

unfoldable pub pages_lacking : ℕ → Access → Bank → List ℕ
pages_lacking b a k = lacking_pages a (board_at k b).working.frames

-- what board c needs in its log for page p, in an access of board b
unfoldable pub page_need : ℕ → Access → Bank → ℕ → ℕ → ℕ
page_need b a k c p =
    elim (lacks_page a (board_at k b).working.frames p) [ true ↦ fetch_need (takes a) k b (giver (takes a) k p) p c | false ↦ drop_need a k p c ]

-- "code 7 adds up the needs of all pages" (F-3)
unfoldable pub need : ℕ → Access → Bank → ℕ → ℕ
need b a k c = sum_below (length k.directory) (page_need b a k c)

-- "stored + volatile + needed > 32"
unfoldable pub short : ℕ → Access → Bank → ℕ → Bool
short b a k c =
    ltb slot_count (length (board_at k c).stable.selected.log + length (board_at k c).working.log + need b a k c)

-- "on some board ..; who: lowest such board"
unfoldable pub short_board : ℕ → Access → Bank → Option ℕ
short_board b a k = first_below (length k.boards) (short b a k)

unfoldable pub is_some : Option ℕ → Bool
is_some none = false
is_some (some n) = true

unfoldable pub number_in : Option ℕ → ℕ
number_in none = 0
number_in (some n) = n

-- whether nobody can give a page, to a reader: "owner not up and copy-set empty"; and to a writer: "A write still needs the owner." (F-4)
unfoldable pub nobody_gives : CopyOrOwn → Bank → ℕ → Bool
nobody_gives GotCopy k p = not (owner_up k p) && eqb (entry_at k p).copies 0
nobody_gives GotOwn k p = not (owner_up k p)

-- "the lowest lacking page" (F-3) that nobody can give
unfoldable pub page_missing : ℕ → Access → Bank → Option ℕ
page_missing b a k =
    first_below (length k.directory) (λ p. lacks_page a (board_at k b).working.frames p && nobody_gives (takes a) k p)

-- the refusals of a live access, codes 6 and 7; "Code 6 names the owner" (F-3)
unfoldable pub live_refusals : ℕ → Access → Bank → List (Bool × Answer)
live_refusals b a k =
    (is_some (page_missing b a k), OwnerNotUp (entry_at k (number_in (page_missing b a k))).owner)
    ∷ (is_some (short_board b a k), LogFull (number_in (short_board b a k)))
    ∷ []

-- what comes before the access itself: a fetch, or the copies of an owned page dropped, or nothing
unfoldable pub prepared : ℕ → Access → Run → Run
prepared b a r =
    elim (lacking_of b a r.bank) [
      | true ↦ fetch (takes a) b (pages_lacking b a r.bank) r
      | false ↦ elim (copies_out a r.bank) [ true ↦ step (drop_copies b (page_written a)) r | false ↦ r ]
    ]

-- the access itself, its value and the bytes that it gives
unfoldable pub performed : ℕ → Access → Run → Result
performed b a r =
    let fs : List Frame = (board_at r.bank b).working.frames in
    finished (value_of a fs) (given_of a fs) (step (access b a) r)

unfoldable pub live : ℕ → Access → Run → Result
live b a r = unless (live_refusals b a r.bank) r (performed b a (prepared b a r))

-- ==== an access of a replaying board

-- "An access whose got was the last record then goes on live", unless the end's own checkpoint blew the fuse
unfoldable pub live_after_end : ℕ → Access → Run → Result
live_after_end b a r = elim r.lost [ some c ↦ record { answer = PowerLost c; run = r; given = [] } | none ↦ live b a r ]

-- the bytes are read before the end of replay drops rights
unfoldable pub replaying : ℕ → Access → Bank → Result
replaying b a k =
    let taken : Bank = on_board b took_due k in
    let fs : List Frame = (board_at taken b).working.frames in
    elim (replay_over (board_at taken b)) [
      | true ↦ live_after_end b a (end_replay b (start taken))
      | false ↦ finished (value_of a fs) (given_of a fs) (end_if_over b (start (on_board b (replayed a) taken)))
    ]

-- ==== the calls on a bank

-- "page ≥ P, offset ≥ 16", of no cell
unfoldable pub cell_in_range : (pages : ℕ) → Cell → Bool
cell_in_range pages c = ltb c.page pages && ltb c.offset page_size

-- "board ≥ N, page ≥ P, offset ≥ 16, value > 255": none of these
unfoldable pub access_in_range : ℕ → Access → Bank → Bool
access_in_range b a k =
    ltb b (length k.boards)
    && (every (cell_in_range (length k.directory)) (cells_read a)
    && every (λ w. cell_in_range (length k.directory) w.0 && ltb w.1 byte_values) (cells_written a))

-- "Zero cells, an odd byte, more than 32, or a second buffer of another length give code 10" (F-3)
unfoldable pub wrong_cells : Access → Bool
wrong_cells (Read p o) = false
wrong_cells (Write p o v) = false
wrong_cells (ReadCells cells out_length) =
    eqb (length (cells_asked cells)) 0
    || (eqb (length cells % 2) 1
    || (ltb most_cells (length (cells_asked cells))
    || not (eqb out_length (length (cells_asked cells)))))

-- "since or access number at 4,294,967,295" (document 02, F-2); the largest since is an argument: of all that a call does it is tested here alone
unfoldable pub counters_full : (largest : ℕ) → Board → Bool
counters_full largest x = eqb x.working.since largest || eqb x.working.number last_number

-- the refusals on entry, codes 2 to 5, with code 10 "tested just after 2" (F-3)
unfoldable pub refusals_within : (largest : ℕ) → ℕ → Access → Bank → List (Bool × Answer)
refusals_within largest b a k =
    let x : Board = board_at k b in
    (not (access_in_range b a k), OutOfRange)
    ∷ (wrong_cells a, WrongCells)
    ∷ (is_down x.state, WrongState b)
    ∷ (counters_full largest x, CountersFull b)
    ∷ (is_replaying x.state && differs a x, ReplayDiffers b)
    ∷ []

unfoldable pub access_within : (largest : ℕ) → ℕ → Access → Bank → Result
access_within largest b a k =
    unless (refusals_within largest b a k) (start k)
    (elim (is_replaying (board_at k b).state) [ true ↦ replaying b a k | false ↦ live b a (start k) ])

-- the same with today's largest since
abbrev pub access_refusals : ℕ → Access → Bank → List (Bool × Answer)
access_refusals b a k = refusals_within last_since b a k

abbrev pub access_bank : ℕ → Access → Bank → Result
access_bank b a k = access_within last_since b a k

-- "dark and not restart ..; checkpoint while replaying"
unfoldable pub checkpoint_bank : ℕ → Bank → Result
checkpoint_bank b k =
    unless
    ((not (ltb b (length k.boards)), OutOfRange) ∷ (not (is_up (board_at k b).state), WrongState b) ∷ [])
    (start k)
    (finished 0 [] (checkpoint b (start k)))

-- "For the fuse number, code 2 then covers only what is above 65,534"; "It answers code 0" (document 02, F-1)
unfoldable pub fuse_bank : ℕ → ℕ → Bank → Result
fuse_bank b n k =
    unless
    ((not (ltb b (length k.boards) && ltb n no_fuse), OutOfRange) ∷ (is_down (board_at k b).state, WrongState b) ∷ [])
    (start k)
    (finished 0 [] (step (fuse_board b n) (start k)))

-- "restart and not dark"; "the checkpoint's access number for restart"
unfoldable pub restart_bank : ℕ → Bank → Result
restart_bank b k =
    unless
    ((not (ltb b (length k.boards)), OutOfRange) ∷ (not (is_down (board_at k b).state), WrongState b) ∷ [])
    (start k)
    (finished (board_at k b).stable.selected.number [] (end_if_over b (start (on_board b restarted k))))

-- "It works in every state of the boards"; "The same board named twice gives code 12, tested after 2" (document 02, F-7). Nothing changes.
unfoldable pub compare_bank : ℕ → ℕ → Bank → Result
compare_bank b c k =
    unless
    ((not (ltb b (length k.boards) && ltb c (length k.boards)), OutOfRange) ∷ (eqb b c, SameBoard) ∷ [])
    (start k)
    (record { answer = compared_logs b c k; run = start k; given = [] })

pub data Call : Type 0 where
  Accessing : (board : ℕ) (access : Access) → Call
  Checkpointing : (board : ℕ) → Call
  Fusing : (board stores : ℕ) → Call
  Restarting : (board : ℕ) → Call
  Comparing : (board other : ℕ) → Call

-- a call, with this largest since
unfoldable pub call_within : (largest : ℕ) → Call → Bank → Result
call_within largest (Accessing b a) k = access_within largest b a k
call_within largest (Checkpointing b) k = checkpoint_bank b k
call_within largest (Fusing b n) k = fuse_bank b n k
call_within largest (Restarting b) k = restart_bank b k
call_within largest (Comparing b c) k = compare_bank b c k

-- with today's
unfoldable pub call_bank : Call → Bank → Result
unfolding call_within
call_bank c k = call_within last_since c k

-- ==== the calls on bytes

-- the answer, with its stores, the bytes left, and what a done call gives into a second buffer
pub record Reply : Type 0 where
  pub outcome : Outcome
  pub bytes : List ℕ
  pub given : List ℕ

unfoldable pub refused : Answer → List ℕ → Reply
refused a s = record { outcome = record { answer = a; stores = 0 }; bytes = s; given = [] }

-- done, with value, who and stores 0, and these bytes left
abbrev pub done_with : List ℕ → Reply
done_with s = record { outcome = record { answer = Done 0; stores = 0 }; bytes = s; given = [] }

unfoldable pub reply_of : Result → Reply
reply_of t = record { outcome = record { answer = t.answer; stores = t.run.stores }; bytes = encode t.run.bank; given = t.given }

-- every call but make: "1: not well formed", then the call on the bank that the bytes stand for
unfoldable pub call : Call → List ℕ → Reply
call c s = elim (well_formed s) [ false ↦ refused Malformed s | true ↦ reply_of (call_bank c (decode s)) ]

-- the second buffer after a call: "The bytes go .. into a second lent buffer, which any code but 0 leaves unchanged" (F-3)
unfoldable pub buffer_after : Reply → List ℕ → List ℕ
buffer_after y out = elim (eqb (code y.outcome.answer) 0) [ true ↦ y.given | false ↦ out ]

-- "making a bank checks 2 before 1": "N or P out of range", then "wrong length"
unfoldable pub make : ℕ → ℕ → List ℕ → Reply
make boards pages s =
    elim (sizes_allowed boards pages) [
      | false ↦ refused OutOfRange s
      | true ↦
          elim (eqb (length s) (bank_size boards pages)) [
            | false ↦ refused Malformed s
            | true ↦ done_with (encode (fresh boards pages))
          ]
    ]
