-- Code 8 of every call: `PowerLost b` is answered exactly where board b was not down before the call and is down after it, and the call was no fuse
-- of 0. Assumes nothing.
use Rattle.std.specs.Prelude.{◌≡◌, refl, ◌≢◌, ◌↔◌, ℕ, zero, suc, ◌&&◌, not, List, [], length, ltb}
use Rattle.std.proofs.Common.{ap}
use Rattle.std.proofs.Math.Option.{none, some}
use Rattle.types.specs.declared.Answer.{Answer}
use Rattle.types.specs.declared.Answer.TheVariants.{Done, Malformed, OutOfRange, WrongState, CountersFull, ReplayDiffers, OwnerNotUp, LogFull, PowerLost}
use Rattle.types.specs.declared.Answer.TheVariants.{WrongCells, HasRecords, Compared, SameBoard}
use Rattle.model.specs.Definitions.Layout.{no_fuse}
use Rattle.model.specs.Definitions.Bank.{Bank, board_at}
use Rattle.model.specs.Definitions.WellFormed.{WellFormed, is_down}
use Rattle.model.specs.Definitions.Steps.{Run, start, step, fuse_board}
use Rattle.model.specs.Definitions.Calls.{Result, finished, fuse_bank, Call, Accessing, Checkpointing, Fusing, Restarting, Comparing, call_bank}
use Rattle.model.specs.History.Statement.{LostPower, done_event, event_of}
use Rattle.model.proofs.Laws.Logic.{by_option, by_eq}
use Rattle.model.proofs.Laws.Runs.{lost_not}
use Rattle.model.specs.Laws.Codes.Statement.{LosesPower}
use Rattle.model.proofs.Laws.Codes.Order.{never}
use Rattle.model.proofs.Laws.Codes.Cases.{plain_cases}
use Rattle.model.proofs.Laws.Codes.Ends.{power_lost}
use Rattle.model.proofs.Laws.Moves.Calls.{feeds, call_moves}
use Rattle.model.proofs.Laws.Moves.Down.{CutIn, LostBoard, Tracks, moves_track}

-- no fuse call blows a fuse, whatever its number
fuse_not_lost : (d n : ℕ) (k : Bank) → (call_bank (Fusing d n) k).run.lost ≡ none
unfolding call_bank fuse_bank finished step start
fuse_not_lost d n k =
    plain_cases (λ (t : Result). t.run.lost ≡ none) k d
    (not (ltb d (length k.boards) && ltb n no_fuse)) (is_down (board_at k d).state) (finished 0 [] (step (fuse_board d n) (start k)))
    (λ x l h. refl)
    (λ out wrong. refl)

-- only a fuse of 0 that is done feeds a power loss without an answer that says so
fed_done : (c : Call) (v : ℕ) (given : List ℕ) (b : ℕ) → done_event c v given ≡ LostPower b → (d : ℕ) × (c ≡ Fusing d 0)
unfolding done_event
fed_done (Accessing d a) v given b e = never (cc)
fed_done (Checkpointing d) v given b e = never (cc)
fed_done (Fusing d zero) v given b e = (d, refl)
fed_done (Fusing d (suc n)) v given b e = never (cc)
fed_done (Restarting d) v given b e = never (cc)
fed_done (Comparing d e) v given b f = never (cc)

fed_lost : (c : Call) (x : Answer) (given : List ℕ) (b : ℕ) → ((d : ℕ) → c ≢ Fusing d 0) → event_of c x given ≡ LostPower b → x ≡ PowerLost b
unfolding event_of
fed_lost c (Done v) given b n e = let z = fed_done c v given b e in absurd (n z.0 z.1)
fed_lost c Malformed given b n e = never (cc)
fed_lost c OutOfRange given b n e = never (cc)
fed_lost c (WrongState d) given b n e = never (cc)
fed_lost c (CountersFull d) given b n e = never (cc)
fed_lost c (ReplayDiffers d) given b n e = never (cc)
fed_lost c (OwnerNotUp d) given b n e = never (cc)
fed_lost c (LogFull d) given b n e = never (cc)
fed_lost c (PowerLost d) given b n e = let i : d ≡ b = cc in ap PowerLost i
fed_lost c WrongCells given b n e = never (cc)
fed_lost c HasRecords given b n e = never (cc)
fed_lost c (Compared i d) given b n e = never (cc)
fed_lost c SameBoard given b n e = never (cc)

pub loses_power_lem : (c : Call) (k : Bank) → WellFormed k → (b : ℕ) → ((call_bank c k).answer ≡ PowerLost b) ↔ LosesPower c k b
unfolding CutIn
loses_power_lem c k w b =
    let r : Run = (call_bank c k).run in
    let t : Tracks k (feeds c k (call_bank c k).answer (call_bank c k).given) r = moves_track (call_moves c k w) w in (
      λ e.
          let l : r.lost ≡ some b = (power_lost c k b).0 e in
          let u : LostBoard b k r.bank = t.lost b l in
          record { call = λ d i. lost_not (fuse_not_lost d 0 k) (rw i at l); before = u.before; after = u.after },
      λ u.
          by_option r.lost
          (λ n. fed_lost c (call_bank c k).answer (call_bank c k).given b u.call ((t.going n b).went_down u.before u.after))
          (λ d l.
          by_eq b d
          (λ e. (power_lost c k b).1 (rw e l))
          (λ n. absurd ((t.lost d l).others b n u.before u.after))),
    )
