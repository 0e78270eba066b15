-- What a board's memory rebuilds: the entries that it made and the records that it logged, in the order in which they came, run again from its checkpoint.
-- Definitions for the invariant. Assumes nothing.
use Rattle.std.specs.Prelude.{◌≡◌, ℕ, ◌-◌, ◌<◌, true, false, List, [], ◌∷◌, ◌++◌, map, set, take, drop}
use Rattle.words.specs.Bytes.{Each}
use Rattle.types.specs.declared.Frame.{Frame}
use Rattle.types.specs.declared.Right.{Right}
use Rattle.types.specs.declared.Right.TheVariants.{None, Own}
use Rattle.types.specs.declared.CopyOrOwn.{CopyOrOwn}
use Rattle.types.specs.declared.CopyOrOwn.TheVariants.{GotCopy, GotOwn}
use Rattle.types.specs.declared.Kind.{Kind}
use Rattle.types.specs.declared.Kind.TheVariants.{Got, Shown, Dropped}
use Rattle.types.specs.declared.Record.{Record}
use Rattle.model.specs.Definitions.Bank.{Board, empty_frame, frame_at}
use Rattle.model.specs.Definitions.Codec.{page_of}
use Rattle.model.specs.Definitions.Steps.{Access, names, cells_read, cells_written, cell_byte, with_bytes, takes}
use Rattle.model.specs.Definitions.Replay.{lacking, right_got, count_sum, recovery_point, records_left}
use Rattle.model.specs.History.Statement.{HistoryEntry}

-- the frames so far, and the gots that the next entry takes together
pub record Rebuilt : Type 0 where
  pub frames : List Frame
  pub pending : List Record

-- an entry made, or a record logged
pub data TraceItem : Type 0 where
  Made : HistoryEntry → TraceItem
  Logged : Record → TraceItem

-- The order in which they came: a record comes after as many entries as its count says, counted from the record before it.
unfoldable pub trace : List Record → List HistoryEntry → List TraceItem
trace [] es = map Made es
trace (r ∷ rs) es = map Made (take r.count es) ++ (Logged r ∷ trace rs (drop r.count es))

-- the same where `since` entries have already been made since the record before
unfoldable pub trace_since : ℕ → List Record → List HistoryEntry → List TraceItem
trace_since since [] es = map Made es
trace_since since (r ∷ rs) es = map Made (take (r.count - since) es) ++ (Logged r ∷ trace rs (drop (r.count - since) es))

-- ---- one item

unfoldable pub logged : Kind → Record → Rebuilt → Rebuilt
logged (Got g p) r t =
    record { frames = set t.frames p (record { right = right_got (Got g p); bytes = r.bytes }); pending = t.pending ++ (r ∷ []) }
logged (Shown p) r t = t
logged (Dropped p) r t = record { frames = set t.frames p empty_frame; pending = t.pending }

unfoldable pub next : TraceItem → Rebuilt → Rebuilt
next (Made e) t = record { frames = with_bytes (cells_written e.access) t.frames; pending = [] }
next (Logged r) t = logged r.kind r t

-- a got that an access takes: a page that it names, and its kind
unfoldable pub Serves : Access → Kind → Type 0
Serves a (Got g p) = (names a p ≡ true) × (g ≡ takes a)
Serves a (Shown p) = ⊥
Serves a (Dropped p) = ⊥

-- a got is logged only where the right that it brings was lacking
unfoldable pub LacksFor : CopyOrOwn → Right → Type 0
LacksFor GotCopy f = f ≡ None
LacksFor GotOwn f = f ≡ Own → ⊥

unfoldable pub MayLog : Kind → List Frame → Type 0
MayLog (Got g p) fs = LacksFor g (frame_at fs p).right
MayLog (Shown p) fs = Unit
MayLog (Dropped p) fs = Unit

-- a record behind gots that are pending joins them: a got copy with count 0, of a page above theirs
unfoldable pub Joins : Record → List Record → Type 0
Joins r [] = Unit
Joins r (q ∷ qs) = (r.count ≡ 0) × (r.kind ≡ Got GotCopy (page_of r.kind)) × Each (λ s. page_of s.kind < page_of r.kind) (q ∷ qs)

unfoldable pub Accepts : Rebuilt → TraceItem → Type 0
Accepts t (Made e) =
    Each (λ r. Serves e.access r.kind) t.pending
    × (lacking e.access t.frames ≡ false)
    × (e.bytes_read ≡ map (cell_byte t.frames) (cells_read e.access))
Accepts t (Logged r) = Joins r t.pending × MayLog r.kind t.frames

-- ---- all items

unfoldable pub final : Rebuilt → List TraceItem → Rebuilt
final t [] = t
final t (i ∷ is) = final (next i t) is

unfoldable pub Accepted : Rebuilt → List TraceItem → Type 0
Accepted t [] = Unit
Accepted t (i ∷ is) = Accepts t i × Accepted (next i t) is

-- ---- of a board, whose own entries are `es`

-- the checkpoint in the selected area
unfoldable pub checkpointed : Board → Rebuilt
checkpointed x = record { frames = x.stable.selected.frames; pending = [] }

-- the entries between the checkpoint and the recovery point, and those past it
unfoldable pub stable_entries : Board → List HistoryEntry → List HistoryEntry
stable_entries x es = take (count_sum x.stable.selected.log) (drop x.stable.selected.number es)

unfoldable pub unstable_entries : Board → List HistoryEntry → List HistoryEntry
unstable_entries x es = drop (recovery_point x) es

unfoldable pub stable_trace : Board → List HistoryEntry → List TraceItem
stable_trace x es = trace x.stable.selected.log (stable_entries x es)

-- what the stable memory alone will rebuild
unfoldable pub rebuilt : Board → List HistoryEntry → Rebuilt
rebuilt x es = final (checkpointed x) (stable_trace x es)

unfoldable pub volatile_trace : Board → List HistoryEntry → List TraceItem
volatile_trace x es = trace x.working.log (unstable_entries x es)

-- what a replaying board has yet to do
unfoldable pub trace_left : Board → List HistoryEntry → List TraceItem
trace_left x es = trace_since x.working.since (records_left x) (drop x.working.number es)
