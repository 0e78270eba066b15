-- One page through a trace: its frame follows the entries' writes as a memory does, while no record but a shown touches it.
-- Assumes nothing.
use Rattle.std.specs.Prelude.{◌≡◌, refl, ◌≢◌, ℕ, ◌<◌, true, false, List, [], ◌∷◌, ◌++◌, map, length, set, take, drop, eqb}
use Rattle.std.proofs.Common.{sym, ◌∙◌, length-set, eq-eqb, ne_eqb}
use Rattle.words.specs.Bytes.{Each, each_nil, each_cons}
use Rattle.types.specs.declared.Frame.{Frame}
use Rattle.types.specs.declared.Kind.{Kind}
use Rattle.types.specs.declared.Kind.TheVariants.{Got, Shown, Dropped}
use Rattle.types.specs.declared.Record.{Record}
use Rattle.model.specs.Definitions.Bank.{empty_frame, frame_at}
use Rattle.model.specs.Definitions.Codec.{page_of}
use Rattle.model.specs.Definitions.Steps.{Access, Cell, names, cells_read, cells_written, cell_byte, with_byte, with_bytes}
use Rattle.model.proofs.Laws.Logic.{clash, by_eq}
use Rattle.model.proofs.Laws.Lists.{each_head, each_tail, each_append, each_imp}
use Rattle.model.proofs.Laws.Below.{read_named}
use Rattle.model.specs.History.Statement.{HistoryEntry, Memory, byte_in, written}
use Rattle.history.specs.Rerun.{Rebuilt, TraceItem, Made, Logged, trace, logged, next, final}
use Rattle.history.specs.Invariant.{memory_after, is_shown}
use Rattle.history.specs.Traces.{made_of, made_of_trace}
use Rattle.model.proofs.Laws.Boards.{frame_at_same, frame_at_other}

-- ---- one frame

pub length_with_byte : (c : Cell) (v : ℕ) (fs : List Frame) → length (with_byte c v fs) ≡ length fs
unfolding with_byte
length_with_byte c v fs = length-set fs c.page (record { right = (frame_at fs c.page).right; bytes = set (frame_at fs c.page).bytes c.offset v })

pub length_with_bytes : (ws : List (Cell × ℕ)) (fs : List Frame) → length (with_bytes ws fs) ≡ length fs
unfolding with_bytes
length_with_bytes [] fs = refl
length_with_bytes (w ∷ ws) fs = length_with_bytes ws (with_byte w.0 w.1 fs) ∙ length_with_byte w.0 w.1 fs

pub frame_at_with_byte_same : (c : Cell) (v : ℕ) (fs : List Frame) (p : ℕ) → p ≡ c.page → p < length fs
    → frame_at (with_byte c v fs) p ≡ record { right = (frame_at fs p).right; bytes = set (frame_at fs p).bytes c.offset v }
unfolding with_byte
frame_at_with_byte_same c v fs p e h =
    cc (frame_at_same fs p (record { right = (frame_at fs c.page).right; bytes = set (frame_at fs c.page).bytes c.offset v }) h)

pub frame_at_with_byte_other : (c : Cell) (v : ℕ) (fs : List Frame) (p : ℕ) → p ≢ c.page → frame_at (with_byte c v fs) p ≡ frame_at fs p
unfolding with_byte
frame_at_with_byte_other c v fs p h = rw (frame_at_other fs c.page p _ h)

-- ---- writes to frames are writes to a memory that agrees with them, page by page

one_written : Cell → ℕ → Memory → Memory
one_written c v m p = elim (eqb p c.page) [ true ↦ set (m p) c.offset v | false ↦ m p ]

with_byte_right : (c : Cell) (v : ℕ) (fs : List Frame) (p : ℕ) → p < length fs → (frame_at (with_byte c v fs) p).right ≡ (frame_at fs p).right
with_byte_right c v fs p h =
    by_eq p c.page
    (λ e. rw (frame_at_with_byte_same c v fs p e h))
    (λ ne. rw (frame_at_with_byte_other c v fs p ne))

with_byte_bytes : (c : Cell) (v : ℕ) (fs : List Frame) (m : Memory) (p : ℕ) → p < length fs → m p ≡ (frame_at fs p).bytes
    → one_written c v m p ≡ (frame_at (with_byte c v fs) p).bytes
unfolding one_written
with_byte_bytes c v fs m p h a =
    by_eq p c.page
    (λ e. cc (frame_at_with_byte_same c v fs p e h, eq-eqb p c.page e))
    (λ ne. cc (frame_at_with_byte_other c v fs p ne, ne_eqb p c.page ne))

pub frame_at_with_bytes : (ws : List (Cell × ℕ)) (fs : List Frame) (m : Memory) (p : ℕ) → p < length fs → m p ≡ (frame_at fs p).bytes
    → frame_at (with_bytes ws fs) p ≡ record { right = (frame_at fs p).right; bytes = written ws m p }
unfolding with_bytes written one_written
frame_at_with_bytes [] fs m p h a = rw a
frame_at_with_bytes (w ∷ ws) fs m p h a =
    let gs : List Frame = with_byte w.0 w.1 fs in
    let l : p < length gs = rw (length_with_byte w.0 w.1 fs) h in
    let b : one_written w.0 w.1 m p ≡ (frame_at gs p).bytes = with_byte_bytes w.0 w.1 fs m p h a in
    rw (frame_at_with_bytes ws gs (one_written w.0 w.1 m) p l b, with_byte_right w.0 w.1 fs p h)

-- the bytes that an access reads, where frames and memory agree on the pages that it reads
pub cells_agree : (cs : List Cell) (fs : List Frame) (m : Memory) → Each (λ c. m c.page ≡ (frame_at fs c.page).bytes) cs
    → map (cell_byte fs) cs ≡ map (byte_in m) cs
unfolding cell_byte byte_in
cells_agree [] fs m e = refl
cells_agree (c ∷ cs) fs m e = rw (each_head e, cells_agree cs fs m (each_tail e))

pub reads_agree : (a : Access) (fs : List Frame) (m : Memory) → ((p : ℕ) → names a p ≡ true → m p ≡ (frame_at fs p).bytes)
    → map (cell_byte fs) (cells_read a) ≡ map (byte_in m) (cells_read a)
reads_agree a fs m h = cells_agree (cells_read a) fs m (each_imp (cells_read a) (λ c t. h c.page t) (read_named a))

-- ---- the number of frames

length_logged : (k : Kind) (r : Record) (t : Rebuilt) → length (logged k r t).frames ≡ length t.frames
unfolding logged
length_logged (Got g p) r t = length-set t.frames p _
length_logged (Shown p) r t = refl
length_logged (Dropped p) r t = length-set t.frames p empty_frame

pub length_next : (i : TraceItem) (t : Rebuilt) → length (next i t).frames ≡ length t.frames
unfolding next
length_next (Made e) t = length_with_bytes (cells_written e.access) t.frames
length_next (Logged r) t = length_logged r.kind r t

pub length_final : (t : Rebuilt) (is : List TraceItem) → length (final t is).frames ≡ length t.frames
unfolding final
length_final t [] = refl
length_final t (i ∷ is) = length_final (next i t) is ∙ length_next i t

-- ---- one page

-- an item that leaves a page's frame to the entries: no record of that page but a shown
unfoldable pub Leaves : ℕ → TraceItem → Type 0
Leaves p (Made e) = Unit
Leaves p (Logged r) = page_of r.kind ≡ p → is_shown r.kind ≡ true

pub leaves_made : (p : ℕ) (es : List HistoryEntry) → Each (Leaves p) (map Made es)
unfolding Leaves
leaves_made p [] = each_nil
leaves_made p (e ∷ es) = each_cons tt (leaves_made p es)

pub leaves_trace : (p : ℕ) (rs : List Record) (es : List HistoryEntry)
    → Each (λ r. page_of r.kind ≡ p → is_shown r.kind ≡ true) rs → Each (Leaves p) (trace rs es)
unfolding Leaves trace
leaves_trace p [] es h = leaves_made p es
leaves_trace p (r ∷ rs) es h =
    each_append (map Made (take r.count es)) (Logged r ∷ trace rs (drop r.count es))
    (leaves_made p (take r.count es))
    (each_cons (each_head h) (leaves_trace p rs (drop r.count es) (each_tail h)))

pub leaves_stored : (p : ℕ) (es : List HistoryEntry) (r : Record) → (page_of r.kind ≡ p → is_shown r.kind ≡ true)
    → Each (Leaves p) (map Made es ++ (Logged r ∷ []))
unfolding Leaves
leaves_stored p es r h = each_append (map Made es) (Logged r ∷ []) (leaves_made p es) (each_cons h each_nil)

-- a record that leaves it
pub frame_at_logged : (k : Kind) (r : Record) (t : Rebuilt) (p : ℕ) → (page_of k ≡ p → is_shown k ≡ true)
    → frame_at (logged k r t).frames p ≡ frame_at t.frames p
unfolding logged page_of is_shown
frame_at_logged (Got g q) r t p h = frame_at_other t.frames q p _ (λ e. clash (h (sym e)) refl)
frame_at_logged (Shown q) r t p h = refl
frame_at_logged (Dropped q) r t p h = frame_at_other t.frames q p empty_frame (λ e. clash (h (sym e)) refl)

-- the frame after the items: the right stays, the bytes are those of a memory that takes the entries
pub frame_at_final : (t : Rebuilt) (is : List TraceItem) (m : Memory) (p : ℕ) → p < length t.frames → Each (Leaves p) is
    → m p ≡ (frame_at t.frames p).bytes
    → frame_at (final t is).frames p ≡ record { right = (frame_at t.frames p).right; bytes = memory_after m (made_of is) p }
unfolding final made_of memory_after Leaves next
frame_at_final t [] m p h l a = rw a
frame_at_final t (Made e ∷ is) m p h l a =
    let ws : List (Cell × ℕ) = cells_written e.access in
    let f : frame_at (with_bytes ws t.frames) p ≡ record { right = (frame_at t.frames p).right; bytes = written ws m p } =
    frame_at_with_bytes ws t.frames m p h a in
    let k : p < length (with_bytes ws t.frames) = rw (length_with_bytes ws t.frames) h in
    rw (frame_at_final (next (Made e) t) is (written ws m) p k (each_tail l) (rw f), f)
frame_at_final t (Logged r ∷ is) m p h l a =
    let f : frame_at (logged r.kind r t).frames p ≡ frame_at t.frames p = frame_at_logged r.kind r t p (each_head l) in
    let k : p < length (logged r.kind r t).frames = rw (length_logged r.kind r t) h in
    rw (frame_at_final (logged r.kind r t) is m p k (each_tail l) (rw f a), f)

pub frame_at_trace : (t : Rebuilt) (rs : List Record) (es : List HistoryEntry) (m : Memory) (p : ℕ) → p < length t.frames
    → Each (λ r. page_of r.kind ≡ p → is_shown r.kind ≡ true) rs → m p ≡ (frame_at t.frames p).bytes
    → frame_at (final t (trace rs es)).frames p ≡ record { right = (frame_at t.frames p).right; bytes = memory_after m es p }
frame_at_trace t rs es m p h l a =
    rw (frame_at_final t (trace rs es) m p h (leaves_trace p rs es l) a, made_of_trace rs es)
