-- Restart, replay and its end: while a replay goes on its board may have used its last record, and the end makes the bank well formed again.
-- Assumes nothing.
use Rattle.std.specs.Prelude.{◌≡◌, refl, ◌≢◌, ℕ, suc, ◌+◌, ◌-◌, ◌≤◌, ◌<◌, true, false, ◌&&◌, not, List, [], ◌∷◌, length, drop, set, eqb}
use Rattle.std.proofs.Common.{sym, ap, ◌∙◌, le_of_lt, arith, length-drop, eqb-true}
use Rattle.std.proofs.lemmas.Bool.{eqb-false}
use Rattle.types.specs.declared.Right.TheVariants.{None}
use Rattle.types.specs.declared.Frame.{Frame}
use Rattle.types.specs.declared.CopyOrOwn.{CopyOrOwn}
use Rattle.types.specs.declared.CopyOrOwn.TheVariants.{GotCopy, GotOwn}
use Rattle.types.specs.declared.Kind.{Kind}
use Rattle.types.specs.declared.Kind.TheVariants.{Got, Shown, Dropped}
use Rattle.types.specs.declared.Record.{Record}
use Rattle.types.specs.declared.State.TheVariants.{Down, Replaying}
use Rattle.words.specs.Bytes.{Each}
use Rattle.model.specs.Definitions.Parts.{member}
use Rattle.model.specs.Definitions.Layout.{last_since, last_number}
use Rattle.model.specs.Definitions.Bank.{Entry, Working, Board, Bank, empty_frame, board_at, entry_at, frame_at, on_working, entry_in}
use Rattle.model.specs.Definitions.Codec.{page_of}
use Rattle.model.specs.Definitions.WellFormed.{is_got, RecordOk, FramesOk, PlaceOk, right_in, WellFormed, WorkingOk}
use Rattle.model.specs.Definitions.Steps.{Access, cells_written, accessed}
use Rattle.model.specs.Definitions.Replay.{loaded, records_left, used, use_up, used_up, gots_due, due, same_got, lacking, needs_gots, differs, right_got}
use Rattle.model.specs.Definitions.Replay.{took_got, took_gots, took_due, replay_over, settled_frame, settled, replayed, settle}
use Rattle.model.proofs.Laws.Logic.{cases, cases_kind, by_bool, clash, and_both, true_not}
use Rattle.model.proofs.Laws.Lists.{each_head, each_tail, each_drop}
use Rattle.model.proofs.Laws.Boards.{right_in_owner, right_in_none, frame_at_each}
use Rattle.model.proofs.Laws.Keeps.Clauses.{up_not_down, up_not_replaying, down_not_replaying, replaying_place, whole, on_board_but, alone_up}
use Rattle.model.specs.Clauses.{Fits, InReplay, WellFormedBut}
use Rattle.model.proofs.Laws.Keeps.Accesses.{accessed_alone, accessed_agreed}
use Rattle.model.proofs.Laws.Keeps.Rights.{or_none}
use Rattle.model.proofs.Laws.Valid.{copy_some, own_some, frame_ok_empty, frames_ok_set, Writable, working_ok_used}
use Rattle.model.proofs.Laws.Keeps.Peers.{settled_peers}
use Rattle.model.proofs.Laws.BoardFields.{loaded_fields, on_working_fields, settled_fields}

-- ---- restart

-- a board without power reads its selected area
pub loaded_in_replay : (d : List Entry) (b : ℕ) (x : Board) → Fits d b x → x.state ≡ Down → InReplay d b (loaded x)
unfolding loaded
loaded_in_replay d b x h u =
    record {
      alone =
          record {
            fields = loaded_fields (length d) x h.alone.fields;
            fuse = h.alone.fuse;
            room = h.alone.room;
            replaying = λ e. (h.alone.down u).volatile;
            down = λ e. down_not_replaying e refl;
          };
      state = refl;
      place = omega arith;
      agreed = record { rights = λ e. up_not_replaying e refl; copies = λ e. h.agreed.copies (λ i. up_not_down i u) };
    }

-- a replaying board of a well-formed bank
pub fits_in_replay : (d : List Entry) (b : ℕ) (x : Board) → Fits d b x → x.state ≡ Replaying → InReplay d b x
fits_in_replay d b x h u =
    record { alone = h.alone; state = u; place = le_of_lt (replaying_place x.state x u h.place); agreed = h.agreed }

-- ---- records used

-- working memory v is w after at most n records were used
pub record Used (pages n : ℕ) (w v : Working) : Type 0 where
  pub log : v.log ≡ w.log
  pub place : v.place ≤ w.place + n
  pub ok : WorkingOk pages v

-- one record used, then others
used_then : {pages n : ℕ} (fs : List Frame) (w v : Working) → Used pages n (used fs w) v → Used pages (suc n) w v
unfolding used
used_then fs w v h = record { log = h.log; place = omega (arith, h.place); ok = h.ok }

pub use_up_used : {pages : ℕ} (rs : List Record) (w : Working) → WorkingOk pages w → Used pages (length rs) w (use_up rs w)
unfolding use_up
use_up_used [] w v = record { log = refl; place = omega arith; ok = v }
use_up_used {pages} (r ∷ rs) w v =
    let idle : Used pages (length (r ∷ rs)) w w = record { log = refl; place = omega arith; ok = v } in
    let then : (fs : List Frame) → FramesOk pages fs → Used pages (length (r ∷ rs)) w (use_up rs (used fs w))
    = λ fs h. used_then fs w (use_up rs (used fs w)) (use_up_used rs (used fs w) (working_ok_used v h)) in
    cases (Used pages (length (r ∷ rs)) w) (eqb r.count w.since)
    (λ t.
    cases_kind (Used pages (length (r ∷ rs)) w) r.kind
    (λ c p e. idle)
    (λ p e. then w.frames v.frames)
    (λ p e. then (set w.frames p empty_frame) (frames_ok_set w.frames p empty_frame v.frames frame_ok_empty)))
    (λ t. idle)

-- the working memory of a replaying board replaced: fewer records are left, and no right is looked at before the end
in_replay_used : (d : List Entry) (b : ℕ) (x : Board) (v : Working) → InReplay d b x
    → Used (length d) (length x.stable.selected.log - x.working.place) x.working v → InReplay d b (on_working (λ w. v) x)
unfolding on_working
in_replay_used d b x v h u =
    record {
      alone =
          record {
            fields = on_working_fields h.alone.fields (λ w. v) u.ok;
            fuse = h.alone.fuse;
            room = rw u.log h.alone.room;
            replaying = λ e. u.log ∙ h.alone.replaying e;
            down = λ e. down_not_replaying e h.state;
          };
      state = h.state;
      place = omega (arith, u.place, h.place);
      agreed = record { rights = λ e. up_not_replaying e h.state; copies = h.agreed.copies };
    }

-- "use up every shown or dropped record whose count equals since"
pub used_up_in_replay : (d : List Entry) (b : ℕ) (x : Board) → InReplay d b x → InReplay d b (used_up x)
unfolding used_up records_left on_working
used_up_in_replay d b x h =
    let rs : List Record = x.stable.selected.log in
    let n : length (drop x.working.place rs) ≡ length rs - x.working.place = length-drop x.working.place rs in
    in_replay_used d b x (use_up (records_left x) x.working) h
    (rw n at (use_up_used (records_left x) x.working h.alone.fields.working))

-- ---- a got record used

right_got_lem : (k : Kind) → is_got k ≡ true → right_got k ≢ None
unfolding is_got right_got
right_got_lem (Got GotCopy p) h = copy_some
right_got_lem (Got GotOwn p) h = own_some
right_got_lem (Shown p) h = clash h refl
right_got_lem (Dropped p) h = clash h refl

-- "The frame then takes its right and bytes, and since becomes 0.": of each got that is due
took_used : {pages : ℕ} (rs : List Record) (since : ℕ) (w : Working) → Each (RecordOk pages) rs → WorkingOk pages w
    → Used pages (length rs) w (took_gots (gots_due rs since) w)
unfolding gots_due took_gots took_got is_got page_of
took_used [] since w e v = record { log = refl; place = omega arith; ok = v }
took_used {pages} (r ∷ rs) since w e v =
    let idle : Used pages (length (r ∷ rs)) w w = record { log = refl; place = omega arith; ok = v } in
    let P : List Record → Type 0 = λ qs. Used pages (length (r ∷ rs)) w (took_gots qs w) in
    cases P (eqb r.count since)
    (λ t.
    cases_kind P r.kind
    (λ c p k.
    let fs : List Frame = set w.frames (page_of r.kind) (record { right = right_got r.kind; bytes = r.bytes }) in
    used_then fs w (took_gots (gots_due rs 0) (used fs w))
    (took_used rs 0 (used fs w) (each_tail e)
    (working_ok_used v
    (frames_ok_set w.frames (page_of r.kind) (record { right = right_got r.kind; bytes = r.bytes }) v.frames
    (record { size = (each_head e).size; bytes = (each_head e).bytes; empty = λ z. absurd (right_got_lem r.kind (rw k) z) })))))
    (λ p k. idle)
    (λ p k. idle))
    (λ t. idle)

pub took_due_in_replay : (d : List Entry) (b : ℕ) (x : Board) → InReplay d b x → InReplay d b (took_due x)
unfolding took_due due records_left on_working
took_due_in_replay d b x h =
    let rs : List Record = x.stable.selected.log in
    let n : length (drop x.working.place rs) ≡ length rs - x.working.place = length-drop x.working.place rs in
    in_replay_used d b x (took_gots (due x) x.working) h
    (rw n at (took_used (records_left x) x.working.since x.working
    (each_drop x.working.place rs h.alone.fields.selected.log.records) h.alone.fields.working))

-- ---- an access in replay

pub same_got_true : (g h : CopyOrOwn) → same_got g h ≡ true → g ≡ h
unfolding same_got
same_got_true GotCopy GotCopy e = refl
same_got_true GotCopy GotOwn e = clash e refl
same_got_true GotOwn GotCopy e = clash e refl
same_got_true GotOwn GotOwn e = refl

-- what the due gots leave of the counters
pub record TookDue (w v : Working) : Type 0 where
  pub number : v.number ≡ w.number
  pub since : v.since ≤ w.since

took_gots_took : (rs : List Record) (w : Working) → TookDue w (took_gots rs w)
unfolding took_gots took_got used
took_gots_took [] w = record { number = refl; since = omega arith }
took_gots_took (r ∷ rs) w =
    let u : TookDue (took_got r w) (took_gots rs (took_got r w)) = took_gots_took rs (took_got r w) in
    record { number = u.number; since = omega (arith, u.since) }

pub took_due_took : (x : Board) → TookDue x.working (took_due x).working
unfolding took_due on_working
took_due_took x = took_gots_took (due x) x.working

-- code 5 let it pass: where records are left the access lacks nothing, and the gots are those that it needs
pub fits_has : (a : Access) (x : Board) → differs a x ≡ false → replay_over (took_due x) ≡ false → lacking a (took_due x).working.frames ≡ false
unfolding differs
fits_has a x t over =
    let u : (not (replay_over (took_due x)) && lacking a (took_due x).working.frames) ≡ false =
    (or_none (not (needs_gots a x.working.frames 0 (due x))) (not (replay_over (took_due x)) && lacking a (took_due x).working.frames) t).1 in
    by_bool (lacking a (took_due x).working.frames) (λ l. clash (and_both (true_not over) l) u) (λ l. l)

pub accessed_in_replay : (d : List Entry) (b : ℕ) (a : Access) (x : Board) → InReplay d b x → x.working.since < last_since
    → x.working.number < last_number → Writable x.working.frames (cells_written a) → InReplay d b (on_working (accessed a) x)
unfolding on_working accessed
accessed_in_replay d b a x h s n w =
    record {
      alone = accessed_alone a x h.alone (λ e. down_not_replaying e h.state) s n w;
      state = h.state;
      place = h.place;
      agreed = accessed_agreed a x d b h.agreed;
    }

-- a replayed access: local, then the records that it makes due are used up
pub replayed_in_replay : (d : List Entry) (b : ℕ) (a : Access) (x : Board) → InReplay d b x → x.working.since < last_since
    → x.working.number < last_number → Writable x.working.frames (cells_written a) → InReplay d b (replayed a x)
unfolding replayed
replayed_in_replay d b a x h s n w = used_up_in_replay d b (on_working (accessed a) x) (accessed_in_replay d b a x h s n w)

-- ---- the end of replay

right_settled : (e : Entry) (b : ℕ) (f : Frame) → member b e.copies ≡ false → (settled_frame (eqb e.owner b) f).right ≡ right_in e b
unfolding settled_frame empty_frame
right_settled e b f m =
    by_bool (eqb e.owner b)
    (λ t. rw t (sym (right_in_owner e b (eqb-true e.owner b t))))
    (λ t. rw t (sym (right_in_none e b (eqb-false e.owner b t) m)))

-- "pages the directory gives to others lose their right; those it gives this board are own; place 0; state up": by a board in no copy-set
pub settled_fits : (d : List Entry) (b : ℕ) (x : Board) → InReplay d b x → Fits d b (settled (λ p. eqb (entry_in d p).owner b) x)
unfolding settled PlaceOk
settled_fits d b x h =
    let settle : ℕ → Frame → Frame = λ p f. settled_frame (eqb (entry_in d p).owner b) f in
    let count : length x.working.frames ≡ length d = h.alone.fields.working.frames.count in
    record {
      alone = alone_up refl (settled_fields h.alone.fields (λ p. eqb (entry_in d p).owner b)) h.alone.fuse h.alone.room;
      place = refl;
      agreed =
          record {
            rights =
                λ e p l.
                ap (λ (f : Frame). f.right) (frame_at_each p settle x.working.frames (rw count l))
                ∙ right_settled (entry_in d p) b (frame_at x.working.frames p) (h.agreed.copies (λ i. up_not_replaying i h.state) p l);
            copies = λ e. absurd (e refl);
          };
    }

pub settle_restores : (b : ℕ) (k : Bank) → WellFormedBut b InReplay k → WellFormed (settle b k)
unfolding settle entry_at
settle_restores b k w =
    whole {Kept = Fits}
    (on_board_but b (settled (λ p. eqb (entry_at k p).owner b)) k w (λ l h. settled_fits k.directory b (board_at k b) h)
    (settled_peers _ (board_at k b)))
    (λ h. h)
