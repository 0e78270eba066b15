-- Document 01, "Restart", "Replay" and "End of replay", with document 02's F-3. A replaying board goes by itself: each step is of one board and of the pages
-- that the directory gives it, and no other board is read. Assumes nothing.
use Rattle.std.specs.Prelude.{ℕ, suc, ◌+◌, Bool, true, false, ◌&&◌, ◌||◌, not, length, drop, set, eqb, leb}
use mathlib.Core.List.{List, [], ◌∷◌, foldl}
use Rattle.types.specs.declared.Right.{Right}
use Rattle.types.specs.declared.Right.TheVariants.{None, Copy, Own}
use Rattle.types.specs.declared.Frame.{Frame}
use Rattle.types.specs.declared.CopyOrOwn.{CopyOrOwn}
use Rattle.types.specs.declared.CopyOrOwn.TheVariants.{GotCopy, GotOwn}
use Rattle.types.specs.declared.Kind.{Kind}
use Rattle.types.specs.declared.Kind.TheVariants.{Got, Shown, Dropped}
use Rattle.types.specs.declared.Record.{Record}
use Rattle.types.specs.declared.State.TheVariants.{Up, Replaying}
use Rattle.model.specs.Definitions.Parts.{each}
use Rattle.model.specs.Definitions.Bank.{Area, Working, Board, Bank, empty_frame, board_at, entry_at, with_state, with_working, with_number}
use Rattle.model.specs.Definitions.Bank.{with_since, with_place, with_frames, on_board, on_working}
use Rattle.model.specs.Definitions.Codec.{page_of}
use Rattle.model.specs.Definitions.Steps.{Run, step, checkpoint, Access, takes, lacks_page, lacking_pages, accessed}

-- "Restart: frames and number from the selected area, state replaying, place and since 0."
unfoldable pub loaded : Board → Board
loaded x =
    let area : Area = x.stable.selected in
    with_state Replaying (with_working (with_number area.number (with_since 0 (with_place 0 (with_frames area.frames x.working)))) x)

-- the stored records that replay has not used yet
unfoldable pub records_left : Board → List Record
records_left x = drop x.working.place x.stable.selected.log

-- one record used: the next place, the frames as the record leaves them, since 0
unfoldable pub used : List Frame → Working → Working
used fs w = with_since 0 (with_place (w.place + 1) (with_frames fs w))

-- "use up every shown or dropped record whose count equals since (dropped clears the frame; since becomes 0)"
unfoldable pub use_up : List Record → Working → Working
use_up [] w = w
use_up (r ∷ rs) w =
    elim (eqb r.count w.since) [
      | false ↦ w
      | true ↦
          elim r.kind [
            | Got g p ↦ w
            | Shown p ↦ use_up rs (used w.frames w)
            | Dropped p ↦ use_up rs (used (set w.frames p empty_frame) w)
          ]
    ]

unfoldable pub used_up : Board → Board
used_up x = on_working (use_up (records_left x)) x

-- what a restart does before the replay may end: loaded, then "every shown or dropped record whose count equals since" used up
abbrev pub restarted : Board → Board
restarted x = used_up (loaded x)

-- "A got record is due when it is next and its count equals since."; "a due got and the count 0 gots right behind it go together" (document 02, F-3)
unfoldable pub gots_due : List Record → ℕ → List Record
gots_due [] since = []
gots_due (r ∷ rs) since =
    elim (eqb r.count since) [
      | false ↦ []
      | true ↦ elim r.kind [ Got g p ↦ r ∷ gots_due rs 0 | Shown p ↦ [] | Dropped p ↦ [] ]
    ]

unfoldable pub due : Board → List Record
due x = gots_due (records_left x) x.working.since

unfoldable pub same_got : CopyOrOwn → CopyOrOwn → Bool
same_got GotCopy GotCopy = true
same_got GotCopy GotOwn = false
same_got GotOwn GotCopy = false
same_got GotOwn GotOwn = true

-- whether an access lacks the right to some page that it names
unfoldable pub lacking : Access → List Frame → Bool
lacking a fs = elim (lacking_pages a fs) [ [] ↦ false | p ∷ ps ↦ true ]

-- "an access that needs it: its page, a read with right none for copy, a write without right own for own"
unfoldable pub needs_got : Access → List Frame → Kind → Bool
needs_got a fs (Got g p) = same_got g (takes a) && lacks_page a fs p
needs_got a fs (Shown p) = false
needs_got a fs (Dropped p) = false

-- "It needs them if their pages rise and it lacks each" (F-3); n is the lowest page that the next may have
unfoldable pub needs_gots : Access → List Frame → ℕ → List Record → Bool
needs_gots a fs n [] = true
needs_gots a fs n (r ∷ rs) = needs_got a fs r.kind && (leb n (page_of r.kind) && needs_gots a fs (suc (page_of r.kind)) rs)

-- the right that a got record gives
unfoldable pub right_got : Kind → Right
right_got (Got GotCopy p) = Copy
right_got (Got GotOwn p) = Own
right_got (Shown p) = None
right_got (Dropped p) = None

-- "The frame then takes its right and bytes, and since becomes 0."
unfoldable pub took_got : Record → Working → Working
took_got r w = used (set w.frames (page_of r.kind) (record { right = right_got r.kind; bytes = r.bytes })) w

unfoldable pub took_gots : List Record → Working → Working
took_gots rs w = foldl (λ v r. took_got r v) w rs

-- the gots that are due are used together by the access that needs them; without one nothing changes
unfoldable pub took_due : Board → Board
took_due x = on_working (took_gots (due x)) x

-- "when no record is left"
unfoldable pub replay_over : Board → Bool
replay_over x = leb (length x.stable.selected.log) x.working.place

-- code 5: "a got is due and the access doesn't need it, or the access lacks a right and no fitting got is due"; "a call that doesn't need them all gets code
-- 5"; "if replay ends with them every page then lacking is fetched live" (F-3), and else none may be lacking
unfoldable pub differs : Access → Board → Bool
differs a x =
    not (needs_gots a x.working.frames 0 (due x)) || (not (replay_over (took_due x)) && lacking a (took_due x).working.frames)

-- "pages the directory gives to others lose their right; those it gives this board are own"
unfoldable pub settled_frame : Bool → Frame → Frame
settled_frame true f = record { right = Own; bytes = f.bytes }
settled_frame false f = empty_frame

-- ".. place 0; state up"; `owned` says which pages the directory gives this board
unfoldable pub settled : (ℕ → Bool) → Board → Board
settled owned x =
    with_state Up (with_working (with_place 0 (with_frames (each (λ p f. settled_frame (owned p) f) x.working.frames) x.working)) x)

-- the same in a bank, whose directory says which pages are the board's
unfoldable pub settle : ℕ → Bank → Bank
settle b k = on_board b (settled (λ p. eqb (entry_at k p).owner b)) k

-- "End of replay ..: ..; checkpoint."
unfoldable pub end_replay : ℕ → Run → Run
end_replay b r = checkpoint b (step (settle b) r)

-- the end of replay, "when no record is left (inside the restart or access that used the last)"
unfoldable pub end_if_over : ℕ → Run → Run
end_if_over b r = elim (replay_over (board_at r.bank b)) [ true ↦ end_replay b r | false ↦ r ]

-- a replayed access that doesn't end the replay before it: local, then the records that it makes due are used up
unfoldable pub replayed : Access → Board → Board
replayed a x = used_up (on_working (accessed a) x)

unfoldable pub count_sum : List Record → ℕ
count_sum [] = 0
count_sum (r ∷ rs) = r.count + count_sum rs

-- "The stand point is the selected area's number plus the counts of its stored records." The field's word is recovery point.
unfoldable pub recovery_point : Board → ℕ
recovery_point x = x.stable.selected.number + count_sum x.stable.selected.log
