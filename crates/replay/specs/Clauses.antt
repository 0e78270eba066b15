-- Words of replay's contracts: the next stored record that is ready, the gots that are due, and what the use of one record leaves. No law stands here.
-- Assumes nothing.
use Rattle.std.specs.Prelude.{ℕ, Bool, true, false, ◌&&◌, not, List, [], ◌∷◌, set, eqb, leb, Option, Some, None}
use Rattle.types.specs.declared.Frame.{Frame}
use Rattle.types.specs.declared.CopyOrOwn.{CopyOrOwn}
use Rattle.types.specs.declared.Kind.{Kind}
use Rattle.types.specs.declared.Kind.TheVariants.{Got, Shown, Dropped}
use Rattle.types.specs.declared.Record.{Record}
use Rattle.model.specs.Definitions.Bank.{Board, empty_frame, on_working}
use Rattle.model.specs.Definitions.WellFormed.{is_got}
use Rattle.model.specs.Definitions.Replay.{records_left, used, due, same_got, took_got}
use Rattle.model.specs.Definitions.Parts.{member}

-- ---- the next record

-- the first record, if its count equals since
unfoldable pub ready_in : List Record → ℕ → Option Record
ready_in [] since = None
ready_in (r ∷ rs) since = elim (eqb r.count since) [ true ↦ Some r | false ↦ None ]

unfoldable pub ready : Board → Option Record
ready x = ready_in (records_left x) x.working.since

-- ---- the gots that are due

-- the first of them
unfoldable pub first : List Record → Option Record
first [] = None
first (r ∷ rs) = Some r

-- whether a record is a got of this kind whose page is in a set and not below n
unfoldable pub fits : CopyOrOwn → ℕ → ℕ → Kind → Bool
fits g set n (Got h p) = same_got h g && member p set && leb n p
fits g set n (Shown p) = false
fits g set n (Dropped p) = false

-- whether a got is due, and the board after it was used
unfoldable pub takes_got : Board → Bool
takes_got x = elim (first (due x)) [ None ↦ false | Some r ↦ true ]

unfoldable pub took_first : Board → Board
took_first x = elim (first (due x)) [ None ↦ x | Some r ↦ on_working (took_got r) x ]

-- ---- one use of a shown or a dropped

-- the frames that a record leaves
unfoldable pub frames_after : Kind → List Frame → List Frame
frames_after (Got g p) fs = fs
frames_after (Shown p) fs = fs
frames_after (Dropped p) fs = set fs p empty_frame

-- whether the next record is used up, and the board after it
unfoldable pub uses_next : Board → Bool
uses_next x = elim (ready x) [ None ↦ false | Some r ↦ not (is_got r.kind) ]

unfoldable pub used_next : Board → Board
used_next x =
    elim (ready x) [
      | None ↦ x
      | Some r ↦
          elim (is_got r.kind) [ true ↦ x | false ↦ on_working (λ w. used (frames_after r.kind w.frames) w) x ]
    ]
