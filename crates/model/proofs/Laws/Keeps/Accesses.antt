-- An access keeps a bank well formed: bytes written leave the rights, and the counters stay in range. Assumes nothing.
use Rattle.std.specs.Prelude.{◌≡◌, ◌≢◌, ℕ, ◌<◌, true, false, List, length}
use Rattle.std.proofs.Math.Path.{refl}
use Rattle.std.proofs.Common.{sym, ap, ◌∙◌, arith}
use Rattle.types.specs.declared.Right.TheVariants.{None}
use Rattle.types.specs.declared.Frame.{Frame}
use Rattle.types.specs.declared.CopyOrOwn.{CopyOrOwn}
use Rattle.types.specs.declared.CopyOrOwn.TheVariants.{GotCopy, GotOwn}
use Rattle.types.specs.declared.Kind.TheVariants.{Got}
use Rattle.types.specs.declared.State.TheVariants.{Down}
use Rattle.words.specs.Bytes.{Each}
use Rattle.model.specs.Definitions.Layout.{byte_values, last_since, last_number}
use Rattle.model.specs.Definitions.Bank.{Entry, Board, Bank, board_at, on_working}
use Rattle.model.specs.Definitions.WellFormed.{PlaceOk, WellFormed}
use Rattle.model.specs.Definitions.Steps.{Access, cells_written, names, takes, lacks, accessed, access}
use Rattle.model.specs.Definitions.Replay.{lacking, right_got}
use Rattle.model.proofs.Laws.Logic.{clash}
use Rattle.model.proofs.Laws.Lists.{each_imp, each_both}
use Rattle.model.proofs.Laws.Below.{has_right, written_named}
use Rattle.model.proofs.Laws.Keeps.Clauses.{place_kept, on_board_keeps}
use Rattle.model.specs.Clauses.{Alone, Agreed}
use Rattle.model.proofs.Laws.Valid.{Writable, right_with_bytes}
use Rattle.model.proofs.Laws.Keeps.Peers.{accessed_peers}
use Rattle.model.proofs.Laws.BoardFields.{accessed_fields}

-- ---- the access

module _ (a : Access) (x : Board) where
  pub accessed_alone : {pages : ℕ} → Alone pages x → x.state ≢ Down → x.working.since < last_since → x.working.number < last_number
      → Writable x.working.frames (cells_written a) → Alone pages (on_working (accessed a) x)
  unfolding on_working accessed
  accessed_alone h u s n w =
      record {
        fields = accessed_fields h.fields a w n s;
        fuse = h.fuse;
        room = h.room;
        replaying = h.replaying;
        down = λ e. absurd (u e);
      }

  pub accessed_agreed : (d : List Entry) (b : ℕ) → Agreed d b x → Agreed d b (on_working (accessed a) x)
  unfolding on_working accessed
  accessed_agreed d b h =
      record { rights = λ e p l. right_with_bytes (cells_written a) x.working.frames p ∙ h.rights e p l; copies = h.copies }

  pub accessed_place : PlaceOk x.state x → PlaceOk (on_working (accessed a) x).state (on_working (accessed a) x)
  unfolding on_working accessed
  accessed_place h = place_kept x.state x (on_working (accessed a) x) h refl (omega arith)

-- "A done access adds 1 to access number and since"
pub access_keeps : (b : ℕ) (a : Access) (k : Bank) → WellFormed k → (board_at k b).state ≢ Down → (board_at k b).working.since < last_since
    → (board_at k b).working.number < last_number → Writable (board_at k b).working.frames (cells_written a) → WellFormed (access b a k)
unfolding access
access_keeps b a k w u s n v =
    let x : Board = board_at k b in
    on_board_keeps b (on_working (accessed a)) k w
    (λ l h.
    record {
      alone = accessed_alone a x h.alone u s n v;
      place = accessed_place a x h.place;
      agreed = accessed_agreed a x k.directory b h.agreed;
    })
    (accessed_peers a)

-- right none is too little, whatever is taken
lacks_none : (g : CopyOrOwn) → lacks g None ≡ true
unfolding lacks
lacks_none GotCopy = refl
lacks_none GotOwn = refl

-- an access that lacks no right may write its cells
pub writable : (a : Access) (fs : List Frame) → lacking a fs ≡ false → ((p : ℕ) → names a p ≡ true → p < length fs)
    → Each (λ w. w.1 < byte_values) (cells_written a) → Writable fs (cells_written a)
writable a fs h pages values =
    each_both values
    (each_imp (cells_written a)
    (λ w n e. clash (lacks_none (takes a)) (ap (lacks (takes a)) (sym e) ∙ has_right a fs h w.0.page (pages w.0.page n) n))
    (written_named a))

-- what a fetch brings is enough
pub takes_enough : (g : CopyOrOwn) (p : ℕ) → lacks g (right_got (Got g p)) ≡ false
unfolding lacks right_got
takes_enough GotCopy p = refl
takes_enough GotOwn p = refl
