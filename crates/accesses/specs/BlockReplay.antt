-- An access of a replaying board on its block: what it leaves, and how far it came; that every field stays in range. Assumes nothing.
use Rattle.std.specs.Prelude.{◌≡◌, ℕ, ◌<◌, true, false, IfSome}
use Rattle.std.proofs.Common.{arith}
use Rattle.accesses.specs.declared.ask.Ask.{Ask}
use Rattle.accesses.specs.declared.blocks.Replayed.{Replayed}
use Rattle.accesses.specs.declared.blocks.Replayed.TheVariants.{Live, Last, Going}
use Rattle.model.specs.Definitions.Layout.{byte_values, last_since, last_number}
use Rattle.model.specs.Definitions.Bank.{Board, on_working}
use Rattle.model.specs.Definitions.WellFormed.{FieldsOk}
use Rattle.model.specs.Definitions.Steps.{Access, accessed}
use Rattle.model.specs.Definitions.Replay.{lacking, differs, took_due, replay_over, replayed}
use Rattle.model.proofs.Laws.Logic.{cases}
use Rattle.model.proofs.Laws.Valid.{Writable}
use Rattle.model.proofs.Laws.Keeps.Replay.{took_due_took, fits_has}
use Rattle.steps.specs.Asked.{wrote_byte}
use Rattle.replay.specs.Got.{took_due_fields}
use Rattle.replay.specs.Used.{used_up_fields}
use Rattle.accesses.specs.Asks.{Stands, stands_writable, performed_fields}

-- the gots that are due are taken; then the access is repeated, unless no record is left
unfoldable pub replayed_board : Access → Board → Board
replayed_board a x = elim (replay_over (took_due x)) [ true ↦ took_due x | false ↦ replayed a (took_due x) ]

-- how far that came
unfoldable pub replayed_to : Access → Board → Replayed
replayed_to a x =
    elim (replay_over (took_due x)) [ true ↦ Live | false ↦ elim (replay_over (replayed a (took_due x))) [ true ↦ Last | false ↦ Going ] ]

-- what is asked of the board: counters that can rise, and an access that code 5 let pass
pub record Repeats (a : Access) (x : Board) : Type 0 where
  pub number : x.working.number < last_number
  pub since : x.working.since < last_since
  pub fits : differs a x ≡ false

module _ {pages : ℕ} {x : Board} (ok : FieldsOk pages x) (a : Access) (h : Repeats a x) where
  pub taken_number : (took_due x).working.number < last_number
  taken_number = rw (took_due_took x).number h.number

  pub taken_since : (took_due x).working.since < last_since
  taken_since = omega (arith, (took_due_took x).since, h.since)

  module _ (q : Ask) (s : Stands pages a q) (small : IfSome q.write (λ w. w.value < byte_values)) where
    module _ (on : replay_over (took_due x) ≡ false) where
      taken_right : lacking a (took_due x).working.frames ≡ false
      taken_right = fits_has a x h.fits on

      pub taken_writable : Writable (took_due x).working.frames (wrote_byte q.write)
      taken_writable = rw s.writes at (stands_writable a q s small (took_due_fields x ok) taken_right)

      pub repeated_fields : FieldsOk pages (replayed a (took_due x))
      unfolding replayed
      repeated_fields =
          used_up_fields (on_working (accessed a) (took_due x)) (performed_fields a q s small (took_due_fields x ok) taken_right taken_number taken_since)

    pub replayed_fields : FieldsOk pages (replayed_board a x)
    unfolding replayed_board
    replayed_fields = cases (FieldsOk pages) (replay_over (took_due x)) (λ t. took_due_fields x ok) (λ t. repeated_fields t)
