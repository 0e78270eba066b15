-- A fresh bank with no history satisfies the invariant. Assumes nothing.
use Rattle.std.proofs.Math.Path.{◌≡◌, refl}
use Rattle.std.proofs.Common.{◌∙◌, arith, eq-eqb}
use Rattle.std.specs.Prelude.{ℕ, ◌%◌, ◌<◌, length, eqb}
use Rattle.std.proofs.Math.Bool.{true, false}
use Rattle.std.proofs.Math.Option.{none}
use mathlib.Core.List.{[]}
use Rattle.words.specs.Bytes.{each_nil}
use Rattle.types.specs.declared.Right.TheVariants.{Own}
use Rattle.model.specs.Definitions.Parts.{zeros}
use Rattle.model.specs.Definitions.Layout.{page_size}
use Rattle.model.specs.Definitions.Bank.{Board, empty_frame, entry_at, frame_at, fresh_frames, fresh_board, fresh, entry_in}
use Rattle.model.specs.Definitions.WellFormed.{SizesOk}
use Rattle.model.proofs.Laws.Logic.{clash}
use Rattle.model.proofs.Laws.Lists.{get_d_tabulate}
use Rattle.model.proofs.Laws.Sets.{member_none}
use Rattle.model.proofs.Laws.Fresh.{fresh_well_formed, fresh_boards, fresh_pages, fresh_board_lem, fresh_entry}
use Rattle.model.specs.History.Statement.{no_history, of_board, discard, zero_memory, OneMemory}
use Rattle.history.specs.Rerun.{checkpointed}
use Rattle.history.specs.Invariant.{memory_after, unstable_write, Exclusive, settled_as, BoardInvariant, Invariant, nobody}
use Rattle.history.specs.Logging.{checkpoint_rebuilt, checkpoint_stable, checkpoint_volatile}
use Rattle.history.specs.LoggedRecords.{up_explained, up_counts}

module _ (n p : ℕ) (s : SizesOk n p) where
  entry_of : (q : ℕ) → q < length (fresh n p).directory → entry_in (fresh n p).directory q ≡ record { owner = q % n; copies = 0 }
  unfolding entry_at
  entry_of q j = fresh_entry n p q (rw (fresh_pages n p) at j)

  -- the owner's frame is own, with zero bytes
  own_frame : (b q : ℕ) → q < p → q % n ≡ b → frame_at (fresh_frames n p b) q ≡ record { right = Own; bytes = zeros page_size }
  unfolding frame_at fresh_frames
  own_frame b q l o =
      get_d_tabulate p q
      (λ q. elim (eqb (q % n) b) [ true ↦ record { right = Own; bytes = zeros page_size } | false ↦ empty_frame ]) empty_frame l
      ∙ cc (eq-eqb (q % n) b o)

  fresh_holds : (b : ℕ) → b < n → BoardInvariant (fresh n p).directory no_history none b (fresh_board n p b)
  unfolding no_history of_board fresh_board settled_as checkpointed memory_after zero_memory discard Exclusive unstable_write
  fresh_holds b l =
      let x : Board = fresh_board n p b in
      record {
        counts = up_counts x [] 0 refl (refl, refl);
        stable = checkpoint_stable x [] refl refl;
        explained = up_explained none x [] refl (checkpoint_volatile x [] refl refl refl refl);
        ahead = λ q t j u e. let z : ◌≡◌ {A = ℕ} 0 1 = cc in absurd (omega arith);
        copies = λ q j m. clash m (rw (entry_of q j) (member_none b));
        owned = λ q j o.
            rw (checkpoint_rebuilt x [] refl refl) (own_frame b q (rw (fresh_pages n p) at j) (rw (entry_of q j) at o));
        exclusive = λ q. tt;
        unstable = λ q j u. clash u refl;
        volatile = each_nil;
      }

  pub fresh_invariant : Invariant nobody (fresh n p) no_history
  unfolding no_history OneMemory nobody
  fresh_invariant =
      record {
        formed = fresh_well_formed n p s.some_board s.boards s.some_page s.pages;
        memory = tt;
        known = each_nil;
        boards = λ b i. let l : b < n = rw (fresh_boards n p) at i in rw (fresh_board_lem n p b l) (fresh_holds b l);
      }
