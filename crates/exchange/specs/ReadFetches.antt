-- A read fetch of the pages of a set, as the code walks over it: the givers' part so far, and the run that it makes with the copies. Assumes nothing.
use Rattle.std.specs.Prelude.{◌≡◌, ℕ, ◌+◌, ◌*◌, ◌≤◌, ◌<◌, true, false, length}
use Rattle.std.proofs.Math.Path.{refl}
use Rattle.std.proofs.Common.{sym, ◌∙◌, arith}
use Rattle.std.proofs.Math.Option.{Option, none, some}
use mathlib.Core.List.{List, [], ◌∷◌}
use Rattle.words.specs.Bytes.{Each}
use Rattle.types.specs.declared.CopyOrOwn.{CopyOrOwn}
use Rattle.types.specs.declared.CopyOrOwn.TheVariants.{GotCopy, GotOwn}
use Rattle.types.specs.declared.Kind.TheVariants.{Shown}
use Rattle.types.specs.declared.State.TheVariants.{Up}
use Rattle.model.specs.Definitions.Parts.{zeros, member}
use Rattle.model.specs.Definitions.Layout.{page_size, slot_count}
use Rattle.model.specs.Definitions.Bank.{Bank, board_at}
use Rattle.model.specs.Definitions.Codec.{decode}
use Rattle.model.specs.Definitions.WellFormed.{WellFormed}
use Rattle.model.specs.Definitions.Steps.{Run, giver, show, show_all, give_copies, read_fetch}
use Rattle.model.proofs.Laws.Lists.{each_head, each_imp}
use Rattle.model.proofs.Laws.Runs.{Changed, follows_show_all, follows_step, sizes_give_copies}
use Rattle.model.proofs.Laws.Runs.Stores.{FlushedWith, show_changed}
use Rattle.model.proofs.Laws.Keeps.Clauses.{up_below}
use Rattle.model.proofs.Laws.Keeps.Rights.{entry_at_lem}
use Rattle.model.proofs.Laws.Keeps.Copies.{room_giver, Shared, shared_giver, shown_can, show_all_shared, needs_reader}
use Rattle.model.proofs.Laws.Moves.Stores.{show_keeps}
use Rattle.model.proofs.Laws.Moves.Fetches.{taker_other, show_all_moves}
use Rattle.model.proofs.Laws.Moves.Formed.{formed_begun, run_formed, moves_formed}
use Rattle.model.specs.Moves.{anyone, still}
use Rattle.model.specs.Clauses.{CanFetch}
use Rattle.copies.specs.Banks.{Holds, OfBank, holds_bank, holds_decode, of_holds, holds_of}
use Rattle.copies.specs.Walks.{left_all, left_none, left_next, left_skip}
use Rattle.copies.specs.Copies.{pages_in, pages_from, CanGive}
use Rattle.exchange.specs.Progress.{running, Came, CanShow}
use Rattle.exchange.specs.Fetching.{came_holds, came_on, came_step, came_lost}

-- ---- the givers' part

-- after the pages below i, with m stores: what is left of the bank on entry is left of this one
pub record Showing (pages set b : ℕ) (k : Bank) (s : List ℕ) (m i : ℕ) : Type 0 where
  pub bank : OfBank pages b s
  pub formed : WellFormed (decode s)
  pub can : CanFetch GotCopy b (pages_from pages set i) (decode s)
  pub run : (n : ℕ) → show_all b (pages_from pages set i) (running (n + m) (decode s)) ≡ show_all b (pages_in pages set) (running n k)
  pub few : m ≤ i * slot_count
  pub within : i ≤ pages

pub showing_first : {pages b : ℕ} (set : ℕ) {s : List ℕ} → OfBank pages b s → WellFormed (decode s) → CanFetch GotCopy b (pages_in pages set) (decode s)
    → Showing pages set b (decode s) s 0 0
showing_first {pages} set o w c =
    let e : pages_from pages set 0 ≡ pages_in pages set = left_all (λ p. member p set) pages in
    record {
      bank = o;
      formed = w;
      can = rw e c;
      run = λ n. let z : n + 0 ≡ n = omega arith in rw (e, z);
      few = omega arith;
      within = omega arith;
    }

module _ {pages set b : ℕ} {k : Bank} {s : List ℕ} {m i : ℕ} (h : Showing pages set b k s m i) where
  -- the last page is behind
  pub showing_last : pages ≤ i → (n : ℕ) → Came s (n + m) none (show_all b (pages_in pages set) (running n k))
  unfolding show_all
  showing_last l n =
      let e : pages_from pages set i ≡ [] = left_none (λ p. member p set) pages i l in
      let r : running (n + m) (decode s) ≡ show_all b (pages_in pages set) (running n k) = rw e at (h.run n) in
      rw (← r) (record { bytes = (of_holds h.bank).bytes; stores = refl; lost = refl })

  module _ (l : i < pages) where
    -- a page that isn't in the set
    pub showing_skip : member i set ≡ false → Showing pages set b k s m (i + 1)
    showing_skip t =
        let e : pages_from pages set i ≡ pages_from pages set (i + 1) = left_skip (λ p. member p set) pages i l t in
        record {
          bank = h.bank;
          formed = h.formed;
          can = rw (← e) h.can;
          run = λ n. rw (← e) (h.run n);
          few = omega (arith, h.few);
          within = omega arith;
        }

    module _ (t : member i set ≡ true) where
      abbrev rest : List ℕ
      rest = pages_from pages set (i + 1)

      here : pages_from pages set i ≡ i ∷ rest
      here = left_next (λ p. member p set) pages i l t

      can : CanFetch GotCopy b (i ∷ rest) (decode s)
      can = rw (← here) h.can

      module _ (o : ℕ) (from : o ≡ giver GotCopy (decode s) i) where
        up : (board_at (decode s) o).state ≡ Up
        up = rw from (each_head can.givers)

        -- who gives it can show it
        pub show_giver : o < length (decode s).boards
        show_giver = up_below (decode s) o up

        pub show_can : CanShow o (decode s)
        show_can = (up, rw from (room_giver b i rest (decode s) can))

        -- and has shown it
        module _ {ys : List ℕ} (x : ℕ) {q : Option ℕ} (ran : (n : ℕ) → Came ys (n + x) q (show o b i (running n (decode s)))) where
          told : (n : ℕ) → Came ys (n + (m + x)) q (show o b i (running (n + m) (decode s)))
          told n = let e : n + (m + x) ≡ n + m + x = omega arith in rw e (ran (n + m))

          goes : (n : ℕ) → show_all b rest (show o b i (running (n + m) (decode s))) ≡ show_all b (pages_in pages set) (running n k)
          unfolding show_all
          goes n = rw (from, ← h.run n, here)

          -- and lost its power
          pub showing_lost : (d : ℕ) → q ≡ some d → (n : ℕ) → Came ys (n + (m + x)) q (show_all b (pages_in pages set) (running n k))
          showing_lost d e n = rw (← goes n) (came_lost (told n) d e (follows_show_all b rest (show o b i (running (n + m) (decode s)))))

          -- and has it yet
          module _ (on : q ≡ none) (small : x ≤ slot_count) where
            keeps : (n : ℕ) → WellFormed (show o b i (running n (decode s))).bank
            keeps n =
                show_keeps o b i (running n (decode s)) h.formed (λ e. up) (λ e. show_can.1) (λ e. each_head can.pages)
                (λ e. taker_other (decode s) b o can.taker (rw from (each_head can.others)))

            held : Holds ys (show o b i (running 0 (decode s))).bank
            held = came_holds (ran 0) (keeps 0)

            changed : Changed o (FlushedWith (Shown i) b (zeros page_size)) (decode s) (show o b i (running 0 (decode s))).bank
            changed = show_changed o b i (running 0 (decode s)) (sym (ran 0).lost ∙ on)

            pub showing_on : Showing pages set b k ys (m + x) (i + 1)
            showing_on =
                record {
                  bank = holds_of held pages b (rw changed.directory h.bank.count) (rw changed.boards h.bank.board);
                  formed = rw (holds_decode held) (keeps 0);
                  can = rw (holds_decode held, from) (shown_can b i rest (running 0 (decode s)) can (rw from at (sym (ran 0).lost ∙ on)));
                  run = λ n. rw (came_on (told n) on (keeps (n + m))) (goes n);
                  few = omega (arith, h.few);
                  within = omega arith;
                }

-- ---- both

module _ {pages b : ℕ} {s ps : List ℕ} (o : OfBank pages b s) (w : WellFormed (decode s)) (c : CanFetch GotCopy b ps (decode s)) (n : ℕ) {l : List ℕ} {m : ℕ}
    {q : Option ℕ} (ran : Came l m q (show_all b ps (running n (decode s)))) where
  -- power was lost in a giver's part
  pub read_lost : (d : ℕ) → q ≡ some d → Came l m q (read_fetch b ps (running n (decode s)))
  unfolding read_fetch
  read_lost d e =
      let u : Run = show_all b ps (running n (decode s)) in
      came_lost ran d e (follows_step (give_copies b ps) u (sizes_give_copies b ps u.bank))

  module _ (on : q ≡ none) where
    formed : WellFormed (show_all b ps (running n (decode s))).bank
    formed =
        run_formed {d = b} {b = b} anyone
        (moves_formed (show_all_moves {Again = λ a. ⊥} ps (running n (decode s)) (λ e. c) still) (formed_begun b (running n (decode s)) w))

    shared : Shared b (decode s) (decode l)
    shared = rw (holds_decode (came_holds ran formed)) (show_all_shared b ps (running n (decode s)) c (sym ran.lost ∙ on))

    pub shown_of : OfBank pages b l
    shown_of =
        record {
          bank = holds_bank (came_holds ran formed);
          count = rw shared.directory o.count;
          board = rw shared.boards o.board;
        }

    -- who owns and who gives is a board as before
    shown_givers : (g : CopyOrOwn) → Each (λ p. giver g (decode l) p < length (decode l).boards) ps
    unfolding giver
    shown_givers GotCopy =
        each_imp ps (λ p v. rw (shared_giver shared GotCopy p, shared.boards) (up_below (decode s) (giver GotCopy (decode s) p) v)) c.givers
    shown_givers GotOwn = each_imp ps (λ p v. rw (shared_giver shared GotOwn p, shared.boards) (entry_at_lem w p v).owner) c.pages

    pub shown_give : CanGive b ps (decode l)
    shown_give =
        record {
          givers = shown_givers;
          room =
              rw shared.reader
              (omega (arith, c.room b (up_below (decode s) b c.taker), needs_reader (decode s) b ps));
        }

    pub read_given : (ys : List ℕ) → Holds ys (give_copies b ps (decode l)) → Came ys m none (read_fetch b ps (running n (decode s)))
    unfolding read_fetch
    read_given ys y = came_step ran on formed (give_copies b ps) ys y
