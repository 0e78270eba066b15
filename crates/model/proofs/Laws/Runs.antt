-- Laws of a call in progress and of lists of stores: a lost run is passed on unchanged, only the board that stores is lost, stores only grow, no list of a
-- bank changes its length; and what a run that is not lost leaves of all boards but the one that stored. Assumes nothing.
pub mod Stores
pub mod Unfused
use Rattle.std.specs.Prelude.{◌≡◌, refl, ◌≢◌, length, eqb}
use Rattle.std.proofs.Common.{sym, ap, ◌∙◌, arith, length-append, eqb-true}
use Prim.Native.Nat.{ℕ, ◌+◌, ◌≤◌, ◌<◌}
use Rattle.std.proofs.Math.Option.{Option, none, some}
use mathlib.Core.List.{List, [], ◌∷◌, ◌++◌, foldl, foldl-append}
use Rattle.std.proofs.lemmas.List.{length-replicate}
use Rattle.std.proofs.lemmas.Bool.{eqb-false}
use Rattle.words.specs.Bytes.{Each, each_nil, each_cons}
use Rattle.types.specs.declared.CopyOrOwn.{CopyOrOwn}
use Rattle.types.specs.declared.CopyOrOwn.TheVariants.{GotCopy, GotOwn}
use Rattle.types.specs.declared.Kind.{Kind}
use Rattle.types.specs.declared.Kind.TheVariants.{Got, Shown}
use Rattle.model.specs.Definitions.Parts.{zeros, tabulate}
use Rattle.model.specs.Definitions.Layout.{page_size}
use Rattle.model.specs.Definitions.Bank.{Board, Bank, board_at, entry_at, on_board, on_working}
use Rattle.model.specs.Definitions.Steps.{Run, step, power_off, burnt, store, recorded, note, store_all, stored_record, record_stores, flush, stored_frame}
use Rattle.model.specs.Definitions.Steps.{stored_head, stored_selector, spare_stores, checkpoint_stores, rested_working, checkpoint, giver, show, frame_of}
use Rattle.model.specs.Definitions.Steps.{give_copy, drop_copies, pass_ownership, show_all, give_copies, read_fetch, write_fetch, fetch}
use Rattle.model.specs.Definitions.Replay.{settled, end_replay, settle}
use Rattle.model.specs.Definitions.Calls.{Result, finished}
use Rattle.model.proofs.Laws.Logic.{by_option, cases, cases_option}
use Rattle.model.proofs.Laws.Lists.{length_tabulate, each_append, each_replicate, each_tabulate}
use Rattle.model.proofs.Laws.Boards.{boards_on_board, directory_on_board, on_board_on_board, board_at_same, board_at_other, boards_power_off, directory_power_off}
use Rattle.model.proofs.Laws.Boards.{boards_give_copy, directory_give_copy, boards_drop_copies, directory_drop_copies, boards_pass_ownership}
use Rattle.model.proofs.Laws.Boards.{directory_pass_ownership}

-- ---- the cases of a step and of a store

-- none is not some: a run is not lost and lost
pub lost_not : {X A : Type 0} {o : Option A} {c : A} → o ≡ none → o ≡ some c → X
lost_not {o} {c} p q = let z : ◌≡◌ {A = ℕ} 0 1 = cc in absurd (omega arith)

module _ (P : Run → Type 0) where
  pub step_cases : (f : Bank → Bank) (r : Run) → ((c : ℕ) → r.lost ≡ some c → P r)
      → (r.lost ≡ none → P (record { bank = f r.bank; stores = r.stores; lost = none })) → P (step f r)
  unfolding step
  step_cases f r lost on = cases_option P r.lost on lost

  -- lost before, lost by this store, or done
  pub store_cases : (b : ℕ) (f : Board → Board) (r : Run) → ((c : ℕ) → r.lost ≡ some c → P r)
      → (r.lost ≡ none → (board_at (on_board b burnt (on_board b f r.bank)) b).fuse ≡ 0
      → P (record { bank = power_off b (on_board b burnt (on_board b f r.bank)); stores = r.stores + 1; lost = some b }))
      → (r.lost ≡ none → (board_at (on_board b burnt (on_board b f r.bank)) b).fuse ≢ 0
      → P (record { bank = on_board b burnt (on_board b f r.bank); stores = r.stores + 1; lost = none }))
      → P (store b f r)
  unfolding store
  store_cases b f r lost cut on =
      cases_option P r.lost
      (λ n.
      let fuse : ℕ = (board_at (on_board b burnt (on_board b f r.bank)) b).fuse in
      cases P (eqb fuse 0) (λ t. cut n (eqb-true fuse 0 t)) (λ t. on n (eqb-false fuse 0 t)))
      lost

-- once power was lost nothing is done
pub step_lost : (f : Bank → Bank) (r : Run) {c : ℕ} → r.lost ≡ some c → step f r ≡ r
unfolding step
step_lost f r e = cc

pub store_lost : (b : ℕ) (f : Board → Board) (r : Run) {c : ℕ} → r.lost ≡ some c → store b f r ≡ r
unfolding store
store_lost b f r e = cc

-- a step of a run that is not lost was done
pub step_done : (f : Bank → Bank) (r : Run) → (step f r).lost ≡ none → (step f r).bank ≡ f r.bank
step_done f r n = step_cases (λ s. s.lost ≡ none → s.bank ≡ f r.bank) f r (λ c e m. lost_not m e) (λ e m. refl) n

pub step_going : (f : Bank → Bank) (r : Run) → r.lost ≡ none → (step f r).bank ≡ f r.bank
step_going f r n = step_cases (λ s. s.bank ≡ f r.bank) f r (λ c e. lost_not n e) (λ e. refl)

pub step_none : (f : Bank → Bank) (r : Run) → (step f r).lost ≡ none → r.lost ≡ none
step_none f r n = step_cases (λ s. s.lost ≡ none → r.lost ≡ none) f r (λ c e m. m) (λ e m. e) n

pub step_stores : (f : Bank → Bank) (r : Run) → (step f r).stores ≡ r.stores
step_stores f r = step_cases (λ s. s.stores ≡ r.stores) f r (λ c e. refl) (λ e. refl)

-- ---- the stores of a flush and of a checkpoint

pub length_record_stores : (x : Board) → length (record_stores x) ≡ length x.working.log
unfolding record_stores
length_record_stores x = length-replicate (length x.working.log) stored_record

pub length_checkpoint_stores : (pages : ℕ) → length (checkpoint_stores pages) ≡ pages + 2
unfolding checkpoint_stores spare_stores
length_checkpoint_stores pages = simp (length-append, length_tabulate pages stored_frame) (omega arith)

-- what holds of each kind of store
module _ {P : (Board → Board) → Type 0} where
  pub each_record_stores : P stored_record → (x : Board) → Each P (record_stores x)
  unfolding record_stores
  each_record_stores h x = each_replicate (length x.working.log) stored_record h

  pub each_spare_stores : ((p : ℕ) → P (stored_frame p)) → P stored_head → (pages : ℕ) → Each P (spare_stores pages)
  unfolding spare_stores
  each_spare_stores f h pages = each_append (tabulate pages stored_frame) (stored_head ∷ []) (each_tabulate pages stored_frame f) (each_cons h each_nil)

  pub each_checkpoint_stores : ((p : ℕ) → P (stored_frame p)) → P stored_head → P stored_selector → (pages : ℕ) → Each P (checkpoint_stores pages)
  unfolding checkpoint_stores
  each_checkpoint_stores f h s pages = each_append (spare_stores pages) (stored_selector ∷ []) (each_spare_stores f h pages) (each_cons s each_nil)

-- a checkpoint, with its last store apart
pub checkpoint_selector : (b : ℕ) (r : Run)
    → checkpoint b r ≡ step (on_board b (on_working rested_working)) (store b stored_selector (store_all b (spare_stores (length r.bank.directory)) r))
unfolding checkpoint checkpoint_stores store_all
checkpoint_selector b r =
    ap (step (on_board b (on_working rested_working))) (foldl-append (λ s f. store b f s) r (spare_stores (length r.bank.directory)) (stored_selector ∷ []))

-- an answer leaves the run
pub finished_run : (v : ℕ) (given : List ℕ) (r : Run) → (finished v given r).run ≡ r
unfolding finished
finished_run v given r = cases_option (λ (t : Result). t.run ≡ r) r.lost (λ n. refl) (λ b e. refl)

-- ---- what holds of a run and of a later one of the same call

pub record SameSizes (k j : Bank) : Type 0 where
  pub boards : length j.boards ≡ length k.boards
  pub pages : length j.directory ≡ length k.directory

pub record Follows (r s : Run) : Type 0 where
  pub lost : (c : ℕ) → r.lost ≡ some c → s ≡ r
  pub stores : r.stores ≤ s.stores
  pub sizes : SameSizes r.bank s.bank

pub sizes_same : (k : Bank) → SameSizes k k
sizes_same k = record { boards = refl; pages = refl }

pub sizes_trans : {k j i : Bank} → SameSizes k j → SameSizes j i → SameSizes k i
sizes_trans p q = record { boards = q.boards ∙ p.boards; pages = q.pages ∙ p.pages }

pub sizes_on_board : (b : ℕ) (f : Board → Board) (k : Bank) → SameSizes k (on_board b f k)
sizes_on_board b f k = record { boards = boards_on_board b f k; pages = ap length (directory_on_board b f k) }

pub sizes_power_off : (b : ℕ) (k : Bank) → SameSizes k (power_off b k)
sizes_power_off b k = record { boards = boards_power_off b k; pages = directory_power_off b k }

pub sizes_give_copy : (o b p : ℕ) (k : Bank) → SameSizes k (give_copy o b p k)
sizes_give_copy o b p k = record { boards = boards_give_copy o b p k; pages = directory_give_copy o b p k }

pub sizes_drop_copies : (w p : ℕ) (k : Bank) → SameSizes k (drop_copies w p k)
sizes_drop_copies w p k = record { boards = boards_drop_copies w p k; pages = directory_drop_copies w p k }

pub sizes_pass_ownership : (o w p : ℕ) (k : Bank) → SameSizes k (pass_ownership o w p k)
sizes_pass_ownership o w p k = record { boards = boards_pass_ownership o w p k; pages = directory_pass_ownership o w p k }

-- a run that is not lost never was
pub follows_none : {r s : Run} → Follows r s → s.lost ≡ none → r.lost ≡ none
follows_none {r = r} {s = s} h n =
    by_option r.lost (λ e. e) (λ c e. lost_not n (ap (λ (t : Run). t.lost) (h.lost c e) ∙ e))

pub follows_refl : (r : Run) → Follows r r
follows_refl r = record { lost = λ c e. refl; stores = omega arith; sizes = sizes_same r.bank }

pub follows_trans : {r s t : Run} → Follows r s → Follows s t → Follows r t
follows_trans {r} {s} {t} p q =
    record {
      lost = λ c e. let i : s ≡ r = p.lost c e in q.lost c (ap (λ (u : Run). u.lost) i ∙ e) ∙ i;
      stores = omega (arith, p.stores, q.stores);
      sizes = sizes_trans p.sizes q.sizes;
    }

pub follows_step : (f : Bank → Bank) (r : Run) → SameSizes r.bank (f r.bank) → Follows r (step f r)
follows_step f r z =
    step_cases (Follows r) f r
    (λ c e. follows_refl r)
    (λ n. record { lost = λ c e. lost_not n e; stores = omega arith; sizes = z })

pub follows_store : (b : ℕ) (f : Board → Board) (r : Run) → Follows r (store b f r)
follows_store b f r =
    let k : Bank = on_board b burnt (on_board b f r.bank) in
    let z : SameSizes r.bank k = sizes_trans (sizes_on_board b f r.bank) (sizes_on_board b burnt (on_board b f r.bank)) in
    store_cases (Follows r) b f r
    (λ c e. follows_refl r)
    (λ n e.
    record {
      lost = λ c e. lost_not n e;
      stores = omega arith;
      sizes = sizes_trans z (sizes_power_off b k);
    })
    (λ n e. record { lost = λ c e. lost_not n e; stores = omega arith; sizes = z })

pub follows_store_all : (b : ℕ) (fs : List (Board → Board)) (r : Run) → Follows r (store_all b fs r)
unfolding store_all
follows_store_all b [] r = follows_refl r
follows_store_all b (f ∷ fs) r = follows_trans (follows_store b f r) (follows_store_all b fs (store b f r))

pub follows_flush : (b : ℕ) (r : Run) → Follows r (flush b r)
unfolding flush
follows_flush b r = follows_store_all b (record_stores (board_at r.bank b)) r

pub follows_checkpoint : (b : ℕ) (r : Run) → Follows r (checkpoint b r)
unfolding checkpoint
follows_checkpoint b r =
    let stored : Run = store_all b (checkpoint_stores (length r.bank.directory)) r in
    follows_trans (follows_store_all b (checkpoint_stores (length r.bank.directory)) r)
    (follows_step (on_board b (on_working rested_working)) stored (sizes_on_board b (on_working rested_working) stored.bank))

-- a record noted, with bytes that may be read off the bank, and flushed
pub follows_note_flush : (b : ℕ) (kind : Kind) (peer : ℕ) (bytes : Bank → List ℕ) (r : Run)
    → Follows r (flush b (step (λ k. note b kind peer (bytes k) k) r))
unfolding note
follows_note_flush b kind peer bytes r =
    let noted : Bank → Bank = λ k. note b kind peer (bytes k) k in
    follows_trans
    (follows_step noted r (sizes_on_board b (on_working (recorded kind peer (bytes r.bank))) r.bank))
    (follows_flush b (step noted r))

pub follows_show : (o b p : ℕ) (r : Run) → Follows r (show o b p r)
unfolding show
follows_show o b p r = follows_note_flush o (Shown p) b (λ k. zeros page_size) r

pub follows_show_all : (b : ℕ) (ps : List ℕ) (r : Run) → Follows r (show_all b ps r)
unfolding show_all
follows_show_all b [] r = follows_refl r
follows_show_all b (p ∷ ps) r =
    let o : ℕ = giver GotCopy r.bank p in
    follows_trans (follows_show o b p r) (follows_show_all b ps (show o b p r))

pub sizes_give_copies : (b : ℕ) (ps : List ℕ) (k : Bank) → SameSizes k (give_copies b ps k)
unfolding give_copies
sizes_give_copies b [] k = sizes_same k
sizes_give_copies b (p ∷ ps) k = let o : ℕ = giver GotCopy k p in sizes_trans (sizes_give_copy o b p k) (sizes_give_copies b ps (give_copy o b p k))

pub follows_read_fetch : (b : ℕ) (ps : List ℕ) (r : Run) → Follows r (read_fetch b ps r)
unfolding read_fetch
follows_read_fetch b ps r =
    follows_trans (follows_show_all b ps r) (follows_step (give_copies b ps) (show_all b ps r) (sizes_give_copies b ps (show_all b ps r).bank))

pub follows_write_fetch : (w p : ℕ) (r : Run) → Follows r (write_fetch w p r)
unfolding write_fetch
follows_write_fetch w p r =
    let o : ℕ = giver GotOwn r.bank p in
    let bytes : Bank → List ℕ = λ k. (frame_of k o p).bytes in
    let got : Run = flush w (step (λ k. note w (Got GotOwn p) o (bytes k) k) (show o w p r)) in
    follows_trans (follows_show o w p r)
    (follows_trans
    (follows_note_flush w (Got GotOwn p) o bytes (show o w p r))
    (follows_step (pass_ownership o w p) got (sizes_pass_ownership o w p got.bank)))

pub follows_fetch : (g : CopyOrOwn) (b : ℕ) (ps : List ℕ) (r : Run) → Follows r (fetch g b ps r)
unfolding fetch
follows_fetch GotCopy b ps r = follows_read_fetch b ps r
follows_fetch GotOwn b [] r = follows_refl r
follows_fetch GotOwn b (p ∷ ps) r = follows_trans (follows_write_fetch b p r) (follows_fetch GotOwn b ps (write_fetch b p r))

pub follows_end_replay : (b : ℕ) (r : Run) → Follows r (end_replay b r)
unfolding end_replay settle
follows_end_replay b r =
    follows_trans
    (follows_step (settle b) r (sizes_on_board b (settled (λ p. eqb (entry_at r.bank p).owner b)) r.bank))
    (follows_checkpoint b (step (settle b) r))

-- ---- only the board that stores is lost

pub step_same : (f : Bank → Bank) (r : Run) → (step f r).lost ≡ r.lost
step_same f r = step_cases (λ s. s.lost ≡ r.lost) f r (λ c e. refl) (λ n. sym n)

store_all_self : (b : ℕ) (fs : List (Board → Board)) (r : Run) (c : ℕ) → r.lost ≡ none → (store_all b fs r).lost ≡ some c → c ≡ b
unfolding store_all
store_all_self b [] r c n e = lost_not n e
store_all_self b (f ∷ fs) r c n e =
    store_cases (λ s. (store_all b fs s).lost ≡ some c → c ≡ b) b f r
    (λ d z. lost_not n z)
    (λ z y i.
    let s : Run = record { bank = power_off b (on_board b burnt (on_board b f r.bank)); stores = r.stores + 1; lost = some b } in
    let q : (store_all b fs s).lost ≡ some b = ap (λ (t : Run). t.lost) ((follows_store_all b fs s).lost b refl) in
    cc)
    (λ z y. store_all_self b fs _ c refl)
    e

pub end_replay_self : (b : ℕ) (r : Run) (c : ℕ) → r.lost ≡ none → (end_replay b r).lost ≡ some c → c ≡ b
unfolding end_replay checkpoint settle
end_replay_self b r c n e =
    let s : Run = step (settle b) r in
    let fs : List (Board → Board) = checkpoint_stores (length s.bank.directory) in
    store_all_self b fs s c (step_same (settle b) r ∙ n) (sym (step_same (on_board b (on_working rested_working)) (store_all b fs s)) ∙ e)

-- ---- what stands after stores of one board, none of which lost it power

-- board b as `R` says, the directory and the other boards as they were
pub record Changed (b : ℕ) (R : Board → Board → Type 0) (k j : Bank) : Type 0 where
  pub directory : j.directory ≡ k.directory
  pub boards : length j.boards ≡ length k.boards
  pub others : (c : ℕ) → c ≢ b → board_at j c ≡ board_at k c
  pub this : b < length k.boards → R (board_at k b) (board_at j b)

pub changed_map : {b : ℕ} {R S : Board → Board → Type 0} {k j : Bank} → ((x y : Board) → R x y → S x y) → Changed b R k j → Changed b S k j
changed_map {b} {k = k} {j = j} h p =
    record { directory = p.directory; boards = p.boards; others = p.others; this = λ l. h (board_at k b) (board_at j b) (p.this l) }

pub changed_trans : (b : ℕ) {R S T : Board → Board → Type 0} {k j i : Bank} → ((x y z : Board) → R x y → S y z → T x z)
    → Changed b R k j → Changed b S j i → Changed b T k i
changed_trans b {k} {j} {i} t p q =
    record {
      directory = q.directory ∙ p.directory;
      boards = q.boards ∙ p.boards;
      others = λ c n. q.others c n ∙ p.others c n;
      this = λ l. t (board_at k b) (board_at j b) (board_at i b) (p.this l) (q.this (rw p.boards l));
    }

pub entry_at_changed : {b : ℕ} {R : Board → Board → Type 0} {k j : Bank} → Changed b R k j → (p : ℕ) → entry_at j p ≡ entry_at k p
unfolding entry_at
entry_at_changed c p = rw c.directory

module _ (b : ℕ) {R : Board → Board → Type 0} where
  pub changed_refl : ((x : Board) → R x x) → (k : Bank) → Changed b R k k
  changed_refl h k = record { directory = refl; boards = refl; others = λ c n. refl; this = λ l. h (board_at k b) }

  pub changed_on_board : (f : Board → Board) (k : Bank) → R (board_at k b) (f (board_at k b)) → Changed b R k (on_board b f k)
  changed_on_board f k h =
      record {
        directory = directory_on_board b f k;
        boards = boards_on_board b f k;
        others = λ c n. board_at_other b f k c n;
        this = λ l. rw (board_at_same b f k l) h;
      }

  pub changed_step : (f : Bank → Bank) (r : Run) → (step f r).lost ≡ none → Changed b R r.bank (f r.bank) → Changed b R r.bank (step f r).bank
  changed_step f r n h =
      step_cases (λ s. s.lost ≡ none → Changed b R r.bank s.bank) f r (λ c e m. lost_not m e) (λ e m. h) n

  pub changed_store : (f : Board → Board) (r : Run) → (store b f r).lost ≡ none → R (board_at r.bank b) (burnt (f (board_at r.bank b)))
      → Changed b R r.bank (store b f r).bank
  changed_store f r n h =
      store_cases (λ s. s.lost ≡ none → Changed b R r.bank s.bank) b f r
      (λ c e m. lost_not m e)
      (λ e z m. lost_not m refl)
      (λ e z m. rw (on_board_on_board b f burnt r.bank) (changed_on_board (λ x. burnt (f x)) r.bank h))
      n

-- a board after stores that lose it no power
unfoldable pub after_stores : List (Board → Board) → Board → Board
after_stores fs x = foldl (λ y f. burnt (f y)) x fs

pub changed_store_all : (b : ℕ) (fs : List (Board → Board)) (r : Run) → (store_all b fs r).lost ≡ none
    → Changed b (λ x y. y ≡ after_stores fs x) r.bank (store_all b fs r).bank
unfolding store_all after_stores
changed_store_all b [] r e = changed_refl b (λ x. refl) r.bank
changed_store_all b (f ∷ fs) r e =
    let n : (store b f r).lost ≡ none = follows_none (follows_store_all b fs (store b f r)) e in
    changed_trans b (λ x y z p q. q ∙ ap (after_stores fs) p)
    (changed_store b {R = λ x y. y ≡ burnt (f x)} f r n refl)
    (changed_store_all b fs (store b f r) e)
