-- The steps of a call that store nothing: each takes the boards of a bank through changes. Assumes nothing.
use Rattle.std.specs.Prelude.{◌≡◌, ◌≢◌, true, false, ◌||◌, List, [], length}
use Rattle.std.proofs.Math.Path.{refl}
use Rattle.std.proofs.Common.{◌∙◌}
use Prim.Native.Nat.{ℕ, ◌<◌}
use Rattle.std.proofs.Math.Bool.{Bool}
use Rattle.std.proofs.Math.Dec.{eqb}
use Rattle.types.specs.declared.CopyOrOwn.TheVariants.{GotCopy}
use Rattle.types.specs.declared.Kind.{Kind}
use Rattle.types.specs.declared.Kind.TheVariants.{Got, Dropped}
use Rattle.types.specs.declared.State.TheVariants.{Up, Down, Replaying}
use Rattle.model.specs.Definitions.Parts.{zeros, member}
use Rattle.model.specs.Definitions.Layout.{page_size}
use Rattle.model.specs.Definitions.Bank.{Board, Bank, empty_frame, board_at, entry_at, on_board, on_working}
use Rattle.model.specs.Definitions.WellFormed.{is_got}
use Rattle.model.specs.Definitions.Steps.{with_fuse, recorded, note, Access, accessed, access, frame_of, give_copy, dropped, drop_copies, pass_ownership}
use Rattle.model.specs.Definitions.Replay.{loaded, records_left, used_up, took_due, replay_over, settled, replayed, settle}
use Rattle.model.proofs.Laws.Logic.{by_eq, cases}
use Rattle.model.proofs.Laws.Boards.{board_at_same, on_board_on_board, took_due_state, took_copy, took_own, dropped_if, board_at_give_copy_same, board_at_give_copy_other}
use Rattle.model.proofs.Laws.Boards.{board_at_drop_copies, board_at_pass_ownership_same, board_at_pass_ownership_other}
use Rattle.model.proofs.Laws.Runs.{sizes_give_copy, sizes_drop_copies, sizes_pass_ownership}
use Rattle.model.specs.History.RecoveryStatement.{SameCounters, Made, Accessed, Loaded, Took, Replayed, Settled, unchanged, next}
use Rattle.model.specs.Clauses.{records_of}
use Rattle.history.specs.Repeating.{took_stable, took_log}
use Rattle.history.specs.Counters.Spacing.{orderly_less, joined_pending, recorded_orderly, accessed_orderly, same_pending, restarted_orderly}
use Rattle.history.specs.Counters.Spacing.{replayed_orderly}
use Rattle.history.specs.Counters.BoardsInProgress.{Advance, advance_same, advance_one, advance_trans, advance_less, advance_quiet, with_frame_same}
use Rattle.history.specs.Counters.BoardsInProgress.{Advances, Nobody, Only, on_board_advances}

-- ---- records

-- a shown or dropped of an up board
recorded_advance : {P : Type 0} (kind : Kind) (peer : ℕ) (bytes : List ℕ) (x : Board) → is_got kind ≡ false → x.state ≡ Up
    → Advance ⊥ P x (on_working (recorded kind peer bytes) x)
recorded_advance kind peer bytes x g u = advance_one (Made kind peer bytes u refl) (λ h. recorded_orderly kind peer bytes x u h g)

-- a got: its access is pending; others may be pending with it
got_advance : {P Q : Type 0} → Q → (kind : Kind) (peer : ℕ) (bytes : List ℕ) (x : Board) → is_got kind ≡ true → x.state ≡ Up
    → Advance P Q x (on_working (recorded kind peer bytes) x)
got_advance q kind peer bytes x g u = advance_one (Made kind peer bytes u refl) (joined_pending kind peer bytes x u g q)

pub noted_advances : (b : ℕ) (kind : Kind) (peer : ℕ) (bytes : List ℕ) (k : Bank) → is_got kind ≡ false → (board_at k b).state ≡ Up
    → Advances Nobody Nobody k (note b kind peer bytes k)
unfolding note
noted_advances b kind peer bytes k g u =
    on_board_advances b k (λ c n p. p) (on_working (recorded kind peer bytes)) (λ l. recorded_advance kind peer bytes (board_at k b) g u)

pub got_advances : (b : ℕ) (kind : Kind) (peer : ℕ) (bytes : List ℕ) (k : Bank) → is_got kind ≡ true → (board_at k b).state ≡ Up
    → Advances Nobody (Only b) k (note b kind peer bytes k)
unfolding note
got_advances b kind peer bytes k g u =
    on_board_advances b k (λ c n p. absurd p) (on_working (recorded kind peer bytes)) (λ l. got_advance refl kind peer bytes (board_at k b) g u)

-- ---- fetches

dropped_advance : {P : Type 0} (t : Bool) (w p : ℕ) (x : Board) → (t ≡ true → x.state ≡ Up) → Advance ⊥ P x (dropped_if t w p x)
unfolding dropped_if dropped is_got
dropped_advance {P} t w p x u =
    cases (Advance ⊥ P x) t
    (λ e.
    advance_trans (recorded_advance (Dropped p) w (zeros page_size) x refl (u e))
    (advance_quiet (with_frame_same p empty_frame (on_working (recorded (Dropped p) w (zeros page_size)) x))))
    (λ e. advance_same absurd)

pub give_copy_advances : (o b p : ℕ) (k : Bank) → (board_at k b).state ≡ Up → Advances (Only b) (Only b) k (give_copy o b p k)
unfolding took_copy is_got
give_copy_advances o b p k u =
    let bytes : List ℕ = (frame_of k o p).bytes in
    let x : Board = board_at k b in
    record {
      sizes = sizes_give_copy o b p k;
      boards = λ c l.
          by_eq c b
          (λ e.
          rw (e, board_at_give_copy_same o b p k (rw e at l))
          (advance_trans (got_advance refl (Got GotCopy p) o bytes x refl u)
          (advance_quiet (with_frame_same p _ (on_working (recorded (Got GotCopy p) o bytes) x)))))
          (λ n. rw (board_at_give_copy_other o b p k c n) (advance_same (λ q. q)));
    }

-- the holders are up
pub drop_copies_advances : (w p : ℕ) (k : Bank) → ((c : ℕ) → c < length k.boards → member c (entry_at k p).copies ≡ true → (board_at k c).state ≡ Up)
    → Advances Nobody Nobody k (drop_copies w p k)
drop_copies_advances w p k u =
    record {
      sizes = sizes_drop_copies w p k;
      boards = λ c l. rw (board_at_drop_copies w p k c l) (dropped_advance (member c (entry_at k p).copies) w p (board_at k c) (u c l));
    }

-- whoever loses its right is up
pub pass_ownership_advances : (o w p : ℕ) (k : Bank)
    → ((c : ℕ) → c < length k.boards → c ≢ w → (eqb c o || member c (entry_at k p).copies) ≡ true → (board_at k c).state ≡ Up)
    → Advances (Only w) (Only w) k (pass_ownership o w p k)
unfolding took_own
pass_ownership_advances o w p k u =
    record {
      sizes = sizes_pass_ownership o w p k;
      boards = λ c l.
          by_eq c w
          (λ e. rw (e, board_at_pass_ownership_same o w p k (rw e at l)) (advance_quiet (with_frame_same p _ (board_at k w))))
          (λ n.
          rw (board_at_pass_ownership_other o w p k c l n)
          (advance_less n (λ q. q) (dropped_advance (eqb c o || member c (entry_at k p).copies) w p (board_at k c) (u c l n))));
    }

-- ---- accesses and fuses

pub access_advances : (b : ℕ) (a : Access) (k : Bank) → (board_at k b).state ≡ Up → Advances (Only b) Nobody k (access b a k)
unfolding access
access_advances b a k u =
    on_board_advances b k (λ c n p. n p) (on_working (accessed a)) (λ l. advance_one (Accessed a u refl) (accessed_orderly a (board_at k b) u))

with_fuse_same : (n : ℕ) (x : Board) → SameCounters x (with_fuse n x)
unfolding with_fuse
with_fuse_same n x = record { state = refl; number = refl; since = refl; place = refl; volatile = refl; second = refl; selected = refl }

pub with_fuse_advances : (b n : ℕ) (k : Bank) → Advances Nobody Nobody k (on_board b (with_fuse n) k)
with_fuse_advances b n k = on_board_advances b k (λ c m p. p) (with_fuse n) (λ l. advance_quiet (with_fuse_same n (board_at k b)))

-- ---- restart and replay

-- board b may have no record left
abbrev pub Over : ℕ → Bank → ℕ → Type 0
Over b k c = (c ≡ b) × (records_left (board_at k b) ≡ [])

module _ (b : ℕ) (k : Bank) (l : b < length k.boards) where
  pub restarted_advances : (board_at k b).state ≡ Down → Advances Nobody (Over b (on_board b (λ x. used_up (loaded x)) k)) k (on_board b (λ x. used_up (loaded x)) k)
  restarted_advances u =
      on_board_advances b k (λ c n p. absurd p) (λ x. used_up (loaded x))
      (λ i.
      rw (board_at_same b (λ x. used_up (loaded x)) k l)
      (advance_one (Loaded u refl) (λ h. orderly_less (λ e. (refl, e)) (restarted_orderly (board_at k b) h))))

  -- the access is pending, or the replay is over
  pub took_advances : (board_at k b).state ≡ Replaying → Advances Nobody (Only b) k (on_board b took_due k)
  unfolding records_of
  took_advances u =
      let x : Board = board_at k b in
      on_board_advances b k (λ c n p. absurd p) took_due
      (λ i. advance_one (Took u refl) (same_pending (rw (took_stable x, took_log x)) refl))

  -- the gots that are due are taken, then the access is repeated
  pub replayed_advances : (a : Access) → (board_at k b).state ≡ Replaying → replay_over (took_due (board_at k b)) ≡ false
      → Advances Nobody (Over b (on_board b (replayed a) (on_board b took_due k))) k (on_board b (replayed a) (on_board b took_due k))
  replayed_advances a u o =
      let x : Board = board_at k b in
      let f : Board → Board = λ y. replayed a (took_due y) in
      let v : (took_due x).state ≡ Replaying = took_due_state x ∙ u in
      rw (on_board_on_board b took_due (replayed a) k)
      (on_board_advances b k (λ c n p. absurd p) f
      (λ i.
      rw (board_at_same b f k l)
      (record {
        changes = next (next unchanged (Took u refl)) (Replayed a v o refl);
        orderly = λ h. orderly_less (λ e. (refl, e)) (replayed_orderly a x u h v);
      })))

  pub settled_advances : (board_at k b).state ≡ Replaying → replay_over (board_at k b) ≡ true → Advances (Only b) (Only b) k (settle b k)
  unfolding settle records_of settled
  settled_advances u o =
      let owned : ℕ → Bool = λ p. eqb (entry_at k p).owner b in
      on_board_advances b k (λ c n p. p) (settled owned) (λ i. advance_one (Settled owned u o refl) (same_pending refl refl))
