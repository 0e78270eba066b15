-- Whom records name, step by step: a record that is noted names another board of the bank, and every other step keeps records, moves or drops them. What is
-- kept of each board by itself; Clauses lifts it to the bank. Assumes nothing.
use Rattle.std.specs.Prelude.{◌≡◌, ◌≢◌, ℕ, ◌<◌, Bool, List, [], ◌∷◌, eqb}
use Rattle.std.proofs.Math.Path.{refl}
use Rattle.std.proofs.Common.{ap}
use Rattle.std.proofs.Math.ListN.{set}
use Rattle.words.specs.Bytes.{Each, each_nil, each_cons}
use Rattle.types.specs.declared.Frame.{Frame}
use Rattle.types.specs.declared.Kind.{Kind}
use Rattle.types.specs.declared.Record.{Record}
use Rattle.model.specs.Definitions.Bank.{Working, Board, empty_frame, on_working, on_frames, on_spare}
use Rattle.model.specs.Definitions.WellFormed.{PeerOk, PeersOk}
use Rattle.model.specs.Definitions.Steps.{powered_off, with_fuse, burnt, appended, recorded, moved_record, stored_record, stored_frame, stored_head}
use Rattle.model.specs.Definitions.Steps.{stored_selector, rested_working, Access, accessed, with_frame, dropped}
use Rattle.model.specs.Definitions.Replay.{loaded, used, use_up, records_left, used_up, took_got, took_gots, due, took_due, settled, replayed}
use Rattle.model.proofs.Laws.Logic.{cases, cases_kind}
use Rattle.model.proofs.Laws.Lists.{each_head, each_tail, each_append}
use Rattle.model.proofs.Laws.Boards.{stored_record_cases, took_copy}
use Rattle.model.proofs.Laws.Runs.Stores.{burnt_working, burnt_stable}

-- ---- records used in a replay stay in their log

pub use_up_log : (rs : List Record) (w : Working) → (use_up rs w).log ≡ w.log
unfolding use_up used
use_up_log [] w = refl
use_up_log (r ∷ rs) w =
    let kept : Working → Type 0 = λ v. v.log ≡ w.log in
    cases kept (eqb r.count w.since)
    (λ t.
    cases_kind kept r.kind
    (λ c p e. refl)
    (λ p e. use_up_log rs (used w.frames w))
    (λ p e. use_up_log rs (used (set w.frames p empty_frame) w)))
    (λ t. refl)

pub took_gots_log : (rs : List Record) (w : Working) → (took_gots rs w).log ≡ w.log
unfolding took_gots took_got used
took_gots_log [] w = refl
took_gots_log (r ∷ rs) w = took_gots_log rs (took_got r w)

module _ {n b : ℕ} where
  -- ---- the same records in every log

  pub peers_kept : {x y : Board} → y.working.log ≡ x.working.log → y.stable ≡ x.stable → PeersOk n b x → PeersOk n b y
  peers_kept v s h = record { volatile = rw v h.volatile; selected = rw s h.selected; spare = rw s h.spare }

  pub peers_working : {x : Board} (f : Working → Working) → (f x.working).log ≡ x.working.log → PeersOk n b x → PeersOk n b (on_working f x)
  unfolding on_working
  peers_working f e h = peers_kept e refl h

  pub with_fuse_peers : {x : Board} (m : ℕ) → PeersOk n b x → PeersOk n b (with_fuse m x)
  unfolding with_fuse
  with_fuse_peers m h = peers_kept refl refl h

  pub burnt_peers : (x : Board) → PeersOk n b x → PeersOk n b (burnt x)
  burnt_peers x h = peers_kept (ap (λ (w : Working). w.log) (burnt_working x)) (burnt_stable x) h

  pub accessed_peers : {x : Board} (a : Access) → PeersOk n b x → PeersOk n b (on_working (accessed a) x)
  unfolding accessed
  accessed_peers a h = peers_working (accessed a) refl h

  pub with_frame_peers : {x : Board} (p : ℕ) (f : Frame) → PeersOk n b x → PeersOk n b (with_frame p f x)
  unfolding with_frame on_frames
  with_frame_peers p f h = peers_working (on_frames (λ fs. set fs p f)) refl h

  pub loaded_peers : (x : Board) → PeersOk n b x → PeersOk n b (loaded x)
  unfolding loaded
  loaded_peers x h = peers_kept refl refl h

  pub used_up_peers : (x : Board) → PeersOk n b x → PeersOk n b (used_up x)
  unfolding used_up
  used_up_peers x h = peers_working (use_up (records_left x)) (use_up_log (records_left x) x.working) h

  pub took_due_peers : (x : Board) → PeersOk n b x → PeersOk n b (took_due x)
  unfolding took_due
  took_due_peers x h = peers_working (took_gots (due x)) (took_gots_log (due x) x.working) h

  pub replayed_peers : (a : Access) (x : Board) → PeersOk n b x → PeersOk n b (replayed a x)
  unfolding replayed
  replayed_peers a x h = used_up_peers (on_working (accessed a) x) (accessed_peers a h)

  pub settled_peers : (owned : ℕ → Bool) (x : Board) → PeersOk n b x → PeersOk n b (settled owned x)
  unfolding settled
  settled_peers owned x h = peers_kept refl refl h

  -- ---- records gone

  pub powered_off_peers : (x : Board) → PeersOk n b x → PeersOk n b (powered_off x)
  unfolding powered_off
  powered_off_peers x h = record { volatile = each_nil; selected = h.selected; spare = h.spare }

  pub rested_peers : (x : Board) → PeersOk n b x → PeersOk n b (on_working rested_working x)
  unfolding on_working rested_working
  rested_peers x h = record { volatile = each_nil; selected = h.selected; spare = h.spare }

  pub stored_head_peers : (x : Board) → PeersOk n b x → PeersOk n b (stored_head x)
  unfolding stored_head on_spare
  stored_head_peers x h = record { volatile = h.volatile; selected = h.selected; spare = each_nil }

  -- ---- records moved

  pub stored_frame_peers : (p : ℕ) (x : Board) → PeersOk n b x → PeersOk n b (stored_frame p x)
  unfolding stored_frame on_spare
  stored_frame_peers p x h = record { volatile = h.volatile; selected = h.selected; spare = h.spare }

  pub stored_selector_peers : (x : Board) → PeersOk n b x → PeersOk n b (stored_selector x)
  unfolding stored_selector
  stored_selector_peers x h = record { volatile = h.volatile; selected = h.spare; spare = h.selected }

  pub stored_record_peers : (x : Board) → PeersOk n b x → PeersOk n b (stored_record x)
  unfolding moved_record appended
  stored_record_peers x h =
      stored_record_cases (PeersOk n b) x (λ e. h)
      (λ r rs e.
      let all : Each (PeerOk _ n b) (r ∷ rs) = rw e at h.volatile in
      record {
        volatile = each_tail all;
        selected = each_append x.stable.selected.log (r ∷ []) h.selected (each_cons (each_head all) each_nil);
        spare = h.spare;
      })

  -- ---- a record noted, which names another board

  module _ {x : Board} (peer : ℕ) (inside : peer < n) (other : peer ≢ b) where
    pub recorded_peers : (kind : Kind) (bytes : List ℕ) → PeersOk n b x → PeersOk n b (on_working (recorded kind peer bytes) x)
    unfolding on_working recorded appended PeerOk
    recorded_peers kind bytes h =
        record {
          volatile = each_append x.working.log _ h.volatile (each_cons (inside, other) each_nil);
          selected = h.selected;
          spare = h.spare;
        }

    pub took_copy_peers : (p : ℕ) (bytes : List ℕ) → PeersOk n b x → PeersOk n b (took_copy peer p bytes x)
    unfolding took_copy
    took_copy_peers p bytes h = with_frame_peers p _ (recorded_peers _ bytes h)

    pub dropped_peers : (p : ℕ) → PeersOk n b x → PeersOk n b (dropped peer p x)
    unfolding dropped
    dropped_peers p h = with_frame_peers p empty_frame (recorded_peers _ _ h)
