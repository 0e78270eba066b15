-- A power loss keeps the invariant: the board's entries above its recovery point are discarded, and what the others saw never rested on them.
-- Assumes nothing.
use Rattle.std.proofs.Math.Path.{◌≡◌, sym}
use Rattle.std.specs.Prelude.{refl, ◌≢◌, ℕ, zero, suc, ◌≤◌, ◌<◌, false, List, [], ◌∷◌, map, take, drop}
use Rattle.std.proofs.Common.{ap, ◌∙◌, arith, take-take}
use Rattle.std.proofs.Math.Bool.{true}
use Rattle.std.proofs.Math.Option.{Option, none}
use Rattle.std.proofs.Math.ListN.{length, length-take}
use Rattle.std.proofs.lemmas.List.{length-map}
use Rattle.words.specs.Bytes.{Each, each_nil}
use Rattle.types.specs.declared.Right.TheVariants.{Own}
use Rattle.model.specs.Definitions.Parts.{member, without_member}
use Rattle.model.specs.Definitions.Bank.{Entry, Board, Bank, board_at, frame_at, on_board, entry_in}
use Rattle.model.specs.Definitions.Codec.{page_of}
use Rattle.model.specs.Definitions.WellFormed.{WellFormed}
use Rattle.model.specs.Definitions.Steps.{powered_off, forgotten, power_off}
use Rattle.model.specs.Definitions.Replay.{count_sum, recovery_point}
use Rattle.model.proofs.Laws.Logic.{by_bool, by_eq, clash}
use Rattle.model.proofs.Laws.Lists.{each_imp}
use Rattle.model.proofs.Laws.Sets.{member_none, member_without_same, member_without_other, without_le}
use Rattle.model.proofs.Laws.Boards.{boards_power_off, board_at_power_off_same, board_at_power_off_other}
use Rattle.model.specs.History.Statement.{HistoryEntry, History, of_board, discard, zero_memory, OneMemory}
use Rattle.history.specs.Rerun.{Rebuilt, checkpointed, stable_entries, stable_trace, rebuilt}
use Rattle.history.specs.Invariant.{memory_after, unstable_write, Exclusive, CountsAgree, StableExplains, Explains, BoardInvariant, Invariant, nobody}
use Rattle.history.specs.Entries.{of_board_discard_same, of_board_discard_other, each_discard, discard_twice, discard_swap}
use Rattle.history.specs.Unstable.{unstable_write_discard_other, unstable_write_discard_same, exclusive_discard_same, exclusive_discard_other}
use Rattle.history.specs.Memory.{memory_after_discard, one_memory_discard}
use Rattle.history.specs.Traces.{take_drop}

-- what a power loss needs of its own board: nothing that it empties
pub record StableHolds (d : List Entry) (h : History) (b : ℕ) (x : Board) : Type 0 where
  pub stable : StableExplains x (of_board b h.entries)
  pub owned : (p : ℕ) → p < length d → (entry_in d p).owner ≡ b
      → frame_at (rebuilt x (of_board b h.entries)).frames p
      ≡ record { right = Own; bytes = memory_after zero_memory (discard b (recovery_point x) h.entries) p }
  pub exclusive : (p : ℕ) → Exclusive b (recovery_point x) p h.entries
  pub unstable : (p : ℕ) → p < length d → unstable_write b (recovery_point x) p h.entries ≡ true
      → ((entry_in d p).owner ≡ b) × ((entry_in d p).copies ≡ 0)

pub stable_part : {d : List Entry} {h : History} {g : Option Rebuilt} {b : ℕ} {x : Board} → BoardInvariant d h g b x → StableHolds d h b x
stable_part q = record { stable = q.stable; owned = q.owned; exclusive = q.exclusive; unstable = q.unstable }

-- the history after board b lost power at recovery point n
unfoldable pub lost_at : ℕ → ℕ → History → History
lost_at b n h = record { entries = discard b n h.entries; cursor = h.cursor }

-- ---- the directory without the board

owner_forgotten : (b : ℕ) (d : List Entry) (p : ℕ) → (entry_in (map (forgotten b) d) p).owner ≡ (entry_in d p).owner
unfolding forgotten
owner_forgotten b [] p = refl
owner_forgotten b (e ∷ d) zero = refl
owner_forgotten b (e ∷ d) (suc p) = owner_forgotten b d p

copies_forgotten : (b : ℕ) (d : List Entry) (p : ℕ) → p < length d → (entry_in (map (forgotten b) d) p).copies ≡ without_member b (entry_in d p).copies
unfolding forgotten
copies_forgotten b [] p h = absurd (omega arith)
copies_forgotten b (e ∷ d) zero h = refl
copies_forgotten b (e ∷ d) (suc p) h = copies_forgotten b d p (omega arith)

without_zero : (b : ℕ) → without_member b 0 ≡ 0
without_zero b = let r : without_member b 0 ≤ 0 = without_le b 0 in omega arith

-- ---- the board itself

-- its stable entries are all kept, and no others
stable_entries_lost : (x : Board) (es : List HistoryEntry) → stable_entries (powered_off x) (take (recovery_point x) es) ≡ stable_entries x es
unfolding stable_entries powered_off recovery_point
stable_entries_lost x es =
    let n : ℕ = x.stable.selected.number in
    let c : ℕ = count_sum x.stable.selected.log in
    rw (← take_drop c n es) (take-take c c (drop n es) (omega arith))

rebuilt_lost : (x : Board) (es : List HistoryEntry) → rebuilt (powered_off x) (take (recovery_point x) es) ≡ rebuilt x es
unfolding rebuilt stable_trace checkpointed powered_off
rebuilt_lost x es = cc (stable_entries_lost x es)

pub recovery_lost : (x : Board) → recovery_point (powered_off x) ≡ recovery_point x
unfolding recovery_point powered_off
recovery_lost x = refl

stable_lost : (x : Board) (es : List HistoryEntry) → StableExplains x es → StableExplains (powered_off x) (take (recovery_point x) es)
unfolding stable_trace checkpointed powered_off recovery_point
stable_lost x es q =
    record {
      reached = simp length-take (let r : recovery_point x ≤ length es = q.reached in omega arith);
      accepted = rw (stable_entries_lost x es) q.accepted;
    }

module _ (b : ℕ) (d : List Entry) (h : History) (x : Board) (q : StableHolds d h b x) where
  kept : of_board b (discard b (recovery_point x) h.entries) ≡ take (recovery_point x) (of_board b h.entries)
  kept = of_board_discard_same b (recovery_point x) h.entries

  this_holds : BoardInvariant (map (forgotten b) d) (lost_at b (recovery_point x) h) none b (powered_off x)
  unfolding lost_at powered_off CountsAgree Explains
  this_holds =
      record {
        counts = rw (kept, length-take, recovery_lost x) (let r : recovery_point x ≤ length (of_board b h.entries) = q.stable.reached in omega arith);
        stable = rw kept (stable_lost x (of_board b h.entries) q.stable);
        explained = tt;
        ahead = λ p t j u. let z : ◌≡◌ {A = ℕ} 0 1 = cc in absurd (omega arith);
        copies = λ p j m.
            clash (rw (copies_forgotten b d p (rw (length-map d (forgotten b)) at j)) at m) (member_without_same b (entry_in d p).copies);
        owned = λ p j o.
            rw (kept, rebuilt_lost x (of_board b h.entries), recovery_lost x, discard_twice b (recovery_point x) h.entries)
            (q.owned p (rw (length-map d (forgotten b)) at j) (rw (owner_forgotten b d p) at o));
        exclusive = λ p. rw (recovery_lost x) (exclusive_discard_same b (recovery_point x) p h.entries);
        unstable = λ p j u.
            clash u (rw (recovery_lost x) (unstable_write_discard_same b (recovery_point x) p h.entries));
        volatile = each_nil;
      }

  -- ---- another board

  module _ (c : ℕ) (y : Board) (n : c ≢ b) (r : BoardInvariant d h none c y) where
    -- a page that another board holds or owns was not written past the recovery point
    quiet_held : (p : ℕ) → p < length d → member c (entry_in d p).copies ≡ true → unstable_write b (recovery_point x) p h.entries ≡ false
    quiet_held p j m =
        by_bool (unstable_write b (recovery_point x) p h.entries)
        (λ u. clash m (rw (q.unstable p j u).1 (member_none c)))
        (λ u. u)

    quiet_owned : (p : ℕ) → p < length d → (entry_in d p).owner ≡ c → unstable_write b (recovery_point x) p h.entries ≡ false
    quiet_owned p j o =
        by_bool (unstable_write b (recovery_point x) p h.entries)
        (λ u. absurd (n (sym o ∙ (q.unstable p j u).0)))
        (λ u. u)

    same : of_board c (discard b (recovery_point x) h.entries) ≡ of_board c h.entries
    same = of_board_discard_other b c (recovery_point x) h.entries n

    other_holds : BoardInvariant (map (forgotten b) d) (lost_at b (recovery_point x) h) none c y
    unfolding lost_at
    other_holds =
        record {
          counts = rw same r.counts;
          stable = rw same r.stable;
          explained = rw same r.explained;
          ahead = λ p t j u e. let z : ◌≡◌ {A = ℕ} 0 1 = cc in absurd (omega arith);
          copies = λ p j m.
              let i : p < length d = rw (length-map d (forgotten b)) at j in
              let m' : member c (entry_in d p).copies ≡ true = sym (member_without_other b c (entry_in d p).copies n) ∙ (rw (copies_forgotten b d p i) at m) in
              r.copies p i m' ∙ sym (memory_after_discard b (recovery_point x) p h.entries zero_memory (quiet_held p i m'));
          owned = λ p j o.
              let i : p < length d = rw (length-map d (forgotten b)) at j in
              let o' : (entry_in d p).owner ≡ c = rw (owner_forgotten b d p) at o in
              rw (
                same,
                discard_swap c b (recovery_point y) (recovery_point x) h.entries n,
                memory_after_discard b (recovery_point x) p (discard c (recovery_point y) h.entries) zero_memory
                    (unstable_write_discard_other c b (recovery_point x) (recovery_point y) p h.entries (λ e. n (sym e)) ∙ quiet_owned p i o'),
              )
              (r.owned p i o');
          exclusive = λ p. exclusive_discard_other b c (recovery_point y) (recovery_point x) p h.entries n (r.exclusive p);
          unstable = λ p j u.
              let i : p < length d = rw (length-map d (forgotten b)) at j in
              let a : ((entry_in d p).owner ≡ c) × ((entry_in d p).copies ≡ 0) =
              r.unstable p i (sym (unstable_write_discard_other b c (recovery_point y) (recovery_point x) p h.entries n) ∙ u) in
              (owner_forgotten b d p ∙ a.0, copies_forgotten b d p i ∙ (ap (without_member b) a.1 ∙ without_zero b));
          volatile =
              each_imp y.working.log (λ s f o. f (rw (owner_forgotten b d (page_of s.kind)) at o)) r.volatile;
        }

-- the directory after a power loss, as it stands in a goal
directory : (b : ℕ) (k : Bank) {h : History} {g : Option Rebuilt} {c : ℕ} {x : Board} → BoardInvariant (map (forgotten b) k.directory) h g c x
    → BoardInvariant (power_off b k).directory h g c x
unfolding power_off on_board
directory b k q = q

-- A power loss of board b. Of b itself only the stable part is asked, so that it may come between any two steps.
pub power_off_invariant : (b : ℕ) (k : Bank) (h : History) → b < length k.boards → WellFormed (power_off b k)
    → OneMemory zero_memory h.entries
    → Each (λ e. e.board < length k.boards) h.entries
    → ((c : ℕ) → c < length k.boards → c ≢ b → BoardInvariant k.directory h none c (board_at k c))
    → StableHolds k.directory h b (board_at k b)
    → Invariant nobody (power_off b k) (lost_at b (recovery_point (board_at k b)) h)
unfolding nobody lost_at
power_off_invariant b k h i w m known others q =
    record {
      formed = w;
      memory = one_memory_discard b (recovery_point (board_at k b)) h.entries zero_memory m q.exclusive;
      known = rw (boards_power_off b k) (each_discard b (recovery_point (board_at k b)) h.entries known);
      boards = λ c j.
          let l : c < length k.boards = rw (boards_power_off b k) at j in
          by_eq c b
          (λ e. rw (e, board_at_power_off_same b k i) (directory b k (this_holds b k.directory h (board_at k b) q)))
          (λ n. rw (board_at_power_off_other b k c n) (directory b k (other_holds b k.directory h (board_at k b) q c (board_at k c) n (others c l n))));
    }
