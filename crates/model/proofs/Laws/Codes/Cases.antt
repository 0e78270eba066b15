-- The cases of a call on a bank, for anything that holds of its result: each refusal with its code, then each way to go on. Assumes nothing.
use Rattle.std.specs.Prelude.{◌≡◌, ◌⊎◌, ℕ, ◌≤◌, ◌&&◌, not, length, eqb}
use Rattle.std.proofs.Common.{inl, inr, arith}
use Rattle.std.proofs.Math.Bool.{Bool, true, false}
use Rattle.std.proofs.Math.Option.{none, some}
use mathlib.Core.List.{[], ◌∷◌}
use Rattle.std.proofs.Math.Dec.{ltb}
use Rattle.types.specs.declared.Answer.{Answer}
use Rattle.types.specs.declared.Answer.TheVariants.{OutOfRange, WrongState, CountersFull, ReplayDiffers, OwnerNotUp, LogFull, PowerLost, WrongCells}
use Rattle.types.specs.declared.Answer.TheVariants.{Compared, SameBoard}
use Rattle.model.specs.Definitions.Layout.{last_since}
use Rattle.model.specs.Definitions.Bank.{Board, Bank, board_at, entry_at, on_board}
use Rattle.model.specs.Definitions.WellFormed.{is_down, is_replaying}
use Rattle.model.specs.Definitions.Answers.{code}
use Rattle.model.specs.Definitions.Steps.{Run, start, Access, value_of, given_of}
use Rattle.model.specs.Definitions.Logs.{unmatched_in, compared_in_order, compared_logs}
use Rattle.model.specs.Definitions.Replay.{differs, took_due, replay_over, end_if_over, replayed}
use Rattle.model.specs.Definitions.Calls.{Result, unless, finished, short_board, is_some, number_in, page_missing, live_refusals, prepared, performed, live}
use Rattle.model.specs.Definitions.Calls.{live_after_end, replaying, access_in_range, wrong_cells, counters_full, refusals_within, access_within, access_bank}
use Rattle.model.specs.Definitions.Calls.{compare_bank}
use Rattle.model.proofs.Laws.Logic.{cases, cases_option}
use Rattle.model.specs.Laws.Codes.Statement.{after_replay}
use Rattle.model.proofs.Laws.Codes.Order.{unless_test, unless_go}

-- what two logs held against each other answer is a place
pub compared_cases : (P : Answer → Type 0) → ((i d : ℕ) → P (Compared i d)) → (b c : ℕ) (k : Bank) → P (compared_logs b c k)
unfolding compared_logs compared_in_order
compared_cases P h b c k = cases P (ltb b c) (λ l. ordered b c) (λ l. ordered c b)
  where
    ordered : (x y : ℕ) → P (compared_in_order x y k)
    ordered x y =
        cases P (eqb (unmatched_in x y k) 0)
        (λ t. cases P (eqb (unmatched_in y x k) 0) (λ u. h 0 0) (λ u. h _ x))
        (λ t. h _ y)

module _ (P : Result → Type 0) where
  -- the two tests of a checkpoint, a fuse and a restart, and then it runs
  pub plain_cases : (k : Bank) (b : ℕ) (out wrong : Bool) (go : Result)
      → ((x : Answer) → 2 ≤ code x → code x ≤ 3 → P (record { answer = x; run = start k; given = [] }))
      → (out ≡ false → wrong ≡ false → P go)
      → P (unless ((out, OutOfRange) ∷ (wrong, WrongState b) ∷ []) (start k) go)
  unfolding code
  plain_cases k b out wrong go refusal on =
      unless_test P out OutOfRange ((wrong, WrongState b) ∷ []) (start k) go
      (λ t. refusal OutOfRange (omega arith) (omega arith))
      (λ t.
      unless_test P wrong (WrongState b) [] (start k) go
      (λ u. refusal (WrongState b) (omega arith) (omega arith))
      (λ u. unless_go P (start k) go (on t u)))

  -- two logs held against each other
  pub compare_cases : (b c : ℕ) (k : Bank)
      → ((x : Answer) → 2 ≤ code x → (code x ≤ 5) ⊎ (10 ≤ code x) → P (record { answer = x; run = start k; given = [] }))
      → ((i d : ℕ) → P (record { answer = Compared i d; run = start k; given = [] }))
      → P (compare_bank b c k)
  unfolding compare_bank code
  compare_cases b c k refusal on =
      let go : Result = record { answer = compared_logs b c k; run = start k; given = [] } in
      unless_test P (not (ltb b (length k.boards) && ltb c (length k.boards))) OutOfRange ((eqb b c, SameBoard) ∷ []) (start k) go
      (λ t. refusal OutOfRange (omega arith) (inl (omega arith)))
      (λ t.
      unless_test P (eqb b c) SameBoard [] (start k) go
      (λ u. refusal SameBoard (omega arith) (inr (omega arith)))
      (λ u. unless_go P (start k) go (compared_cases (λ x. P (record { answer = x; run = start k; given = [] })) on b c k)))

  module _ (b : ℕ) (a : Access) where
    pub live_cases : (r : Run) → ((x : Answer) → 6 ≤ code x → code x ≤ 7 → P (record { answer = x; run = r; given = [] }))
        → P (performed b a (prepared b a r))
        → P (live b a r)
    unfolding live live_refusals code
    live_cases r refusal on =
        let j : Bank = r.bank in
        let missing : Answer = OwnerNotUp (entry_at j (number_in (page_missing b a j))).owner in
        let full : Answer = LogFull (number_in (short_board b a j)) in
        let go : Result = performed b a (prepared b a r) in
        unless_test P (is_some (page_missing b a j)) missing ((is_some (short_board b a j), full) ∷ []) r go
        (λ t. refusal missing (omega arith) (omega arith))
        (λ t.
        unless_test P (is_some (short_board b a j)) full [] r go
        (λ u. refusal full (omega arith) (omega arith))
        (λ u. unless_go P r go on))

    pub replaying_cases : (k : Bank)
        → ((after_replay b k).lost ≡ none → P (live b a (after_replay b k)))
        → ((c : ℕ) → (after_replay b k).lost ≡ some c → P (record { answer = PowerLost c; run = after_replay b k; given = [] }))
        → P
        (finished
        (value_of a (board_at (on_board b took_due k) b).working.frames)
        (given_of a (board_at (on_board b took_due k) b).working.frames)
        (end_if_over b (start (on_board b (replayed a) (on_board b took_due k)))))
        → P (replaying b a k)
    unfolding replaying live_after_end after_replay
    replaying_cases k on lost not_over =
        cases P (replay_over (board_at (on_board b took_due k) b))
        (λ t. cases_option P (after_replay b k).lost on lost)
        (λ t. not_over)

    pub access_cases : (k : Bank)
        → ((x : Answer) → 2 ≤ code x → (code x ≤ 5) ⊎ (10 ≤ code x) → P (record { answer = x; run = start k; given = [] }))
        → (is_down (board_at k b).state ≡ false → is_replaying (board_at k b).state ≡ true → P (replaying b a k))
        → (is_down (board_at k b).state ≡ false → is_replaying (board_at k b).state ≡ false → P (live b a (start k)))
        → P (access_bank b a k)
    unfolding access_within refusals_within code
    access_cases k refusal replay on =
        let x : Board = board_at k b in
        let go : Result = elim (is_replaying x.state) [ true ↦ replaying b a k | false ↦ live b a (start k) ] in
        let t5 : Bool × Answer = (is_replaying x.state && differs a x, ReplayDiffers b) in
        let t4 : Bool × Answer = (counters_full last_since x, CountersFull b) in
        let t3 : Bool × Answer = (is_down x.state, WrongState b) in
        unless_test P (not (access_in_range b a k)) OutOfRange ((wrong_cells a, WrongCells) ∷ t3 ∷ t4 ∷ t5 ∷ []) (start k) go
        (λ t. refusal OutOfRange (omega arith) (inl (omega arith)))
        (λ t.
        unless_test P (wrong_cells a) WrongCells (t3 ∷ t4 ∷ t5 ∷ []) (start k) go
        (λ t. refusal WrongCells (omega arith) (inr (omega arith)))
        (λ t.
        unless_test P t3.0 t3.1 (t4 ∷ t5 ∷ []) (start k) go
        (λ t. refusal t3.1 (omega arith) (inl (omega arith)))
        (λ d.
        unless_test P t4.0 t4.1 (t5 ∷ []) (start k) go
        (λ t. refusal t4.1 (omega arith) (inl (omega arith)))
        (λ t.
        unless_test P t5.0 t5.1 [] (start k) go
        (λ t. refusal t5.1 (omega arith) (inl (omega arith)))
        (λ t. unless_go P (start k) go (cases P (is_replaying x.state) (replay d) (on d)))))))
