-- Every call keeps banks alike and answers alike. Premises: f keeps 0, and a byte a byte and what is no byte no byte, because code 2 tests a written value;
-- nothing else is asked of a byte. Assumes nothing.
use Rattle.std.specs.Prelude.{◌≡◌, Bool, true, ◌&&◌, length}
use Rattle.std.proofs.Math.Path.{refl}
use Rattle.std.proofs.Common.{ap, ◌∙◌}
use Prim.Native.Nat.{ℕ, zero, suc}
use Rattle.std.proofs.Math.Bool.{not}
use Rattle.std.proofs.Math.Dec.{ltb}
use Rattle.types.specs.declared.State.{State}
use Rattle.types.specs.declared.Kind.{Kind}
use Rattle.types.specs.declared.Record.{Record}
use Rattle.model.specs.Definitions.Layout.{byte_values, no_fuse}
use Rattle.model.specs.Definitions.Bank.{Bank}
use Rattle.model.specs.Definitions.WellFormed.{is_up, is_down, is_got}
use Rattle.model.specs.Definitions.Logs.{is_shown, pages_naming, unmatched_in, compared_in_order, compared_logs}
use Rattle.model.specs.Definitions.Steps.{Run, start, step, fuse_board}
use mathlib.Core.List.{List, [], ◌∷◌}
use Rattle.types.specs.declared.Answer.TheVariants.{OutOfRange, WrongState}
use Rattle.model.specs.Definitions.Calls.{unless, finished, checkpoint_bank, fuse_bank, restart_bank, compare_bank, Call, Accessing}
use Rattle.model.specs.Definitions.Calls.{Checkpointing, Fusing, Restarting, Comparing, call_within}
use Rattle.model.specs.Moves.{LosePower, SetFuse, does}
use Rattle.model.specs.Likeness.{pairs_nil, pairs_cons, BoardAlike, Alike, mapped_access, mapped, mapped_call, mapped_value, mapped_call_value, on_value}
use Rattle.model.specs.Likeness.{RunAlike, ResultAlike, Change, EachPair, RecordAlike, reads_names}
use Rattle.model.proofs.Laws.Codes.Cases.{compared_cases}
use Rattle.model.proofs.Laws.Likeness.{pairs_length, alike_board_at, alike_on_board}
use Rattle.model.proofs.Laws.Likeness.Moves.{alike_load, moves_alike}
use Rattle.model.proofs.Laws.Likeness.Accesses.{alike_checkpoint, alike_end_if_over, alike_start, alike_unless, alike_finished, alike_access_within}

module _ (f : Change) (z : f.bytes 0 ≡ 0) where
  -- the board that a call names is there on both sides or on neither
  same_there : (b : ℕ) {k j : Bank} → Alike f k j → ltb b (length j.boards) ≡ ltb b (length k.boards)
  same_there b e = ap (λ (n : ℕ). ltb b n) (pairs_length (BoardAlike f) e.boards)

  -- a call that refuses by its numbers and by the state of its board, and answers a number that is no page byte
  alike_tested : (b : ℕ) {t u v w : Bool} {m n : ℕ} {k j : Bank} {r s : Run} → v ≡ t → w ≡ u → n ≡ m → Alike f k j → RunAlike f r s
      → ResultAlike f (λ x. x) (unless ((t, OutOfRange) ∷ (u, WrongState b) ∷ []) (start k) (finished m [] r))
      (unless ((v, OutOfRange) ∷ (w, WrongState b) ∷ []) (start j) (finished n [] s))
  unfolding on_value
  alike_tested b range state value e q =
      alike_unless f (λ x. x) (pairs_cons (range, refl) (pairs_cons (state, refl) pairs_nil)) (alike_start f e) (alike_finished f (λ x. x) [] value refl q)

  alike_checkpoint_bank : (b : ℕ) {k j : Bank} → Alike f k j → ResultAlike f (λ x. x) (checkpoint_bank b k) (checkpoint_bank b j)
  unfolding checkpoint_bank
  alike_checkpoint_bank b e =
      alike_tested b (ap not (same_there b e)) (ap (λ (s : State). not (is_up s)) (alike_board_at f b e).state) refl e
      (alike_checkpoint f z b (alike_start f e))

  alike_fuse_board : (b n : ℕ) {k j : Bank} → Alike f k j → RunAlike f (step (fuse_board b n) (start k)) (step (fuse_board b n) (start j))
  unfolding fuse_board does mapped
  alike_fuse_board b zero e = moves_alike f z (LosePower b) (alike_start f e)
  alike_fuse_board b (suc n) e = moves_alike f z (SetFuse b (suc n)) (alike_start f e)

  alike_fuse_bank : (b n : ℕ) {k j : Bank} → Alike f k j → ResultAlike f (λ x. x) (fuse_bank b n k) (fuse_bank b n j)
  unfolding fuse_bank
  alike_fuse_bank b n e =
      alike_tested b (ap (λ (t : Bool). not (t && ltb n no_fuse)) (same_there b e)) (ap is_down (alike_board_at f b e).state) refl e (alike_fuse_board b n e)

  alike_restart_bank : (b : ℕ) {k j : Bank} → Alike f k j → ResultAlike f (λ x. x) (restart_bank b k) (restart_bank b j)
  unfolding restart_bank
  alike_restart_bank b e =
      let x : BoardAlike f _ _ = alike_board_at f b e in
      alike_tested b (ap not (same_there b e)) (ap (λ (s : State). not (is_down s)) x.state) x.stable.selected.number e
      (alike_end_if_over f z b (alike_start f (alike_on_board f b (alike_load f z) _ _ e)))

  -- two logs held against each other, where every name stands for itself alone
  module _ (same : (x y : ℕ) → f.Peers x y → y ≡ x) where
    alike_pages : (such : Kind → Bool) (peer : ℕ) {rs qs : List Record} → EachPair (RecordAlike f) rs qs → pages_naming such peer qs ≡ pages_naming such peer rs
    unfolding pages_naming
    alike_pages such peer pairs_nil = refl
    alike_pages such peer (pairs_cons r e) = cc (r.kind, same _ _ r.peer, alike_pages such peer e)

    alike_unmatched : (x y : ℕ) {k j : Bank} → Alike f k j → unmatched_in x y j ≡ unmatched_in x y k
    unfolding unmatched_in
    alike_unmatched x y e =
        cc (
          alike_pages is_got x (alike_board_at f y e).stable.selected.log,
          alike_pages is_shown y (alike_board_at f x e).stable.selected.log,
        )

    alike_compared : (b c : ℕ) {k j : Bank} → Alike f k j → compared_logs b c j ≡ compared_logs b c k
    unfolding compared_logs compared_in_order
    alike_compared b c e = cc (alike_unmatched b c e, alike_unmatched c b e)

    alike_compare_bank : (b c : ℕ) {k j : Bank} → Alike f k j → ResultAlike f (λ x. x) (compare_bank b c k) (compare_bank b c j)
    unfolding compare_bank on_value
    alike_compare_bank b c {k} {j} e =
        alike_unless f (λ x. x)
        (pairs_cons (cc (same_there b e, same_there c e), refl) (pairs_cons (refl, refl) pairs_nil))
        (alike_start f e)
        (record {
          answer = alike_compared b c e ∙ compared_cases (λ x. x ≡ on_value (λ v. v) x) (λ i d. refl) b c k;
          run = alike_start f e;
          given = refl;
        })

  -- whatever the largest since
  pub calls_alike : ((v : ℕ) → ltb (f.bytes v) byte_values ≡ ltb v byte_values) → (largest : ℕ) (c : Call)
      → (reads_names c ≡ true → (x y : ℕ) → f.Peers x y → y ≡ x) → {k j : Bank} → Alike f k j
      → ResultAlike f (mapped_call_value f.bytes c) (call_within largest c k) (call_within largest (mapped_call f.bytes c) j)
  unfolding call_within mapped_call mapped_call_value mapped_access mapped_value reads_names
  calls_alike bytes largest (Accessing b a) n e = alike_access_within f z b a bytes largest e
  calls_alike bytes largest (Checkpointing b) n e = alike_checkpoint_bank b e
  calls_alike bytes largest (Fusing b n) m e = alike_fuse_bank b n e
  calls_alike bytes largest (Restarting b) n e = alike_restart_bank b e
  calls_alike bytes largest (Comparing b c) n e = alike_compare_bank (n refl) b c e
