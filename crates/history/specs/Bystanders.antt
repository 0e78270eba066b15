-- A board that is not up is left alone by every call of another board; and a board that is up doesn't replay when the call is over. Assumes nothing.
use Rattle.std.specs.Prelude.{◌≡◌, refl, ◌≢◌, ℕ, ◌<◌, [], length, eqb}
use Rattle.std.proofs.Common.{sym, ap, ◌∙◌}
use Rattle.std.proofs.Math.Bool.{false}
use Rattle.std.proofs.Math.Option.{none}
use borrow.Author.Tests.{ne_eqb}
use Rattle.types.specs.declared.State.{State}
use Rattle.types.specs.declared.State.TheVariants.{Up}
use Rattle.model.specs.Definitions.Parts.{member}
use Rattle.model.specs.Definitions.Bank.{Board, Bank, board_at, entry_at, on_board, on_working, on_spare}
use Rattle.model.specs.Definitions.WellFormed.{WellFormed, is_replaying}
use Rattle.model.specs.Definitions.Steps.{Run, start, step, powered_off, power_off, burnt, with_fuse, store, note, Access, access, stored_frame, stored_head}
use Rattle.model.specs.Definitions.Steps.{stored_selector}
use Rattle.model.specs.Definitions.Replay.{took_due, replayed, settled, end_replay, settle}
use Rattle.model.specs.Definitions.Calls.{Call, call_bank, live}
use Rattle.model.specs.Clauses.{InReplay, WellFormedBut, CanAccess}
use Rattle.model.specs.Moves.{Move, does, Phase, Begun, Noted, Fetched, Replays, Settled, Finished, MayStore, anyone, taker, ender, checkpoints, resumes}
use Rattle.model.specs.Moves.{TakesCopy, first, behind}
use Rattle.model.specs.Moves.{closes, Guard, notes_shown, notes_got, stores_record, stores_frame, stores_head, stores_selector, gives_copy, passes_ownership}
use Rattle.model.specs.Moves.{drops_copies, performs, loses_power, sets_fuse, loads, repeats_access, takes_last, settles, Moves, still}
use Rattle.model.proofs.Laws.Logic.{by_eq, by_option}
use Rattle.model.proofs.Laws.Boards.{dropped_if, board_at_same, board_at_other, board_at_out, board_at_power_off_other, board_at_power_off_same, board_at_give_copy_other}
use Rattle.model.proofs.Laws.Boards.{board_at_drop_copies, board_at_pass_ownership_other, by_board}
use Rattle.model.proofs.Laws.Runs.{lost_not, step_lost, step_cases, store_cases, step_going, SameSizes, sizes_drop_copies, sizes_pass_ownership}
use Rattle.model.proofs.Laws.Keeps.Clauses.{fits, up_below, up_not_down, up_not_replaying}
use Rattle.model.proofs.Laws.Keeps.Replay.{settle_restores}
use Rattle.model.proofs.Laws.Moves.{induct}
use Rattle.model.proofs.Laws.Moves.Formed.{FormedIn, FormedRun, formed_begun, induct_formed}
use Rattle.model.proofs.Laws.Moves.Stores.{checkpoint_moves}
use Rattle.model.proofs.Laws.Moves.Calls.{makes_now, live_moves, call_moves}
use Rattle.model.proofs.Laws.States.{SameStates, states_on_board, states_give_copy, states_drop_copies, states_pass_ownership}
use Rattle.model.proofs.Laws.Runs.Stores.{burnt_state, flushed_stored_record}
use Rattle.model.specs.History.Statement.{Event}
use Rattle.model.specs.Laws.Codes.Statement.{board_named}

-- ==== a call of another board

-- a board that isn't there stays so
leaves_in : (b : ℕ) {k j : Bank} → SameSizes k j → (b < length k.boards → board_at j b ≡ board_at k b) → board_at j b ≡ board_at k b
leaves_in b {k} {j} s f = by_board k b f (λ l. board_at_out j b (rw s.boards l) ∙ sym (board_at_out k b l))

step_leaves : (b : ℕ) (f : Bank → Bank) (s : Run) → board_at (f s.bank) b ≡ board_at s.bank b → board_at (step f s).bank b ≡ board_at s.bank b
step_leaves b f s h = step_cases (λ u. board_at u.bank b ≡ board_at s.bank b) f s (λ c e. refl) (λ e. h)

store_leaves : (b c : ℕ) (f : Board → Board) (s : Run) → b ≢ c → board_at (store c f s).bank b ≡ board_at s.bank b
store_leaves b c f s n =
    let k : Bank = on_board c burnt (on_board c f s.bank) in
    let e : board_at k b ≡ board_at s.bank b = board_at_other c burnt (on_board c f s.bank) b n ∙ board_at_other c f s.bank b n in
    store_cases (λ u. board_at u.bank b ≡ board_at s.bank b) c f s (λ d z. refl) (λ z y. board_at_power_off_other c k b n ∙ e) (λ z y. e)

module _ (b : ℕ) {d : ℕ} {Again : Access → Type 0} (other : b ≢ d) where
  -- whoever else acts is up
  move_leaves : {χ : Phase} (s : Run) {ψ : Phase} (m : Move) → s.lost ≡ none → Guard d Again s.bank m χ ψ → FormedRun d χ s → (board_at s.bank b).state ≢ Up
      → board_at (does m s).bank b ≡ board_at s.bank b
  unfolding does note access settle FormedIn dropped_if entry_at
  move_leaves s _ n (notes_shown c p u m l v) w i = step_leaves b _ s (board_at_other c _ s.bank b (λ e. i (rw e u)))
  move_leaves s _ n (notes_got o p u m l r v) w i = step_leaves b _ s (board_at_other d _ s.bank b other)
  move_leaves s _ n (stores_record c o u) w i = store_leaves b c _ s (λ e. i (rw e u))
  move_leaves s _ n (stores_frame c p o u) w i = store_leaves b c _ s (λ e. i (rw e u))
  move_leaves s _ n (stores_head c o u) w i = store_leaves b c _ s (λ e. i (rw e u))
  move_leaves s _ n (stores_selector c o u v) w i =
      let m : b ≢ c = λ e. i (rw e u) in
      step_leaves b _ (store c stored_selector s) (board_at_other c _ (store c stored_selector s).bank b m) ∙ store_leaves b c stored_selector s m
  move_leaves s _ n (gives_copy a o p x c y g u m r) w i = step_leaves b _ s (board_at_give_copy_other o d p s.bank b other)
  move_leaves s _ n (passes_ownership a o p c y g own v m) w i =
      step_leaves b _ s
      (leaves_in b (sizes_pass_ownership o d p s.bank)
      (λ l.
      let holds : member b (entry_at s.bank p).copies ≡ false = (fits (w.going n) b l).agreed.copies i p g.page in
      cc (board_at_pass_ownership_other o d p s.bank b l other, ne_eqb b o (λ e. i (rw e g.secure.up)), holds)))
  move_leaves s _ n (drops_copies p l own m) w i =
      step_leaves b _ s
      (leaves_in b (sizes_drop_copies d p s.bank)
      (λ j.
      let holds : member b (entry_at s.bank p).copies ≡ false = (fits (w.going n) b j).agreed.copies i p l in
      cc (board_at_drop_copies d p s.bank b j, holds)))
  move_leaves s _ n (performs a z can has out) w i = step_leaves b _ s (board_at_other d _ s.bank b other)
  move_leaves s _ n (loses_power l) w i = step_leaves b _ s (board_at_power_off_other d s.bank b other)
  move_leaves s _ n (sets_fuse m p low high) w i = step_leaves b _ s (board_at_other d _ s.bank b other)
  move_leaves s _ n (loads l down) w i = step_leaves b _ s (board_at_other d _ s.bank b other)
  move_leaves s _ n (repeats_access a z e rep same over) w i =
      step_leaves b _ s (board_at_other d (replayed a) (on_board d took_due s.bank) b other ∙ board_at_other d took_due s.bank b other)
  move_leaves s _ n (takes_last a e rep same over) w i = step_leaves b _ s (board_at_other d _ s.bank b other)
  move_leaves s _ n (settles l rep over) w i = step_leaves b _ s (board_at_other d _ s.bank b other)

-- whatever its numbers and its answer
pub call_leaves : (c : Call) (b : ℕ) (k : Bank) → WellFormed k → board_named c ≢ b → (board_at k b).state ≢ Up → board_at (call_bank c k).run.bank b ≡ board_at k b
unfolding start
call_leaves c b k w n idle =
    induct_formed (λ χ s. board_at s.bank b ≡ board_at k b)
    (λ χ ψ s m e a f g i. move_leaves b (λ z. n (sym z)) s m e a f (λ u. idle (ap (λ (x : Board). x.state) (sym i) ∙ u)) ∙ i)
    (λ e s m o f i. i)
    (λ s i. i)
    (λ χ ψ s d e i. i)
    (call_moves c k w)
    (formed_begun (board_named c) (start k) w)
    refl

-- ==== the call of an up board

-- it stays up, so no phase of a replay is reached
unfoldable UpIn : Phase → State → Type 0
UpIn Begun x = x ≡ Up
UpIn (Noted o p) x = x ≡ Up
UpIn (Fetched a os ps) x = x ≡ Up
UpIn (Replays e) x = ⊥
UpIn (Settled e) x = ⊥
UpIn (Finished e o) x = Unit

record Awake (d : ℕ) (χ : Phase) (s : Run) : Type 0 where
  idle : is_replaying (board_at s.bank d).state ≡ false
  going : s.lost ≡ none → UpIn χ (board_at s.bank d).state

idle_up : {x : State} → x ≡ Up → is_replaying x ≡ false
unfolding is_replaying
idle_up e = rw e

step_awake : {d : ℕ} {ψ : Phase} (f : Bank → Bank) (s : Run) → SameStates s.bank (f s.bank) → (board_at s.bank d).state ≡ Up
    → ((x : State) → x ≡ Up → UpIn ψ x) → Awake d ψ (step f s)
step_awake {d} {ψ} f s same u h =
    let v : (board_at (step f s).bank d).state ≡ Up = step_cases (λ r. (board_at r.bank d).state ≡ Up) f s (λ c e. u) (λ e. same d ∙ u) in
    record { idle = idle_up v; going = λ n. h (board_at (step f s).bank d).state v }

store_awake : {d : ℕ} {ψ : Phase} (b : ℕ) (f : Board → Board) (s : Run) → s.lost ≡ none → ((x : Board) → (f x).state ≡ x.state)
    → (board_at s.bank d).state ≡ Up
    → ((x : State) → x ≡ Up → UpIn ψ x) → Awake d ψ (store b f s)
unfolding powered_off is_replaying
store_awake {d} {ψ} b f s n keeps u h =
    let k : Bank = on_board b burnt (on_board b f s.bank) in
    let v : (board_at k d).state ≡ Up = states_on_board b burnt (on_board b f s.bank) (burnt_state _) d ∙ states_on_board b f s.bank (keeps _) d ∙ u in
    store_cases (Awake d ψ) b f s
    (λ c e. lost_not n e)
    (λ e z.
    record {
      idle =
          by_eq d b
          (λ i. rw (i, board_at_power_off_same b k (up_below k b (rw i at v))))
          (λ m. idle_up (ap (λ (x : Board). x.state) (board_at_power_off_other b k d m) ∙ v));
      going = λ e. lost_not e refl;
    })
    (λ e z. record { idle = idle_up v; going = λ e. h (board_at k d).state v })

off_awake : {d : ℕ} {e : Event} (s : Run) → s.lost ≡ none → d < length s.bank.boards → Awake d (Finished e []) (step (power_off d) s)
unfolding UpIn powered_off is_replaying
off_awake {d} s n l =
    let e : board_at (step (power_off d) s).bank d ≡ powered_off (board_at s.bank d) =
    ap (λ (k : Bank). board_at k d) (step_going (power_off d) s n) ∙ board_at_power_off_same d s.bank l in
    record { idle = ap (λ (x : Board). is_replaying x.state) e; going = λ m. tt }

stays_up : {d b : ℕ} {φ : Phase} {x : State} → MayStore d b φ → UpIn φ x → x ≡ Up
unfolding UpIn
stays_up anyone u = u
stays_up taker u = u
stays_up ender u = absurd u

up_stays : {d b : ℕ} {φ : Phase} → MayStore d b φ → (x y : State) → UpIn φ y → x ≡ Up → UpIn φ x
unfolding UpIn
up_stays anyone x y u e = e
up_stays taker x y u e = e
up_stays ender x y u e = u

takes_up : {a : Access} {o p : ℕ} {φ ψ : Phase} → TakesCopy a o p φ ψ → (x : State) → x ≡ Up → UpIn ψ x
unfolding UpIn
takes_up first x e = e
takes_up (behind l) x e = e

move_awake : {d : ℕ} {Again : Access → Type 0} {χ : Phase} (s : Run) {ψ : Phase} (m : Move) → s.lost ≡ none → Guard d Again s.bank m χ ψ → Awake d χ s
    → Awake d ψ (does m s)
unfolding does UpIn note access on_working stored_frame stored_head on_spare stored_selector with_fuse
move_awake s _ n (notes_shown b p u m l v) i = step_awake _ s (states_on_board b _ s.bank refl) (i.going n) (λ x e. e)
move_awake {d} s _ n (notes_got o p u m l r v) i = step_awake _ s (states_on_board d _ s.bank refl) u (λ x e. e)
move_awake s _ n (stores_record b o u) i = store_awake b _ s n (λ x. (flushed_stored_record x).state) (stays_up o (i.going n)) (λ x. up_stays o x _ (i.going n))
move_awake s _ n (stores_frame b p o u) i = store_awake b _ s n (λ x. refl) (stays_up o (i.going n)) (λ x. up_stays o x _ (i.going n))
move_awake s _ n (stores_head b o u) i = store_awake b _ s n (λ x. refl) (stays_up o (i.going n)) (λ x. up_stays o x _ (i.going n))
move_awake s _ n (stores_selector b checkpoints u v) i =
    let t : Awake _ Begun (store b stored_selector s) = store_awake b stored_selector s n (λ x. refl) (i.going n) (λ x e. e) in
    by_option (store b stored_selector s).lost
    (λ m. step_awake _ (store b stored_selector s) (states_on_board b _ (store b stored_selector s).bank refl) (t.going m) (λ x e. e))
    (λ c e. rw (step_lost _ (store b stored_selector s) e) t)
move_awake s _ n (stores_selector b resumes u v) i = absurd (i.going n)
move_awake s _ n (stores_selector b closes u v) i = absurd (i.going n)
move_awake {d} s _ n (gives_copy a o p x c y g u m r) i = step_awake _ s (states_give_copy o d p s.bank) u (takes_up x)
move_awake {d} s _ n (passes_ownership a o p c y g own v m) i = step_awake _ s (states_pass_ownership o d p s.bank) v.up (λ x e. e)
move_awake {d} s _ n (drops_copies p l own m) i = step_awake _ s (states_drop_copies d p s.bank) (i.going n) (λ x e. e)
move_awake {d} s _ n (performs a z can has out) i = step_awake _ s (states_on_board d _ s.bank refl) can.up (λ x e. tt)
move_awake {d} s _ n (loses_power l) i = off_awake s n l
move_awake {d} s _ n (sets_fuse m p low high) i = step_awake _ s (states_on_board d _ s.bank refl) (i.going n) (λ x e. e)
move_awake s _ n (loads l down) i = up_not_down (i.going n) down
move_awake s _ n (repeats_access a z e rep same over) i = up_not_replaying (i.going n) rep
move_awake s _ n (takes_last a e rep same over) i = up_not_replaying (i.going n) rep
move_awake s _ n (settles l rep over) i = absurd (i.going n)

-- a call of an up board leaves it up or down
pub up_moves : {d : ℕ} {Again : Access → Type 0} {χ : Phase} {r s : Run} → Moves d Again Begun r χ s → (board_at r.bank d).state ≡ Up
    → is_replaying (board_at s.bank d).state ≡ false
unfolding UpIn
up_moves {d} t u =
    (induct (Awake d)
    (λ χ ψ s m. move_awake s m)
    (λ e s n o i. absurd (i.going n))
    (λ s i. record { idle = i.idle; going = λ n. tt })
    (λ χ ψ s c e i. record { idle = i.idle; going = λ n. lost_not n e })
    t
    (record { idle = idle_up u; going = λ n. u })
    ).idle

pub end_replay_idle : (b : ℕ) (k : Bank) → b < length k.boards → WellFormedBut b InReplay k
    → is_replaying (board_at (end_replay b (start k)).bank b).state ≡ false
unfolding end_replay start step settle settled
end_replay_idle b k l w =
    let j : Bank = settle b k in
    let up : (board_at j b).state ≡ Up = ap (λ (x : Board). x.state) (board_at_same b (settled (λ p. eqb (entry_at k p).owner b)) k l) in
    up_moves (checkpoint_moves {Again = λ a. ⊥} b (formed_begun b (start j) (settle_restores b k w)) checkpoints still (λ n. up)) up

pub live_idle : (b : ℕ) (a : Access) (r : Run) → WellFormed r.bank → r.lost ≡ none → CanAccess b a r.bank
    → is_replaying (board_at (live b a r).run.bank b).state ≡ false
live_idle b a r w n can =
    let t : Moves b (λ a. ⊥) Begun r _ (live b a r).run = live_moves b (formed_begun b r w) still n a (makes_now b a r.bank (idle_up can.up)) can in
    up_moves t can.up
