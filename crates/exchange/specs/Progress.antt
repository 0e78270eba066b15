-- A call in progress, as the contracts say it: how a run goes on, and what its bytes, stores and loss are. Assumes nothing.
use Rattle.std.specs.Prelude.{◌≡◌, ℕ, Bool, true, false, ◌+◌, List, Result, Ok, Err, MatchResult, IsErrAnd}
use Rattle.std.proofs.Math.Path.{refl}
use Rattle.std.proofs.Math.Option.{Option, none, some}
use Rattle.types.specs.declared.CopyOrOwn.TheVariants.{GotOwn}
use Rattle.types.specs.declared.Kind.TheVariants.{Got}
use Rattle.types.specs.declared.State.TheVariants.{Up}
use Rattle.stores.specs.declared.spend.PowerLost.{PowerLost}
use Rattle.stores.specs.Clauses.{stores_made, is_lost}
use Rattle.exchange.specs.declared.progress.Loss.{Loss}
use Rattle.model.specs.Definitions.Bank.{Bank, board_at}
use Rattle.model.specs.Definitions.Codec.{encode}
use Rattle.model.specs.Definitions.Steps.{Run, step, note, flush, frame_of}
use Rattle.model.specs.Clauses.{RoomFor}

-- a call that goes on, after n stores
abbrev pub running : ℕ → Bank → Run
running n k = record { bank = k; stores = n; lost = none }

-- the board that stored, where its fuse blew
unfoldable pub lost_by : ℕ → Bool → Option ℕ
lost_by b true = some b
lost_by b false = none

-- the stores made in a call, and who lost its power in it, if a board did
abbrev pub stores_by : Result ℕ Loss → ℕ
stores_by (Ok n) = n
stores_by (Err e) = e.stores

abbrev pub loss_of : Result ℕ Loss → Option ℕ
loss_of (Ok n) = none
loss_of (Err e) = some e.board

-- bytes, stores and loss are those of the run
pub record Came (s : List ℕ) (n : ℕ) (o : Option ℕ) (r : Run) : Type 0 where
  pub bytes : s ≡ encode r.bank
  pub stores : n ≡ r.stores
  pub lost : o ≡ r.lost

-- a board's own run, where the loss that it ended with names the board
pub came_named : {Q : PowerLost → Loss → Type 0} {s : List ℕ} {t : Run} (n b : ℕ) (r : Result ℕ PowerLost) (v : Result ℕ Loss)
    → MatchResult r (λ x. v ≡ Ok x) (λ e. IsErrAnd v (Q e)) → ((e : PowerLost) (d : Loss) → Q e d → d ≡ record { board = b; stores = e.stores })
    → Came s (n + stores_made r) (lost_by b (is_lost r)) t → Came s (n + stores_by v) (loss_of v) t
unfolding lost_by
came_named n b (Ok x) v h f c = rw h c
came_named n b (Err e) (Ok x) h f c = absurd h
came_named n b (Err e) (Err d) h f c = rw (f e d h) c

-- all stores of a call, of which so many were made before: a loss counts them already
abbrev pub stores_after : ℕ → Result ℕ Loss → ℕ
stores_after m (Ok x) = m + x
stores_after m (Err e) = e.stores

pub after_told : {Q : Loss → Loss → Type 0} (m : ℕ) (r v : Result ℕ Loss) → MatchResult r (λ x. v ≡ Ok x) (λ e. IsErrAnd v (Q e))
    → ((e d : Loss) → Q e d → d ≡ record e { stores = m + e.stores }) → (m + stores_by r ≡ stores_after m v) × (loss_of r ≡ loss_of v)
after_told m (Ok x) v h f = rw h (refl, refl)
after_told m (Err e) (Ok x) h f = absurd h
after_told m (Err e) (Err d) h f = rw (f e d h) (refl, refl)

-- a board that can record that it showed a page
abbrev pub CanShow : ℕ → Bank → Type 0
CanShow o k = ((board_at k o).state ≡ Up) × RoomFor 1 (board_at k o)

-- "writer records got own and flushes": the page is the owner's
abbrev pub get_own : ℕ → ℕ → ℕ → Run → Run
get_own o w p r = flush w (step (λ k. note w (Got GotOwn p) o (frame_of k o p).bytes k) r)
