-- The byte that a right or a state stands as, and what a byte is read as. Readers are total; bytes that no writer makes are told apart by WellFormed.
-- Assumes nothing.
use Rattle.std.specs.Prelude.{ℕ, zero, suc}
use Rattle.types.specs.declared.Right.{Right}
use Rattle.types.specs.declared.Right.TheVariants.{None, Copy, Own}
use Rattle.types.specs.declared.State.{State}
use Rattle.types.specs.declared.State.TheVariants.{Up, Down, Replaying}

-- "a right (0 none, 1 copy, 2 own)"
unfoldable pub right_byte : Right → ℕ
right_byte None = 0
right_byte Copy = 1
right_byte Own = 2

unfoldable pub right_of : ℕ → Right
right_of zero = None
right_of (suc zero) = Copy
right_of (suc (suc n)) = Own

-- "state: 0 up, 1 dark, 2 replaying"
unfoldable pub state_byte : State → ℕ
state_byte Up = 0
state_byte Down = 1
state_byte Replaying = 2

unfoldable pub state_of : ℕ → State
state_of zero = Up
state_of (suc zero) = Down
state_of (suc (suc n)) = Replaying
