-- What a state compares equal to, and that it is told by its byte. Assumes nothing.
use Rattle.std.specs.Prelude.{◌≡◌, refl, eqb}
use denote.Enum.Bare.{sameb}
use Rattle.types.specs.declared.State.{State}
use Rattle.types.specs.declared.State.TheVariants.{Up, Down, Replaying}
use Rattle.types.specs.contracts.State.{the_type}
use Rattle.model.specs.Definitions.Codec.{state_byte}
use Rattle.model.specs.Definitions.WellFormed.{is_up, is_down, is_replaying}

pub same_up : (s : State) → sameb the_type s Up ≡ is_up s
unfolding is_up
same_up Up = refl
same_up Down = refl
same_up Replaying = refl

pub same_down : (s : State) → sameb the_type s Down ≡ is_down s
unfolding is_down
same_down Up = refl
same_down Down = refl
same_down Replaying = refl

pub same_replaying : (s : State) → sameb the_type s Replaying ≡ is_replaying s
unfolding is_replaying
same_replaying Up = refl
same_replaying Down = refl
same_replaying Replaying = refl

-- ---- told by its byte

pub up_byte : (s : State) → eqb (state_byte s) (state_byte Up) ≡ is_up s
unfolding state_byte is_up
up_byte Up = refl
up_byte Down = refl
up_byte Replaying = refl

pub down_byte : (s : State) → eqb (state_byte s) (state_byte Down) ≡ is_down s
unfolding state_byte is_down
down_byte Up = refl
down_byte Down = refl
down_byte Replaying = refl

pub replaying_byte : (s : State) → eqb (state_byte s) (state_byte Replaying) ≡ is_replaying s
unfolding state_byte is_replaying
replaying_byte Up = refl
replaying_byte Down = refl
replaying_byte Replaying = refl
