-- `validity::block::frames_fit` meets its contract: each return is a law of the board's state. Assumes nothing.
use Rattle.std.proofs.Common.{◌≡◌, ◌≢◌, Bool, not, arith, sym, ◌∙◌}
use Rattle.std.proofs.lemmas.Bool.Decides.{nat_tests}
use Rattle.types.specs.declared.State.{State}
use Rattle.types.specs.declared.State.TheVariants.{Up, Down, Replaying}
use Rattle.model.specs.Definitions.Layout.{state_at, form_of}
use Rattle.model.specs.Definitions.Parts.{byte_at, member}
use Rattle.types.specs.Bytes.{state_of}
use Rattle.model.specs.Definitions.Check.{pages_agree}
use Rattle.validity.specs.Pieces.{own_frames_valid, frames_fit}
use Rattle.validity.specs.Order.{up_byte, other_byte, up_fits, other_fits, held_unfit, down_fits}
use Rattle.validity.proofs.block.frames_fit.Goals as goal
use Rattle.validity.proofs.block.frames_fit.Goals.{After-from}

-- the state as the definition reads it
state_is : (c : goal.After-from) (t : State) → c.from.result ≡ t → state_of (byte_at c.args.block.now state_at) ≡ t
unfolding byte_at
state_is c t e = cc

-- a board that is not up, looked for among all holders
others : (c : goal.After-from) (held : Bool) → held ≡ member c.args.board c.args.holders → state_of (byte_at c.args.block.now state_at) ≢ Up → not held
    ≡ pages_agree (form_of c.args.since) c.args.pages c.args.directory.now c.args.block.now c.args.board
others c held h n = other_fits _ _ _ _ _ c.args.holders c.requires.3 (other_byte _ n) h

pub returns-in-Up : goal.returns-in-Up
returns-in-Up c =
    let s = state_is (goal.at.returns-in-Up c).After-from Up c.in-Up.is in
    rw s (c.frames_agree.ensures ∙ up_fits _ _ _ _ _ (up_byte _ s))

pub returns-then-not-has : goal.returns-then-not-has
returns-then-not-has c =
    let after_state = (goal.at.returns-then-not-has c).After-from in
    let s = state_is after_state Down c.in-Down.is in
    rw s (c.down_frames_valid.ensures ∙ down_fits _ _ _ _ _ (sym (rw c.if-not-has.true at (others after_state _ c.has.ensures (λ e. cc)))))

pub returns-else-not-has : goal.returns-else-not-has
returns-else-not-has c =
    let after_state = (goal.at.returns-else-not-has c).After-from in
    let s = state_is after_state Down c.in-Down.is in
    rw c.if-not-has.false (held_unfit _ _ _ _ _ _ (sym (rw c.if-not-has.false at (others after_state _ c.has.ensures (λ e. cc)))))

pub returns-then-stored_frames_valid : goal.returns-then-stored_frames_valid
unfolding frames_fit own_frames_valid
returns-then-stored_frames_valid c =
    let after_state = (goal.at.returns-then-stored_frames_valid c).After-from in
    let s = state_is after_state Replaying c.in-Replaying.is in
    rw s (grind (arith, nat_tests, others after_state _ c.has-in-Replaying.ensures (λ e. cc)))

pub returns-else-stored_frames_valid : goal.returns-else-stored_frames_valid
unfolding frames_fit own_frames_valid
returns-else-stored_frames_valid c =
    let after_state = (goal.at.returns-else-stored_frames_valid c).After-from in
    let s = state_is after_state Replaying c.in-Replaying.is in
    rw s (grind (arith, nat_tests, others after_state _ c.has-in-Replaying.ensures (λ e. cc)))
