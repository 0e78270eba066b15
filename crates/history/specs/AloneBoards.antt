-- Each step of a replay is a function of what is seen of its board: two boards that look the same look the same after it. Assumes nothing.
use Rattle.std.specs.Prelude.{◌≡◌, ℕ, Bool, eqb}
use Rattle.std.proofs.Math.Path.{sym}
use Rattle.std.proofs.Common.{ap, ap₂, ◌∙◌}
use Rattle.model.specs.Definitions.Layout.{no_fuse}
use Rattle.model.specs.Definitions.Bank.{Area, Working, Board, on_working, on_spare}
use Rattle.model.specs.Definitions.Steps.{powered_off, with_fuse, burnt, stored_selector, rested_working, Access, accessed}
use Rattle.model.specs.Definitions.Replay.{loaded, records_left, use_up, used_up, due, differs, took_gots, took_due, replay_over, settled, replayed}
use Rattle.model.proofs.Laws.Logic.{by_bool}
use Rattle.model.specs.Moves.{Saved}
use Rattle.model.specs.History.AloneStatement.{Seen, seen}

-- ==== two boards that look the same

-- field by field
pub record Same (x y : Board) : Type 0 where
  pub state : x.state ≡ y.state
  pub fuse : x.fuse ≡ y.fuse
  pub working : x.working ≡ y.working
  pub selected : x.stable.selected ≡ y.stable.selected

pub same : {x y : Board} → seen x ≡ seen y → Same x y
unfolding seen
same e =
    record {
      state = ap (λ (s : Seen). s.state) e;
      fuse = ap (λ (s : Seen). s.fuse) e;
      working = ap (λ (s : Seen). s.working) e;
      selected = ap (λ (s : Seen). s.selected) e;
    }

pub same_seen : {x y : Board} → Same x y → seen x ≡ seen y
unfolding seen
same_seen s = cc

-- ==== the steps of a replay

module _ {x y : Board} (s : Same x y) where
  left_same : records_left x ≡ records_left y
  unfolding records_left
  left_same = cc

  due_same : due x ≡ due y
  unfolding due
  due_same = cc (left_same)

  pub over_same : replay_over x ≡ replay_over y
  unfolding replay_over
  over_same = cc

  -- a change of the working memory by what is seen
  moved_same : (f g : Working → Working) → f x.working ≡ g y.working → Same (on_working f x) (on_working g y)
  unfolding on_working
  moved_same f g u = record { state = s.state; fuse = s.fuse; working = u; selected = s.selected }

  used_up_same : Same (used_up x) (used_up y)
  unfolding used_up
  used_up_same = moved_same (use_up (records_left x)) (use_up (records_left y)) (ap₂ use_up left_same s.working)

  loaded_same : Same (loaded x) (loaded y)
  unfolding seen loaded
  loaded_same = same (cc)

  accessed_same : (a : Access) → Same (on_working (accessed a) x) (on_working (accessed a) y)
  unfolding seen on_working accessed
  accessed_same a = same (cc)

  pub took_same : Same (took_due x) (took_due y)
  unfolding took_due
  took_same = moved_same (took_gots (due x)) (took_gots (due y)) (ap₂ took_gots due_same s.working)

  pub settled_same : (owned : ℕ → Bool) → Same (settled owned x) (settled owned y)
  unfolding seen settled
  settled_same owned = same (cc)

  -- ==== stores and power losses

  pub with_fuse_same : (n : ℕ) → Same (with_fuse n x) (with_fuse n y)
  unfolding seen with_fuse
  with_fuse_same n = same (cc)

  pub burnt_same : Same (burnt x) (burnt y)
  unfolding seen burnt with_fuse
  burnt_same = by_bool (eqb x.fuse no_fuse) (λ t. same (cc)) (λ t. same (cc))

  pub powered_off_same : Same (powered_off x) (powered_off y)
  unfolding seen powered_off
  powered_off_same = same (cc)

  pub rested_same : Same (on_working rested_working x) (on_working rested_working y)
  unfolding seen on_working rested_working
  rested_same = same (cc)

  -- a store to the spare area is not seen
  pub on_spare_same : (f g : Area → Area) → Same (on_spare f x) (on_spare g y)
  unfolding seen on_spare
  on_spare_same f g = same (cc)

  -- the spare area that is selected is the working memory's
  pub selector_same : Saved x → Saved y → Same (stored_selector x) (stored_selector y)
  unfolding stored_selector
  selector_same p q =
      let number : x.stable.spare.number ≡ y.stable.spare.number = p.number ∙ (ap (λ (w : Working). w.number) s.working ∙ sym q.number) in
      let frames : x.stable.spare.frames ≡ y.stable.spare.frames = p.frames ∙ (ap (λ (w : Working). w.frames) s.working ∙ sym q.frames) in
      let log : x.stable.spare.log ≡ y.stable.spare.log = p.records ∙ sym q.records in
      record {
        state = s.state;
        fuse = s.fuse;
        working = s.working;
        selected = λ i. record { number = number i; frames = frames i; log = log i };
      }

pub replayed_same : {x y : Board} → Same x y → (a : Access) → Same (replayed a x) (replayed a y)
unfolding replayed
replayed_same s a = used_up_same (accessed_same s a)

pub restarted_same : {x y : Board} → Same x y → Same (used_up (loaded x)) (used_up (loaded y))
restarted_same s = used_up_same (loaded_same s)

-- the same access fits
pub differs_same : {x y : Board} → Same x y → (a : Access) → differs a x ≡ differs a y
unfolding differs
differs_same {x} {y} s a = cc (due_same s, s.working, over_same (took_same s), (took_same s).working)
