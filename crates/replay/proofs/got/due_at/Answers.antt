-- `replay::got::due_at` meets its contract: the record that is ready, if it is a got. Assumes nothing.
use mathlib.Core.Path.{◌≡◌, refl, sym, ap, ◌∙◌}
use Prim.Native.Nat.{ℕ}
use mathlib.Core.Bool.{true, false}
use Rattle.types.specs.declared.CopyOrOwn.{CopyOrOwn}
use Rattle.types.specs.declared.Kind.{Kind}
use Rattle.types.specs.declared.Kind.TheVariants.{Got, Shown, Dropped}
use Rattle.model.specs.Definitions.WellFormed.{is_got}
use Rattle.replay.specs.Clauses.{first}
use Rattle.replay.specs.Got.{due_unready, due_got, due_other}
use Rattle.replay.proofs.got.due_at.Goals.{in-Got, in_default}
use Rattle.replay.proofs.got.due_at.Goals as goal

is_no_got : (k : Kind) → ((g : CopyOrOwn) (p : ℕ) → k ≡ Got g p → ⊥) → is_got k ≡ false
unfolding is_got
is_no_got (Got g p) h = absurd (h g p refl)
is_no_got (Shown p) h = refl
is_no_got (Dropped p) h = refl

pub returns-in_err-next : goal.returns-in_err-next
unfolding first
returns-in_err-next c = rw c.from_residual.ensures (sym (ap first (due_unready _ _ (sym c.in_err-next.ensures))))

pub returns : goal.returns
unfolding first is_got
returns c =
    let ready = sym c.in_ok-next.ensures in
    elim c.match-matches.branch [
      | in-Got w ↦
          let k : is_got c.in_ok-next.next.kind ≡ true = rw w.in-Got.is in
          rw (c.then_some.ensures, w.matches-is) (c.in_ok-next.ensures ∙ due_got _ _ _ ready k)
      | in_default w ↦
          rw (c.then_some.ensures, w.matches-is)
          (sym (ap first (due_other _ _ _ ready (is_no_got c.in_ok-next.next.kind w.in_default.not-Got))))
    ]
