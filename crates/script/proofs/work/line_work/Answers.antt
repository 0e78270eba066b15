-- `script::work::line_work` meets its contract. Assumes nothing.
use mathlib.Core.Path.{◌≡◌, refl}
use Prim.Native.Nat.{ℕ}
use mathlib.Core.List.{List}
use native.Mathlib.Omega.{arith}
use Rattle.lines.specs.declared.request.Request.{Request}
use Rattle.lines.specs.declared.request.Request.TheVariants.{Make, Read, Write, Checkpoint, Fuse, Restart, Unreadable}
use Rattle.script.specs.Definitions.Runner.{work}
use Rattle.script.specs.Laws.Work.{work_called, works_as, make_first}
use Rattle.script.specs.Clauses.{called}
use Rattle.script.proofs.work.line_work.Goals as goal
use Rattle.script.proofs.work.line_work.Goals.{in_default-via-in-Make+else-number-eq1, in_default-via-in_default}

-- an arm other than N's
no_make : (q : Request) (i : ℕ) (s : List ℕ) → ((n p : ℕ) → q ≡ Make n p → ⊥) → work i q s ≡ called q s
unfolding work
no_make (Make n p) i s h = absurd (h n p refl)
no_make (Read b p o) i s h = refl
no_make (Write b p o v) i s h = refl
no_make (Checkpoint b) i s h = refl
no_make (Fuse b k) i s h = refl
no_make (Restart b) i s h = refl
no_make Unreadable i s h = refl

pub returns-in-Make : goal.returns-in-Make
returns-in-Make c = works_as (make_first _ _ _ _ _ _ (omega arith) c.in-Make.is) c.make_bank.ensures

pub returns-in_default : goal.returns-in_default
returns-in_default c =
    elim c.in_default.branch [
      | in_default-via-in-Make+else-number-eq1 w ↦
          works_as (work_called _ _ _ w.if-number-eq1.false) (rw (w.request-is, ← w.in-Make.is) at c.call_line.ensures)
      | in_default-via-in_default w ↦ works_as (no_make _ _ _ w.in_default.not-Make) (rw w.request-is at c.call_line.ensures)
    ]
