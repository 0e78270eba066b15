-- `script::feed::finish` meets its contract: each return is a case of the definition. Assumes nothing.
use mathlib.Core.Path.{sym, ◌∙◌}
use native.Mathlib.Omega.{arith}
use Rattle.script.specs.Laws.Machine.{ends_stopped, ends_empty, ends_line}
use Rattle.script.proofs.feed.finish.Goals as goal
use Rattle.script.proofs.feed.finish.Goals.{then-stopped-via-then-stopped, then-stopped-via-else-stopped+then-from-eq0}

pub returns-then-stopped : goal.returns-then-stopped
returns-then-stopped c =
    elim c.then-stopped.branch [
      | then-stopped-via-then-stopped w ↦
          let both = ends_stopped _ _ c.args.from c.requires.0.within c.put_last.ensures (sym c.stopped.ensures ∙ w.if-stopped.true) in
          record { output = both.0; bank = both.1 }
      | then-stopped-via-else-stopped+then-from-eq0 w ↦
          let both = ends_empty _ _ c.args.from c.requires.0.within c.put_last.ensures w.if-from-eq0.true in
          record { output = both.0; bank = both.1 }
    ]

pub returns : goal.returns
returns c =
    let both = ends_line _ _ c.args.from c.run_line-last.result _ _ _ _ _ (sym c.stopped.ensures ∙ c.if-stopped.false)
    (λ e. omega arith) (omega (arith, c.requires.0.pending_in, c.requires.0.line_buffer)) (omega (arith, c.requires.1)) c.run_line-last.ensures
    c.put_last-2.ensures in
    record { output = both.0; bank = both.1 }
