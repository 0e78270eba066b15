-- How far the runner is in its buffers, and one line's step there. Assumes nothing.
use Rattle.std.specs.Prelude.{◌≡◌, ℕ, ◌+◌, ◌≤◌, List, take}
use Rattle.std.proofs.Math.Path.{ap}
use Rattle.std.proofs.Common.{◌∙◌}
use Rattle.lines.specs.declared.request.Request.{Request}
use Rattle.lines.specs.declared.tally.Tally.{Tally}
use Rattle.script.specs.declared.work.Work.{Work}
use Rattle.script.specs.declared.line.Progress.{Progress}
use Rattle.lines.specs.Definitions.Lines.{request}
use Rattle.lines.specs.Definitions.Output.{line_of}
use Rattle.lines.specs.Definitions.Tally.{counted}
use Rattle.script.specs.Definitions.Runner.{Step, Worked, step_of, line, work}
use Rattle.lines.specs.Clauses.{Put, most_line, Sums}
use Rattle.lines.specs.Laws.Tally.{counted_sums}
use Rattle.lines.specs.Laws.Output.{put_front}
use Rattle.script.specs.Clauses.{Works, state_of, Ran}

module _ (l : List ℕ) (q : Request) (p : Progress) (bank bank' out out' : List ℕ) (w : Work) (next : Tally) (end : ℕ) where
  abbrev asked : Request → Worked
  asked k = work (p.tally.read + 1) k (take p.size bank)

  pub line_ran : Sums p.tally → q ≡ request l → Works (asked q) w bank bank' → Put out p.at (line_of (p.tally.read + 1) w.printed) out' end
      → end ≤ p.at + most_line → next ≡ counted w.printed.code p.tally
      → Ran (line l (state_of bank p)) p (record { size = w.size; tally = next; at = end }) bank out bank' out'
  unfolding line step_of state_of
  line_ran s e h f k g =
      let printed : w.printed ≡ (asked (request l)).printed = h.printed ∙ ap (λ (y : Request). (asked y).printed) e in
      record {
        left = rw e at h.bank;
        tally = rw (g, printed);
        output = rw printed at f;
        near = k;
        sums = rw g (counted_sums w.printed.code p.tally s);
      }

-- the state that a step leaves is what the buffer holds then
pub ran_state : {t : Step} {p r : Progress} {bank out bank' out' : List ℕ} → Ran t p r bank out bank' out' → state_of bank' r ≡ t.state
unfolding state_of
ran_state ran = rw (put_front ran.left, ran.tally)
