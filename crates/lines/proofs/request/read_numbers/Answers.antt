-- `lines::request::read_numbers` meets its contract. The loop's invariant: the words that are left give, behind the numbers so far, what all give.
-- Assumes nothing.
use Rattle.std.proofs.Common.{◌≡◌, ◌+◌, ◌<◌, ◌++◌, ◌∷◌, [], Some, length, drop, eqb, sym, ◌∙◌, rules, tests, arith}
use Rattle.std.proofs.lemmas.Grind.{common_steps}
use Rattle.std.proofs.lemmas.List.{length_push}
use Rattle.std.proofs.lemmas.Iterator.Splits.{YieldsList-from_slice_split}
use Rattle.std.proofs.lemmas.Iterator.Consumers.{YieldsList-turn, YieldsList-end}
use Rattle.lines.specs.Definitions.Lines.{space, words, numbers_from, more}
use Rattle.lines.specs.Definitions.Numbers.{number}
use Rattle.lines.specs.Laws.Lines.{numbers_none, numbers_turn, numbers_end, more_room, no_more_room}
use Rattle.lines.proofs.request.read_numbers.Goals as goal
use Rattle.lines.proofs.request.read_numbers.Goals.{In-Some}

-- the word of this turn
turn : (c : In-Some) → numbers_from (Some []) (words c.args.rest.now)
    ≡ numbers_from (more (Some c.loop-word.numbers.items) (number c.in-Some.word.now)) (drop (length c.loop-word.yielded + 1) (words c.args.rest.now))
turn c =
    c.loop-word.invariant.3
    ∙ numbers_turn _ c.args.rest.now _ c.in-Some.word.now
    (YieldsList-turn (YieldsList-from_slice_split _ (λ x. eqb x space) c.args.rest.now (cc) (cc) (cc) (λ x b q k. search (rules, tests)))
    c.loop-word.yielded _ c.loop-word.yielded_by _ _ c.in-Some.word c.in-Some.is c.next.ensures.steps)

pub returns-in_err-read_number : goal.returns-in_err-read_number
unfolding more
returns-in_err-read_number c =
    rw c.from_residual.ensures
    (sym (turn (goal.at.returns-in_err-read_number c).In-Some ∙ rw (← c.read_number.ensures, c.in_err-read_number.was) (numbers_none _)))

pub returns-in_err-ok : goal.returns-in_err-ok
unfolding more
returns-in_err-ok c =
    let full : length c.loop-word.numbers.items ≡ 4 = grind (arith, common_steps) in
    rw c.from_residual-in_err-ok.ensures
    (sym (turn (goal.at.returns-in_err-ok c).In-Some
    ∙ rw (← c.read_number.ensures, c.in_ok-read_number.was, no_more_room _ c.in_ok-read_number.field-0 full) (numbers_none _)))

pub loop-word-preserved : goal.loop-word-preserved
unfolding more
loop-word-preserved c =
    let n = length_push c.loop-word.yielded c.in-Some.word in
    let room : length c.loop-word.numbers.items < 4 = grind (arith, common_steps) in
    let e : c.try_push.new.self.items ≡ c.loop-word.numbers.items ++ (c.in_ok-read_number.field-0 ∷ []) = grind (arith, common_steps) in (
      search rules,
      search rules,
      search rules,
      turn (goal.at.loop-word-preserved c).In-Some
          ∙ rw (← c.read_number.ensures, c.in_ok-read_number.was, n, more_room _ c.in_ok-read_number.field-0 room, ← e),
    )

pub returns : goal.returns
returns c =
    let t = YieldsList-end (YieldsList-from_slice_split _ (λ x. eqb x space) c.args.rest.now (cc) (cc) (cc) (λ x b q k. search (rules, tests)))
    c.loop-word.yielded _ c.loop-word.yielded_by _ _ c.in-None.is c.next.ensures.steps in
    sym (c.loop-word.invariant.3 ∙ numbers_end _ c.args.rest.now _ t.1)
