-- `lines::print::put_digits` meets its contract: std's digits of the number are laid over what stood there. Assumes nothing.
use Rattle.std.proofs.Common.{◌≡◌, length, ap, ◌∙◌, arith}
use Rattle.lines.specs.Definitions.Numbers.{decimal}
use Rattle.lines.specs.Laws.Numbers.{std_decimal}
use Rattle.lines.specs.Laws.Output.{put_copied}
use Rattle.lines.proofs.print.put_digits.Goals as goal
use Rattle.lines.proofs.print.put_digits.Goals.{After-as_bytes-digits}

digits : (c : After-as_bytes-digits) → c.as_bytes-digits.result.now ≡ decimal c.args.n
digits c = c.as_bytes-digits.ensures.value ∙ c.format.ensures.text ∙ std_decimal c.args.n (omega arith)

pub slice_bounds-copy_from_slice-end : goal.slice_bounds-copy_from_slice-end
slice_bounds-copy_from_slice-end c =
    omega (arith, ap length (digits (goal.at.slice_bounds-copy_from_slice-end c).After-as_bytes-digits))

pub returns : goal.returns
returns c = put_copied c.args.out.now c.args.at _ _ _ (digits (goal.at.returns c).After-as_bytes-digits) c.copy_from_slice.ensures.after
