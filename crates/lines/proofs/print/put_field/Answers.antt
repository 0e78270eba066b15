-- `lines::print::put_field` meets its contract. Assumes nothing.
use Rattle.std.proofs.Common.{arith, ◌≤◌}
use Rattle.lines.specs.Definitions.Numbers.{largest_number}
use Rattle.lines.specs.Laws.Output.{field_room, behind_room, put_field, field_near}
use Rattle.lines.proofs.print.put_field.Goals as goal

pub put_digits-end-requires : goal.put_digits-end-requires
put_digits-end-requires c =
    let small : c.args.n ≤ largest_number = omega arith in
    field_room c.args.out.now c.args.at c.args.n c.args.out.now 0 small c.requires

pub bounds-out-end : goal.bounds-out-end
bounds-out-end c =
    let call = c.put_digits-end in
    let small : c.args.n ≤ largest_number = omega arith in
    behind_room c.args.out.now c.args.at c.args.n call.new.out call.result small c.requires call.ensures

pub overflow_add-result : goal.overflow_add-result
overflow_add-result c =
    let call = c.put_digits-end in
    let small : c.args.n ≤ largest_number = omega arith in
    omega (
      arith,
      behind_room c.args.out.now c.args.at c.args.n call.new.out call.result small c.requires call.ensures,
      call.auto.out,
    )

pub returns : goal.returns
returns c =
    let call = c.put_digits-end in
    let small : c.args.n ≤ largest_number = omega arith in
    record {
      bytes = put_field c.args.out.now c.args.at c.args.n call.new.out call.result small c.requires call.ensures c.args.last;
      near = field_near c.args.out.now c.args.at c.args.n call.new.out call.result small c.requires call.ensures;
    }
