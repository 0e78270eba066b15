-- `steps::fuse::burn` meets its contract: no fuse, the last store, more than one left. Assumes nothing.
use mathlib.Core.Path.{refl, sym}
use Prim.Native.Nat.{◌-◌}
use mathlib.Core.Bool.{true, false}
use native.Mathlib.Omega.{arith}
use borrow.Author.Tests.{ne_eqb}
use Rattle.steps.specs.Fuse.{burn_unset, burn_lowered}
use Rattle.steps.proofs.fuse.burn.Goals as goal

pub returns-in-65535 : goal.returns-in-65535
returns-in-65535 c = burn_unset c.requires c.read_fuse.result c.read_fuse.ensures c.in-65535.is

pub returns-in-0 : goal.returns-in-0
returns-in-0 c =
    burn_lowered c.requires c.read_fuse.result c.read_fuse.ensures c.write_fuse.new.block 0 true c.write_fuse.ensures
    (λ i. omega arith) (omega arith) refl

pub returns-in_default : goal.returns-in_default
returns-in_default c =
    let fuse = c.read_fuse in
    burn_lowered c.requires fuse.result fuse.ensures c.write_fuse-in_default.new.block (fuse.result - 1) false c.write_fuse-in_default.ensures
    (λ i. omega arith) refl
    (sym (ne_eqb (fuse.result - 1) 0 (λ i. omega arith)))
