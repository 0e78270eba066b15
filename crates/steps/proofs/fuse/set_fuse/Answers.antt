-- `steps::fuse::set_fuse` meets its contract. Assumes nothing.
use mathlib.Core.Path.{◌∙◌}
use Rattle.steps.specs.Fuse.{fuse_bytes}
use Rattle.steps.proofs.fuse.set_fuse.Goals as goal

pub returns : goal.returns
returns c =
    c.write_fuse.ensures ∙ fuse_bytes c.requires c.args.n
