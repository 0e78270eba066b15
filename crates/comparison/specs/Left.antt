-- The pages that an iterator over a log has left. Assumes nothing.
use Rattle.std.specs.Prelude.{ℕ, List}
use Rattle.comparison.specs.declared.naming.Naming.{Naming}
use Rattle.comparison.specs.Naming.{pages_from}

abbrev pub pages_left : Naming → List ℕ
pages_left s = pages_from s.looked_for s.peer s.pages s.block.now s.left.start s.left.end
