-- What the tests are given of a block's and of a bank's bytes: the width of since is at most today's, and their length is that form's; where slots are tested
-- also that no count is above 32. Assumes nothing.
use Rattle.std.specs.Prelude.{◌≡◌, ℕ, ◌≤◌, true, List, length}
use Rattle.model.specs.Definitions.Layout.{most_boards, most_pages, since_size, form_of, today, block_size, block_size_in, bank_size_in}
use Rattle.model.specs.Definitions.Check.{counts_valid}

abbrev pub BlockSized : ℕ → ℕ → List ℕ → Type 0
BlockSized since pages l = (since ≤ since_size) × (length l ≡ block_size_in (form_of since) pages) × (pages ≤ most_pages)

abbrev pub BankSized : ℕ → ℕ → ℕ → List ℕ → Type 0
BankSized since boards pages s = (since ≤ since_size) × (length s ≡ bank_size_in (form_of since) boards pages) × (boards ≤ most_boards) × (pages ≤ most_pages)

abbrev pub BlockCounted : ℕ → List ℕ → Type 0
BlockCounted pages l = (length l ≡ block_size pages) × (pages ≤ most_pages) × (counts_valid today pages l ≡ true)
