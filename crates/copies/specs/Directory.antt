-- What is read of a bank's directory. Assumes nothing.
use Rattle.std.specs.Prelude.{◌≡◌, ℕ, ◌+◌, ◌*◌, ◌≤◌, ◌<◌, List, length}
use Rattle.std.proofs.Common.{ap}
use Rattle.model.specs.Definitions.Parts.{part}
use Rattle.model.specs.Definitions.Layout.{head_size, entry_size}
use Rattle.model.specs.Definitions.Bank.{Entry, entry_at}
use Rattle.model.specs.Definitions.Codec.{decode_entry, decode}
use Rattle.model.specs.Definitions.WellFormed.{WellFormed}
use Rattle.model.proofs.Laws.Keeps.Rights as rights
use Rattle.copies.specs.Banks.{OfBank, of_holds, entry_in, entry_read}

module _ {pages b : ℕ} {s : List ℕ} (o : OfBank pages b s) where
  -- a directory entry of the bank
  pub entry_at_lem : (p : ℕ) → p < pages → head_size + p * entry_size + entry_size ≤ length s
  entry_at_lem p h = entry_in (of_holds o) p (rw o.count at h)

  entry_told : (p : ℕ) → p < pages → decode_entry (part s (head_size + p * entry_size) entry_size) ≡ entry_at (decode s) p
  entry_told p h = entry_read (of_holds o) p (rw o.count at h)

  pub owner_told : (p : ℕ) → p < pages → (decode_entry (part s (head_size + p * entry_size) entry_size)).owner ≡ (entry_at (decode s) p).owner
  owner_told p h = ap (λ (e : Entry). e.owner) (entry_told p h)

  pub copies_told : (p : ℕ) → p < pages → (decode_entry (part s (head_size + p * entry_size) entry_size)).copies ≡ (entry_at (decode s) p).copies
  copies_told p h = ap (λ (e : Entry). e.copies) (entry_told p h)

  -- another board of the same bank
  pub of_board : (c : ℕ) → c < length (decode s).boards → OfBank pages c s
  of_board c h = record { bank = o.bank; count = o.count; board = h }

  -- a page's owner
  pub of_owner : WellFormed (decode s) → (p : ℕ) → p < pages → OfBank pages (entry_at (decode s) p).owner s
  of_owner w p h = of_board (entry_at (decode s) p).owner (rights.entry_at_lem w p (rw o.count at h)).owner
