-- A board's bits out of the directory as a loop of splices, entry by entry. Assumes nothing.
use Rattle.std.specs.Prelude.{◌≡◌, refl, ℕ, suc, ◌+◌, ◌*◌, ◌≤◌, ◌<◌, List, map, length}
use Rattle.std.proofs.Common.{ap, ◌∙◌, arith}
use Rattle.model.specs.Definitions.Parts.{splice}
use Rattle.model.specs.Definitions.Layout.{head_size, entry_size}
use Rattle.model.specs.Definitions.Bank.{Entry, Bank, entry_at, on_entry, no_entry}
use Rattle.model.specs.Definitions.Codec.{encode_entry, encode}
use Rattle.model.specs.Definitions.Steps.{forgotten}
use Rattle.model.proofs.Laws.CodecAt.{encode_on_entry}
use Rattle.model.proofs.Laws.EachFirst.{each_first, length_each_first, each_first_waits, each_first_all, each_as_map}

-- b's bit removed from the first p entries
unfoldable pub forgotten_first : ℕ → ℕ → List Entry → List Entry
forgotten_first p b d = each_first p (λ q. forgotten b) d

pub forgotten_first_all : (b : ℕ) (d : List Entry) → forgotten_first (length d) b d ≡ map (forgotten b) d
unfolding forgotten_first
forgotten_first_all b d = each_first_all (length d) (λ q. forgotten b) d no_entry (omega arith) ∙ each_as_map (forgotten b) d

unfoldable pub forget_first : ℕ → ℕ → Bank → Bank
forget_first p b k = record { directory = forgotten_first p b k.directory; boards = k.boards }

pub forget_first_none : (b : ℕ) (k : Bank) → forget_first 0 b k ≡ k
unfolding forget_first forgotten_first each_first
forget_first_none b k = refl

pub forget_first_next : (p b : ℕ) (k : Bank) → forget_first (suc p) b k ≡ on_entry p (forgotten b) (forget_first p b k)
unfolding forget_first forgotten_first each_first on_entry
forget_first_next p b k = refl

module _ (p b : ℕ) (k : Bank) where
  pub pages_forget_first : length (forget_first p b k).directory ≡ length k.directory
  unfolding forget_first forgotten_first
  pages_forget_first = length_each_first p (λ q. forgotten b) k.directory

  -- the entries from p on wait
  pub forget_first_waits : (q : ℕ) → p ≤ q → entry_at (forget_first p b k) q ≡ entry_at k q
  unfolding forget_first forgotten_first entry_at
  forget_first_waits q h = each_first_waits p q (λ i. forgotten b) k.directory no_entry h

  -- one entry more is one splice
  pub encode_forget_first : p < length k.directory
      → encode (forget_first (suc p) b k)
      ≡ splice (encode (forget_first p b k)) (head_size + p * entry_size) (encode_entry (forgotten b (entry_at k p)))
  encode_forget_first h =
      ap encode (forget_first_next p b k) ∙ encode_on_entry (forget_first p b k) p (forgotten b) (rw pages_forget_first h)
      ∙ rw (forget_first_waits p (omega arith))
