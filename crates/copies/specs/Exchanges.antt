-- A copy given, copies dropped and a page passed on, put together from the blocks and the entry that the code writes. Assumes nothing.
use Rattle.std.specs.Prelude.{◌≡◌, ◌≢◌, ℕ, ◌+◌, ◌*◌, ◌^◌, ◌<◌, true, List, length}
use Rattle.std.proofs.Math.Path.{refl}
use Rattle.std.proofs.Common.{sym, ap, ◌∙◌, arith}
use Rattle.types.specs.declared.Frame.{Frame}
use Rattle.model.specs.Definitions.Parts.{part, splice, member, with_member, without_member}
use Rattle.model.specs.Definitions.Layout.{head_size, entry_size}
use Rattle.model.specs.Definitions.Bank.{Entry, Bank, board_at, entry_at, on_board}
use Rattle.model.specs.Definitions.Codec.{encode_entry, decode_entry, decode}
use Rattle.model.specs.Definitions.WellFormed.{EntryOk}
use Rattle.model.specs.Definitions.Steps.{frame_of, give_copy, drop_at, drop_copies, pass_ownership}
use Rattle.model.proofs.Laws.Logic.{by_eq, clash}
use Rattle.model.proofs.Laws.Sets.{member_with_other, member_without_same, member_without_other, with_below, without_le}
use Rattle.model.proofs.Laws.Boards.{took_copy, with_copy, give_copy_parts, without_copies, drop_copies_parts, owned_by, took_own, loses, pass_ownership_parts}
use Rattle.model.specs.Clauses.{Space}
use Rattle.copies.specs.Banks.{Holds, holds_decode, entry_read, entry_holds}
use Rattle.copies.specs.Drops.{CanDrop, drop_at_same, gives_set}

-- where the entry of a page stands
abbrev pub entry_part : List ℕ → ℕ → Entry
entry_part s p = decode_entry (part s (head_size + p * entry_size) entry_size)

-- "reader records got copy, gains the copy and its bit": the frame is the owner's, the entry is read after the copy is taken
pub copy_given : {ys zs : List ℕ} (k : Bank) (o b p : ℕ) (f : Frame) (owner copies holders : ℕ) → p < length k.directory
    → f ≡ frame_of k o p → Holds ys (on_board b (took_copy o p f.bytes) k)
    → owner ≡ (entry_part ys p).owner → copies ≡ (entry_part ys p).copies → holders ≡ with_member b copies
    → zs ≡ splice ys (head_size + p * entry_size) (encode_entry (record { owner = owner; copies = holders })) → Holds zs (give_copy o b p k)
unfolding on_board with_copy
copy_given {ys} {zs} k o b p f owner copies holders l e h r q m w =
    let entry = entry_read h p l in
    rw (give_copy_parts o b p k, ← e) (entry_holds h p l (with_copy b) (record { owner = owner; copies = holders }) zs (rw (m, q, r, entry)) w)

-- "each holder records dropped and loses its copy, the copy-set empties"
pub copies_dropped : {xs ys zs : List ℕ} {k : Bank} (v p owner copies : ℕ) → p < length k.directory → Holds xs k
    → owner ≡ (entry_part xs p).owner → copies ≡ (entry_part xs p).copies → Holds ys (drop_at (λ c. member c copies) v p k)
    → zs ≡ splice ys (head_size + p * entry_size) (encode_entry (record { owner = owner; copies = 0 })) → Holds zs (drop_copies v p k)
unfolding drop_at without_copies entry_at
copies_dropped {xs} {ys} {zs} {k} v p owner copies l h r q d w =
    let entry = entry_read h p l in
    let e : copies ≡ (entry_at k p).copies = q ∙ ap (λ (e : Entry). e.copies) entry in
    rw (drop_copies_parts v p k, ← e)
    (entry_holds d p l without_copies (record { owner = owner; copies = 0 }) zs (rw r (ap (λ (e : Entry). record { owner = e.owner; copies = 0 }) entry)) w)

-- ---- a page passed on

module _ {xs : List ℕ} {k : Bank} (o w p copies losers : ℕ) (l : p < length k.directory) (h : Holds xs k) (n : o ≢ w) (q : copies ≡ (entry_part xs p).copies)
    (m : losers ≡ with_member o (without_member w copies)) where
  passing : copies ≡ (entry_at k p).copies
  passing = q ∙ ap (λ (e : Entry). e.copies) (entry_read h p l)

  -- "owner and all copy holders but the writer": boards of the bank, with room for the record
  pub losers_below : EntryOk (length k.boards) (entry_at k p) → o < length k.boards → losers < 2 ^ length k.boards
  losers_below ok b = rw m (with_below (length k.boards) o (without_member w copies) (omega (arith, without_le w copies, passing, ok.copies)) b)

  pub losers_can : Space (board_at k o) → ((c : ℕ) → c < length k.boards → c ≢ w → member c (entry_at k p).copies ≡ true → Space (board_at k c))
      → CanDrop (λ c. member c losers) k
  losers_can s holder c b t =
      by_eq c o
      (λ e. rw e s)
      (λ e.
      let without : member c (without_member w copies) ≡ true = sym (member_with_other o c (without_member w copies) e) ∙ rw m at t in
      by_eq c w
      (λ f. clash without (rw f (member_without_same w copies)))
      (λ f. holder c b f (rw passing at (sym (member_without_other w c copies f) ∙ without))))

  -- the taker's frame is the one that was read before the drops
  page_taken : {ys zs : List ℕ} (f : Frame) → f ≡ frame_of k o p → Holds ys (drop_at (λ c. member c losers) w p k)
      → Holds zs (on_board w (took_own p f.bytes) (decode ys)) → Holds zs (on_board w (took_own p (frame_of k o p).bytes) (drop_at (loses o w p k) w p k))
  page_taken f e d t =
      let j : drop_at (λ c. member c losers) w p k ≡ drop_at (loses o w p k) w p k
      = drop_at_same (λ c. member c losers) (loses o w p k) w p k (λ c b. gives_set o w p k copies losers n passing m c) in
      rw (holds_decode d ∙ j, e) at t

  pub page_passed : {ys zs us : List ℕ} (f : Frame) → f ≡ frame_of k o p → Holds ys (drop_at (λ c. member c losers) w p k)
      → Holds zs (on_board w (took_own p f.bytes) (decode ys))
      → us ≡ splice zs (head_size + p * entry_size) (encode_entry (record { owner = w; copies = 0 })) → Holds us (pass_ownership o w p k)
  unfolding drop_at on_board owned_by
  page_passed {us = us} f e d t u =
      rw (pass_ownership_parts o w p k) (entry_holds (page_taken f e d t) p l (owned_by w) (record { owner = w; copies = 0 }) us refl u)
