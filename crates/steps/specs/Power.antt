-- What a power loss leaves in a block, where the zero bytes stand in one run from the access number to the areas; and in a bank, whose directory
-- is gone through page by page. Assumes nothing.
use Rattle.std.specs.Prelude.{◌≡◌, refl, ℕ, ◌+◌, ◌*◌, ◌-◌, ◌≤◌, ◌<◌, List, [], ◌∷◌, map, length}
use Rattle.std.proofs.Common.{sym, add-one, arith}
use Rattle.std.proofs.lemmas.List.{length-map}
use Rattle.words.specs.LittleEndian.{bytes_of}
use Rattle.types.specs.declared.State.TheVariants.{Down}
use Rattle.model.specs.Definitions.Parts.{part, splice, zeros}
use Rattle.model.specs.Definitions.Layout.{no_fuse, head_size, entry_size, blocks_at, fuse_size, number_size, since_size, frame_size, slots_size, state_at, fuse_at}
use Rattle.model.specs.Definitions.Layout.{number_at, since_at, place_at, volatile_count_at, frames_at, area_at}
use Rattle.model.specs.Definitions.Bank.{Board, Bank, with_state}
use Rattle.model.specs.Definitions.Codec.{encode_entry, decode_entry, state_byte, encode_board, encode, decode}
use Rattle.model.specs.Definitions.Steps.{forgotten, with_fuse, powered_off}
use Rattle.model.specs.Definitions.WellFormed.{FieldsOk}
use Rattle.model.proofs.Laws.BlockFields.{write_state, write_fuse, fixed_inside}
use Rattle.model.proofs.Laws.BlockWorking.{powered_off_bytes}
use Rattle.model.proofs.Laws.Zeros.{zeros_next}
use Rattle.model.proofs.Laws.BankSteps.{is_bank_length, entry_of}
use Rattle.model.specs.Clauses.{Fields, IsBank}
use Rattle.model.proofs.Laws.BankLoops.{forgotten_first_all, forget_first, pages_forget_first, forget_first_waits, encode_forget_first}

-- the numbers, the place, the count, the frames and the slots
zero_run : (l : List ℕ) (n : ℕ) → frames_at ≤ length l
    → splice
    (splice (splice (splice (splice l number_at (bytes_of number_size 0)) since_at (bytes_of since_size 0)) place_at (0 ∷ [])) volatile_count_at (0 ∷ []))
    frames_at (zeros n)
    ≡ splice l number_at (zeros (frames_at - number_at + n))
unfolding bytes_of zeros
zero_run l n h =
    rw (
      zeros_next l number_at since_at number_size since_size refl (omega arith),
      zeros_next l number_at place_at (number_size + since_size) 1 refl (omega arith),
      zeros_next l number_at volatile_count_at (number_size + since_size + 1) 1 refl (omega arith),
    )
    (zeros_next l number_at frames_at (frames_at - number_at) n refl (omega arith))

pub wiped_bytes : (pages : ℕ) (l : List ℕ) (x : Board) → FieldsOk pages x → encode_board x ≡ l
    → splice (splice (splice l state_at (state_byte Down ∷ [])) fuse_at (bytes_of fuse_size no_fuse)) number_at (zeros (area_at pages 0 - number_at))
    ≡ encode_board (powered_off x)
wiped_bytes pages l x ok e =
    let y : Board = with_fuse no_fuse (with_state Down x) in
    let n : ℕ = pages * frame_size + slots_size in
    let m : area_at pages 0 - number_at ≡ frames_at - number_at + n = omega arith in
    let w : splice (splice (encode_board x) state_at (state_byte Down ∷ [])) fuse_at (bytes_of fuse_size no_fuse) ≡ encode_board y
    = rw (write_state x Down) (write_fuse (with_state Down x) no_fuse) in
    rw (← e, m, ← powered_off_bytes pages x ok, w) (sym (zero_run (encode_board y) n (fixed_inside y)))

-- ---- the directory

-- one page more
pub forget_next : (k : Bank) (s : List ℕ) (p b : ℕ) → p < length k.directory → s ≡ encode (forget_first p b k)
    → splice s (head_size + p * entry_size) (encode_entry (forgotten b (decode_entry (part s (head_size + p * entry_size) entry_size))))
    ≡ encode (forget_first (p + 1) b k)
forget_next k s p b h e =
    let j : Bank = forget_first p b k in
    rw (e, entry_of j p (rw (pages_forget_first p b k) h), forget_first_waits p b k p (omega arith), add-one p) (sym (encode_forget_first p b k h))

-- all pages
pub forget_all : (k : Bank) (p b : ℕ) → p ≡ length k.directory
    → encode (forget_first p b k) ≡ encode (record { directory = map (forgotten b) k.directory; boards = k.boards })
unfolding forget_first
forget_all k p b e = rw (e, forgotten_first_all b k.directory)

-- the directory lies in the bank
pub directory_in : (s : List ℕ) → IsBank s → blocks_at (length (decode s).directory) ≤ length s
directory_in s ok = rw (is_bank_length s ok) (omega arith)

-- every field stays in range
pub forget_fields : (k : Bank) (b : ℕ) → Fields k → Fields (record { directory = map (forgotten b) k.directory; boards = k.boards })
forget_fields k b ok = rw (length-map k.directory (forgotten b)) ok
