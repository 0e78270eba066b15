-- An access on a block: what its reads and writes say of the board that the block stands for, and its tests by a flag and plain numbers.
-- Assumes nothing.
use Rattle.std.specs.Prelude.{◌≡◌, refl, ◌≢◌, ℕ, zero, suc, ◌+◌, ◌*◌, ◌/◌, ◌%◌, ◌^◌, ◌≤◌, ◌<◌, Bool, true, ◌&&◌, ◌||◌, not, List, [], ◌∷◌, length, eqb, Option, Some, None}
use Rattle.std.proofs.Common.{sym, ap, ◌∙◌, pow-suc, arith, eq-eqb, ne_eqb}
use Rattle.std.proofs.Math.Decide.{dec_lt}
use Rattle.std.proofs.Math.Bool.{false}
use Rattle.std.proofs.lemmas.Bool.{eqb-false}
use Rattle.words.specs.LittleEndian.{bytes_of, number_of}
use Rattle.types.specs.declared.Frame.{Frame}
use Rattle.model.specs.Definitions.Parts.{part, splice, byte_at, member, with_member}
use Rattle.model.specs.Definitions.Layout.{page_size, last_since, last_number, number_size, since_size, frame_size, right_at, frame_bytes_at, number_at}
use Rattle.model.specs.Definitions.Layout.{since_at, frames_at}
use Rattle.model.specs.Definitions.Bank.{Board, frame_at, on_working, on_frames}
use Rattle.model.specs.Definitions.Codec.{right_of, encode_frame, encode_board, decode_board_in}
use Rattle.model.specs.Definitions.Steps.{Access, Read, Write, cells_written, names, lacks, lacks_page, cell_byte, with_bytes, accessed, with_frame}
use Rattle.model.specs.Definitions.Replay.{lacking}
use Rattle.model.specs.Definitions.Calls.{counters_full}
use Rattle.model.proofs.Laws.Logic.{by_bool, by_eq, clash}
use Rattle.model.proofs.Laws.Sets.{member_with_same, member_with_other, member_none}
use Rattle.model.proofs.Laws.Below.{lacks_no_page, no_page_lacks}
use Rattle.model.proofs.Laws.Codec.{right_of_right_byte}
use Rattle.model.proofs.Laws.Valid.{Writable}
use Rattle.model.proofs.Laws.BlockFields.{read_right, read_byte, write_frame, write_byte}
use Rattle.model.proofs.Laws.BlockWorking.{accessed_read}
use Rattle.model.proofs.Laws.BoardFields.{accessed_fields}
use Rattle.steps.specs.declared.written.CellWrite.{CellWrite}
use Rattle.steps.specs.Asked.{got, Takes, wrote_byte}
use Rattle.steps.specs.Blocks.{IsBlock, board_of}
use Rattle.steps.specs.BlockLaws.{block_written}

module _ {pages : ℕ} {l : List ℕ} (b : IsBlock pages l) where
  -- ---- reading

  pub byte_read : (p o : ℕ) → p < pages → o < page_size
      → byte_at l (frames_at + p * frame_size + frame_bytes_at + o) ≡ cell_byte (board_of pages l).working.frames (record { page = p; offset = o })
  byte_read p o h k = rw b.back at (read_byte pages (board_of pages l) b.fields p o h k)

  pub right_read : (p : ℕ) → p < pages → right_of (byte_at l (frames_at + p * frame_size + right_at)) ≡ (frame_at (board_of pages l).working.frames p).right
  right_read p h =
      ap right_of (rw b.back at (read_right pages (board_of pages l) b.fields p h))
      ∙ right_of_right_byte (frame_at (board_of pages l).working.frames p).right

  -- ---- writing

  -- the counters as they are read, each one more
  pub access_counted : (n s : ℕ) → n ≡ number_of (part l number_at number_size) → s ≡ number_of (part l since_at since_size) → (p o : ℕ)
      → splice (splice l number_at (bytes_of number_size (n + 1))) since_at (bytes_of since_size (s + 1))
      ≡ encode_board (on_working (accessed (Read p o)) (board_of pages l))
  unfolding decode_board_in
  access_counted n s e f p o = rw (e, f) (rw b.back at (accessed_read (board_of pages l) p o))

  -- the byte of a write, after the counters
  pub byte_written : (p o v : ℕ) (m : List ℕ) → p < pages → o < page_size → m ≡ encode_board (on_working (accessed (Read p o)) (board_of pages l))
      → splice m (frames_at + p * frame_size + frame_bytes_at + o) (v ∷ []) ≡ encode_board (on_working (accessed (Write p o v)) (board_of pages l))
  unfolding on_working on_frames accessed with_bytes cells_written
  byte_written p o v m h k e =
      rw e (write_byte pages (on_working (accessed (Read p o)) (board_of pages l)) p b.fields.working.frames h o v k)

  pub frame_written : (p : ℕ) (f : Frame) → p < pages → length f.bytes ≡ page_size
      → splice l (frames_at + p * frame_size) (encode_frame f) ≡ encode_board (with_frame p f (board_of pages l))
  frame_written p f h e = rw b.back at (write_frame pages (board_of pages l) p f b.fields.working.frames e h)

-- ---- the tests of an access

-- the set of those lacking pages that are below n, by the flag and the set of named pages
pub record LackingBelow (fs : List Frame) (writes : Bool) (named n set : ℕ) : Type 0 where
  pub here : (p : ℕ) → p < n → member p set ≡ (member p named && lacks (got writes) (frame_at fs p).right)
  pub past : (p : ℕ) → n ≤ p → member p set ≡ false

module _ {fs : List Frame} {writes : Bool} {named : ℕ} where
  pub lacking_first : LackingBelow fs writes named 0 0
  lacking_first = record { here = λ p h. absurd (omega arith); past = λ p h. member_none p }

  module _ (n set : ℕ) (b : LackingBelow fs writes named n set) where
    -- page n is one more, or is not
    pub lacking_with : (member n named && lacks (got writes) (frame_at fs n).right) ≡ true → LackingBelow fs writes named (n + 1) (with_member n set)
    lacking_with t =
        record {
          here =
              λ p h.
              by_eq p n
              (λ e. rw e (member_with_same n set ∙ sym t))
              (λ ne. member_with_other n p set ne ∙ b.here p (omega arith));
          past = λ p h. member_with_other n p set (λ e. absurd (omega arith)) ∙ b.past p (omega arith);
        }

    pub lacking_without : (member n named && lacks (got writes) (frame_at fs n).right) ≡ false → LackingBelow fs writes named (n + 1) set
    lacking_without t =
        record {
          here = λ p h. by_eq p n (λ e. rw e (b.past n (omega arith) ∙ sym t)) (λ ne. b.here p (omega arith));
          past = λ p h. b.past p (omega arith);
        }

  -- all of them, for each access that the flag and the set stand for
  pub lacking_all : (n set : ℕ) → LackingBelow fs writes named n set → (a : Access) → Takes n a writes named → (p : ℕ) → member p set ≡ lacks_page a fs p
  unfolding lacks_page
  lacking_all n set b a t p =
      elim (dec_lt p n) [
        | yes l ↦ b.here p l ∙ rw (t.names p l, t.takes)
        | no l ↦
            let e : names a p ≡ false = by_bool (names a p) (λ s. absurd (l (t.below p s))) (λ s. s) in
            b.past p (omega arith) ∙ rw e
      ]

-- a set with no member
set_none : (n set : ℕ) → set < 2 ^ n → ((p : ℕ) → member p set ≡ false) → set ≡ 0
unfolding member
set_none zero set l h = omega arith
set_none (suc n) set l h =
    let e : 2 ^ suc n ≡ 2 ^ n * 2 = pow-suc 2 n in
    let half : set / 2 ≡ 0 = set_none n (set / 2) (omega arith) (λ p. h (suc p)) in
    let low : set % 2 ≢ 1 = eqb-false (set % 2) 1 (h 0) in
    omega arith

-- whether a page is lacking, by the set of those that are
pub lacking_test : (a : Access) (fs : List Frame) (n set : ℕ) → set < 2 ^ n → ((p : ℕ) → names a p ≡ true → p < length fs)
    → ((p : ℕ) → member p set ≡ lacks_page a fs p) → not (eqb set 0) ≡ lacking a fs
unfolding lacks_page
lacking_test a fs n set l below h =
    by_bool (lacking a fs)
    (λ t. rw (t, ne_eqb set 0 (λ e. clash t (no_page_lacks a fs (λ p k. sym (h p) ∙ rw e (member_none p))))))
    (λ t.
    let out : (p : ℕ) → lacks_page a fs p ≡ false =
    λ p. by_bool (names a p) (λ s. lacks_no_page a fs t p (below p s)) (λ s. rw s) in
    rw (t, eq-eqb set 0 (set_none n set l (λ p. h p ∙ out p))))

-- "since or access number at 4,294,967,295" (document 02, F-2)
pub counters_test : (pages : ℕ) (l : List ℕ) (t : Bool)
    → t ≡ (eqb (number_of (part l since_at since_size)) last_since || eqb (number_of (part l number_at number_size)) last_number)
    → t ≡ counters_full last_since (board_of pages l)
unfolding counters_full decode_board_in
counters_test pages l t e = e

-- ---- the same cells written, the same access

pub accessed_same : (a c : Access) (x : Board) → cells_written c ≡ cells_written a → on_working (accessed c) x ≡ on_working (accessed a) x
unfolding on_working accessed
accessed_same a c x e = rw e

-- an access that what is written stands for
wrote_by : {X : Type 0} (w : Option CellWrite) → ((a : Access) → cells_written a ≡ wrote_byte w → X) → X
unfolding cells_written
wrote_by (Some w) f = f (Write w.page w.offset w.value) refl
wrote_by None f = f (Read 0 0) refl

-- so what it leaves is a block
pub performed_block : {pages : ℕ} {l : List ℕ} (m : List ℕ) → IsBlock pages l → (write : Option CellWrite)
    → Writable (board_of pages l).working.frames (wrote_byte write) → (board_of pages l).working.number < last_number
    → (board_of pages l).working.since < last_since
    → ((a : Access) → cells_written a ≡ wrote_byte write → m ≡ encode_board (on_working (accessed a) (board_of pages l))) → IsBlock pages m
performed_block {pages} {l} m b write w n s f =
    wrote_by write
    (λ a e. block_written (on_working (accessed a) (board_of pages l)) b.few (accessed_fields b.fields a (rw e w) n s) (f a e))
