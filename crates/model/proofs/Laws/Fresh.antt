-- A fresh bank is well formed and its bytes have the length that document 01 states; so a make answered Done leaves well-formed bytes.
-- Assumes nothing.
use Rattle.std.specs.Prelude.{◌≡◌, refl, ℕ, ◌+◌, ◌*◌, ◌%◌, ◌≤◌, ◌<◌, true, List, [], length, eqb}
use Rattle.std.proofs.Common.{mod-lt, arith, lit<, lit≤}
use Rattle.std.proofs.Math.Nat.{one-le-pow}
use Rattle.words.specs.Bytes.{Each, each_nil}
use Rattle.types.specs.declared.Frame.{Frame}
use Rattle.types.specs.declared.Right.{Right}
use Rattle.types.specs.declared.Right.TheVariants.{None, Own}
use Rattle.types.specs.declared.Answer.TheVariants.{Done}
use Rattle.model.specs.Definitions.Parts.{zeros}
use Rattle.model.specs.Definitions.Layout.{most_boards, most_pages, page_size, bank_size, block_size}
use Rattle.model.specs.Definitions.Bank.{empty_frame, zero_area, zero_working, no_board, board_at, entry_at, frame_at, fresh_frames, fresh_board, fresh}
use Rattle.model.specs.Definitions.WellFormed.{SizesOk, FrameOk, LogOk, FramesOk, AreaOk, FieldsOk, PlaceOk, right_in, BoardOk, EntryOk, WellFormed}
use Rattle.model.specs.Definitions.WellFormed.{WorkingOk, PeersOk}
use Rattle.model.specs.Definitions.Check.{well_formed, sizes_allowed}
use Rattle.model.specs.Definitions.Codec.{encode}
use Rattle.model.specs.Definitions.Calls.{Reply, refused, make}
use Rattle.model.proofs.Laws.Logic.{cases, by_bool}
use Rattle.model.proofs.Laws.Lists.{length_tabulate, get_d_tabulate, each_tabulate}
use Rattle.model.proofs.Laws.Zeros.{zeros_bytes, zeros_length}
use Rattle.model.proofs.Laws.Sets.{member_none}
use Rattle.model.proofs.Laws.Tests.{says_and, says_lt, says_le}
use Rattle.model.proofs.Laws.WellFormedTest.{well_formed_complete}

-- ---- the parts of a fresh board

-- under any right: the bytes are zero
zero_frame_ok : (r : Right) → FrameOk (record { right = r; bytes = zeros page_size })
zero_frame_ok r = record { size = zeros_length page_size; bytes = zeros_bytes page_size; empty = λ _. refl }

pub no_record_ok : (pages : ℕ) → LogOk pages []
no_record_ok pages = record { records = each_nil; count = lit≤ tt }

fresh_frames_ok : (boards pages b : ℕ) → FramesOk pages (fresh_frames boards pages b)
unfolding fresh_frames empty_frame
fresh_frames_ok boards pages b =
    record {
      count = length_tabulate pages _;
      frames = each_tabulate pages _ (λ p. cases FrameOk (eqb (p % boards) b) (λ _. zero_frame_ok Own) (λ _. zero_frame_ok None));
    }

pub zero_area_ok : {pages : ℕ} {fs : List Frame} → FramesOk pages fs → AreaOk pages (zero_area fs)
zero_area_ok {pages} h = record { number = lit≤ tt; frames = h; log = no_record_ok pages }

pub zero_working_ok : {pages : ℕ} {fs : List Frame} → FramesOk pages fs → WorkingOk pages (zero_working fs)
zero_working_ok {pages} h = record { number = lit≤ tt; since = lit≤ tt; frames = h; log = no_record_ok pages }

fresh_board_fields : (boards pages b : ℕ) → FieldsOk pages (fresh_board boards pages b)
unfolding fresh_board
fresh_board_fields boards pages b =
    let h : FramesOk pages (fresh_frames boards pages b) = fresh_frames_ok boards pages b in
    record { fuse = lit≤ tt; working = zero_working_ok h; selected = zero_area_ok h; spare = zero_area_ok h }

-- ---- the bank: what stands at a page and at a board

pub fresh_boards : (n p : ℕ) → length (fresh n p).boards ≡ n
unfolding fresh
fresh_boards n p = length_tabulate n (λ b. fresh_board n p b)

pub fresh_pages : (n p : ℕ) → length (fresh n p).directory ≡ p
unfolding fresh
fresh_pages n p = length_tabulate p _

pub fresh_board_lem : (n p b : ℕ) → b < n → board_at (fresh n p) b ≡ fresh_board n p b
unfolding fresh board_at
fresh_board_lem n p b h = get_d_tabulate n b (λ c. fresh_board n p c) no_board h

pub fresh_entry : (n p q : ℕ) → q < p → entry_at (fresh n p) q ≡ record { owner = q % n; copies = 0 }
unfolding fresh entry_at
fresh_entry n p q h = get_d_tabulate p q _ _ h

-- "page p owned by board p mod N", and no copy out
fresh_right : (n p b q : ℕ) → q < p → (frame_at (fresh_frames n p b) q).right ≡ right_in (record { owner = q % n; copies = 0 }) b
unfolding fresh_frames empty_frame frame_at right_in
fresh_right n p b q h =
    rw get_d_tabulate (by_bool (eqb (q % n) b) (λ t. cc) (λ t. cc (member_none b)))

fresh_ok : (n p b : ℕ) → b < n → BoardOk (fresh n p) b
unfolding PlaceOk fresh_board
fresh_ok n p b h =
    let e : board_at (fresh n p) b ≡ fresh_board n p b = fresh_board_lem n p b h in
    record {
      fields = rw (e, fresh_pages n p) (fresh_board_fields n p b);
      fuse = rw e (lit< tt);
      room = rw e (lit≤ tt);
      place = rw e;
      replaying = λ _. rw e;
      down = λ d. let z : ◌≡◌ {A = ℕ} 0 1 = cc in absurd (omega arith);
      rights = λ u q l. let m : q < p = rw (fresh_pages n p) at l in rw (e, fresh_entry n p q m) (fresh_right n p b q m);
      copies = λ u q l. absurd (u (rw e));
    }

-- without a record nobody is named
fresh_peers : (n p b : ℕ) → b < n → PeersOk n b (board_at (fresh n p) b)
unfolding fresh_board
fresh_peers n p b h = rw (fresh_board_lem n p b h) (record { volatile = each_nil; selected = each_nil; spare = each_nil })

fresh_directory : (n p : ℕ) → 0 < n → Each (EntryOk n) (fresh n p).directory
unfolding fresh
fresh_directory n p h =
    each_tabulate p _ (λ q. record { owner = mod-lt q h; copies = one-le-pow n 2 (lit< tt); owner_bit = member_none (q % n) })

pub fresh_well_formed : (n p : ℕ) → 0 < n → n ≤ most_boards → 0 < p → p ≤ most_pages → WellFormed (fresh n p)
fresh_well_formed n p h₀ h₁ h₂ h₃ =
    record {
      sizes = rw (fresh_boards n p, fresh_pages n p) (record { some_board = h₀; boards = h₁; some_page = h₂; pages = h₃ });
      directory = rw (fresh_boards n p) (fresh_directory n p h₀);
      boards = λ b l. fresh_ok n p b (rw (fresh_boards n p) at l);
      peers = λ b l. rw (fresh_boards n p) (fresh_peers n p b (rw (fresh_boards n p) at l));
    }

-- "a block 2328 + 51P" (document 02, F-2), so the length is 4 + 2P + N(2328 + 51P)
pub bank_size_closed : (n p : ℕ) → bank_size n p ≡ 4 + 2 * p + n * (2328 + 51 * p)
bank_size_closed n p = let e : block_size p ≡ 2328 + 51 * p = omega arith in rw e (omega arith)

-- ---- its bytes

pub fresh_bytes : (n p : ℕ) → 0 < n → n ≤ most_boards → 0 < p → p ≤ most_pages → well_formed (encode (fresh n p)) ≡ true
fresh_bytes n p h₀ h₁ h₂ h₃ = well_formed_complete (fresh n p) (fresh_well_formed n p h₀ h₁ h₂ h₃)

-- what the test of the sizes says
pub sizes_say : (boards pages : ℕ) → sizes_allowed boards pages ≡ true → SizesOk boards pages
sizes_say boards pages h =
    let ok = (says_and (says_lt 0 boards) (says_and (says_le boards most_boards) (says_and (says_lt 0 pages) (says_le pages most_pages)))).0 h in
    record { some_board = ok.0; boards = ok.1.0; some_page = ok.1.1.0; pages = ok.1.1.1 }

-- a make that is not refused leaves a bank that every call takes
pub make_well_formed : (n p : ℕ) (s : List ℕ) (v : ℕ) → (make n p s).outcome.answer ≡ Done v → well_formed (make n p s).bytes ≡ true
unfolding make refused
make_well_formed n p s v h =
    let P : Reply → Type 0 = λ r. r.outcome.answer ≡ Done v → well_formed r.bytes ≡ true in
    let sizes = says_and (says_lt 0 n) (says_and (says_le n most_boards) (says_and (says_lt 0 p) (says_le p most_pages))) in
    cases P (sizes_allowed n p)
    (λ t.
    cases P (eqb (length s) (bank_size n p))
    (λ _ _. let ok = sizes.0 t in fresh_bytes n p ok.0 ok.1.0 ok.1.1.0 ok.1.1.1)
    (λ _ e. let z : ◌≡◌ {A = ℕ} 0 1 = cc in absurd (omega arith)))
    (λ _ e. let z : ◌≡◌ {A = ℕ} 0 1 = cc in absurd (omega arith))
    h
