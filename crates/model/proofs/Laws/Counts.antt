-- Whether a bank has a record, by the counts of its blocks: what the tests of a conversion and of a bank taken over read. Assumes nothing.
use Rattle.std.specs.Prelude.{◌≡◌, ℕ, ◌*◌, Bool, true, false, ◌&&◌, List, drop, eqb}
use Rattle.std.proofs.Common.{ap, sym, ◌∙◌}
use Rattle.std.proofs.Math.Path.{fun_ext}
use Rattle.std.proofs.Math.Bool.{and_comm}
use Rattle.model.specs.Definitions.Parts.{part, byte_at, every, every_below, decode_all}
use Rattle.model.specs.Definitions.Layout.{Form, boards_at, pages_at, blocks_at, selector_at, area_size_in, area_at_in, volatile_count_at_in, block_size_in}
use Rattle.model.specs.Definitions.Bank.{Area, no_board}
use Rattle.model.specs.Definitions.Codec.{selector_byte, decode_area_in, decode_stable, decode_board_in, decode_in}
use Rattle.model.specs.Definitions.Check.{area_count, block_of_in}
use Rattle.model.specs.Definitions.Older.{log_empty, board_empty, no_records}
use Rattle.model.specs.Clauses.{counts_zero}
use Rattle.model.proofs.Laws.Logic.{by_bool, clash}
use Rattle.model.proofs.Laws.Lists.{each_get_d, each_every, every_each, every_below_at, every_below_all}
use Rattle.model.proofs.Laws.Parts.{get_d_decode_all, length_decode_all}
use Rattle.model.proofs.Laws.BoardTests.{counted_volatile, counted_area}
use Rattle.model.proofs.Laws.CodecBankBack.{part_block_of}
use Rattle.model.proofs.Laws.ReadTests.{each_decode_all}

-- a test of every element that is read, by its index
every_decoded : {A : Type 0} (f : A → Bool) (dec : List ℕ → A) (w n : ℕ) (l : List ℕ) (d : A)
    → every f (decode_all dec w n l) ≡ every_below n (λ i. f (dec (part l (i * w) w)))
every_decoded f dec w n l d =
    let g : ℕ → Bool = λ i. f (dec (part l (i * w) w)) in
    by_bool (every_below n g)
    (λ t.
    each_every {P = λ x. f x ≡ true} f (decode_all dec w n l) (λ x h. h) (each_decode_all dec w n l (λ i h. every_below_at n i g t h))
    ∙ sym t)
    (λ t.
    by_bool (every f (decode_all dec w n l))
    (λ u.
    clash
    (every_below_all n g
    (λ i h.
    ap f (sym (get_d_decode_all dec w n l i d h))
    ∙ each_get_d (decode_all dec w n l) i d (every_each {P = λ x. f x ≡ true} f (decode_all dec w n l) (λ x z. z) u) (rw (length_decode_all dec w n l) h)))
    t)
    (λ u. u ∙ sym t))

-- either area may be the selected one
either_empty : (second : Bool) (x y : Area)
    → (log_empty (decode_stable second x y).selected.log && log_empty (decode_stable second x y).spare.log) ≡ (log_empty x.log && log_empty y.log)
unfolding decode_stable
either_empty false x y = and_comm (log_empty x.log) (log_empty y.log) ∙ and_comm (log_empty y.log) (log_empty x.log)
either_empty true x y = and_comm (log_empty y.log) (log_empty x.log)

-- a count is the number of records that were read
volatile_empty : (form : Form) (pages : ℕ) (l : List ℕ) → log_empty (decode_board_in form pages l).working.log ≡ eqb (byte_at l (volatile_count_at_in form)) 0
unfolding log_empty
volatile_empty form pages l = rw (counted_volatile form pages l)

area_empty : (form : Form) (pages area : ℕ) (l : List ℕ)
    → log_empty (decode_area_in form pages (part l (area_at_in form pages area) (area_size_in form pages))).log ≡ eqb (area_count form pages area l) 0
unfolding log_empty
area_empty form pages area l = rw (counted_area form pages area l)

board_counts : (form : Form) (pages : ℕ) (l : List ℕ) → board_empty (decode_board_in form pages l) ≡ counts_zero form pages l
unfolding board_empty counts_zero decode_board_in
board_counts form pages l =
    let x : Area = decode_area_in form pages (part l (area_at_in form pages 0) (area_size_in form pages)) in
    let y : Area = decode_area_in form pages (part l (area_at_in form pages 1) (area_size_in form pages)) in
    let v : log_empty (decode_board_in form pages l).working.log ≡ eqb (byte_at l (volatile_count_at_in form)) 0
    = volatile_empty form pages l in
    ap (λ (t : Bool). log_empty (decode_board_in form pages l).working.log && t) (either_empty (eqb (byte_at l selector_at) (selector_byte true)) x y)
    ∙ rw (v, area_empty form pages 0 l, area_empty form pages 1 l)

pub no_records_counts : (form : Form) (s : List ℕ)
    → no_records (decode_in form s) ≡ every_below (byte_at s boards_at) (λ b. counts_zero form (byte_at s pages_at) (block_of_in form (byte_at s pages_at) s b))
unfolding no_records decode_in
no_records_counts form s =
    let pages : ℕ = byte_at s pages_at in
    every_decoded board_empty (decode_board_in form pages) (block_size_in form pages) (byte_at s boards_at) (drop (blocks_at pages) s) no_board
    ∙ ap (every_below (byte_at s boards_at))
    (fun_ext
    (λ b. board_counts form pages (part (drop (blocks_at pages) s) (b * block_size_in form pages) (block_size_in form pages))
    ∙ ap (counts_zero form pages) (part_block_of form pages s b)))
