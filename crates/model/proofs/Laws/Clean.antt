-- Document 02, F-8: the claims of History/CleanStatement. A cleaned bank is the bank that the bytes stood for, well formed and clean; it answers as that bank
-- did by the older rule, since no call looks at a slot past a count; well-formed bytes, and so all that calls leave of a fresh bank, have these slots zero, and
-- an area's bytes are told by what it says. Assumes nothing.
use Rattle.std.proofs.Math.Path.{◌≡◌}
use Rattle.std.specs.Prelude.{refl, false, List, [], ◌∷◌, length, take, drop}
use Rattle.std.proofs.Common.{sym, ap, ◌∙◌, mul-le-mul_right, zero-mul, suc-mul, arith, take-add, lit<}
use Prim.Native.Nat.{ℕ, zero, suc, ◌+◌, ◌-◌, ◌*◌, ◌≤◌, ◌<◌}
use Rattle.std.proofs.Math.Bool.{true}
use Rattle.types.specs.declared.Answer.TheVariants.{Malformed}
use Rattle.model.specs.Definitions.Parts.{part, byte_at, zeros}
use Rattle.model.specs.Definitions.Layout.{slot_count, slot_size, slots_size, boards_at, pages_at, volatile_count_at, slots_at, area_at, area_size, block_size}
use Rattle.model.specs.Definitions.Layout.{today}
use Rattle.model.specs.Definitions.Bank.{Bank}
use Rattle.model.specs.Definitions.Codec.{encode_area, decode_area_in, encode, decode}
use Rattle.model.specs.Definitions.WellFormed.{WellFormed, WellFormedBytes}
use Rattle.model.specs.Definitions.Check.{is_zero, area_count, area_log_at, block_of_in, rest_zero, block_clean, slots_clean, formed_in, well_formed_in, well_formed}
use Rattle.model.specs.Definitions.Answers.{code}
use Rattle.model.specs.Definitions.Calls.{Call, Reply, call_bank, call, refused, done_with, reply_of}
use Rattle.model.specs.Definitions.Older.{stale_well_formed, cleaned_in, StandsFor, clean}
use Rattle.model.proofs.Laws.Logic.{by_bool, and_left, and_right, and_both}
use Rattle.model.proofs.Laws.Lists.{every_below_at, every_below_all}
use Rattle.model.proofs.Laws.Parts.{length_part, part_part, part_drop, next_part, index_in, each_part}
use Rattle.model.proofs.Laws.Zeros.{zeros_append, zeros_part}
use Rattle.model.proofs.Laws.Tests.{zeros_is_zero}
use Rattle.model.proofs.Laws.CodecBack.{Readable, AreaPasses, AreaClean, CleanBlock, encode_decode_area, area_inside}
use Rattle.model.proofs.Laws.BoardTests.{count_place, slots_place}
use Rattle.model.proofs.Laws.Cleaned.{part_behind, says_clean, by_area}
use Rattle.model.proofs.Laws.CodecBankBack.{BytesOk, bytes_ok, length_block_of, bytes_block_of, block_readable, encode_decode}
use Rattle.model.proofs.Laws.WellFormedTest.{stale_sound, stale_iff, stands_test, stands_read, well_formed_back, well_formed_iff, stands_encode}
use Rattle.model.proofs.Laws.Moves.Calls.{call_keeps, call_keeps_bytes}
use Rattle.model.specs.History.Statement.{Observed, defined, run_of, bytes_left}
use Rattle.model.proofs.History.OnBytes.{decoded, call_encode}
use Rattle.model.specs.History.CleanStatement.{SlotsZero, AsksForZero, StaysClean, area_of, SameAreas, CleanLeaves, StaleStep, StaleRun}
use Rattle.model.specs.History.CleanStatement.{CleanedAnswers, Asked, Calling, Cleaning, seen_among, Told, told_by, told_on}

-- ==== well-formed bytes

module _ (s : List ℕ) (v : well_formed s ≡ true) where
  abbrev pages : ℕ
  pages = byte_at s pages_at

  ok : BytesOk today true s
  unfolding well_formed_in
  ok = bytes_ok s (and_left (formed_in today true s) _ v)

  module _ (b : ℕ) (h : b < byte_at s boards_at) where
    abbrev l : List ℕ
    l = block_of_in today pages s b

    size : length l ≡ block_size pages
    size = length_block_of s ok b h

    readable : Readable today pages l
    readable = block_readable s ok b h

    clean_block : CleanBlock today pages l
    unfolding well_formed_in slots_clean
    clean_block =
        (says_clean today pages l size readable
        ).0 (every_below_at (byte_at s boards_at) b (λ c. block_clean today pages (block_of_in today pages s c)) (and_right (formed_in today true s) _ v) h)

    -- a slot past the count of a log whose rest is zero
    slot_zero : (a count i : ℕ) → a + slots_size ≤ length l → part l (a + count * slot_size) (slots_size - count * slot_size) ≡ zeros (slots_size - count * slot_size)
        → count ≤ i → i < slot_count → part l (a + i * slot_size) slot_size ≡ zeros slot_size
    slot_zero a count i m z g k =
        let c : ℕ = count * slot_size in
        let o : ℕ = i * slot_size - c in
        let r : count * slot_size ≤ i * slot_size = mul-le-mul_right {m = count} {n = i} slot_size g in
        let q : i * slot_size + slot_size ≤ slots_size = index_in slot_size slot_count i k in
        let e : a + c + o ≡ a + i * slot_size = omega arith in
        ap (λ (n : ℕ). part l n slot_size) (sym e)
        ∙ sym (part_part l (a + c) (slots_size - c) o slot_size (omega arith))
        ∙ ap (λ (t : List ℕ). part t o slot_size) z
        ∙ zeros_part (slots_size - c) o slot_size (omega arith)

    few_volatile : byte_at l volatile_count_at * slot_size ≤ slots_size
    few_volatile = mul-le-mul_right {m = byte_at l volatile_count_at} {n = slot_count} slot_size readable.log.few

    area_passes : (area : ℕ) → area < 2 → AreaPasses today pages (part l (area_at pages area) (area_size pages))
    area_passes = by_area (λ area. AreaPasses today pages (part l (area_at pages area) (area_size pages))) readable.area0 readable.area1

    area_clean : (area : ℕ) → area < 2 → AreaClean today pages (part l (area_at pages area) (area_size pages))
    area_clean = by_area (λ area. AreaClean today pages (part l (area_at pages area) (area_size pages))) clean_block.area0 clean_block.area1

    inside : (area : ℕ) → area < 2 → area_at pages area + area_size pages ≤ length l
    inside area m = omega (arith, size, area_inside today pages area m)

    few_stored : (area : ℕ) → area < 2 → area_count today pages area l * slot_size ≤ slots_size
    few_stored area m =
        mul-le-mul_right {m = area_count today pages area l} {n = slot_count} slot_size (rw (count_place today pages area l) at (area_passes area m).log.few)

    volatile_rest : part l (slots_at pages + byte_at l volatile_count_at * slot_size) (slots_size - byte_at l volatile_count_at * slot_size)
        ≡ zeros (slots_size - byte_at l volatile_count_at * slot_size)
    volatile_rest = sym (part_behind l (slots_at pages) slots_size _ (omega (arith, size)) few_volatile) ∙ clean_block.log

    stored_rest : (area : ℕ) → area < 2
        → part l (area_log_at today pages area + area_count today pages area l * slot_size) (slots_size - area_count today pages area l * slot_size)
        ≡ zeros (slots_size - area_count today pages area l * slot_size)
    stored_rest area m =
        sym (part_behind l (area_log_at today pages area) slots_size _ (omega (arith, inside area m)) (few_stored area m))
        ∙ (rw (count_place today pages area l, slots_place today pages area l) at (area_clean area m))

    -- an area is written as it was read
    area_back : (area : ℕ) → area < 2
        → encode_area (decode_area_in today pages (part l (area_at pages area) (area_size pages))) ≡ part l (area_at pages area) (area_size pages)
    area_back area m =
        encode_decode_area pages (part l (area_at pages area) (area_size pages)) (area_passes area m) (area_clean area m)
        (each_part l (area_at pages area) (area_size pages) (bytes_block_of s ok b)) (length_part l (area_at pages area) (area_size pages) (inside area m))

  pub slots_zero : SlotsZero s
  slots_zero =
      record {
        volatile = λ b i h g k. slot_zero b h (slots_at pages) _ i (omega (arith, size b h)) (volatile_rest b h) g k;
        stored = λ b area i h m g k. slot_zero b h (area_log_at today pages area) _ i (omega (arith, inside b h area m)) (stored_rest b h area m) g k;
      }

-- ==== the other way: slots that are zero pass the test

-- a run of slots, each zero
zero_slots : (w n : ℕ) (l : List ℕ) → ((i : ℕ) → i < n → part l (i * w) w ≡ zeros w) → take (n * w) l ≡ zeros (n * w)
unfolding zeros part
zero_slots w zero l f = rw zero-mul
zero_slots w (suc n) l f =
    let first : take w l ≡ zeros w = rw zero-mul at (f 0 (omega arith)) in
    let rest : take (n * w) (drop w l) ≡ zeros (n * w) = zero_slots w n (drop w l) (λ i h. rw (next_part l i w) (f (suc i) (omega arith))) in
    let e : suc n * w ≡ w + n * w = rw suc-mul (omega arith) in
    rw (e, take-add w (n * w) l, first, rest) (zeros_append w (n * w))

-- those of a log from its count on
rest_of_slots : (l : List ℕ) (a count : ℕ) → count ≤ slot_count → ((i : ℕ) → count ≤ i → i < slot_count → part l (a + i * slot_size) slot_size ≡ zeros slot_size)
    → rest_zero today a count l ≡ true
unfolding rest_zero part is_zero
rest_of_slots l a count h f =
    let n : ℕ = slot_count - count in
    let e : slots_size - count * slot_size ≡ n * slot_size = omega arith in
    let at : (i : ℕ) → a + count * slot_size + i * slot_size ≡ a + (count + i) * slot_size = λ i. omega arith in
    rw (
      e,
      zero_slots slot_size n (drop (a + count * slot_size) l)
          (λ i k. part_drop l (a + count * slot_size) (i * slot_size) slot_size ∙ rw (at i) (f (count + i) (omega arith) (omega arith))),
    )
    (zeros_is_zero (n * slot_size))

zero_formed : (s : List ℕ) → stale_well_formed s ≡ true → SlotsZero s → well_formed s ≡ true
unfolding well_formed_in slots_clean block_clean
zero_formed s t z =
    let ok : BytesOk today true s = bytes_ok s t in
    and_both t
    (every_below_all (byte_at s boards_at) _
    (λ b h.
    let pages : ℕ = byte_at s pages_at in
    let l : List ℕ = block_of_in today pages s b in
    let r : Readable today pages l = block_readable s ok b h in
    and_both (rest_of_slots l (slots_at pages) _ r.log.few (λ i g k. z.volatile b i h g k))
    (and_both
    (rest_of_slots l (area_log_at today pages 0) _ (rw (count_place today pages 0 l) at r.area0.log.few) (λ i g k. z.stored b 0 i h (lit< tt) g k))
    (rest_of_slots l (area_log_at today pages 1) _ (rw (count_place today pages 1 l) at r.area1.log.few) (λ i g k. z.stored b 1 i h (lit< tt) g k)))))

pub asks_for_zero : (s : List ℕ) → AsksForZero s
unfolding well_formed_in
asks_for_zero s = (λ v. (and_left (formed_in today true s) _ v, slots_zero s v), λ h. zero_formed s h.0 h.1)

-- areas that say the same are the same bytes
pub same_areas : (s t : List ℕ) → SameAreas s t
same_areas s t v w e b c i j hb hc hi hj number frames log =
    let same : area_of t c j ≡ area_of s b i = λ d. record { number = number d; frames = frames d; log = log d } in
    sym (area_back t w c hc j hj) ∙ ap encode_area same ∙ area_back s v b hb i hi

-- ==== a list of calls

-- what calls leave of well-formed bytes is well formed
pub left_formed : (cs : List Call) (s : List ℕ) → well_formed s ≡ true → well_formed (bytes_left s (run_of cs s)) ≡ true
unfolding run_of bytes_left
left_formed [] s v = v
left_formed (c ∷ cs) s v = left_formed cs (call c s).bytes (call_keeps_bytes c s ∙ v)

-- ==== the call

module _ (s : List ℕ) where
  pub cleaned : stale_well_formed s ≡ true → clean s ≡ done_with (cleaned_in today s)
  unfolding clean
  cleaned t = cc

  pub clean_refuses : stale_well_formed s ≡ false → clean s ≡ refused Malformed s
  unfolding clean
  clean_refuses t = cc

  -- what it leaves are the bytes of the bank that was read
  pub cleaned_bytes : stale_well_formed s ≡ true → (clean s).bytes ≡ encode (decode s)
  cleaned_bytes t = ap (λ (y : Reply). y.bytes) (cleaned t) ∙ sym (encode_decode s (bytes_ok s t))

  pub cleaned_formed : stale_well_formed s ≡ true → WellFormedBytes (clean s).bytes
  cleaned_formed t = (decode s, stale_sound s t, sym (cleaned_bytes t))

  clean_done : code (clean s).outcome.answer ≡ 0 → stale_well_formed s ≡ true
  unfolding refused code
  clean_done d =
      by_bool (stale_well_formed s) (λ t. t) (λ t. let z : ◌≡◌ {A = ℕ} 1 0 = rw (clean_refuses t) at d in absurd (omega arith))

  pub clean_leaves : CleanLeaves s
  unfolding well_formed_in
  clean_leaves =
      record {
        done = λ k w z. cleaned ((stale_iff s).1 (k, w, z)) ∙ rw z.cleaned;
        malformed = λ no. by_bool (stale_well_formed s) (λ t. absurd (no (decode s) (stale_sound s t) (stands_test s (bytes_ok s t)))) clean_refuses;
        formed = λ d. cleaned_formed (clean_done d);
        same = λ d. let t = clean_done d in rw (cleaned_bytes t) (decoded (decode s) (stale_sound s t));
        zero = λ d. slots_zero (clean s).bytes ((well_formed_iff (clean s).bytes).1 (cleaned_formed (clean_done d)));
        kept = λ v.
            let t : stale_well_formed s ≡ true = and_left (formed_in today true s) _ v in
            cleaned t ∙ rw (sym (encode_decode s (bytes_ok s t)) ∙ well_formed_back s v);
      }

pub stays_clean : (cs : List Call) (s : List ℕ) → well_formed s ≡ true → StaysClean s (run_of cs s)
stays_clean cs s v =
    let left : List ℕ = bytes_left s (run_of cs s) in
    let w : well_formed left ≡ true = left_formed cs s v in
    record { zero = slots_zero left w; cleaning = (clean_leaves left).kept w }

-- so cleanings among calls on a well-formed bank change nothing
unfoldable pub calls_among : List Asked → List Call
calls_among [] = []
calls_among (Calling c ∷ rs) = c ∷ calls_among rs
calls_among (Cleaning ∷ rs) = calls_among rs

pub seen_among_lem : (rs : List Asked) (s : List ℕ) → well_formed s ≡ true → seen_among rs s ≡ run_of (calls_among rs) s
unfolding seen_among calls_among run_of
seen_among_lem [] s v = refl
seen_among_lem (Calling c ∷ rs) s v = ap (λ (xs : List Observed). defined c s ∷ xs) (seen_among_lem rs (call c s).bytes (call_keeps_bytes c s ∙ v))
seen_among_lem (Cleaning ∷ rs) s v = rw (ap (λ (y : Reply). y.bytes) ((clean_leaves s).kept v)) (seen_among_lem rs s v)

-- ---- what it answers later

-- one call: the bank that the bytes stand for is the one that is asked
stale_read : {c : Call} {k : Bank} {s : List ℕ} {t : Told} {next : List ℕ} → WellFormed k → StandsFor k s → StaleStep c s t next
    → (t ≡ told_by (call_bank c k)) × StandsFor (call_bank c k).run.bank next
stale_read {k = k} {s = s} w z r = let e : decode s ≡ k = stands_read k s w z in (rw e at r.told, rw e at r.stands)

-- a bank and bytes that stand for it
stale_answers : (cs : List Call) (k : Bank) (s : List ℕ) (ts : List Told) (left : List ℕ) → WellFormed k → StandsFor k s → StaleRun cs s ts left
    → told_on cs (encode k) ≡ ts
unfolding StaleRun told_on run_of told_by reply_of
stale_answers [] k s [] left w z r = refl
stale_answers [] k s (t ∷ ts) left w z r = absurd r
stale_answers (c ∷ cs) k s [] left w z r = absurd r
stale_answers (c ∷ cs) k s (t ∷ ts) left w z r =
    let q = stale_read w z r.1 in
    rw (call_encode c k w, q.0)
    (ap (λ (us : List Told). told_by (call_bank c k) ∷ us) (stale_answers cs (call_bank c k).run.bank r.0 ts left (call_keeps c k w) q.1 r.2))

-- and the bytes at the end stand for the bank that today's calls leave
stale_left : (cs : List Call) (k : Bank) (s : List ℕ) (ts : List Told) (left : List ℕ) → WellFormed k → StandsFor k s → StaleRun cs s ts left
    → clean left ≡ done_with (bytes_left (encode k) (run_of cs (encode k)))
unfolding StaleRun run_of bytes_left reply_of
stale_left [] k s [] left w z r = rw r ((clean_leaves s).done k w z)
stale_left [] k s (t ∷ ts) left w z r = absurd r
stale_left (c ∷ cs) k s [] left w z r = absurd r
stale_left (c ∷ cs) k s (t ∷ ts) left w z r =
    let q = stale_read w z r.1 in
    rw (call_encode c k w) (stale_left cs (call_bank c k).run.bank r.0 ts left (call_keeps c k w) q.1 r.2)

-- and some run of the older rule: one that leaves nothing behind
stale_some : (cs : List Call) (k : Bank) (s : List ℕ) → WellFormed k → StandsFor k s → (ts : List Told) × ((left : List ℕ) × StaleRun cs s ts left)
unfolding StaleRun
stale_some [] k s w z = ([], (s, refl))
stale_some (c ∷ cs) k s w z =
    let e : decode s ≡ k = stands_read k s w z in
    let j : Bank = (call_bank c k).run.bank in
    let more = stale_some cs j (encode j) (call_keeps c k w) (stands_encode j (call_keeps c k w)) in
    (told_by (call_bank c k) ∷ more.0, (more.1.0, (encode j, record { told = rw e; stands = rw e (stands_encode j (call_keeps c k w)) }, more.1.1)))

pub cleaned_answers : (s : List ℕ) → CleanedAnswers s
cleaned_answers s =
    record {
      answers = λ d cs ts left r.
          let t = clean_done s d in
          rw (cleaned_bytes s t) (stale_answers cs (decode s) s ts left (stale_sound s t) (stands_test s (bytes_ok s t)) r);
      later = λ d cs ts left r.
          let t = clean_done s d in
          rw (cleaned_bytes s t) (stale_left cs (decode s) s ts left (stale_sound s t) (stands_test s (bytes_ok s t)) r);
      some = λ d cs. let t = clean_done s d in stale_some cs (decode s) s (stale_sound s t) (stands_test s (bytes_ok s t));
    }
