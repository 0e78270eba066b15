-- Demand 3, F-7's claim, F-8's and F-9's of the archive: along any list of calls, whatever numbers and bytes the contracts of the C calls allow keep them.
-- Premise and claim are said of the fields that a caller reads back from the numbers, of the bytes left and of second buffers (engine's OneMemory).
-- Assumes nothing.
use Rattle.std.specs.Prelude.{◌≡◌, ◌≢◌, true, length, eqb}
use Rattle.std.proofs.Math.Path.{refl}
use Rattle.std.proofs.Common.{sym, ap, ◌∙◌, arith}
use Prim.Native.Nat.{ℕ, ◌<◌, ◌%◌}
use mathlib.Core.List.{List, [], ◌∷◌, map}
use Rattle.words.specs.Bytes.{Each}
use Rattle.types.specs.declared.Answer.TheVariants.{Done, Compared}
use Rattle.types.specs.declared.Outcome.{Outcome}
use Rattle.model.specs.Definitions.Layout.{bank_size}
use Rattle.model.specs.Definitions.Codec.{decode}
use Rattle.model.specs.Definitions.Check.{well_formed, sizes_allowed}
use Rattle.model.specs.Definitions.Answers.{code, value, who}
use Rattle.model.specs.Definitions.Calls.{Call, Comparing, Reply, refused, call, buffer_after, make}
use Rattle.model.proofs.Laws.Logic.{cases}
use Rattle.model.proofs.Laws.Codes.{done_as_lem}
use Rattle.model.proofs.Laws.Codes.Order.{never}
use Rattle.model.specs.Laws.Codes.Statement.{done_as}
use Rattle.model.proofs.Laws.LogPages.{compares_logs}
use Rattle.model.specs.History.Statement.{Observed, made, bytes_left, PremisesSeen, ClaimsSeen}
use Rattle.model.specs.History.LogsStatement.{Spared}
use Rattle.model.specs.History.CleanStatement.{SlotsZero, StaysClean}
use Rattle.model.specs.History.WearStatement.{StoresBounded, CheckpointsReach, StoresPaid, HourBounded}
use Rattle.model.specs.Definitions.Older.{clean}
use Rattle.answers.specs.Packed.{who_unit, packed, unpacked, unpacked_back}
use Rattle.engine.specs.OneMemory.{seen_in, Allowed, one_memory_seen, no_place_seen, stays_clean_seen, stores_paid_seen, stores_bounded_seen}
use Rattle.engine.specs.OneMemory.{checkpoints_reach_seen, hour_bounded_seen}
use Rattle.bank.specs.Clauses.{RepliedPacked}

-- what a caller in C sees of a call: what was asked, the number, the bytes left, and the second buffer, which is empty for a call that takes none
pub record Numbered : Type 0 where
  pub asked : Call
  pub number : ℕ
  pub bytes : List ℕ
  pub buffer : List ℕ

-- the same with the number's fields, read as what was asked answers; the second buffer is read under code 0
abbrev pub read_back : Numbered → Observed
read_back x =
    record {
      asked = x.asked;
      outcome = unpacked (done_as x.asked) x.number;
      bytes = x.bytes;
      given = seen_in (unpacked (done_as x.asked) x.number).answer x.buffer;
    }

-- what the contracts allow: each call is run on the bytes that the last one left
unfoldable pub AllowedNumbers : List ℕ → List Numbered → Type 0
AllowedNumbers s [] = Unit
AllowedNumbers s (x ∷ xs) =
    RepliedPacked (call x.asked s) x.number x.bytes
    × ((lent : List ℕ) × (x.buffer ≡ buffer_after (call x.asked s) lent))
    × AllowedNumbers x.bytes xs

allowed_back : (xs : List Numbered) (s : List ℕ) → AllowedNumbers s xs → Allowed s (map read_back xs)
unfolding Allowed AllowedNumbers
allowed_back [] s ok = tt
allowed_back (x ∷ xs) s ok =
    let y : Reply = call x.asked s in
    let back : unpacked (done_as x.asked) x.number ≡ y.outcome =
    unpacked_back (done_as x.asked) x.number y.outcome ok.0.fields (done_as_lem x.asked s) in (
      (back, ok.0.bytes),
      record { lent = ok.1.0; left = x.buffer; promised = ok.1.1; seen = ap (λ (o : Outcome). seen_in o.answer x.buffer) back },
      allowed_back xs x.bytes ok.2,
    )

-- F-9 of an hour that doesn't begin with a make: of any calls on a well-formed bank
pub hour_bounded_archive : (s : List ℕ) → well_formed s ≡ true → (xs : List Numbered) → AllowedNumbers s xs
    → HourBounded (length (decode s).boards) (length (decode s).directory) (map read_back xs)
hour_bounded_archive s w xs ok = hour_bounded_seen s w (map read_back xs) (allowed_back xs s ok)

-- a make whose code is 0 is done
made_done : (n p : ℕ) (s : List ℕ) → code (make n p s).outcome.answer ≡ 0 → (make n p s).outcome.answer ≡ Done 0
unfolding make refused code
made_done n p s =
    let P : Reply → Type 0 = λ y. code y.outcome.answer ≡ 0 → y.outcome.answer ≡ Done 0 in
    cases P (sizes_allowed n p)
    (λ t. cases P (eqb (length s) (bank_size n p)) (λ l e. refl) (λ l e. never (omega arith)))
    (λ t e. never (omega arith))

-- From a `bank_make` whose code is 0, on any bytes, and for any calls behind it.
module _ (n p : ℕ) (s₀ s : List ℕ) (r : ℕ) (y : RepliedPacked (make n p s₀) r s) (d : r % who_unit ≡ 0) (xs : List Numbered) (ok : AllowedNumbers s xs) where
  made_zero : (make n p s₀).outcome.answer ≡ Done 0
  made_zero = made_done n p s₀ (sym y.fields.code_read ∙ d)

  -- Demand 3: if the premise holds of what is seen, so does the claim, after every call.
  pub one_memory_archive : PremisesSeen (map read_back xs) (made s) → ClaimsSeen (map read_back xs) (made s)
  one_memory_archive h =
      one_memory_seen n p s₀ s (make n p s₀).outcome 0 (refl, y.bytes) made_zero (map read_back xs) (allowed_back xs s ok) h

  -- F-7: of two boards that were spared so far `bank_compare_logs` answers 0, all of the number.
  pub no_place_archive : (b c : ℕ) → b < n → c < n → b ≢ c → Each (Spared b) (map read_back xs) → Each (Spared c) (map read_back xs)
      → (q : ℕ) (t : List ℕ) → RepliedPacked (call (Comparing b c) (bytes_left s (map read_back xs))) q t → q ≡ 0
  unfolding packed code who value
  no_place_archive b c lb lc other sb sc q t z =
      let left : List ℕ = bytes_left s (map read_back xs) in
      let found : (call (Comparing b c) left).outcome.answer ≡ Compared 0 0 =
      (no_place_seen n p s₀ s (make n p s₀).outcome 0 (refl, y.bytes) made_zero (map read_back xs) (allowed_back xs s ok) b c lb lc other sb sc).answer in
      let none : (call (Comparing b c) left).outcome.stores ≡ 0 = (compares_logs b c left).leaves.stores in
      z.number ∙ rw (found, none) refl

  -- F-8: every slot at or past a count is zero, and `bank_clean` answers 0, all of the number, and changes nothing.
  pub stays_clean_archive : SlotsZero (bytes_left s (map read_back xs))
      × ((q : ℕ) (t : List ℕ) → RepliedPacked (clean (bytes_left s (map read_back xs))) q t → (q ≡ 0) × (t ≡ bytes_left s (map read_back xs)))
  unfolding packed code who value
  stays_clean_archive =
      let c : StaysClean s (map read_back xs) =
      stays_clean_seen n p s₀ s (make n p s₀).outcome 0 (refl, y.bytes) made_zero (map read_back xs) (allowed_back xs s ok) in
      (c.zero, λ q t z. (z.number ∙ rw c.cleaning refl, z.bytes ∙ rw c.cleaning))

  -- F-9: the stores that are read back from the numbers add up to no more than the calls cost, and than their events allow ..
  pub stores_paid_archive : StoresPaid p (map read_back xs)
  stores_paid_archive =
      stores_paid_seen n p s₀ s (make n p s₀).outcome 0 (refl, y.bytes) made_zero (map read_back xs) (allowed_back xs s ok)

  pub stores_bounded_archive : StoresBounded n p (map read_back xs)
  stores_bounded_archive =
      stores_bounded_seen n p s₀ s (make n p s₀).outcome 0 (refl, y.bytes) made_zero (map read_back xs) (allowed_back xs s ok)

  -- .. and to as many where all were checkpoints of one board and P + 2 is at least N + 1
  pub checkpoints_reach_archive : CheckpointsReach n p (map read_back xs)
  checkpoints_reach_archive =
      checkpoints_reach_seen n p s₀ s (make n p s₀).outcome 0 (refl, y.bytes) made_zero (map read_back xs) (allowed_back xs s ok)
