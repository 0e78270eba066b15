-- Document 02, F-2 and F-6: the claims of History/ConversionStatement. What a conversion leaves are today's bytes of the old bank, which are well
-- formed; and it answers as the old one, since a call looks at the largest since in code 4's test alone. Assumes nothing.
use Rattle.std.proofs.Math.Path.{◌≡◌, sym, ap}
use Rattle.std.specs.Prelude.{refl, ℕ, ◌*◌, ◌^◌, ◌≤◌, ◌<◌, Bool, false, ◌&&◌, List, [], ◌∷◌}
use Rattle.std.proofs.Common.{◌∙◌, inl, inr, mul_comm, arith, lit<, lit≤, eqb-true, eq-eqb}
use Rattle.std.proofs.Math.Nat.{pow-le-pow_right}
use Rattle.std.proofs.Math.Bool.{true}
use Rattle.std.proofs.Math.ListN.{length}
use Rattle.types.specs.declared.Answer.TheVariants.{Malformed, HasRecords}
use Rattle.types.specs.declared.Record.{Record}
use Rattle.model.specs.Definitions.Parts.{byte_at}
use Rattle.model.specs.Definitions.Layout.{byte_values, Form, today, since_size, last_since, boards_at, pages_at, block_size, bank_size, block_size_in}
use Rattle.model.specs.Definitions.Bank.{Area, Board, Bank, no_board, board_at}
use Rattle.model.specs.Definitions.Codec.{encode, decode}
use Rattle.model.specs.Definitions.WellFormed.{AreaOkIn, FieldsOkIn, BoardOkIn, PeersOkIn, WellFormedIn, LogOk, AreaOk}
use Rattle.model.specs.Definitions.WellFormed.{FieldsOk, WellFormed}
use Rattle.model.specs.Definitions.Check.{well_formed_in, head_valid, slots_clean, formed_in, well_formed}
use Rattle.model.specs.Definitions.Answers.{code}
use Rattle.model.specs.Definitions.Calls.{Call, Reply, call_within, call_bank, call, refused, done_with, reply_of}
use Rattle.model.specs.Definitions.Older.{older, older_last_since, older_well_formed, older_bank, earlier_well_formed, log_empty, board_empty, no_records, adopt}
use Rattle.model.specs.Definitions.Older.{stale_well_formed, StandsForIn, fits_target, convert}
use Rattle.model.proofs.Laws.Logic.{by_bool, by_eq, and_left, and_right, and_both}
use Rattle.words.specs.Bytes.{each_nil}
use Rattle.model.proofs.Laws.Lists.{each_get_d}
use Rattle.model.proofs.Laws.Parts.{index_in}
use Rattle.model.proofs.Laws.Boards.{board_at_out, by_board}
use Rattle.model.proofs.Laws.CodecBankBack.{HeadOk, head_ok, bytes_ok, decode_boards, decode_pages}
use Rattle.model.proofs.Laws.WellFormedTest.{stale_sound, stale_iff, stands_test, stands_read, well_formed_iff}
use Rattle.model.proofs.Laws.Clean.{cleaned, slots_zero}
use Rattle.model.proofs.Laws.Tests.{Says, says_and, says_every, says_none}
use Rattle.model.proofs.Laws.LargestSince.{same_until_full}
use Rattle.model.proofs.Laws.SinceBound.{AtMost, call_at_most}
use Rattle.model.proofs.Laws.Moves.Calls.{call_keeps}
use Rattle.model.specs.History.Statement.{run_of}
use Rattle.model.proofs.History.OnBytes.{decoded, call_encode}
use Rattle.model.specs.History.ConversionStatement.{Converts, ConversionWrites, told_within, SameUntilFull, ConvertedAnswers, older_today, told_older}
use Rattle.model.specs.History.CleanStatement.{told_by, told_on}
use Rattle.model.specs.History.ConversionStatement.{OlderWellFormed, EarlierWellFormed, BoardEmpty, NoRecords, ConvertsFrom, AdoptionTakes}
use Rattle.model.specs.History.ConversionStatement.{OlderRefused}

-- ---- a bank of a narrower form without a record is well formed today

-- without a record nobody is named
nobody_named : {named : Bool} (n b : ℕ) (x : Board) → BoardEmpty x → PeersOkIn named n b x
nobody_named n b x none =
    record { volatile = rw none.volatile each_nil; selected = rw none.selected each_nil; spare = rw none.spare each_nil }

-- so it is well formed by either rule for names
pub nobody_formed : {form : Form} {named : Bool} (named' : Bool) (k : Bank) → WellFormedIn form named k → NoRecords k → WellFormedIn form named' k
unfolding board_at
nobody_formed named' k w none =
    record {
      sizes = w.sizes;
      directory = w.directory;
      boards = w.boards;
      peers = λ b h. nobody_named (length k.boards) b (board_at k b) (each_get_d k.boards b no_board none h);
    }

module _ {form : Form} (narrow : form.since_width ≤ since_size) where
  fits_wider : (n : ℕ) → n < byte_values ^ form.since_width → n < byte_values ^ since_size
  fits_wider n h = let p : byte_values ^ form.since_width ≤ byte_values ^ since_size = pow-le-pow_right (lit< tt) narrow in omega arith

  log_wider : (pages : ℕ) (rs : List Record) → rs ≡ [] → LogOk pages rs
  log_wider pages rs none = record { records = rw none each_nil; count = rw none (lit≤ tt) }

  area_wider : (pages : ℕ) (a : Area) → AreaOkIn form pages a → a.log ≡ [] → AreaOk pages a
  area_wider pages a ok none = record { number = ok.number; frames = ok.frames; log = log_wider pages a.log none }

  fields_wider : (pages : ℕ) (x : Board) → FieldsOkIn form pages x → BoardEmpty x → FieldsOk pages x
  fields_wider pages x ok none =
      record {
        fuse = ok.fuse;
        working =
            record {
              number = ok.working.number;
              since = fits_wider x.working.since ok.working.since;
              frames = ok.working.frames;
              log = log_wider pages x.working.log none.volatile;
            };
        selected = area_wider pages x.stable.selected ok.selected none.selected;
        spare = area_wider pages x.stable.spare ok.spare none.spare;
      }

  -- the other clauses know no form
  pub wider_formed : {named : Bool} (k : Bank) → WellFormedIn form named k → NoRecords k → WellFormed k
  unfolding board_at
  wider_formed k w none =
      record {
        sizes = w.sizes;
        directory = w.directory;
        boards = λ b h.
            let ok : BoardOkIn form k b = w.boards b h in
            record {
              fields = fields_wider (length k.directory) (board_at k b) ok.fields (each_get_d k.boards b no_board none h);
              fuse = ok.fuse;
              room = ok.room;
              place = ok.place;
              replaying = ok.replaying;
              down = ok.down;
              rights = ok.rights;
              copies = ok.copies;
            };
        peers = λ b h. nobody_named (length k.boards) b (board_at k b) (each_get_d k.boards b no_board none h);
      }

-- ---- whether there is a record

says_board_empty : (x : Board) → Says (board_empty x) (BoardEmpty x)
unfolding board_empty log_empty
says_board_empty x =
    let all =
    says_and (says_none x.working.log)
    (says_and (says_none x.stable.selected.log) (says_none x.stable.spare.log)) in (
      λ h. let q = all.0 h in record { volatile = q.0; selected = q.1.0; spare = q.1.1 },
      λ h. all.1 (h.volatile, (h.selected, h.spare)),
    )

pub says_empty : (k : Bank) → Says (no_records k) (NoRecords k)
unfolding no_records
says_empty k = says_every board_empty k.boards says_board_empty

-- ---- what a conversion answers and writes

older_narrow : older.since_width ≤ since_size
older_narrow = lit≤ tt

module _ (old new : List ℕ) where
  -- the tests of codes 1 and 11, which read the bank off the bytes
  abbrev readable : Bool
  readable = older_well_formed old && fits_target old new

  from_test : readable ≡ true → ConvertsFrom (older_bank old) old new
  unfolding fits_target
  from_test t =
      let v : older_well_formed old ≡ true = and_left _ (fits_target old new) t in
      record {
        formed = stale_sound old v;
        bytes = stands_test old (bytes_ok old v);
        target =
            rw (decode_boards older old, decode_pages older old)
            (eqb-true (length new) _ (and_right (older_well_formed old) _ t));
      }

  test_from : (k : Bank) → ConvertsFrom k old new → readable ≡ true
  unfolding fits_target
  test_from k c =
      let e : older_bank old ≡ k = stands_read k old c.formed c.bytes in
      let n : length new ≡ bank_size (byte_at old boards_at) (byte_at old pages_at) =
      rw (← decode_boards older old, ← decode_pages older old, e) c.target in
      and_both ((stale_iff old).1 (k, c.formed, c.bytes)) (eq-eqb (length new) _ n)

  -- the bank is the one that was read
  bank_from : (k : Bank) → ConvertsFrom k old new → older_bank old ≡ k
  bank_from k c = stands_read k old c.formed c.bytes

  -- it is done where both tests pass
  passes : Converts old new → (readable ≡ true) × (no_records (older_bank old) ≡ true)
  unfolding convert refused code
  passes h =
      by_bool (older_well_formed old && fits_target old new)
      (λ t.
      by_bool (no_records (older_bank old)) (λ u. (t, u)) (λ u. let z : ◌≡◌ {A = ℕ} 11 0 = cc in absurd (omega arith)))
      (λ t. let z : ◌≡◌ {A = ℕ} 1 0 = cc in absurd (omega arith))

  converted : readable ≡ true → no_records (older_bank old) ≡ true
      → convert old new ≡ done_with (encode (older_bank old))
  unfolding convert
  converted t u = cc

  writes : Converts old new → (convert old new).bytes ≡ encode (older_bank old)
  writes h = ap (λ (y : Reply). y.bytes) (converted (passes h).0 (passes h).1)

  refuses : readable ≡ false → convert old new ≡ refused Malformed new
  unfolding convert
  refuses t = cc

  refuses_records : readable ≡ true → no_records (older_bank old) ≡ false → convert old new ≡ refused HasRecords new
  unfolding convert
  refuses_records t u = cc

  converted_formed : Converts old new → WellFormed (older_bank old)
  converted_formed h = wider_formed older_narrow (older_bank old) (from_test (passes h).0).formed ((says_empty (older_bank old)).0 (passes h).1)

  read_back : (h : Converts old new) → decode (convert old new).bytes ≡ older_bank old
  read_back h = rw (writes h) (decoded (older_bank old) (converted_formed h))

  pub conversion_writes : ConversionWrites old new
  unfolding code
  conversion_writes =
      record {
        done = (
          λ h. (older_bank old, from_test (passes h).0, (says_empty (older_bank old)).0 (passes h).1),
          λ h. rw (converted (test_from h.0 h.1) (rw (bank_from h.0 h.1) ((says_empty h.0).1 h.2))),
        );
        bytes = λ k c h. writes h ∙ ap encode (bank_from k c);
        formed = λ h. (older_bank old, converted_formed h, sym (writes h));
        kept = λ k c h. read_back h ∙ bank_from k c;
        zero = λ h. slots_zero (convert old new).bytes ((well_formed_iff (convert old new).bytes).1 (older_bank old, converted_formed h, sym (writes h)));
        answer = λ h. ap (λ (y : Reply). y.outcome) (converted (passes h).0 (passes h).1);
        malformed = λ h. by_bool (older_well_formed old && fits_target old new) (λ t. absurd (h (older_bank old) (from_test t))) refuses;
        records = λ k c some.
            by_bool (no_records (older_bank old))
            (λ u. absurd (some (rw (bank_from k c) at ((says_empty (older_bank old)).0 u))))
            (refuses_records (test_from k c));
      }

-- ---- what it answers later

-- no since of the old bank is above its largest
older_at_most : (k : Bank) → OlderWellFormed k → AtMost older_last_since k
unfolding board_at no_board
older_at_most k w c =
    by_board k c
    (λ h. omega (arith, (w.boards c h).fields.working.since))
    (λ out. rw (board_at_out k c out) (omega arith))

-- call by call: where the old one doesn't answer 4, both do the same
same_calls : (cs : List Call) (k : Bank) → AtMost older_last_since k → WellFormed k → SameUntilFull (told_within older_last_since cs k) (told_on cs (encode k))
unfolding SameUntilFull told_within told_on told_by run_of reply_of call_bank
same_calls [] k low w = tt
same_calls (c ∷ cs) k low w =
    by_eq (code (call_within older_last_since c k).answer) 4 inl
    (λ not_full.
    let e : call_within older_last_since c k ≡ call_within last_since c k =
    same_until_full older_last_since last_since c k (λ b a i. λ f. omega (arith, low b, f)) not_full in
    inr (rw (call_encode c k w, e) (
      refl,
      same_calls cs (call_within last_since c k).run.bank (rw e at (call_at_most older_last_since c k low)) (call_keeps c k w),
    )))

-- by the rules of the day it is well formed: it has no record to name a board
older_today_lem : (old new : List ℕ) → Converts old new → slots_clean older old ≡ true → older_today old ≡ true
unfolding well_formed_in
older_today_lem old new h clean =
    let k : Bank = older_bank old in
    let c : ConvertsFrom k old new = from_test old new (passes old new h).0 in
    and_both ((stale_iff old).1 (k, nobody_formed true k c.formed ((says_empty k).0 (passes old new h).1), c.bytes)) clean

told_older_lem : (cs : List Call) (old : List ℕ) → older_today old ≡ true → told_older cs old ≡ told_within older_last_since cs (older_bank old)
unfolding told_older
told_older_lem cs old t = cc

-- "a converted bank answers every later call as the old one would until its first code 4"
pub converted_answers : (old new : List ℕ) → ConvertedAnswers old new
converted_answers old new h clean cs =
    let v : OlderWellFormed (older_bank old) = (from_test old new (passes old new h).0).formed in
    rw (told_older_lem cs old (older_today_lem old new h clean), writes old new h)
    (same_calls cs (older_bank old) (older_at_most (older_bank old) v) (converted_formed old new h))

-- ---- what it is until then

-- the two lengths of a bank of these sizes differ, so its head tells its form
lengths_differ : (n p : ℕ) → 0 < n → n * block_size_in older p < n * block_size p
lengths_differ n p h =
    let b : block_size_in older p < block_size p = omega arith in
    rw (mul_comm n (block_size_in older p), mul_comm n (block_size p)) (omega (arith, index_in n (block_size p) (block_size_in older p) b))

pub older_refused : (old : List ℕ) → OlderRefused old
unfolding call well_formed_in formed_in
older_refused old v c =
    let head : HeadOk older old = (bytes_ok old v).head in
    let n : ℕ = byte_at old boards_at in
    let p : ℕ = byte_at old pages_at in
    let more : n * block_size_in older p < n * block_size p = lengths_differ n p head.some_board in
    let wrong : head_valid today old ≡ false
    = by_bool (head_valid today old) (λ t. absurd (omega (arith, head.size, (head_ok {form = today} old t).size, more))) (λ t. t) in
    let refuses : well_formed old ≡ false = cc in
    cc

-- ---- a bank of the earlier form taken over

module _ (s : List ℕ) where
  pub adopted : earlier_well_formed s ≡ true → no_records (decode s) ≡ true
      → adopt s ≡ done_with s
  unfolding adopt
  adopted t u = cc

  pub adopt_malformed : earlier_well_formed s ≡ false → adopt s ≡ refused Malformed s
  unfolding adopt
  adopt_malformed t = cc

  pub adopt_records : earlier_well_formed s ≡ true → no_records (decode s) ≡ false → adopt s ≡ refused HasRecords s
  unfolding adopt
  adopt_records t u = cc

  earlier_back : (k : Bank) → EarlierWellFormed k → StandsForIn today k s → (earlier_well_formed s ≡ true) × (decode s ≡ k)
  earlier_back k w e = ((stale_iff s).1 (k, w, e), stands_read k s w e)

  -- what passes over stands for a bank that is well formed today
  earlier_stands : code (adopt s).outcome.answer ≡ 0 → ((adopt s).bytes ≡ s) × (stale_well_formed s ≡ true)
  unfolding refused code
  earlier_stands d =
      by_bool (earlier_well_formed s)
      (λ t.
      by_bool (no_records (decode s))
      (λ u. (
        ap (λ (y : Reply). y.bytes) (adopted t u),
        (stale_iff s).1 (decode s, nobody_formed true (decode s) (stale_sound s t) ((says_empty (decode s)).0 u), stands_test s (bytes_ok s t)),
      ))
      (λ u. let z : ◌≡◌ {A = ℕ} 11 0 = rw (adopt_records t u) at d in absurd (omega arith)))
      (λ t. let z : ◌≡◌ {A = ℕ} 1 0 = rw (adopt_malformed t) at d in absurd (omega arith))

  pub adoption_takes : AdoptionTakes s
  unfolding well_formed_in code
  adoption_takes =
      record {
        done = λ k w e none. let b = earlier_back k w e in adopted b.0 (rw b.1 ((says_empty k).1 none));
        records = λ k w e some.
            let b = earlier_back k w e in
            by_bool (no_records (decode s)) (λ u. absurd (some (rw b.1 at ((says_empty (decode s)).0 u)))) (adopt_records b.0);
        malformed = λ no. by_bool (earlier_well_formed s) (λ t. absurd (no (decode s) (stale_sound s t) (stands_test s (bytes_ok s t)))) adopt_malformed;
        cleans = λ d. let e = earlier_stands d in rw (e.0, cleaned s e.1) refl;
        formed = λ d z. let e = earlier_stands d in rw e.0 ((well_formed_iff s).0 (and_both e.1 z));
      }
