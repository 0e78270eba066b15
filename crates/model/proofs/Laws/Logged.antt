-- F-6 (History/PeersStatement): what a done access adds to the log of every board, and whom these records name. Assumes nothing.
use Rattle.std.specs.Prelude.{◌≡◌, ◌≢◌, true, false, ◌||◌}
use Rattle.std.proofs.Math.Path.{refl, sym, ap}
use Rattle.std.proofs.Common.{◌∙◌, arith, eqb-true, eq-eqb, ne_eqb}
use Prim.Native.Nat.{ℕ, suc, ◌<◌}
use Rattle.std.proofs.Math.Bool.{Bool}
use Rattle.std.proofs.Math.Option.{none, some}
use mathlib.Core.List.{List, [], ◌∷◌, ◌++◌, map, map-append, append-nil, append_assoc}
use Rattle.std.proofs.Math.ListN.{length}
use Rattle.std.proofs.Math.Dec.{eqb}
use Rattle.std.proofs.lemmas.Bool.{not-false}
use Rattle.words.specs.Bytes.{Each}
use Rattle.types.specs.declared.Frame.{Frame}
use Rattle.types.specs.declared.CopyOrOwn.{CopyOrOwn}
use Rattle.types.specs.declared.CopyOrOwn.TheVariants.{GotCopy, GotOwn}
use Rattle.types.specs.declared.Kind.{Kind}
use Rattle.types.specs.declared.Kind.TheVariants.{Got, Shown, Dropped}
use Rattle.types.specs.declared.State.TheVariants.{Up, Replaying}
use Rattle.types.specs.declared.Answer.TheVariants.{Done}
use Rattle.types.specs.declared.Record.{Record}
use Rattle.model.specs.Definitions.Parts.{zeros, member}
use Rattle.model.specs.Definitions.Layout.{page_size}
use Rattle.model.specs.Definitions.Bank.{Board, Bank, board_at, entry_at, on_board, on_working, on_frames}
use Rattle.model.specs.Definitions.WellFormed.{WellFormed, is_replaying}
use Rattle.model.specs.Definitions.Steps.{Run, start, step, appended, recorded, Access, Read, Write, ReadCells, cells_written, takes, accessed}
use Rattle.model.specs.Definitions.Steps.{access, with_frame, giver, show, give_copy, dropped, drop_copies, pass_ownership, show_all, give_copies}
use Rattle.model.specs.Definitions.Steps.{read_fetch, write_fetch, fetch}
use Rattle.model.specs.Definitions.Replay.{differs, took_due, replay_over, end_replay}
use Rattle.model.specs.Definitions.Calls.{Result, first_given, page_written, copies_out, lacking_of, pages_lacking, live_refusals, prepared, live}
use Rattle.model.specs.Definitions.Calls.{live_after_end, replaying, access_bank, call_bank}
use Rattle.model.specs.Clauses.{records_of, CanFetch, CanAccess, Entered}
use Rattle.model.specs.History.Statement.{live_bank}
use Rattle.model.specs.History.PeersStatement.{Said, said, said_by, gots_said, showns_said, drops_said, said_new, AccessLogs}
use Rattle.model.proofs.Laws.Logic.{cases, cases_option, by_bool, by_eq}
use Rattle.model.proofs.Laws.Lists.{each_head, each_imp, map_each}
use Rattle.model.proofs.Laws.Sets.{member_none}
use Rattle.model.proofs.Laws.Below.{Rising, rising_each, lacking_none, lacking_pages_rise}
use Rattle.model.proofs.Laws.Boards.{took_copy, took_own, dropped_if, boards_on_board, board_at_same, board_at_other, boards_give_copy, board_at_give_copy_same}
use Rattle.model.proofs.Laws.Boards.{board_at_drop_copies, board_at_pass_ownership_same, board_at_pass_ownership_other}
use Rattle.model.proofs.Laws.Runs.{lost_not, step_done, step_none, follows_none, follows_show_all, follows_end_replay, Changed, entry_at_changed}
use Rattle.model.proofs.Laws.Runs.Stores.{FlushedWith, show_changed}
use Rattle.model.proofs.Laws.Keeps.Clauses.{up_below, is_replaying_replaying}
use Rattle.model.proofs.Laws.Keeps.Givers.{giver_give_copy}
use Rattle.model.proofs.Laws.Keeps.Fetches.{gave, got, gave_none, gave_changed, got_changed, got_bytes, writer_same, owner_up}
use Rattle.model.proofs.Laws.Keeps.Copies.{Shared, shared_giver, show_shared, shown_can, show_all_shared}
use Rattle.model.proofs.Laws.Keeps.Live.{writes_own, lacking_own, can_fetch, local_owner, writer_none}
use Rattle.model.proofs.Laws.Keeps.Entered.{entered, entered_live, fitting, live_can}
use Rattle.model.proofs.Laws.Moves.Calls.{prepared_sizes, ended_formed}
use Rattle.model.proofs.Laws.Codes.Order.{never}
use Rattle.model.proofs.Laws.CellsRead.{copies_others, copy_writes, access_done, LiveDone, live_done}

-- ==== what a log says more

-- the log of board y says all that the log of x does, and then this
abbrev Adds : List Said → Board → Board → Type 0
Adds new x y = said_by y ≡ said_by x ++ new

adds_nothing : (x y : Board) → said_by y ≡ said_by x → Adds [] x y
adds_nothing x y e = e ∙ sym (append-nil (said_by x))

adds_both : (m n : List Said) (x y z : Board) → Adds m x y → Adds n y z → Adds (m ++ n) x z
adds_both m n x y z p q = q ∙ (ap (λ (l : List Said). l ++ n) p ∙ append_assoc (said_by x) m n)

-- a record noted
recorded_adds : (kind : Kind) (peer : ℕ) (bytes : List ℕ) (x : Board)
    → Adds (record { kind = kind; peer = peer } ∷ []) x (on_working (recorded kind peer bytes) x)
unfolding said_by records_of on_working recorded appended
recorded_adds kind peer bytes x =
    let stored : List Record = x.stable.selected.log in
    let volatile : List Record = x.working.log in
    let new : List Record = record { count = x.working.since; kind = kind; peer = peer; bytes = bytes } ∷ [] in
    ap (map said) (sym (append_assoc stored volatile new)) ∙ map-append said (stored ++ volatile) new

-- .. and flushed
flushed_adds : (kind : Kind) (peer : ℕ) (bytes : List ℕ) (x y : Board) → FlushedWith kind peer bytes x y
    → Adds (record { kind = kind; peer = peer } ∷ []) x y
unfolding said_by
flushed_adds kind peer bytes x y f = ap (map said) f.records ∙ recorded_adds kind peer bytes x

-- a frame is no part of a log
frame_says : (p : ℕ) (f : Frame) (x : Board) → said_by (with_frame p f x) ≡ said_by x
unfolding said_by records_of with_frame on_working on_frames
frame_says p f x = refl

took_copy_adds : (o p : ℕ) (bytes : List ℕ) (x : Board) → Adds (record { kind = Got GotCopy p; peer = o } ∷ []) x (took_copy o p bytes x)
unfolding took_copy
took_copy_adds o p bytes x = frame_says p _ _ ∙ recorded_adds (Got GotCopy p) o bytes x

dropped_if_adds : (t : Bool) (w p : ℕ) (x : Board)
    → Adds (elim t [ true ↦ record { kind = Dropped p; peer = w } ∷ [] | false ↦ [] ]) x (dropped_if t w p x)
unfolding dropped_if dropped
dropped_if_adds true w p x = frame_says p _ _ ∙ recorded_adds (Dropped p) w (zeros page_size) x
dropped_if_adds false w p x = adds_nothing x x refl

-- ==== the givers' part

-- page by page
showns_first : (g : CopyOrOwn) (k : Bank) (b c p : ℕ) (ps : List ℕ)
    → showns_said g k b c (p ∷ ps) ≡ showns_said g k b c (p ∷ []) ++ showns_said g k b c ps
unfolding showns_said
showns_first g k b c p ps = by_bool (eqb (giver g k p) c) (λ t. cc) (λ t. cc)

-- the same givers
showns_same : (g : CopyOrOwn) (k j : Bank) (b c : ℕ) (ps : List ℕ) → ((p : ℕ) → giver g j p ≡ giver g k p) → showns_said g j b c ps ≡ showns_said g k b c ps
unfolding showns_said
showns_same g k j b c [] same = refl
showns_same g k j b c (p ∷ ps) same = cc (same p, showns_same g k j b c ps same)

-- one page: its giver logs a shown
show_adds : (g : CopyOrOwn) (b p : ℕ) (r : Run) → (board_at r.bank (giver g r.bank p)).state ≡ Up → (show (giver g r.bank p) b p r).lost ≡ none
    → (c : ℕ) → Adds (showns_said g r.bank b c (p ∷ [])) (board_at r.bank c) (board_at (show (giver g r.bank p) b p r).bank c)
unfolding showns_said
show_adds g b p r up n c =
    let o : ℕ = giver g r.bank p in
    let t : Changed o (FlushedWith (Shown p) b (zeros page_size)) r.bank (show o b p r).bank = show_changed o b p r n in
    by_eq o c
    (λ e.
    let one : showns_said g r.bank b c (p ∷ []) ≡ record { kind = Shown p; peer = b } ∷ [] = cc (eq-eqb o c e) in
    rw (one, ← e) (flushed_adds (Shown p) b (zeros page_size) _ _ (t.this (up_below r.bank o up))))
    (λ m.
    let no : showns_said g r.bank b c (p ∷ []) ≡ [] = cc (ne_eqb o c m) in
    rw no (adds_nothing _ _ (ap said_by (t.others c (λ e. m (sym e))))))

show_all_adds : (b : ℕ) (ps : List ℕ) (s : Run) → CanFetch GotCopy b ps s.bank → (show_all b ps s).lost ≡ none → (c : ℕ)
    → Adds (showns_said GotCopy s.bank b c ps) (board_at s.bank c) (board_at (show_all b ps s).bank c)
unfolding show_all showns_said
show_all_adds b [] s can n c = adds_nothing _ _ refl
show_all_adds b (p ∷ ps) s can n c =
    let k : Bank = s.bank in
    let u : Run = show (giver GotCopy k p) b p s in
    let m : u.lost ≡ none = follows_none (follows_show_all b ps u) n in
    let rest : Adds (showns_said GotCopy u.bank b c ps) (board_at u.bank c) (board_at (show_all b ps u).bank c) =
    show_all_adds b ps u (shown_can b p ps s can m) n c in
    rw (showns_first GotCopy k b c p ps, ← showns_same GotCopy k u.bank b c ps (shared_giver (show_shared b p ps s can m) GotCopy))
    (adds_both _ _ _ _ _ (show_adds GotCopy b p s (each_head can.givers) m c) rest)

-- ==== the taker's part

gots_same : (g : CopyOrOwn) (k j : Bank) (ps : List ℕ) → Each (λ p. giver g j p ≡ giver g k p) ps → gots_said g j ps ≡ gots_said g k ps
unfolding gots_said
gots_same g k j ps same = map_each ps (each_imp ps (λ p e. ap (λ (o : ℕ). record { kind = Got g p; peer = o }) e) same)

-- a copy taken leaves who gives the pages behind it
give_copies_adds : (b n : ℕ) (ps : List ℕ) (k : Bank) → b < length k.boards → Rising n ps
    → Adds (gots_said GotCopy k ps) (board_at k b) (board_at (give_copies b ps k) b)
unfolding give_copies gots_said Rising
give_copies_adds b n [] k l rise = adds_nothing _ _ refl
give_copies_adds b n (p ∷ ps) k l rise =
    let o : ℕ = giver GotCopy k p in
    let j : Bank = give_copy o b p k in
    let same : gots_said GotCopy j ps ≡ gots_said GotCopy k ps =
    gots_same GotCopy k j ps
    (each_imp ps (λ q above. giver_give_copy GotCopy o b p k q (λ e. absurd (omega (arith, above)))) (rising_each (suc p) ps rise.1)) in
    let first : Adds (record { kind = Got GotCopy p; peer = o } ∷ []) (board_at k b) (board_at j b) =
    rw (board_at_give_copy_same o b p k l) (took_copy_adds o p _ (board_at k b)) in
    adds_both _ _ _ _ _ first (rw same at (give_copies_adds b (suc p) ps j (rw (boards_give_copy o b p k) l) rise.1))

-- ==== a read fetch

module _ (b : ℕ) (ps : List ℕ) (s : Run) (can : CanFetch GotCopy b ps s.bank) (n : (read_fetch b ps s).lost ≡ none) where
  abbrev u : Run
  u = show_all b ps s

  shown_none : (show_all b ps s).lost ≡ none
  unfolding read_fetch
  shown_none = step_none (give_copies b ps) u n

  fetched : (read_fetch b ps s).bank ≡ give_copies b ps (show_all b ps s).bank
  unfolding read_fetch
  fetched = step_done (give_copies b ps) u n

  read_fetch_taker : Rising 0 ps → Adds (gots_said GotCopy s.bank ps) (board_at s.bank b) (board_at (read_fetch b ps s).bank b)
  read_fetch_taker rise =
      let t : Shared b s.bank u.bank = show_all_shared b ps s can shown_none in
      let same : gots_said GotCopy u.bank ps ≡ gots_said GotCopy s.bank ps =
      gots_same GotCopy s.bank u.bank ps (each_imp ps (λ p i. shared_giver t GotCopy p) can.pages) in
      rw (fetched, ← same, ← t.reader) (give_copies_adds b 0 ps u.bank (rw t.boards (up_below s.bank b can.taker)) rise)

  read_fetch_others : (c : ℕ) → c ≢ b → Adds (showns_said GotCopy s.bank b c ps) (board_at s.bank c) (board_at (read_fetch b ps s).bank c)
  read_fetch_others c m = rw (fetched, copies_others b ps u.bank c m) (show_all_adds b ps s can shown_none c)

-- ==== a write fetch

-- what board c logs that loses page p to writer b
abbrev drop_said : Bank → (b c p : ℕ) → List Said
drop_said k b c p =
    elim (eqb c (entry_at k p).owner || member c (entry_at k p).copies) [ true ↦ record { kind = Dropped p; peer = b } ∷ [] | false ↦ [] ]

module _ (b p : ℕ) (r : Run) (w : WellFormed r.bank) (can : CanFetch GotOwn b (p ∷ []) r.bank) (n : (write_fetch b p r).lost ≡ none) where
  abbrev o : ℕ
  o = giver GotOwn r.bank p

  abbrev v : Run
  v = got b p r w can

  got_none : (got b p r w can).lost ≡ none
  unfolding write_fetch
  got_none = step_none (pass_ownership o b p) v n

  passed_on : (write_fetch b p r).bank ≡ pass_ownership (giver GotOwn r.bank p) b p (got b p r w can).bank
  unfolding write_fetch
  passed_on = step_done (pass_ownership o b p) v n

  gave_on : (gave b p r w can).lost ≡ none
  gave_on = gave_none b p r w can got_none

  boards_got : length (got b p r w can).bank.boards ≡ length r.bank.boards
  boards_got = (got_changed b p r w can got_none).boards ∙ (gave_changed b p r w can gave_on).boards

  entry_got : entry_at (got b p r w can).bank p ≡ entry_at r.bank p
  entry_got = entry_at_changed (got_changed b p r w can got_none) p ∙ entry_at_changed (gave_changed b p r w can gave_on) p

  write_fetch_taker : Adds (gots_said GotOwn r.bank (p ∷ [])) (board_at r.bank b) (board_at (write_fetch b p r).bank b)
  unfolding gots_said took_own
  write_fetch_taker =
      let l : b < length r.bank.boards = up_below r.bank b can.taker in
      let bytes : List ℕ = got_bytes b p r w can (gave b p r w can).bank in
      let f : FlushedWith (Got GotOwn p) o bytes (board_at r.bank b) (board_at v.bank b) =
      rw (writer_same b p r w can gave_on) at
      ((got_changed b p r w can got_none).this (rw (gave_changed b p r w can gave_on).boards l)) in
      rw (passed_on, board_at_pass_ownership_same o b p v.bank (rw boards_got l))
      (frame_says p _ (board_at v.bank b) ∙ flushed_adds (Got GotOwn p) o bytes _ _ f)

  write_fetch_others : (c : ℕ) → c < length r.bank.boards → c ≢ b
      → Adds (showns_said GotOwn r.bank b c (p ∷ []) ++ drop_said r.bank b c p) (board_at r.bank c) (board_at (write_fetch b p r).bank c)
  unfolding giver
  write_fetch_others c l m =
      let loses : Bool = eqb c o || member c (entry_at r.bank p).copies in
      let kept : board_at v.bank c ≡ board_at (gave b p r w can).bank c = (got_changed b p r w can got_none).others c m in
      let end : board_at (write_fetch b p r).bank c ≡ dropped_if loses b p (board_at (gave b p r w can).bank c) =
      rw (passed_on, board_at_pass_ownership_other o b p v.bank c (rw boards_got l) m, entry_got, kept) in
      rw end
      (adds_both _ _ _ _ _ (show_adds GotOwn b p r (owner_up b p r w can) gave_on c)
      (dropped_if_adds loses b p (board_at (gave b p r w can).bank c)))

-- ==== an access that goes on live

-- bank j after an access of board b that goes on live in bank k: what the log of b has more, and those of the others
record Logged (b : ℕ) (a : Access) (k j : Bank) : Type 0 where
  own : Adds (gots_said (takes a) k (pages_lacking b a k)) (board_at k b) (board_at j b)
  others : (c : ℕ) → c < length k.boards → c ≢ b
      → Adds (showns_said (takes a) k b c (pages_lacking b a k) ++ drops_said k b c (cells_written a)) (board_at k c) (board_at j c)

logged_said : (b : ℕ) (a : Access) (k j : Bank) → Logged b a k j → (c : ℕ) → c < length k.boards → Adds (said_new b a k c) (board_at k c) (board_at j c)
unfolding said_new
logged_said b a k j t c l =
    by_eq c b
    (λ e. let i : said_new b a k c ≡ gots_said (takes a) k (pages_lacking b a k) = cc (eq-eqb c b e) in rw (i, e) t.own)
    (λ n.
    let i : said_new b a k c ≡ showns_said (takes a) k b c (pages_lacking b a k) ++ drops_said k b c (cells_written a) = cc (ne_eqb c b n) in
    rw i (t.others c l n))

-- an access that takes copies drops nothing
copy_drops : (b c : ℕ) (a : Access) (k : Bank) → takes a ≡ GotCopy → drops_said k b c (cells_written a) ≡ []
unfolding drops_said
copy_drops b c a k e = rw (copy_writes a e)

-- one that takes ownership, its one page
own_drops : (b c : ℕ) (a : Access) (k : Bank) → takes a ≡ GotOwn → drops_said k b c (cells_written a) ≡ drop_said k b c (page_written a)
unfolding drops_said takes cells_written page_written
own_drops b c (Read p o) k e = never (cc)
own_drops b c (Write p o v) k e = refl
own_drops b c (ReadCells cells out_length) k e = never (cc)

-- another board than the owner drops its copy, if it holds one
holder_drops : (b c p : ℕ) (k : Bank) (t : Bool) → (entry_at k p).owner ≡ b → c ≢ b → member c (entry_at k p).copies ≡ t
    → drop_said k b c p ≡ elim t [ true ↦ record { kind = Dropped p; peer = b } ∷ [] | false ↦ [] ]
holder_drops b c p k t own n e = let m : eqb c (entry_at k p).owner ≡ false = ne_eqb c (entry_at k p).owner (λ i. n (i ∙ own)) in cc

-- where no copy is out the copy-set of the written page is empty
none_held : (a : Access) (k : Bank) → takes a ≡ GotOwn → copies_out a k ≡ false → (entry_at k (page_written a)).copies ≡ 0
unfolding takes copies_out cells_written page_written
none_held (Read p o) k e h = never (cc)
none_held (Write p o v) k e h = eqb-true (entry_at k p).copies 0 (not-false _ h)
none_held (ReadCells cells out_length) k e h = never (cc)

module _ (b : ℕ) (a : Access) (r : Run) (w : WellFormed r.bank) (can : CanAccess b a r.bank) where
  module _ (passed : first_given (live_refusals b a r.bank) ≡ none) where
    abbrev k : Bank
    k = r.bank

    fetch_as : (g : CopyOrOwn) (ps : List ℕ) → takes a ≡ g → pages_lacking b a k ≡ ps → lacking_of b a k ≡ true → (fetch g b ps r).lost ≡ none
        → Logged b a k (fetch g b ps r).bank
    unfolding fetch pages_lacking lacking_of
    fetch_as GotCopy ps e i t n =
        let c : CanFetch GotCopy b ps k = rw (e, i) at (can_fetch b a k w can passed) in
        record {
          own = rw (e, i) (read_fetch_taker b ps r c n (rw i at (lacking_pages_rise a (board_at k b).working.frames)));
          others = λ d l m. rw (e, i, copy_drops b d a k e, append-nil (showns_said GotCopy k b d ps)) (read_fetch_others b ps r c n d m);
        }
    fetch_as GotOwn ps e i t n =
        let p : ℕ = page_written a in
        let one : pages_lacking b a k ≡ p ∷ [] = lacking_own a (board_at k b).working.frames e t in
        let j : ps ≡ p ∷ [] = sym i ∙ one in
        let c : CanFetch GotOwn b (p ∷ []) k = rw (e, one) at (can_fetch b a k w can passed) in
        let m : (write_fetch b p r).lost ≡ none = rw j at n in
        rw j
        (record {
          own = rw (e, one) (write_fetch_taker b p r w c m);
          others = λ d l o. rw (e, one, own_drops b d a k e) (write_fetch_others b p r w c m d l o);
        })

    -- nothing is fetched
    local_as : lacking_of b a k ≡ false → (j : Bank) → said_by (board_at j b) ≡ said_by (board_at k b)
        → ((c : ℕ) → c < length k.boards → c ≢ b → Adds (drops_said k b c (cells_written a)) (board_at k c) (board_at j c)) → Logged b a k j
    unfolding lacking_of pages_lacking gots_said showns_said
    local_as t j own others =
        let nothing : pages_lacking b a k ≡ [] = lacking_none a (board_at k b).working.frames t in
        record { own = rw nothing (adds_nothing _ _ own); others = λ c l m. rw nothing (others c l m) }

    -- the copies of an owned page dropped
    dropped_logged : lacking_of b a k ≡ false → copies_out a k ≡ true → (step (drop_copies b (page_written a)) r).lost ≡ none
        → Logged b a k (step (drop_copies b (page_written a)) r).bank
    unfolding dropped_if
    dropped_logged t o n =
        let p : ℕ = page_written a in
        let own : takes a ≡ GotOwn = writes_own a k o in
        let same : board_at (drop_copies b p k) b ≡ board_at k b = cc (board_at_drop_copies b p k b (up_below k b can.up), writer_none b a k w can passed t o) in
        rw (step_done (drop_copies b p) r n)
        (local_as t (drop_copies b p k) (ap said_by same)
        (λ c l m.
        rw (board_at_drop_copies b p k c l, own_drops b c a k own, holder_drops b c p k _ (local_owner b a k w can passed t own) m refl)
        (dropped_if_adds (member c (entry_at k p).copies) b p (board_at k c))))

    -- no copy is out either: nobody drops anything
    idle_as : (g : CopyOrOwn) → takes a ≡ g → lacking_of b a k ≡ false → copies_out a k ≡ false → (c : ℕ) → c ≢ b → drops_said k b c (cells_written a) ≡ []
    idle_as GotCopy e t o c m = copy_drops b c a k e
    idle_as GotOwn e t o c m =
        own_drops b c a k e
        ∙ holder_drops b c (page_written a) k false (local_owner b a k w can passed t e) m (rw (none_held a k e o) (member_none c))

    idle_logged : lacking_of b a k ≡ false → copies_out a k ≡ false → Logged b a k k
    idle_logged t o = local_as t k refl (λ c l m. rw (idle_as (takes a) refl t o c m) (adds_nothing _ _ refl))

    -- what comes before the access
    prepared_logged : (prepared b a r).lost ≡ none → Logged b a k (prepared b a r).bank
    unfolding prepared
    prepared_logged =
        let P : Run → Type 0 = λ s. s.lost ≡ none → Logged b a k s.bank in
        cases P (lacking_of b a k)
        (λ t n. fetch_as (takes a) (pages_lacking b a k) refl refl t n)
        (λ t.
        cases P (copies_out a k)
        (λ o n. dropped_logged t o n)
        (λ o n. idle_logged t o))

  -- the access itself logs nothing
  access_says : (k : Bank) (c : ℕ) → b < length k.boards → said_by (board_at (access b a k) c) ≡ said_by (board_at k c)
  unfolding access accessed on_working said_by records_of
  access_says k c l =
      by_eq c b
      (λ e. rw (e, board_at_same b (on_working (accessed a)) k l))
      (λ n. ap said_by (board_at_other b (on_working (accessed a)) k c n))

  live_logged : (v : ℕ) → (live b a r).answer ≡ Done v → Logged b a r.bank (live b a r).run.bank
  live_logged v d =
      let j : Bank = (prepared b a r).bank in
      let done : LiveDone b a r v = live_done b a r v d in
      let t : Logged b a r.bank j = prepared_logged done.passed done.going in
      let l : b < length j.boards = rw (prepared_sizes b a r).boards (up_below r.bank b can.up) in
      rw done.bank (record { own = access_says j b l ∙ t.own; others = λ c i m. access_says j c l ∙ t.others c i m })

-- ==== the call

module _ (b : ℕ) (a : Access) (k : Bank) (w : WellFormed k) (i : Entered b a k) (v : ℕ) where
  -- a replay that ends: a loss of power in its checkpoint is no done call
  ended_logged : is_replaying (board_at k b).state ≡ true → differs a (board_at k b) ≡ false → replay_over (board_at (on_board b took_due k) b) ≡ true
      → (live_after_end b a (end_replay b (start (on_board b took_due k)))).answer ≡ Done v
      → Logged b a (end_replay b (start (on_board b took_due k))).bank (live_after_end b a (end_replay b (start (on_board b took_due k)))).run.bank
  unfolding live_after_end
  ended_logged t same over d =
      let r : Run = end_replay b (start (on_board b took_due k)) in
      let rep : (board_at k b).state ≡ Replaying = is_replaying_replaying (board_at k b).state t in
      cases_option (λ (x : Result). x.answer ≡ Done v → Logged b a r.bank x.run.bank) r.lost
      (λ n e. live_logged b a r (ended_formed b k w a i rep same over) (live_can b a k w i rep same n) v e)
      (λ c m e. never (cc))
      d

-- where an access goes on live: in the bank as it is, or behind the end of a replay
live_cases : (P : Bank → Type 0) (b : ℕ) (a : Access) (k j : Bank) → live_bank b a k ≡ some j → (is_replaying (board_at k b).state ≡ false → P k)
    → (is_replaying (board_at k b).state ≡ true → replay_over (board_at (on_board b took_due k) b) ≡ true
    → P (end_replay b (start (on_board b took_due k))).bank)
    → P j
unfolding live_bank
live_cases P b a k j e up ended =
    by_bool (is_replaying (board_at k b).state)
    (λ t.
    by_bool (replay_over (board_at (on_board b took_due k) b))
    (λ o. let now : (end_replay b (start (on_board b took_due k))).bank ≡ j = cc in rw now at (ended t o))
    (λ o. let nowhere : live_bank b a k ≡ none = cc in lost_not nowhere e))
    (λ t. let now : k ≡ j = cc in rw now at (up t))

-- it has as many boards
live_boards : (b : ℕ) (a : Access) (k j : Bank) → live_bank b a k ≡ some j → length j.boards ≡ length k.boards
unfolding start
live_boards b a k j e =
    live_cases (λ i. length i.boards ≡ length k.boards) b a k j e
    (λ t. refl)
    (λ t o. (follows_end_replay b (start (on_board b took_due k))).sizes.boards ∙ boards_on_board b took_due k)

call_logged : (b : ℕ) (a : Access) (k : Bank) → WellFormed k → (v : ℕ) → (access_bank b a k).answer ≡ Done v → (j : Bank) → live_bank b a k ≡ some j
    → Logged b a j (access_bank b a k).run.bank
unfolding replaying start
call_logged b a k w v d j e =
    let (entry, go) = access_done b a k v d in
    let i : Entered b a k = entered b a k w entry in
    live_cases (λ m. Logged b a m (access_bank b a k).run.bank) b a k j e
    (λ t.
    let on : access_bank b a k ≡ live b a (start k) = cc in
    rw on (live_logged b a (start k) w (entered_live b a k i t) v (rw on at d)))
    (λ t o.
    let on : access_bank b a k ≡ live_after_end b a (end_replay b (start (on_board b took_due k))) = cc in
    rw on (ended_logged b a k w i v t (fitting b a k w entry t) o (rw on at d)))

-- F-6: "the giver in a got, the taker in a shown, the writer in a dropped"
pub access_logs : (b : ℕ) (a : Access) (k : Bank) → AccessLogs b a k
unfolding call_bank
access_logs b a k w v d j e c l =
    logged_said b a j (access_bank b a k).run.bank (call_logged b a k w v d j e) c (rw (live_boards b a k j e) l)
