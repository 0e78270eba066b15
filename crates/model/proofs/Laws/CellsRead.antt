-- F-3's own claim: what a call gives are the bytes of single reads. A board sees in a cell its own byte or, without a right, that of who would give the page;
-- an access that takes copies reads what its board sees, and leaves what it sees. Assumes nothing.
use Rattle.std.proofs.Math.Path.{◌≡◌, refl, sym, ap, ap₂}
use Rattle.std.proofs.Common.{◌∙◌, inl, inr, arith, eqb-true, eq-eqb}
use Rattle.std.specs.Prelude.{◌≢◌, ◌⊎◌, ℕ, suc, ◌<◌, Bool, true, List, [], ◌∷◌, map, set, get_or, eqb}
use Rattle.std.proofs.Math.Bool.{false}
use Rattle.std.proofs.Math.Option.{none}
use Rattle.std.proofs.Math.ListN.{length}
use Rattle.words.specs.Bytes.{Each, each_nil, each_cons}
use Rattle.types.specs.declared.Right.TheVariants.{None, Copy}
use Rattle.types.specs.declared.Frame.{Frame}
use Rattle.types.specs.declared.CopyOrOwn.{CopyOrOwn}
use Rattle.types.specs.declared.CopyOrOwn.TheVariants.{GotCopy, GotOwn}
use Rattle.types.specs.declared.State.TheVariants.{Up}
use Rattle.types.specs.declared.Answer.{Answer}
use Rattle.types.specs.declared.Answer.TheVariants.{Done, Malformed}
use Rattle.model.specs.Definitions.Bank.{Board, Bank, board_at, frame_at, on_board, on_working, on_frames}
use Rattle.model.specs.Definitions.Codec.{encode, decode}
use Rattle.model.specs.Definitions.WellFormed.{is_replaying, WellFormed}
use Rattle.model.specs.Definitions.Check.{well_formed}
use Rattle.model.specs.Definitions.Steps.{Run, start, step, Access, Read, Write, ReadCells, Cell, cells_asked, cells_read, cells_written, names, takes}
use Rattle.model.specs.Definitions.Steps.{lacks, cell_byte, with_bytes, read_from, value_of, given_of, accessed, access, recorded, with_frame}
use Rattle.model.specs.Definitions.Steps.{frame_of, giver, give_copy, show_all, give_copies, read_fetch, fetch}
use Rattle.model.specs.Definitions.Replay.{right_got}
use Rattle.model.specs.Definitions.Answers.{code, value}
use Rattle.model.specs.Definitions.Calls.{Result, first_given, unless, finished, copies_out, lacking_of, pages_lacking, live_refusals, prepared, performed, live}
use Rattle.model.specs.Definitions.Calls.{replaying, access_refusals, access_within, access_bank, refusals_within, Call, Accessing, call_bank, refused}
use Rattle.model.specs.Definitions.Calls.{reply_of, call}
use Rattle.model.specs.Clauses.{CanFetch, CanAccess, Ready}
use Rattle.model.specs.Moves.{Gives}
use Rattle.model.proofs.Laws.Logic.{cases, by_bool, by_eq, by_option, clash}
use Rattle.model.proofs.Laws.Lists.{each_head, each_tail, each_imp, map_each}
use Rattle.model.proofs.Laws.Below.{Rising, rising_each, listed, lacking_pages_lack, lacking_pages_rise, has_right, read_named}
use Rattle.model.proofs.Laws.Boards.{frame_at_same, took_copy, board_at_same, board_at_other, board_at_give_copy_same, board_at_give_copy_other}
use Rattle.model.proofs.Laws.States.{SameStates, states_on_board}
use Rattle.model.proofs.Laws.Runs.{SameSizes, finished_run, step_none, step_done}
use Rattle.model.proofs.Laws.Keeps.Clauses.{fits, up_below}
use Rattle.model.proofs.Laws.Keeps.Rights.{or_cases, or_none}
use Rattle.model.proofs.Laws.Keeps.Fetches.{Taken}
use Rattle.model.proofs.Laws.Keeps.Copies.{giver_kept, Shared, shared_giver, show_all_shared, CanTake, shown_take, taken_take, reader_since}
use Rattle.model.proofs.Laws.Keeps.Copies.{give_copies_taken}
use Rattle.model.proofs.Laws.Keeps.Copies.{rest_taken}
use Rattle.model.proofs.Laws.Keeps.Live.{first_in, lacking_some, can_fetch, lacking_other, frames_count, fetched_taken, prepared_ready}
use Rattle.model.proofs.Laws.Keeps.Givers.{copy_none, giver_other, giver_give_copy}
use Rattle.model.proofs.Laws.Keeps.Entered.{entered, entered_live}
use Rattle.model.proofs.Laws.Moves.{moves_follow}
use Rattle.model.proofs.Laws.Moves.Calls.{copy_out, bytes_seen_lem, prepared_keeps, prepared_sizes, call_moves, call_keeps}
use Rattle.model.proofs.Laws.WellFormedTest.{well_formed_sound}
use Rattle.model.proofs.History.OnBytes.{call_encode}
use Rattle.model.specs.History.CellsStatement.{single_reads, answers_of, CellsAsReads}
use Rattle.model.proofs.Laws.Codes.Order.{never}
use Rattle.model.proofs.Laws.Codes.Ends.{access_done_form}
use Rattle.model.specs.History.Statement.{bytes_seen, run_of}

-- ==== what a board sees

-- the bytes of page p that board b reads in bank k: its own, or those of the page's giver
unfoldable pub page_seen : ℕ → Bank → ℕ → List ℕ
page_seen b k p = elim (lacks GotCopy (frame_of k b p).right) [ true ↦ (frame_of k (giver GotCopy k p) p).bytes | false ↦ (frame_of k b p).bytes ]

abbrev pub byte_seen : ℕ → Bank → Cell → ℕ
byte_seen b k c = get_or (page_seen b k c.page) c.offset 0

-- Bank j after board b took copies, or none: nobody else's frames changed, and of b's only those of copies taken from who gives; who gives the others stays.
pub record Sees (b : ℕ) (k j : Bank) : Type 0 where
  pub others : (c : ℕ) → c ≢ b → (board_at j c).working.frames ≡ (board_at k c).working.frames
  pub own : (q : ℕ) → ((frame_of j b q ≡ frame_of k b q) × (giver GotCopy j q ≡ giver GotCopy k q))
      ⊎ (((frame_of k b q).right ≡ None) × ((frame_of j b q).right ≡ Copy) × ((frame_of j b q).bytes ≡ (frame_of k (giver GotCopy k q) q).bytes))

-- the giver of a page to which board b has no right is another board
abbrev FromOthers : ℕ → Bank → ℕ → Type 0
FromOthers b k q = (frame_of k b q).right ≡ None → giver GotCopy k q ≢ b

sees_refl : (b : ℕ) (k : Bank) → Sees b k k
sees_refl b k = record { others = λ c n. refl; own = λ q. inl (refl, refl) }

seen_copy : (b : ℕ) (k j : Bank) (q : ℕ) → (frame_of k b q).right ≡ None → (frame_of j b q).right ≡ Copy
    → (frame_of j b q).bytes ≡ (frame_of k (giver GotCopy k q) q).bytes → page_seen b j q ≡ page_seen b k q
unfolding page_seen lacks
seen_copy b k j q n c e =
    let x : lacks GotCopy (frame_of k b q).right ≡ true = ap (lacks GotCopy) n in
    let y : lacks GotCopy (frame_of j b q).right ≡ false = ap (lacks GotCopy) c in
    cc

-- so a board sees the same in both
sees_page : (b : ℕ) (k j : Bank) → Sees b k j → (q : ℕ) → FromOthers b k q → page_seen b j q ≡ page_seen b k q
unfolding page_seen frame_of
sees_page b k j s q f =
    elim (s.own q) [
      | inl e ↦
          by_bool (lacks GotCopy (frame_of k b q).right)
          (λ t.
          let n : giver GotCopy k q ≢ b = f (copy_none _ t) in
          let g : frame_at (board_at j (giver GotCopy j q)).working.frames q ≡ frame_at (board_at k (giver GotCopy k q)).working.frames q =
          rw (e.1, s.others (giver GotCopy k q) n) in
          let same : frame_of j b q ≡ frame_of k b q = e.0 in
          cc)
          (λ t. let same : frame_of j b q ≡ frame_of k b q = e.0 in cc)
      | inr e ↦ seen_copy b k j q e.0 e.1 e.2
    ]

-- ==== the copies

each_listed : {P : ℕ → Type 0} (q : ℕ) (ps : List ℕ) → Each P ps → listed q ps ≡ true → P q
unfolding listed
each_listed q [] e t = clash t refl
each_listed q (p ∷ ps) e t = or_cases (eqb p q) (listed q ps) t (λ s. rw (← eqb-true p q s) (each_head e)) (λ s. each_listed q ps (each_tail e) s)

-- copies given leave all other boards, and who gives other pages
pub copies_others : (b : ℕ) (ps : List ℕ) (k : Bank) (c : ℕ) → c ≢ b → board_at (give_copies b ps k) c ≡ board_at k c
unfolding give_copies
copies_others b [] k c n = refl
copies_others b (p ∷ ps) k c n =
    copies_others b ps (give_copy (giver GotCopy k p) b p k) c n ∙ board_at_give_copy_other (giver GotCopy k p) b p k c n

copies_givers : (b : ℕ) (ps : List ℕ) (k : Bank) (q : ℕ) → listed q ps ≡ false → giver GotCopy (give_copies b ps k) q ≡ giver GotCopy k q
unfolding give_copies listed
copies_givers b [] k q t = refl
copies_givers b (p ∷ ps) k q t =
    let n : (eqb p q ≡ false) × (listed q ps ≡ false) = or_none (eqb p q) (listed q ps) t in
    copies_givers b ps (give_copy (giver GotCopy k p) b p k) q n.1
    ∙ giver_give_copy GotCopy (giver GotCopy k p) b p k q (λ e. clash (eq-eqb p q (sym e)) n.0)

-- each copy has the bytes of who gave it
copies_bytes : (b n : ℕ) (ps : List ℕ) (k : Bank) → CanTake b ps k → Rising n ps → (q : ℕ) → listed q ps ≡ true
    → (frame_of (give_copies b ps k) b q).bytes ≡ (frame_of k (giver GotCopy k q) q).bytes
unfolding give_copies Rising listed frame_of took_copy with_frame on_working on_frames recorded
copies_bytes b n [] k c r q t = clash t refl
copies_bytes b n (p ∷ ps) k c r q t =
    let o : ℕ = giver GotCopy k p in
    let j : Bank = give_copy o b p k in
    let can : CanTake b ps j = taken_take b p ps k c r.1 in
    let rest : Taken GotCopy ps (board_at j b) (board_at (give_copies b ps j) b) =
    rest_taken b (suc p) ps j can r.1 (reader_since b p ps k c r.1) in
    by_bool (listed q ps)
    (λ v.
    let g : Gives (giver GotCopy k q) b q k = each_listed q ps (each_tail c.gives) v in
    let above : p < q = each_listed q ps (rising_each (suc p) ps r.1) v in
    let from : giver GotCopy j q ≡ giver GotCopy k q = giver_give_copy GotCopy o b p k q (λ i. absurd (omega (arith, above))) in
    copies_bytes b (suc p) ps j can r.1 q v
    ∙ ap (λ (x : Board). (frame_at x.working.frames q).bytes) (ap (board_at j) from ∙ board_at_give_copy_other o b p k (giver GotCopy k q) g.other))
    (λ v.
    let here : p ≡ q = or_cases (eqb p q) (listed q ps) t (λ e. eqb-true p q e) (λ e. clash e v) in
    let fs : List Frame = (board_at k b).working.frames in
    let f : Frame = record { right = Copy; bytes = (frame_at (board_at k o).working.frames p).bytes } in
    let shown : (board_at j b).working.frames ≡ set fs p f =
    ap (λ (x : Board). x.working.frames) (board_at_give_copy_same o b p k (up_below k b c.up)) in
    ap (λ (g : Frame). g.bytes) (rest.kept q v ∙ ap (λ (gs : List Frame). frame_at gs q) shown)
    ∙ rw (← here) (ap (λ (g : Frame). g.bytes) (frame_at_same fs p f (rw c.frames (each_head c.gives).page))))

-- a read fetch that lost no power
fetch_sees : (b p : ℕ) (ps : List ℕ) (s : Run) → WellFormed s.bank → CanFetch GotCopy b (p ∷ ps) s.bank
    → Each (λ q. (frame_of s.bank b q).right ≡ None) (p ∷ ps) → Rising 0 (p ∷ ps) → (read_fetch b (p ∷ ps) s).lost ≡ none
    → Sees b s.bank (read_fetch b (p ∷ ps) s).bank
unfolding read_fetch frame_of right_got
fetch_sees b p ps s w c lack r n =
    let qs : List ℕ = p ∷ ps in
    let u : Run = show_all b qs s in
    let e : u.lost ≡ none = step_none (give_copies b qs) u n in
    let t : Shared b s.bank u.bank = show_all_shared b qs s c e in
    let can : CanTake b qs u.bank = shown_take b qs s w c lack e in
    let y : Taken GotCopy qs (board_at u.bank b) (board_at (give_copies b qs u.bank) b) = give_copies_taken b p ps u.bank can r in
    let same : (q : ℕ) → giver GotCopy u.bank q ≡ giver GotCopy s.bank q = shared_giver t GotCopy in
    rw (step_done (give_copies b qs) u n)
    (record {
      others = λ d m. ap (λ (x : Board). x.working.frames) (copies_others b qs u.bank d m) ∙ t.frames d;
      own = λ q.
          by_bool (listed q qs)
          (λ v.
          inr (
            each_listed q qs lack v,
            y.right q v,
            copies_bytes b 0 qs u.bank can r q v
                ∙ (ap (λ (d : ℕ). (frame_at (board_at u.bank d).working.frames q).bytes) (same q)
                ∙ ap (λ (gs : List Frame). (frame_at gs q).bytes) (t.frames (giver GotCopy s.bank q))),
          ))
          (λ v.
          inl (y.kept q v ∙ ap (λ (x : Board). frame_at x.working.frames q) t.reader, copies_givers b qs u.bank q v ∙ same q));
    })

-- a board reads its own bytes of a page to which it has a right
page_own : (b : ℕ) (j : Bank) (q : ℕ) → lacks GotCopy (frame_of j b q).right ≡ false → page_seen b j q ≡ (frame_of j b q).bytes
unfolding page_seen
page_own b j q h = cc

cells_seen : (b : ℕ) (k j : Bank) (cs : List Cell) → Each (λ c. (frame_of j b c.page).bytes ≡ page_seen b k c.page) cs
    → map (cell_byte (board_at j b).working.frames) cs ≡ map (byte_seen b k) cs
unfolding cell_byte frame_of
cells_seen b k j [] e = refl
cells_seen b k j (c ∷ cs) e = rw (each_head e, cells_seen b k j cs (each_tail e))

-- ==== an access that takes copies

-- a call that is done was refused by no test
unless_done : (tests : List (Bool × Answer)) (r : Run) (go : Result) (v : ℕ) → Each (λ t. t.1 ≢ Done v) tests → (unless tests r go).answer ≡ Done v
    → (first_given tests ≡ none) × (unless tests r go ≡ go)
unfolding unless
unless_done tests r go v quiet d =
    by_option (first_given tests)
    (λ n. (n, cc))
    (λ x e. absurd (first_in (λ y. y ≢ Done v) tests x quiet e (cc)))

-- and lost no power
finished_none : (v : ℕ) (given : List ℕ) (r : Run) (w : ℕ) → (finished v given r).answer ≡ Done w
    → (r.lost ≡ none) × ((finished v given r).given ≡ given) × (v ≡ w)
unfolding finished
finished_none v given r w d =
    by_option r.lost
    (λ n. (n, cc, cc))
    (λ c e. let z : ◌≡◌ {A = ℕ} 0 1 = cc in absurd (omega arith))

-- so a done access passed the tests on entry ..
pub access_done : (b : ℕ) (a : Access) (k : Bank) (v : ℕ) → (access_bank b a k).answer ≡ Done v
    → (first_given (access_refusals b a k) ≡ none)
    × (access_bank b a k ≡ elim (is_replaying (board_at k b).state) [ true ↦ replaying b a k | false ↦ live b a (start k) ])
unfolding access_within refusals_within
access_done b a k v d =
    unless_done (access_refusals b a k) (start k) _ v
    (each_cons (λ e. never (cc)) (each_cons (λ e. never (cc)) (each_cons (λ e. never (cc))
    (each_cons (λ e. never (cc)) (each_cons (λ e. never (cc)) each_nil)))))
    d

-- .. and, where it goes on live, codes 6 and 7, lost no power and answers what it read
pub record LiveDone (b : ℕ) (a : Access) (r : Run) (v : ℕ) : Type 0 where
  pub passed : first_given (live_refusals b a r.bank) ≡ none
  pub going : (prepared b a r).lost ≡ none
  pub value : value_of a (board_at (prepared b a r).bank b).working.frames ≡ v
  pub given : (live b a r).given ≡ given_of a (board_at (prepared b a r).bank b).working.frames
  pub bank : (live b a r).run.bank ≡ access b a (prepared b a r).bank

pub live_done : (b : ℕ) (a : Access) (r : Run) (v : ℕ) → (live b a r).answer ≡ Done v → LiveDone b a r v
unfolding live live_refusals performed
live_done b a r v d =
    let s : Run = prepared b a r in
    let fs : List Frame = (board_at s.bank b).working.frames in
    let last : Result = performed b a s in
    let one : (first_given (live_refusals b a r.bank) ≡ none) × (live b a r ≡ last) =
    unless_done (live_refusals b a r.bank) r last v (each_cons (λ e. never (cc)) (each_cons (λ e. never (cc)) each_nil)) d in
    let two : ((step (access b a) s).lost ≡ none) × (last.given ≡ given_of a fs) × (value_of a fs ≡ v) =
    finished_none (value_of a fs) (given_of a fs) (step (access b a) s) v (ap (λ (t : Result). t.answer) (sym one.1) ∙ d) in
    record {
      passed = one.0;
      going = step_none (access b a) s two.0;
      value = two.2;
      given = ap (λ (t : Result). t.given) one.1 ∙ two.1;
      bank =
          ap (λ (t : Result). t.run.bank) one.1
          ∙ (ap (λ (q : Run). q.bank) (finished_run (value_of a fs) (given_of a fs) (step (access b a) s)) ∙ step_done (access b a) s two.0);
    }

-- an access writes nothing that takes copies
pub copy_writes : (a : Access) → takes a ≡ GotCopy → cells_written a ≡ []
unfolding takes cells_written
copy_writes (Read p o) e = refl
copy_writes (Write p o v) e = let z : ◌≡◌ {A = ℕ} 0 1 = cc in absurd (omega arith)
copy_writes (ReadCells cells out_length) e = refl

module _ (b : ℕ) (a : Access) (k : Bank) (w : WellFormed k) (can : CanAccess b a k) (copy : takes a ≡ GotCopy) where
  abbrev fs : List Frame
  fs = (board_at k b).working.frames

  -- a page that is named comes from another board, if it is lacking
  named_others : (q : ℕ) → names a q ≡ true → FromOthers b k q
  unfolding frame_of lacks
  named_others q n e =
      rw copy at
      (lacking_other b a k w can q
      (record { below = rw (frames_count b a k w can) (can.pages q n); named = n; right = rw (copy, e) }))

  module _ (passed : first_given (live_refusals b a k) ≡ none) where
    sees_as : (g : CopyOrOwn) (ps : List ℕ) → g ≡ GotCopy → pages_lacking b a k ≡ ps → lacking_of b a k ≡ true → (fetch g b ps (start k)).lost ≡ none
        → Sees b k (fetch g b ps (start k)).bank
    unfolding fetch pages_lacking lacking_of frame_of start
    sees_as GotCopy ps e i t n =
        let (p, qs, s) = lacking_some a fs t in
        let j : ps ≡ p ∷ qs = sym i ∙ s in
        let c : CanFetch GotCopy b (p ∷ qs) k = rw (copy, s) at (can_fetch b a k w can passed) in
        let lack : Each (λ q. (frame_at fs q).right ≡ None) (p ∷ qs) =
        each_imp (p ∷ qs) (λ q l. copy_none _ (ap (λ (g : CopyOrOwn). lacks g (frame_at fs q).right) (sym copy) ∙ l.right))
        (rw s at (lacking_pages_lack a fs)) in
        rw j (fetch_sees b p qs (start k) w c lack (rw s at (lacking_pages_rise a fs)) (rw j at n))
    sees_as GotOwn ps e i t n = let z : ◌≡◌ {A = ℕ} 0 1 = cc in absurd (omega arith)

    prepared_sees : (prepared b a (start k)).lost ≡ none → Sees b k (prepared b a (start k)).bank
    unfolding prepared start
    prepared_sees =
        let P : Run → Type 0 = λ s. s.lost ≡ none → Sees b k s.bank in
        cases P (lacking_of b a k)
        (λ t n. sees_as (takes a) (pages_lacking b a k) copy refl t n)
        (λ t.
        cases P (copies_out a k)
        (λ o. clash o (copy_out a k copy))
        (λ o n. sees_refl b k))

    prepared_up : (prepared b a (start k)).lost ≡ none → (board_at (prepared b a (start k)).bank b).state ≡ Up
    unfolding prepared start
    prepared_up =
        let P : Run → Type 0 = λ s. s.lost ≡ none → (board_at s.bank b).state ≡ Up in
        cases P (lacking_of b a k)
        (λ t n. (fetched_taken b a (start k) w can passed t n).state)
        (λ t.
        cases P (copies_out a k)
        (λ o. clash o (copy_out a k copy))
        (λ o n. can.up))

    -- it has the right to each page that it names
    prepared_right : (prepared b a (start k)).lost ≡ none → (q : ℕ) → names a q ≡ true
        → lacks GotCopy (frame_of (prepared b a (start k)).bank b q).right ≡ false
    unfolding frame_of start
    prepared_right n q t =
        let j : Bank = (prepared b a (start k)).bank in
        let ready : Ready a (board_at j b) = prepared_ready b a (start k) w can passed n in
        let sizes : SameSizes k j = prepared_sizes b a (start k) in
        let l : b < length j.boards = rw sizes.boards (up_below k b can.up) in
        let count : length (board_at j b).working.frames ≡ length j.directory =
        (fits (prepared_keeps b a (start k) w can passed) b l).alone.fields.working.frames.count in
        ap (λ (g : CopyOrOwn). lacks g (frame_at (board_at j b).working.frames q).right) (sym copy)
        ∙ has_right a (board_at j b).working.frames ready.right q (rw (count, sizes.pages) (can.pages q t)) t

    -- what it reads is what its board sees
    reads_seen : (prepared b a (start k)).lost ≡ none
        → read_from a (board_at (prepared b a (start k)).bank b).working.frames ≡ map (byte_seen b k) (cells_read a)
    unfolding read_from start
    reads_seen n =
        let j : Bank = (prepared b a (start k)).bank in
        cells_seen b k j (cells_read a)
        (each_imp (cells_read a)
        (λ c t. sym (page_own b j c.page (prepared_right n c.page t)) ∙ sees_page b k j (prepared_sees n) c.page (named_others c.page t))
        (read_named a))

-- ==== a call that is done

-- what an access of an up board that takes copies gives, and what it leaves
pub record ReadDone (b : ℕ) (a : Access) (k : Bank) (v : ℕ) : Type 0 where
  pub read : bytes_seen a v (access_bank b a k).given ≡ map (byte_seen b k) (cells_read a)
  pub pages : (p : ℕ) → names a p ≡ true → p < length k.directory
  pub sees : Sees b k (access_bank b a k).run.bank
  pub up : (board_at (access_bank b a k).run.bank b).state ≡ Up

-- the frames and states of all boards stay, and the directory
sees_on : (b : ℕ) (k j i : Bank) → Sees b k j → i.directory ≡ j.directory → SameStates j i
    → ((c : ℕ) → (board_at i c).working.frames ≡ (board_at j c).working.frames) → Sees b k i
unfolding frame_of
sees_on b k j i s d t f =
    record { others = λ c n. f c ∙ s.others c n; own = λ q. rw (f b, giver_kept j i d t GotCopy q) (s.own q) }

directory_access : (b : ℕ) (a : Access) (k : Bank) → (access b a k).directory ≡ k.directory
unfolding access on_board
directory_access b a k = refl

states_access : (b : ℕ) (a : Access) (k : Bank) → SameStates k (access b a k)
unfolding access on_working
states_access b a k = states_on_board b (on_working (accessed a)) k refl

access_frames : (b : ℕ) (a : Access) (k : Bank) → takes a ≡ GotCopy → b < length k.boards → (c : ℕ)
    → (board_at (access b a k) c).working.frames ≡ (board_at k c).working.frames
unfolding access accessed on_working with_bytes
access_frames b a k copy l c =
    by_eq c b
    (λ e. rw (e, board_at_same b (on_working (accessed a)) k l, copy_writes a copy))
    (λ n. rw (board_at_other b (on_working (accessed a)) k c n))

module _ (b : ℕ) (a : Access) (k : Bank) (w : WellFormed k) (up : (board_at k b).state ≡ Up) (copy : takes a ≡ GotCopy) where
  pub read_done : (v : ℕ) → (access_bank b a k).answer ≡ Done v → ReadDone b a k v
  unfolding is_replaying start
  read_done v d =
      let r : Run = prepared b a (start k) in
      let (entry, go) = access_done b a k v d in
      let idle : is_replaying (board_at k b).state ≡ false = ap is_replaying up in
      let all : access_bank b a k ≡ live b a (start k) = cc in
      let t : LiveDone b a (start k) v = live_done b a (start k) v (ap (λ (x : Result). x.answer) (sym all) ∙ d) in
      let can : CanAccess b a k = entered_live b a k (entered b a k w entry) idle in
      let l : b < length r.bank.boards = rw (prepared_sizes b a (start k)).boards (up_below k b up) in
      let after : (access_bank b a k).run.bank ≡ access b a r.bank = ap (λ (x : Result). x.run.bank) all ∙ t.bank in
      record {
        read =
            ap₂ (bytes_seen a) (sym t.value) (ap (λ (x : Result). x.given) all ∙ t.given)
            ∙ (bytes_seen_lem a (board_at r.bank b).working.frames ∙ reads_seen b a k w can copy t.passed t.going);
        pages = can.pages;
        sees =
            rw after
            (sees_on b k r.bank (access b a r.bank) (prepared_sees b a k w can copy t.passed t.going) (directory_access b a r.bank)
            (states_access b a r.bank)
            (access_frames b a r.bank copy l));
        up = rw after (states_access b a r.bank b ∙ prepared_up b a k w can copy t.passed t.going);
      }

-- ==== single reads

-- what a list of calls answers, on the bank
unfoldable pub answers_on : List Call → Bank → List Answer
answers_on [] k = []
answers_on (c ∷ cs) k = (call_bank c k).answer ∷ answers_on cs (call_bank c k).run.bank

answers_encode : (cs : List Call) (k : Bank) → WellFormed k → answers_of cs (encode k) ≡ answers_on cs k
unfolding run_of answers_on reply_of
answers_encode [] k w = refl
answers_encode (c ∷ cs) k w =
    rw (call_encode c k w) (ap (λ (xs : List Answer). (call_bank c k).answer ∷ xs) (answers_encode cs (call_bank c k).run.bank (call_keeps c k w)))

up_others : (b : ℕ) (k : Bank) → WellFormed k → (board_at k b).state ≡ Up → (q : ℕ) → q < length k.directory → FromOthers b k q
unfolding lacks
up_others b k w up q l e = giver_other w q l GotCopy b up (ap (lacks GotCopy) e)

pub read_copy : (p o : ℕ) → takes (Read p o) ≡ GotCopy
unfolding takes
read_copy p o = refl

pub single_seen : (b : ℕ) (k : Bank) (p o v : ℕ) (given : List ℕ) → bytes_seen (Read p o) v given ≡ map (byte_seen b k) (cells_read (Read p o))
    → v ≡ byte_seen b k (record { page = p; offset = o })
unfolding bytes_seen cells_read
single_seen b k p o v given e = cc

-- single reads give what the board sees, and leave it
reads_values : (b : ℕ) (cs : List Cell) (k : Bank) (values : List ℕ) → WellFormed k → (board_at k b).state ≡ Up
    → Each (λ c. c.page < length k.directory) cs → answers_on (single_reads b cs) k ≡ map Done values → values ≡ map (byte_seen b k) cs
unfolding answers_on call_bank start
reads_values b [] k [] w up l e = refl
reads_values b [] k (v ∷ vs) w up l e = never (cc)
reads_values b (c ∷ cs) k [] w up l e = never (cc)
reads_values b (c ∷ cs) k (v ∷ vs) w up l e =
    let a : Access = Read c.page c.offset in
    let d : (access_bank b a k).answer ≡ Done v = cc in
    let r : ReadDone b a k v = read_done b a k w up (read_copy c.page c.offset) v d in
    let j : Bank = (access_bank b a k).run.bank in
    let pages : length j.directory ≡ length k.directory = (moves_follow (call_moves (Accessing b a) k w)).sizes.pages in
    let rest : vs ≡ map (byte_seen b j) cs = reads_values b cs j vs (call_keeps (Accessing b a) k w) r.up (rw pages (each_tail l)) (cc) in
    let same : map (byte_seen b j) cs ≡ map (byte_seen b k) cs =
    map_each cs
    (each_imp cs (λ (c : Cell) i. ap (λ (bs : List ℕ). get_or bs c.offset 0) (sees_page b k j r.sees c.page (up_others b k w up c.page i)))
    (each_tail l)) in
    ap₂ (λ (x : ℕ) (xs : List ℕ). x ∷ xs) (single_seen b k c.page c.offset v _ r.read) (rest ∙ same)

-- ==== the claim

answers_bytes : (cs : List Call) (s : List ℕ) → well_formed s ≡ true → answers_of cs s ≡ answers_on cs (decode s)
unfolding run_of answers_on call reply_of
answers_bytes [] s t = refl
answers_bytes (c ∷ cs) s t =
    let k : Bank = decode s in
    let one : call c s ≡ reply_of (call_bank c k) = cc in
    rw one (ap (λ (xs : List Answer). (call_bank c k).answer ∷ xs) (answers_encode cs (call_bank c k).run.bank (call_keeps c k (well_formed_sound s t))))

-- of a well-formed bank
cells_on : (b : ℕ) (cells : List ℕ) (out_length : ℕ) (k : Bank) → WellFormed k → (board_at k b).state ≡ Up
    → code (call_bank (Accessing b (ReadCells cells out_length)) k).answer ≡ 0 → (values : List ℕ)
    → answers_on (single_reads b (cells_asked cells)) k ≡ map Done values → (call_bank (Accessing b (ReadCells cells out_length)) k).given ≡ values
unfolding call_bank takes cells_read bytes_seen
cells_on b cells out_length k w up done values e =
    let a : Access = ReadCells cells out_length in
    let r : ReadDone b a k (value (access_bank b a k).answer) =
    read_done b a k w up refl (value (access_bank b a k).answer) (access_done_form b a k done) in
    r.read
    ∙ sym (reads_values b (cells_asked cells) k values w up (each_imp (cells_asked cells) (λ c t. r.pages c.page t) (read_named a)) e)

-- F-3: "On an up board they equal those of single reads with nothing between, where these are all done."
pub cells_as_reads : (b : ℕ) (cells : List ℕ) (out_length : ℕ) (s : List ℕ) → CellsAsReads b cells out_length s
unfolding call reply_of refused code
cells_as_reads b cells out_length s up done values e =
    let c : Call = Accessing b (ReadCells cells out_length) in
    by_bool (well_formed s)
    (λ t.
    let k : Bank = decode s in
    let one : call c s ≡ reply_of (call_bank c k) = cc in
    rw one (cells_on b cells out_length k (well_formed_sound s t) up (rw one at done) values (sym (answers_bytes (single_reads b (cells_asked cells)) s t) ∙ e)))
    (λ t. let one : call c s ≡ refused Malformed s = cc in let z : ◌≡◌ {A = ℕ} 1 0 = rw one at done in absurd (omega arith))
