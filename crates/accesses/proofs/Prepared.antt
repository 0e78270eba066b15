-- A live access in the shape in which the code does it: what comes before it, the access itself, and the answer. Assumes nothing.
use Rattle.std.specs.Prelude.{◌≡◌, refl, ◌≢◌, ℕ, zero, suc, ◌+◌, ◌/◌, ◌%◌, ◌^◌, ◌≤◌, ◌<◌, Bool, true, false, ◌&&◌, not, length, eqb, Some, None, MatchOption, IsSomeAnd, IfSome}
use Rattle.std.specs.Prelude as code
use Rattle.std.proofs.Math.Path.{sym, ap}
use Rattle.std.proofs.Common.{◌∙◌, arith}
use Rattle.std.proofs.Math.Option.{Option, none, some}
use mathlib.Core.List.{List, [], ◌∷◌}
use Rattle.std.specs.Int.Count.{ones, ones_in, ones_step}
use borrow.Author.Tests.{eq-eqb, ne_eqb}
use Rattle.words.specs.Bytes.{each_nil, each_cons}
use Rattle.types.specs.declared.CopyOrOwn.TheVariants.{GotOwn}
use Rattle.types.specs.declared.Answer.{Answer}
use Rattle.types.specs.declared.Answer.TheVariants.{Done, OwnerNotUp, LogFull, PowerLost}
use Rattle.steps.specs.declared.written.CellWrite.{CellWrite}
use Rattle.accesses.specs.declared.ask.Ask.{Ask}
use Rattle.model.specs.Definitions.Answers.{code, value}
use Rattle.model.specs.Definitions.Parts.{first_below, member}
use Rattle.model.specs.Definitions.Layout.{most_pages}
use Rattle.model.specs.Definitions.Bank.{Bank, board_at, entry_at}
use Rattle.model.specs.Definitions.Codec.{encode, decode}
use Rattle.model.specs.Definitions.WellFormed.{WellFormed}
use Rattle.model.specs.Definitions.Steps.{Run, step, Access, takes, lacks_page, lacking_pages, value_of, given_of, read_from, access, owner_up, drop_copies, fetch}
use Rattle.model.specs.Definitions.Calls.{first_given, unless, finished, page_written, copies_out, lacking_of, pages_lacking}
use Rattle.model.specs.Definitions.Calls.{need, short, short_board, is_some, number_in}
use Rattle.model.specs.Definitions.Calls.{nobody_gives, page_missing, live_refusals, prepared, performed, live}
use Rattle.model.proofs.Laws.Logic.{by_bool, by_eq, clash}
use Rattle.model.proofs.Laws.Runs.{SameSizes}
use Rattle.model.proofs.Laws.Keeps.Clauses.{fits, up_below}
use Rattle.model.specs.Clauses.{Space, Ready, CanAccess}
use Rattle.model.proofs.Laws.Below.{all_below_same}
use Rattle.model.proofs.Laws.Sets.{member_none}
use Rattle.model.proofs.Laws.Keeps.Live.{first_in, lacking_own, can_drop, prepared_ready}
use Rattle.model.specs.Likeness.{on_value}
use Rattle.steps.specs.Access.{lacking_test}
use Rattle.steps.specs.Asked.{got}
use Rattle.copies.specs.Copies.{pages_in}
use Rattle.copies.specs.Banks.{Holds, OfBank, holds_well_formed, holds_decode, holds_of}
use Rattle.exchange.specs.Progress.{running, Came}
use Rattle.accesses.specs.Needs.{none_found, first_below_same, need_zero, need_of, room_kept}
use Rattle.accesses.specs.Asks.{Lacking, Asks}
use Rattle.accesses.specs.Results.{Answered}
use Rattle.accesses.specs.Prepared.{without_out}
use Rattle.model.proofs.Laws.Moves.Calls.{bytes_seen_lem, prepared_keeps, prepared_sizes}

-- what is written, as the code asks it and as it passes on the page

pub none_told : (o : code.Option CellWrite) → code.is_some o ≡ false → o ≡ None
none_told None e = refl
none_told (Some w) e = cc

pub page_told : {Q : CellWrite → ℕ → Type 0} (o : code.Option CellWrite) (r : code.Option ℕ) (P : ℕ → Type 0)
    → MatchOption o (r ≡ None) (λ w. IsSomeAnd r (Q w)) → ((w : CellWrite) (p : ℕ) → Q w p → p ≡ w.page) → ((w : CellWrite) → o ≡ Some w → P w.page)
    → IfSome r P
page_told None r P h f g = rw h tt
page_told (Some w) None P h f g = absurd h
page_told (Some w) (Some p) P h f g = rw (f w p h) (g w refl)

pub out_none : (w p : ℕ) (k : Bank) → (entry_at k p).copies ≡ 0 → k ≡ without_out w p k
unfolding without_out
out_none w p k e = cc (eq-eqb (entry_at k p).copies 0 e)

pub out_some : (w p : ℕ) (k : Bank) → ((entry_at k p).copies ≡ 0 → ⊥) → drop_copies w p k ≡ without_out w p k
unfolding without_out
out_some w p k n = cc (ne_eqb (entry_at k p).copies 0 n)

-- ---- what comes before the access

-- as many frames as pages
pub asks_frames : {boards pages : ℕ} {q : Ask} {s : List ℕ} → Asks boards pages q s → length (board_at (decode s) q.board).working.frames ≡ pages
asks_frames {q = q} h = (fits h.formed q.board h.bank.board).alone.fields.working.frames.count ∙ sym h.bank.count

-- whether an access lacks a right, and which pages, by the set of those that it lacks
module _ {pages : ℕ} {a : Access} {q : Ask} {set : ℕ} {k : Bank} (l : Lacking pages a q set k)
    (frames : length (board_at k q.board).working.frames ≡ pages) (small : set < 2 ^ most_pages) where
  lacking_told : not (eqb set 0) ≡ lacking_of q.board a k
  unfolding lacking_of
  lacking_told = lacking_test a (board_at k q.board).working.frames most_pages set small (λ p t. rw frames (l.stands.takes.below p t)) l.lacks

  pub lacks_some : set ≢ 0 → lacking_of q.board a k ≡ true
  lacks_some n = sym lacking_told ∙ ap not (ne_eqb set 0 n)

  pub lacks_none : set ≡ 0 → lacking_of q.board a k ≡ false
  lacks_none e = sym lacking_told ∙ ap not (eq-eqb set 0 e)

  pub pages_lacking_lem : pages_in pages set ≡ pages_lacking q.board a k
  unfolding pages_lacking lacking_pages
  pages_lacking_lem = rw frames (all_below_same (λ p. member p set) (lacks_page a (board_at k q.board).working.frames) pages (λ p h. l.lacks p))

  -- a write takes its one page
  pub page_written_lem : (w : CellWrite) → q.write ≡ Some w → page_written a ≡ w.page
  unfolding page_written
  page_written_lem w e = cc (rw e at l.stands.writes)

  pub one_lacking : (w : CellWrite) → q.write ≡ Some w → set ≢ 0 → pages_in pages set ≡ w.page ∷ []
  unfolding got lacking_of pages_lacking
  one_lacking w e n =
      let own : takes a ≡ GotOwn = l.stands.takes.takes ∙ ap (λ o. got (code.is_some o)) e in
      pages_lacking_lem ∙ rw (page_written_lem w e) at (lacking_own a (board_at k q.board).working.frames own (lacks_some n))

  copies_out_lem : (w : CellWrite) → q.write ≡ Some w → copies_out a k ≡ not (eqb (entry_at k w.page).copies 0)
  unfolding copies_out
  copies_out_lem w e = cc (rw e at l.stands.writes)

  copies_in : q.write ≡ None → copies_out a k ≡ false
  unfolding copies_out
  copies_in e = cc (rw e at l.stands.writes)

  module _ (n : ℕ) where
    pub prepared_fetch : set ≢ 0 → fetch (got (code.is_some q.write)) q.board (pages_in pages set) (running n k) ≡ prepared q.board a (running n k)
    unfolding prepared
    prepared_fetch s = cc (lacks_some s, pages_lacking_lem, l.stands.takes.takes)

    pub prepared_own_write : (w : CellWrite) → q.write ≡ Some w → set ≡ 0 → running n (without_out q.board w.page k) ≡ prepared q.board a (running n k)
    unfolding prepared step without_out
    prepared_own_write w h e =
        let out = copies_out_lem w h in
        by_bool (eqb (entry_at k w.page).copies 0)
        (λ z. cc (lacks_none e, page_written_lem w h))
        (λ z. cc (lacks_none e, page_written_lem w h))

    pub prepared_local_read : q.write ≡ None → set ≡ 0 → running n k ≡ prepared q.board a (running n k)
    unfolding prepared
    prepared_local_read w e = cc (lacks_none e, copies_in w)

  -- a board that holds a copy of a page that its owner writes has room for a record
  pub holder_space : (w : CellWrite) → q.write ≡ Some w → set ≡ 0 → WellFormed k → CanAccess q.board a k → first_given (live_refusals q.board a k) ≡ none
      → (c : ℕ) → c < length k.boards → member c (entry_at k w.page).copies ≡ true → Space (board_at k c)
  holder_space w i e formed can passed c h m =
      let out : copies_out a k ≡ true =
      by_eq (entry_at k w.page).copies 0 (λ z. clash (rw z at m) (member_none c)) (λ z. copies_out_lem w i ∙ ap not (ne_eqb _ 0 z)) in
      omega (arith, can_drop q.board a k formed can passed (lacks_none e) out c h (rw (page_written_lem w i) m))

-- ---- the access itself

module _ (b : ℕ) (a : Access) (r : Run) where
  pub performed_lost : (c : ℕ) → some c ≡ r.lost → performed b a r ≡ record { answer = PowerLost c; run = r; given = [] }
  unfolding performed finished step
  performed_lost c e = cc

  pub performed_done : none ≡ r.lost
      → performed b a r
      ≡ record {
        answer = Done (value_of a (board_at r.bank b).working.frames);
        run = record { bank = access b a r.bank; stores = r.stores; lost = none };
        given = given_of a (board_at r.bank b).working.frames;
      }
  unfolding performed finished step value_of access board_at given_of
  performed_done e = cc

-- ---- codes 6 and 7

-- an owner that is up gives to readers and writers
pub given_up : (w : Bool) (k : Bank) (p : ℕ) → owner_up k p ≡ true → false ≡ nobody_gives (got w) k p
unfolding nobody_gives got
given_up true k p u = cc
given_up false k p u = cc

-- as the code has them: the page and the board that the searches found
module _ {pages : ℕ} {a : Access} {q : Ask} {set : ℕ} {k : Bank} (l : Lacking pages a q set k) (count : pages ≡ length k.directory) {o : Option ℕ}
    (is_first : o ≡ first_below pages (λ j. member j set && nobody_gives (got (code.is_some q.write)) k j)) where
  missing_is : o ≡ page_missing q.board a k
  unfolding page_missing
  missing_is =
      is_first
      ∙ rw (← count, l.stands.takes.takes)
      (first_below_same (λ j. member j set && nobody_gives (got (code.is_some q.write)) k j)
      (λ j. lacks_page a (board_at k q.board).working.frames j && nobody_gives (got (code.is_some q.write)) k j) pages
      (λ j. ap (λ (t : Bool). t && nobody_gives (got (code.is_some q.write)) k j) (l.lacks j)))

  pub refuses_owner : (p owner : ℕ) → o ≡ some p → owner ≡ (entry_at k p).owner → some (OwnerNotUp owner) ≡ first_given (live_refusals q.board a k)
  unfolding live_refusals first_given is_some number_in
  refuses_owner p owner h i =
      let s : page_missing q.board a k ≡ some p = cc missing_is in
      cc

  module _ (h : o ≡ none) where
    none_missing : page_missing q.board a k ≡ none
    none_missing = cc missing_is

    pub refuses_short : (c : ℕ) → some c ≡ short_board q.board a k → some (LogFull c) ≡ first_given (live_refusals q.board a k)
    unfolding live_refusals first_given is_some number_in
    refuses_short c e = cc none_missing

    pub refuses_none : none ≡ short_board q.board a k → none ≡ first_given (live_refusals q.board a k)
    unfolding live_refusals first_given is_some
    refuses_none e = cc none_missing

-- an access that lacks no page and writes nothing is refused by neither
pub passes_idle : {pages : ℕ} {a : Access} {q : Ask} {k : Bank} → Lacking pages a q 0 k → pages ≡ length k.directory → WellFormed k → q.write ≡ None
    → none ≡ first_given (live_refusals q.board a k)
unfolding short_board short
passes_idle {pages} {a} {q} {k} l count formed w =
    let missing = none_found pages (λ j. member j 0 && nobody_gives (got (code.is_some q.write)) k j) (λ j h. rw (member_none j)) in
    let roomy =
    none_found (length k.boards) (short q.board a k)
    (λ c h.
    let none_needed : need q.board a k c ≡ 0 = sym (need_zero l c w refl ∙ need_of pages q.board a k c count) in
    sym (room_kept (board_at k c) (need q.board a k c) none_needed (formed.boards c h).room)) in
    refuses_none l count missing refl roomy

-- every answer of theirs is a refusal
refused_live : (b : ℕ) (a : Access) (k : Bank) (x : Answer) → some x ≡ first_given (live_refusals b a k) → (on_value (λ v. 0) x ≡ x) × (code x ≢ 0)
unfolding live_refusals on_value code
refused_live b a k x e =
    first_in (λ y. (on_value (λ v. 0) y ≡ y) × (code y ≢ 0)) (live_refusals b a k) x
    (each_cons (refl, λ i. absurd (omega arith)) (each_cons (refl, λ i. absurd (omega arith)) each_nil)) (sym e)

module _ (b : ℕ) (a : Access) (r : Run) where
  pub live_refused : {s : List ℕ} (out : List ℕ) (x : Answer) → some x ≡ first_given (live_refusals b a r.bank) → s ≡ encode r.bank
      → Answered a s (record { answer = x; stores = 0 }) r.stores (live b a r) out
  unfolding live unless
  live_refused out x e y =
      let t : live b a r ≡ record { answer = x; run = r; given = [] } = cc in
      let z = refused_live b a r.bank x e in
      rw t (record { bytes = y; answer = sym z.0; stores = omega arith; read = λ c. absurd (z.1 c) })

  pub live_passed : none ≡ first_given (live_refusals b a r.bank) → live b a r ≡ performed b a (prepared b a r)
  unfolding live unless
  live_passed e = cc

-- ---- how many copies are out

ones_below : (d n : ℕ) → n ≤ d → ones n ≡ 0 → n ≡ 0
ones_below zero n h e = omega arith
ones_below (suc d) n h e =
    let s : ones n ≡ n % 2 + ones (n / 2) = ones_step n in
    let z : n / 2 ≡ 0 = by_eq n 0 (λ q. rw q (omega arith)) (λ q. ones_below d (n / 2) (omega arith) (omega arith)) in
    omega arith

pub copies_none : (n m : ℕ) → m ≡ ones n → m ≤ 0 → n ≡ 0
copies_none n m e h = ones_below n n (omega arith) (omega arith)

pub copies_some : (n m : ℕ) → m ≡ ones n → 0 < m → n ≡ 0 → ⊥
unfolding ones ones_in
copies_some n m e h z = let y : ones n ≡ 0 = rw z refl in absurd (omega arith)

pub copies_counted : (n m : ℕ) → m ≡ ones n → eqb m 0 ≡ eqb n 0
copies_counted n m e =
    by_eq m 0
    (λ z. eq-eqb m 0 z ∙ sym (eq-eqb n 0 (copies_none n m e (omega arith))))
    (λ z. ne_eqb m 0 z ∙ sym (ne_eqb n 0 (copies_some n m e (omega arith))))

-- ---- a run that goes on, and one whose bytes are known

pub came_idle : {s : List ℕ} (n : ℕ) (j : Bank) → s ≡ encode j → Came s (n + 0) none (running n j)
came_idle n j e = record { bytes = e; stores = omega arith; lost = refl }

-- ---- the bytes after what comes before the access

module _ (b : ℕ) (a : Access) (n : ℕ) (k : Bank) (w : WellFormed k) (can : CanAccess b a k) (passed : first_given (live_refusals b a k) ≡ none) where
  abbrev pub ahead : Run
  ahead = prepared b a (running n k)

  ahead_holds : {s : List ℕ} → s ≡ encode ahead.bank → Holds s ahead.bank
  ahead_holds e = holds_well_formed e (prepared_keeps b a (running n k) w can passed)

  ahead_decode : {s : List ℕ} → s ≡ encode ahead.bank → decode s ≡ ahead.bank
  ahead_decode e = holds_decode (ahead_holds e)

  pub ahead_of : {s : List ℕ} → s ≡ encode ahead.bank → (pages : ℕ) → pages ≡ length k.directory → OfBank pages b s
  ahead_of e pages p =
      let z : SameSizes k ahead.bank = prepared_sizes b a (running n k) in
      holds_of (ahead_holds e) pages b (p ∙ sym z.pages) (rw z.boards (up_below k b can.up))

  pub ahead_ready : {s : List ℕ} → s ≡ encode ahead.bank → none ≡ ahead.lost → Ready a (board_at (decode s) b)
  ahead_ready e l = rw (ahead_decode e) (prepared_ready b a (running n k) w can passed (sym l))

  -- the answer, with power lost or the access done
  pub answered_lost : {s out : List ℕ} (m c : ℕ) → Came s (n + m) (some c) ahead
      → Answered a s (record { answer = PowerLost c; stores = m }) n (performed b a ahead) out
  unfolding on_value code
  answered_lost m c h =
      rw (performed_lost b a ahead c h.lost) (record { bytes = h.bytes; answer = refl; stores = h.stores; read = λ i. absurd (omega arith) })

  pub answered_done : {s t out : List ℕ} (m : ℕ) → Came s (n + m) none ahead
      → out ≡ read_from a (board_at (decode s) b).working.frames → Holds t (access b a (decode s))
      → Answered a t (record { answer = Done 0; stores = m }) n (performed b a ahead) out
  unfolding on_value value
  answered_done {s} m h e y =
      let d = ahead_decode h.bytes in
      rw (performed_done b a ahead h.lost, ← d)
      (record { bytes = y.bytes; answer = refl; stores = h.stores; read = λ i. e ∙ sym (bytes_seen_lem a (board_at (decode s) b).working.frames) })
