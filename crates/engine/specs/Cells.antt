-- The three kinds of access as the code asks for them: cells that are read and a byte that is written, and what was read, in the answer's value or in
-- the second buffer. Assumes nothing.
use Rattle.std.specs.Prelude.{◌≡◌, ◌≢◌, ℕ, ◌*◌, ◌%◌, ◌≤◌, ◌<◌, Some, None, Bool, false, ◌&&◌, List, [], ◌∷◌, length, get_or, eqb, ltb}
use Rattle.std.proofs.Math.Path.{refl, ap}
use Rattle.std.proofs.Common.{sym, ◌∙◌, arith, eqb-true, ne_eqb, ltb-true, ltb-false}
use Rattle.std.proofs.Math.Bool.{true}
use Rattle.std.proofs.lemmas.Bool.{eqb-false, not-false}
use Rattle.words.specs.Bytes.{Each, each_nil, each_cons}
use Rattle.types.specs.declared.Frame.{Frame}
use Rattle.types.specs.declared.State.{State}
use Rattle.types.specs.declared.Answer.{Answer}
use Rattle.types.specs.declared.Answer.TheVariants.{Done, Malformed, OutOfRange, WrongState, CountersFull, ReplayDiffers, OwnerNotUp, LogFull}
use Rattle.types.specs.declared.Answer.TheVariants.{PowerLost, WrongCells, HasRecords, Compared, SameBoard}
use Rattle.types.specs.declared.Outcome.{Outcome}
use Rattle.model.specs.Definitions.Answers.{code, value}
use Rattle.model.specs.Definitions.Parts.{every, member}
use Rattle.model.specs.Definitions.Layout.{byte_values, most_pages, most_cells, page_size}
use Rattle.model.specs.Definitions.Bank.{Bank}
use Rattle.model.specs.Definitions.Codec.{decode}
use Rattle.model.specs.Definitions.Steps.{Cell, Access, Read, Write, ReadCells, cells_asked, cells_read, cells_written, any_cell, any_write, names, takes, value_of}
use Rattle.model.specs.Definitions.Calls.{Result, cell_in_range, access_in_range, wrong_cells, access_bank, Accessing, call_within, call_bank, Reply, refused}
use Rattle.model.specs.Definitions.Calls.{reply_of, call, buffer_after}
use Rattle.model.proofs.Laws.Logic.{by_bool, by_eq, and_left, and_right}
use Rattle.model.proofs.Laws.Keeps.Rights.{or_none}
use Rattle.model.proofs.Laws.Keeps.Entered.{cell_of}
use Rattle.model.proofs.Laws.Lists.{every_each, each_imp, each_head}
use Rattle.model.proofs.Laws.Codes.Ends.{access_value, access_done_form}
use Rattle.model.specs.History.Statement.{bytes_seen}
use Rattle.model.specs.Likeness.{on_value}
use Rattle.fields.specs.Cells.{CellIn, count_cells}
use Rattle.steps.specs.Asked.{got, Takes}
use Rattle.accesses.specs.declared.ask.Ask.{Ask}
use Rattle.accesses.specs.Asks.{Asks, InRange}
use Rattle.accesses.specs.Results.{Answered}
use Rattle.checks.specs.declared.refusal.Refusal.{Refusal}
use Rattle.checks.specs.Refusals.{refusal_answer}
use Rattle.checks.specs.Findings.{OnBoard, on_bank, on_formed}
use Rattle.engine.specs.Clauses.{Replied}
use Rattle.engine.specs.Replies.{call_bank_lem, ran_replied}
use Rattle.engine.specs.Admissions.{WellAsked, refusal_code}

-- ---- what is asked for

-- a cell that passes code 2
cell_in : (pages : ℕ) (c : Cell) → cell_in_range pages c ≡ true → CellIn pages c
unfolding cell_in_range
cell_in pages c h =
    (ltb-true c.page pages (and_left (ltb c.page pages) _ h), ltb-true c.offset page_size (and_right (ltb c.page pages) _ h))

pub cells_in : (pages : ℕ) (cs : List Cell) → every (cell_in_range pages) cs ≡ true → Each (CellIn pages) cs
cells_in pages cs h = every_each (cell_in_range pages) cs (cell_in pages) h

-- the cells of an access that passes it
module _ (b : ℕ) (a : Access) (k : Bank) (h : access_in_range b a k ≡ true) where
  abbrev pages : ℕ
  pages = length k.directory

  cells_fit : (every (cell_in_range pages) (cells_read a) && every (λ w. cell_in_range pages w.0 && ltb w.1 byte_values) (cells_written a)) ≡ true
  unfolding access_in_range
  cells_fit = and_right (ltb b (length k.boards)) _ h

  pub reads_in : Each (CellIn pages) (cells_read a)
  reads_in = cells_in pages (cells_read a) (and_left _ (every (λ w. cell_in_range pages w.0 && ltb w.1 byte_values) (cells_written a)) cells_fit)

  pub writes_in : Each (λ w. CellIn pages w.0) (cells_written a)
  writes_in =
      every_each (λ w. cell_in_range pages w.0 && ltb w.1 byte_values) (cells_written a)
      (λ w t. cell_in pages w.0 (and_left (cell_in_range pages w.0) _ t))
      (and_right (every (cell_in_range pages) (cells_read a)) _ cells_fit)

  pub values_in : Each (λ w. w.1 < byte_values) (cells_written a)
  values_in =
      every_each (λ w. cell_in_range pages w.0 && ltb w.1 byte_values) (cells_written a)
      (λ w t. ltb-true w.1 byte_values (and_right (cell_in_range pages w.0) _ t))
      (and_right (every (cell_in_range pages) (cells_read a)) _ cells_fit)

-- bytes name the pages of an access: those that it reads, or the one that it writes
module _ {pages : ℕ} {a : Access} (cells : List ℕ) (own : (p : ℕ) → names a p ≡ any_cell (cells_asked cells) p) (within : Each (CellIn pages) (cells_asked cells))
    {named : ℕ} (members : (p : ℕ) → member p named ≡ any_cell (cells_asked cells) p) where
  pub takes_named : (writes : Bool) → takes a ≡ got writes → Takes pages a writes named
  takes_named writes t =
      record {
        below = λ p n. cell_of (cells_asked cells) p (sym (own p) ∙ n) (each_imp (cells_asked cells) (λ c l. l.0) within);
        names = λ p h. members p ∙ sym (own p);
        takes = t;
      }

-- an access that reads what bytes ask for and writes nothing
pub record Reading (a : Access) (cells : List ℕ) : Type 0 where
  pub reads : cells_read a ≡ cells_asked cells
  pub wrote : cells_written a ≡ []
  pub copies : takes a ≡ got false

pub one_cell : (p o : ℕ) → Reading (Read p o) (p ∷ o ∷ [])
unfolding cells_read cells_written cells_asked takes got
one_cell p o = record { reads = refl; wrote = refl; copies = refl }

pub all_cells : (cells : List ℕ) (n : ℕ) → Reading (ReadCells cells n) cells
unfolding cells_read cells_written takes got
all_cells cells n = record { reads = refl; wrote = refl; copies = refl }

abbrev pub read_ask : ℕ → ℕ → Ask
read_ask b named = record { board = b; named = named; write = None }

module _ {a : Access} {cells : List ℕ} (x : Reading a cells) (b : ℕ) (k : Bank) (range : access_in_range b a k ≡ true)
    {pages : ℕ} (e : pages ≡ length k.directory) where
  pub reads_within : Each (CellIn pages) (cells_asked cells)
  reads_within = rw (e, ← x.reads) (reads_in b a k range)

  read_peers : (p : ℕ) → names a p ≡ any_cell (cells_asked cells) p
  unfolding names any_write
  read_peers p = rw (x.reads, x.wrote) (by_bool (any_cell (cells_asked cells) p) (λ t. rw t) (λ t. rw t))

  pub read_asked : wrong_cells a ≡ false → (named : ℕ) → ((p : ℕ) → member p named ≡ any_cell (cells_asked cells) p) → WellAsked pages a (read_ask b named) cells k
  read_asked right named members =
      record {
        stands = record { takes = takes_named cells read_peers reads_within members false x.copies; writes = x.wrote };
        reads = x.reads;
        range = range;
        right = right;
      }

  pub read_range : (named n : ℕ) → length cells ≡ 2 * n → InRange pages (read_ask b named) cells n
  read_range named n l = record { cells = reads_within; room = l; byte = tt }

-- a list of cells is in range if each of them is
pub cells_range : (b : ℕ) (cells : List ℕ) (n : ℕ) (k : Bank) → ltb b (length k.boards) ≡ true
    → access_in_range b (ReadCells cells n) k ≡ every (cell_in_range (length k.directory)) (cells_asked cells)
unfolding access_in_range cells_read cells_written every
cells_range b cells n k h = by_bool (every (cell_in_range (length k.directory)) (cells_asked cells)) (λ t. rw (h, t)) (λ t. rw (h, t))

-- what code 10 leaves: two bytes for each byte of the buffer, and no more than 32
pub right_cells : (cells : List ℕ) (n : ℕ) → wrong_cells (ReadCells cells n) ≡ false → (length cells ≡ 2 * n) × (n ≤ most_cells)
unfolding wrong_cells
right_cells cells n h =
    let one = or_none (eqb (length (cells_asked cells)) 0) _ h in
    let two = or_none (eqb (length cells % 2) 1) _ one.1 in
    let three = or_none (ltb most_cells (length (cells_asked cells))) _ two.1 in
    let even : length cells % 2 ≢ 1 = eqb-false (length cells % 2) 1 two.0 in
    let few : length (cells_asked cells) ≤ most_cells = ltb-false most_cells (length (cells_asked cells)) three.0 in
    let same : n ≡ length (cells_asked cells) = eqb-true n (length (cells_asked cells)) (not-false (eqb n (length (cells_asked cells))) three.1) in
    (by_eq (length cells % 2) 1 (λ e. absurd (even e)) (λ e. omega (arith, same, count_cells cells, e)), omega (arith, same, few))

abbrev pub write_ask : ℕ → ℕ → (p o v : ℕ) → v < byte_values → Ask
write_ask b named p o v small = record { board = b; named = named; write = Some (record { page = p; offset = o; value = v; small = small }) }

module _ (b p o v : ℕ) (k : Bank) (range : access_in_range b (Write p o v) k ≡ true) {pages : ℕ} (e : pages ≡ length k.directory) where
  written_in : CellIn pages (record { page = p; offset = o })
  unfolding cells_written
  written_in = rw e (each_head (writes_in b (Write p o v) k range))

  pub write_within : Each (CellIn pages) (cells_asked (p ∷ o ∷ []))
  unfolding cells_asked
  write_within = each_cons written_in each_nil

  write_names : (q : ℕ) → names (Write p o v) q ≡ any_cell (cells_asked (p ∷ o ∷ [])) q
  unfolding names any_cell any_write cells_read cells_written cells_asked
  write_names q = refl

  pub write_asked : {small : v < byte_values} (named : ℕ) → ((q : ℕ) → member q named ≡ any_cell (cells_asked (p ∷ o ∷ [])) q)
      → WellAsked pages (Write p o v) (write_ask b named p o v small) [] k
  unfolding cells_read cells_written cells_asked takes got wrong_cells
  write_asked {small} named members =
      record {
        stands = record { takes = takes_named (p ∷ o ∷ []) write_names write_within members true refl; writes = refl };
        reads = refl;
        range = range;
        right = refl;
      }

  pub write_range : {small : v < byte_values} (named : ℕ) → InRange pages (write_ask b named p o v small) [] 0
  unfolding cells_asked
  write_range {small} named = record { cells = each_nil; room = refl; byte = written_in }

pub few_pages : {b : ℕ} {s : List ℕ} {st : State} → OnBoard b s st → {pages : ℕ} → pages ≡ length (decode s).directory → pages ≤ most_pages
few_pages on e = omega (arith, e, on.whole.sizes.pages)

pub asks_of : {b : ℕ} {s : List ℕ} {st : State} → OnBoard b s st → {pages : ℕ} → pages ≡ length (decode s).directory → (q : Ask) → q.board ≡ b
    → Asks (length (decode s).boards) pages q s
asks_of on {pages} e q own = record { bank = rw own (on_bank on pages e); count = refl; formed = on_formed on }

-- ---- what is answered

-- what is taken under code 0, and what else
unfoldable pub if_done : {A : Type 0} → Answer → (done other : A) → A
if_done x done other = elim (eqb (code x) 0) [ true ↦ done | false ↦ other ]

module _ {A : Type 0} (x : Answer) (done other : A) where
  pub when_done : eqb (code x) 0 ≡ true → done ≡ if_done x done other
  unfolding if_done
  when_done t = cc

  pub when_other : eqb (code x) 0 ≡ false → other ≡ if_done x done other
  unfolding if_done
  when_other t = cc

-- a refusal has no use for what is taken
pub when_refused : {A : Type 0} (r : Refusal) (done other : A) → other ≡ if_done (refusal_answer r) done other
when_refused r done other = when_other (refusal_answer r) done other (ne_eqb (code (refusal_answer r)) 0 (refusal_code r))

-- a code other than 0 stands beside no value
other_value : (g : ℕ → ℕ) (x : Answer) → code x ≢ 0 → on_value g x ≡ x
unfolding on_value code
other_value g (Done v) n = absurd (n refl)
other_value g Malformed n = refl
other_value g OutOfRange n = refl
other_value g (WrongState b) n = refl
other_value g (CountersFull b) n = refl
other_value g (ReplayDiffers b) n = refl
other_value g (OwnerNotUp b) n = refl
other_value g (LogFull b) n = refl
other_value g (PowerLost b) n = refl
other_value g WrongCells n = refl
other_value g HasRecords n = refl
other_value g (Compared i b) n = refl
other_value g SameBoard n = refl

-- an answer without its value, and its own value put in: it is what it was
put_own : (n m : ℕ) (x : Answer) → (code x ≡ 0 → x ≡ Done n) → if_done (on_value (λ v. m) x) (Done n) (on_value (λ v. m) x) ≡ x
unfolding if_done on_value code
put_own n m x h =
    by_eq (code x) 0
    (λ e. let d : x ≡ Done n = h e in rw d refl)
    (λ z. let s : on_value (λ v. m) x ≡ x = other_value (λ v. m) x z in let f : eqb (code x) 0 ≡ false = ne_eqb (code x) 0 z in cc)

-- one without a value of its own
none_own : (x : Answer) → (code x ≡ 0 → x ≡ Done 0) → on_value (λ v. 0) x ≡ x
unfolding on_value
none_own x h = by_eq (code x) 0 (λ e. let d : x ≡ Done 0 = h e in rw d refl) (other_value (λ v. 0) x)

module _ {b : ℕ} {s : List ℕ} {st : State} (on : OnBoard b s st) {a : Access} {t out : List ℕ} {o : Outcome}
    (h : Answered a t o 0 (access_bank b a (decode s)) out) where
  abbrev r : Result
  r = access_bank b a (decode s)

  pub value_replied : (n : ℕ) → (code r.answer ≡ 0 → value r.answer ≡ n)
      → Replied (call (Accessing b a) s) (record { answer = if_done o.answer (Done n) o.answer; stores = o.stores }) t
  unfolding call_bank call_within
  value_replied n e =
      (ran_replied s on.formed (Accessing b a) {o = record { answer = if_done o.answer (Done n) o.answer; stores = o.stores }} r refl h.bytes
      (ap (λ (x : Answer). if_done x (Done n) x) h.answer ∙ put_own n 0 r.answer (λ z. access_done_form b a (decode s) z ∙ ap Done (e z)))
      (omega (arith, h.stores))).0

  -- an access without a value of its own
  module _ (rest : (fs : List Frame) → value_of a fs ≡ 0) where
    same_answer : o.answer ≡ r.answer
    same_answer = h.answer ∙ none_own r.answer (λ z. access_done_form b a (decode s) z ∙ ap Done (access_value b a rest (decode s)))

    pub plain_replied : Replied (call (Accessing b a) s) o t
    unfolding call_bank call_within
    plain_replied = (ran_replied s on.formed (Accessing b a) {o = o} r refl h.bytes same_answer (omega (arith, h.stores))).0

-- "the byte read"
pub byte_read : {p q n : ℕ} {t out : List ℕ} {o : Outcome} {r : Result} → Answered (Read p q) t o n r out
    → code r.answer ≡ 0 → value r.answer ≡ get_or out 0 0
unfolding bytes_seen
byte_read h z = sym (ap (λ (l : List ℕ). get_or l 0 0) (h.read z))

-- a refusal, whose value is none
pub refusal_replied : {b : ℕ} {s : List ℕ} {st : State} → OnBoard b s st → {a : Access} {t out : List ℕ} (y : Refusal)
    → Answered a t (record { answer = refusal_answer y; stores = 0 }) 0 (access_bank b a (decode s)) out → {n : ℕ}
    → (code (access_bank b a (decode s)).answer ≡ 0 → value (access_bank b a (decode s)).answer ≡ n)
    → Replied (call (Accessing b a) s) (record { answer = refusal_answer y; stores = 0 }) t
refusal_replied on y h {n} e = rw (sym (when_refused y (Done n) (refusal_answer y))) at (value_replied on h n e)

-- "The bytes go in the asked order into a second lent buffer, which any code but 0 leaves unchanged" (document 02, F-3)
pub buffer_left : {b : ℕ} {s : List ℕ} {st : State} → OnBoard b s st → {cells : List ℕ} {n : ℕ} {t bytes left : List ℕ} {o : Outcome} (out : List ℕ)
    → Answered (ReadCells cells n) t o 0 (access_bank b (ReadCells cells n) (decode s)) bytes
    → left ≡ if_done o.answer bytes out
    → left ≡ buffer_after (call (Accessing b (ReadCells cells n)) s) out
unfolding if_done buffer_after bytes_seen reply_of call_bank call_within value_of
buffer_left {b} {s} on {cells} {n} {t} {bytes} {left} {o} out h l =
    let a : Access = ReadCells cells n in
    let r : Result = access_bank b a (decode s) in
    let y : call (Accessing b a) s ≡ reply_of r = call_bank_lem s on.formed (Accessing b a) in
    let same : o.answer ≡ r.answer = same_answer on h (λ fs. refl) in
    by_bool (eqb (code r.answer) 0)
    (λ z.
    let given : bytes ≡ r.given = h.read (eqb-true (code r.answer) 0 z) in
    let taken : left ≡ bytes = l ∙ sym (when_done o.answer bytes out (ap (λ (x : Answer). eqb (code x) 0) same ∙ z)) in
    cc)
    (λ z. let kept : left ≡ out = l ∙ sym (when_other o.answer bytes out (ap (λ (x : Answer). eqb (code x) 0) same ∙ z)) in cc)

-- a refusal leaves it too
pub buffer_kept : {y : Reply} (x : Answer) (s out : List ℕ) → y ≡ refused x s → code x ≢ 0 → out ≡ buffer_after y out
unfolding buffer_after refused
buffer_kept x s out e not = let z : eqb (code x) 0 ≡ false = ne_eqb (code x) 0 not in cc
