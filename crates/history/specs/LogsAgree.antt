-- F-7: two boards that since the fresh bank were neither cut nor checkpointed, and made no call that ended in code 8, have logs that agree, so the call that
-- holds them against each other finds nothing (History/LogsStatement). No premise is needed. Assumes nothing.
use Rattle.std.specs.Prelude.{◌≡◌, refl, ◌≢◌, ℕ, ◌<◌, true, false, List, [], ◌∷◌, ◌++◌, length, eqb, ltb}
use Rattle.std.proofs.Common.{sym, ◌∙◌, inl, inr, append-nil, ne_eqb, lt-ltb}
use Rattle.std.proofs.Math.Path.{ap, subst}
use Rattle.words.specs.Bytes.{Each, each_nil, each_cons}
use Rattle.types.specs.declared.Record.{Record}
use Rattle.types.specs.declared.State.{State}
use Rattle.types.specs.declared.State.TheVariants.{Up, Down, Replaying}
use Rattle.types.specs.declared.Answer.TheVariants.{Compared}
use Rattle.model.specs.Definitions.Bank.{Bank, no_board, board_at, fresh, fresh_board}
use Rattle.model.specs.Definitions.Codec.{encode}
use Rattle.model.specs.Definitions.WellFormed.{is_got, is_replaying, WellFormed, SizesOk}
use Rattle.model.specs.Definitions.Logs.{is_shown, pages_naming, gots_from, showns_to, stored_records, unmatched_in, compared_in_order, compared_logs}
use Rattle.model.specs.Definitions.Steps.{Run, start}
use Rattle.model.specs.Definitions.Calls.{unless, first_given, compare_bank, Call, Checkpointing, Comparing, call_within, call_bank, Reply, reply_of}
use Rattle.model.specs.Clauses.{records_of}
use Rattle.model.proofs.Laws.Logic.{by_bool, by_eq, by_option}
use Rattle.model.proofs.Laws.Lists.{each_head, each_tail}
use Rattle.model.proofs.Laws.Boards.{board_at_out, by_board}
use Rattle.model.proofs.Laws.Fresh.{fresh_boards, fresh_board_lem, fresh_well_formed}
use Rattle.model.proofs.Laws.Keeps.Clauses.{up_below, up_not_down}
use Rattle.model.proofs.Laws.Moves.Calls.{call_moves, call_keeps}
use Rattle.model.proofs.Laws.Moves.Down.{CutIn, Tracks, moves_track}
use Rattle.model.specs.Laws.Codes.Statement.{board_named}
use Rattle.model.proofs.Laws.Codes.Order.{never}
use Rattle.model.proofs.Laws.Codes.Ends.{power_lost}
use Rattle.model.proofs.Laws.EveryBoard.{Boards}
use Rattle.model.proofs.Laws.LogsKept.{NoneShown, Stood, call_kept}
use Rattle.model.proofs.Laws.LogPages.{pages_append, unmatched_prefix}
use Rattle.model.specs.History.Statement.{bytes_left, LostPower, event_of, Observed, begin, made, run_of}
use Rattle.model.proofs.History.OnBytes.{decoded, call_encode}
use Rattle.model.specs.History.LogsStatement.{Spared, LogsAgree, YieldNoPlace, SparedYieldNoPlace}
use Rattle.history.specs.Bystanders.{up_moves}
use Rattle.history.specs.LogsTraded.{Traded, call_traded}

-- ==== one call on a bank

-- what a caller sees of it
abbrev seen_of : Call → Bank → Observed
seen_of c k =
    record { asked = c; outcome = (reply_of (call_bank c k)).outcome; bytes = (reply_of (call_bank c k)).bytes; given = (reply_of (call_bank c k)).given }

is_up : (s : State) → is_replaying s ≡ false → s ≢ Down → s ≡ Up
unfolding is_replaying
is_up Up r d = refl
is_up Down r d = absurd (d refl)
is_up Replaying r d = never (cc)

-- all gots of the taker that name the giver, and all showns of the giver that name the taker
abbrev Agree : (giver taker : ℕ) → Bank → Type 0
Agree x y k = gots_from x (records_of (board_at k y)) ≡ showns_to y (records_of (board_at k x))

module _ (c : Call) (k : Bank) (w : WellFormed k) where
  abbrev j : Bank
  j = (call_bank c k).run.bank

  abbrev caller : ℕ
  caller = board_named c

  -- a board that was not cut has its power
  still_powered : (b : ℕ) → (board_at k b).state ≡ Up → Spared b (seen_of c k) → (board_at (call_bank c k).run.bank b).state ≢ Down
  unfolding CutIn reply_of event_of
  still_powered b up spared down =
      let r : Run = (call_bank c k).run in
      let t : Tracks k _ r = moves_track (call_moves c k w) w in
      by_option r.lost
      (λ n. spared.power ((t.going n b).went_down (λ d. up_not_down up d) down))
      (λ d l.
      by_eq b d
      (λ e. spared.power (ap (λ x. event_of c x (call_bank c k).given) ((power_lost c k b).1 (rw e l))))
      (λ n. (t.lost d l).others b n (λ d. up_not_down up d) down))

  -- the log of an up board that another board's call found, and left its power
  stood_by : Boards (λ b. NoneShown) k → (b : ℕ) → b ≢ board_named c → (board_at k b).state ≡ Up → (board_at (call_bank c k).run.bank b).state ≢ Down
      → Stood (board_named c) (board_at k b) (board_at (call_bank c k).run.bank b)
  stood_by quiet b n up powered = elim ((call_kept c k quiet b).1 n up) [ inl down ↦ absurd (powered down) | inr stood ↦ stood ]

  -- .. and is up: a call of another board changes no state but by taking power, a call of its own leaves it up or down
  stays_up : Boards (λ b. NoneShown) k → (b : ℕ) → (board_at k b).state ≡ Up → Spared b (seen_of c k) → (board_at (call_bank c k).run.bank b).state ≡ Up
  unfolding start
  stays_up quiet b up spared =
      let powered : (board_at (call_bank c k).run.bank b).state ≢ Down = still_powered b up spared in
      by_eq b (board_named c)
      (λ e. is_up (board_at j b).state (rw e (up_moves (call_moves c k w) (rw e at up))) powered)
      (λ n. (stood_by quiet b n up powered).state)

  -- what it traded, as its caller
  traded : (b : ℕ) → b ≡ board_named c → (board_at k b).state ≡ Up → Spared b (seen_of c k) → Traded b k (call_bank c k).run.bank
  unfolding reply_of
  traded b e up spared =
      subst (λ (d : ℕ). Traded d k j) (sym e)
      (call_traded c k w (rw e at up) (spared.caller (sym e)) (λ l. spared.power (l ∙ ap LostPower (sym e)))
      (λ l. spared.checkpoint (l ∙ ap Checkpointing (sym e))))

  -- the taker or the giver called, or another board
  agree_after : Boards (λ b. NoneShown) k → (x y : ℕ) → x ≢ y → (board_at k x).state ≡ Up → (board_at k y).state ≡ Up
      → Spared x (seen_of c k) → Spared y (seen_of c k) → Agree x y k → Agree x y (call_bank c k).run.bank
  agree_after quiet x y n upx upy sx sy h =
      let px : (board_at j x).state ≢ Down = still_powered x upx sx in
      let py : (board_at j y).state ≢ Down = still_powered y upy sy in
      by_eq y (board_named c)
      (λ e.
      let t : Traded y k j = traded y e upy sy in
      t.gots x ∙ (ap (λ (l : List ℕ). l ++ t.taken x) h ∙ sym (t.given x (up_below k x upx) n)))
      (λ my.
      let sty : Stood (board_named c) (board_at k y) (board_at j y) = stood_by quiet y my upy py in
      by_eq x (board_named c)
      (λ e. sty.gots x ∙ (h ∙ sym ((traded x e upx sx).showns y)))
      (λ mx. sty.gots x ∙ (h ∙ sym ((stood_by quiet x mx upx px).showns y my))))

-- ==== between calls

record Paired (x y : ℕ) (k : Bank) : Type 0 where
  formed : WellFormed k
  quiet : Boards (λ b. NoneShown) k
  upx : (board_at k x).state ≡ Up
  upy : (board_at k y).state ≡ Up
  there : Agree x y k
  back : Agree y x k

paired_after : (x y : ℕ) → x ≢ y → (c : Call) (k : Bank) → Spared x (seen_of c k) → Spared y (seen_of c k) → Paired x y k → Paired x y (call_bank c k).run.bank
paired_after x y n c k sx sy p =
    let w : WellFormed k = p.formed in
    record {
      formed = call_keeps c k w;
      quiet = λ b. (call_kept c k p.quiet b).0;
      upx = stays_up c k w p.quiet x p.upx sx;
      upy = stays_up c k w p.quiet y p.upy sy;
      there = agree_after c k w p.quiet x y n p.upx p.upy sx sy p.there;
      back = agree_after c k w p.quiet y x (λ e. n (sym e)) p.upy p.upx sy sx p.back;
    }

-- a fresh bank has no record
fresh_paired : (n p x y : ℕ) → SizesOk n p → x < n → y < n → Paired x y (fresh n p)
unfolding fresh_board no_board records_of pages_naming
fresh_paired n p x y s lx ly =
    record {
      formed = fresh_well_formed n p s.some_board s.boards s.some_page s.pages;
      quiet = λ b.
          by_board (fresh n p) b
          (λ l. rw (fresh_board_lem n p b (rw (fresh_boards n p) at l)) each_nil)
          (λ out. rw (board_at_out (fresh n p) b out) each_nil);
      upx = rw (fresh_board_lem n p x lx) refl;
      upy = rw (fresh_board_lem n p y ly) refl;
      there = rw (fresh_board_lem n p x lx, fresh_board_lem n p y ly) refl;
      back = rw (fresh_board_lem n p x lx, fresh_board_lem n p y ly) refl;
    }

-- ==== what the call finds

none_pages : (t : ℕ) (rs : List Record) → Each (λ r. is_shown r.kind ≡ false) rs → showns_to t rs ≡ []
unfolding pages_naming
none_pages t [] h = refl
none_pages t (r ∷ rs) (each_cons e h) = cc (none_pages t rs h)

-- every shown is stored
all_stored : (x y : ℕ) (k : Bank) → Boards (λ b. NoneShown) k → showns_to y (records_of (board_at k x)) ≡ showns_to y (stored_records k x)
unfolding records_of
all_stored x y k quiet =
    let stored : List Record = stored_records k x in
    let volatile : List Record = (board_at k x).working.log in
    pages_append is_shown y stored volatile
    ∙ (ap (λ (l : List ℕ). showns_to y stored ++ l) (none_pages y volatile (quiet x)) ∙ append-nil (showns_to y stored))

-- the stored gots come first of all gots
none_unmatched : (x y : ℕ) (k : Bank) → LogsAgree x y k → unmatched_in x y k ≡ 0
unfolding unmatched_in records_of
none_unmatched x y k h =
    let stored : List Record = stored_records k y in
    let volatile : List Record = (board_at k y).working.log in
    let showns : showns_to y (stored_records k x) ≡ gots_from x stored ++ gots_from x volatile = sym h ∙ pages_append is_got x stored volatile in
    rw showns (unmatched_prefix 1 (gots_from x stored) (gots_from x volatile))

finds_none : (x y : ℕ) (k : Bank) → x ≢ y → x < length k.boards → y < length k.boards → LogsAgree x y k → LogsAgree y x k
    → (call_bank (Comparing x y) k).answer ≡ Compared 0 0
unfolding call_bank call_within compare_bank unless first_given compared_logs compared_in_order
finds_none x y k n lx ly there back =
    let first : ltb x (length k.boards) ≡ true = lt-ltb x (length k.boards) lx in
    let second : ltb y (length k.boards) ≡ true = lt-ltb y (length k.boards) ly in
    let other : eqb x y ≡ false = ne_eqb x y n in
    by_bool (ltb x y) (λ t. cc (none_unmatched x y k there, none_unmatched y x k back)) (λ t. cc (none_unmatched x y k there, none_unmatched y x k back))

paired_yield : (x y : ℕ) → x ≢ y → (k : Bank) → Paired x y k → YieldNoPlace x y (encode k) []
unfolding bytes_left reply_of
paired_yield x y n k p =
    let w : WellFormed k = p.formed in
    let there : LogsAgree x y k = p.there ∙ all_stored x y k p.quiet in
    let back : LogsAgree y x k = p.back ∙ all_stored y x k p.quiet in
    record {
      logs = rw (decoded k w) (there, back);
      answer = rw (call_encode (Comparing x y) k w) (finds_none x y k n (up_below k x p.upx) (up_below k y p.upy) there back);
    }

-- ==== any list of calls

paired_all : (x y : ℕ) → x ≢ y → (cs : List Call) (k : Bank) → Paired x y k → Each (Spared x) (run_of cs (encode k)) → Each (Spared y) (run_of cs (encode k))
    → YieldNoPlace x y (encode k) (run_of cs (encode k))
unfolding run_of bytes_left reply_of
paired_all x y n [] k p sx sy = paired_yield x y n k p
paired_all x y n (c ∷ cs) k p sx sy =
    let seen : Reply → List Observed = λ r. record { asked = c; outcome = r.outcome; bytes = r.bytes; given = r.given } ∷ run_of cs r.bytes in
    subst (λ (r : Reply). Each (Spared x) (seen r) → Each (Spared y) (seen r) → YieldNoPlace x y (encode k) (seen r)) (sym (call_encode c k p.formed))
    (λ tx ty.
    let j : Bank = (call_bank c k).run.bank in
    let rest : YieldNoPlace x y (encode j) (run_of cs (encode j)) =
    paired_all x y n cs j (paired_after x y n c k (each_head tx) (each_head ty) p) (each_tail tx) (each_tail ty) in
    record { logs = rest.logs; answer = rest.answer })
    sx sy

-- From a fresh bank of any size, for any list of calls: no premise is needed.
pub spared_yield_no_place : (n p : ℕ) → SizesOk n p → (cs : List Call) → SparedYieldNoPlace n (begin n p).bytes (run_of cs (begin n p).bytes)
unfolding made
spared_yield_no_place n p s cs b c lb lc other sb sc = paired_all b c other cs (fresh n p) (fresh_paired n p b c s lb lc) sb sc
