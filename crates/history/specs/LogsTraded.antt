-- What a call adds to the log of its own up board and to those of the boards that gave to it, if it loses nobody's power and makes no checkpoint: each got of
-- the caller has its shown, page for page (for document 02's F-7). Assumes nothing.
use Rattle.std.specs.Prelude.{◌≡◌, refl, ◌≢◌, ◌⊎◌, Bool, ◌&&◌, ◌||◌, not, length, eqb, ltb}
use Rattle.std.proofs.Common.{sym, ◌∙◌, inl, inr, ⊎_elim, eq-eqb, ne_eqb}
use Rattle.std.proofs.Math.Path.{ap}
use Prim.Native.Nat.{ℕ, zero, suc, ◌<◌}
use Rattle.std.proofs.Math.Bool.{false}
use Rattle.std.proofs.Math.Option.{some}
use mathlib.Core.List.{List, [], ◌∷◌, ◌++◌, append-nil}
use Rattle.std.proofs.lemmas.Bool.{not-false}
use Rattle.types.specs.declared.CopyOrOwn.{CopyOrOwn}
use Rattle.types.specs.declared.Kind.{Kind}
use Rattle.types.specs.declared.State.TheVariants.{Up}
use Rattle.types.specs.declared.Answer.TheVariants.{Done}
use Rattle.model.specs.Definitions.Layout.{no_fuse}
use Rattle.model.specs.Definitions.Parts.{member}
use Rattle.model.specs.Definitions.Bank.{Board, Bank, board_at, entry_at, on_board}
use Rattle.model.specs.Definitions.Codec.{page_of}
use Rattle.model.specs.Definitions.WellFormed.{is_got, is_down, is_replaying, WellFormed}
use Rattle.model.specs.Definitions.Answers.{code}
use Rattle.model.specs.Definitions.Logs.{is_shown, pages_naming, gots_from, showns_to}
use Rattle.model.specs.Definitions.Steps.{Run, start, step, with_fuse, fuse_board, Access, Cell, takes, cells_written, giver}
use Rattle.model.specs.Definitions.Replay.{restarted, end_if_over}
use Rattle.model.specs.Definitions.Calls.{Result, finished, pages_lacking, fuse_bank, restart_bank, Call, Accessing, Checkpointing, Fusing, Restarting, Comparing}
use Rattle.model.specs.Definitions.Calls.{call_bank}
use Rattle.model.specs.Clauses.{records_of}
use Rattle.model.proofs.Laws.Logic.{by_bool, by_eq, cases_option}
use Rattle.model.proofs.Laws.Boards.{by_board, board_at_same, board_at_other, on_board_out}
use Rattle.model.proofs.Laws.Keeps.Clauses.{up_below, up_not_down, up_not_replaying, is_down_down}
use Rattle.model.specs.Laws.Codes.Statement.{board_named}
use Rattle.model.proofs.Laws.Codes.Cases.{plain_cases, compare_cases}
use Rattle.model.proofs.Laws.Codes.Ends.{Ends, refused_first, refused_late, ran, looked, call_ended}
use Rattle.model.proofs.Laws.LogPages.{pages_said, pages_said_lem, said_append}
use Rattle.model.proofs.Laws.Logged.{access_logs}
use Rattle.model.proofs.Laws.Refusals.{late_replaying}
use Rattle.model.specs.History.Statement.{LostPower, done_event, event_of, live_bank}
use Rattle.model.specs.History.PeersStatement.{Said, said_by, gots_said, showns_said, drops_said, said_new}

-- ==== pages of what an access says

gots_not_shown : (t : ℕ) (g : CopyOrOwn) (k : Bank) (ps : List ℕ) → pages_said is_shown t (gots_said g k ps) ≡ []
unfolding pages_said gots_said is_shown
gots_not_shown t g k [] = refl
gots_not_shown t g k (p ∷ ps) = gots_not_shown t g k ps

drops_not_shown : (t : ℕ) (k : Bank) (b c : ℕ) (ws : List (Cell × ℕ)) → pages_said is_shown t (drops_said k b c ws) ≡ []
unfolding pages_said drops_said is_shown
drops_not_shown t k b c [] = refl
drops_not_shown t k b c (w ∷ ws) =
    by_bool (eqb c (entry_at k w.0.page).owner || member c (entry_at k w.0.page).copies)
    (λ h. cc (drops_not_shown t k b c ws))
    (λ h. cc (drops_not_shown t k b c ws))

-- what board c shows board b are the pages that b's gots name it for
partners : (b c : ℕ) (g : CopyOrOwn) (k : Bank) (ps : List ℕ) → pages_said is_shown b (showns_said g k b c ps) ≡ pages_said is_got c (gots_said g k ps)
unfolding pages_said showns_said gots_said is_shown is_got page_of
partners b c g k [] = refl
partners b c g k (p ∷ ps) = by_bool (eqb (giver g k p) c) (λ t. cc (eq-eqb b b refl, partners b c g k ps)) (λ t. cc (partners b c g k ps))

-- ==== one call

-- Bank j is k after a call of board b: the pages that b took of each board.
pub record Traded (b : ℕ) (k j : Bank) : Type 0 where
  pub taken : ℕ → List ℕ
  pub gots : (t : ℕ) → gots_from t (records_of (board_at j b)) ≡ gots_from t (records_of (board_at k b)) ++ taken t
  pub showns : (t : ℕ) → showns_to t (records_of (board_at j b)) ≡ showns_to t (records_of (board_at k b))
  pub given : (c : ℕ) → c < length k.boards → c ≢ b → showns_to b (records_of (board_at j c)) ≡ showns_to b (records_of (board_at k c)) ++ taken c

-- nothing was taken
traded_none : (b : ℕ) (k j : Bank) → ((c : ℕ) → records_of (board_at j c) ≡ records_of (board_at k c)) → Traded b k j
traded_none b k j e =
    record {
      taken = λ t. [];
      gots = λ t. ap (gots_from t) (e b) ∙ sym (append-nil (gots_from t (records_of (board_at k b))));
      showns = λ t. ap (showns_to t) (e b);
      given = λ c l n. ap (showns_to b) (e c) ∙ sym (append-nil (showns_to b (records_of (board_at k c))));
    }

traded_same : (b : ℕ) (k : Bank) (r : Run) → r ≡ start k → Traded b k r.bank
unfolding start
traded_same b k r e = traded_none b k r.bank (λ c. ap (λ (s : Run). records_of (board_at s.bank c)) e)

-- what a log says more, as pages
pages_more : (such : Kind → Bool) (t : ℕ) (x y : Board) (new : List Said) → said_by y ≡ said_by x ++ new
    → pages_naming such t (records_of y) ≡ pages_naming such t (records_of x) ++ pages_said such t new
unfolding said_by
pages_more such t x y new e =
    pages_said_lem such t (records_of y)
    ∙ (ap (pages_said such t) e ∙ (said_append such t (said_by x) new ∙ ap (λ (l : List ℕ). l ++ pages_said such t new) (sym (pages_said_lem such t (records_of x)))))

module _ (b : ℕ) (a : Access) (k : Bank) (w : WellFormed k) (up : (board_at k b).state ≡ Up) (v : ℕ) (done : (call_bank (Accessing b a) k).answer ≡ Done v) where
  abbrev j : Bank
  j = (call_bank (Accessing b a) k).run.bank

  live_now : live_bank b a k ≡ some k
  unfolding live_bank is_replaying
  live_now = let e : is_replaying (board_at k b).state ≡ false = ap is_replaying up in cc

  says : (c : ℕ) → c < length k.boards → said_by (board_at (call_bank (Accessing b a) k).run.bank c) ≡ said_by (board_at k c) ++ said_new b a k c
  says c l = access_logs b a k w v done k live_now c l

  access_traded : b < length k.boards → Traded b k (call_bank (Accessing b a) k).run.bank
  unfolding said_new
  access_traded l =
      let g : CopyOrOwn = takes a in
      let ps : List ℕ = pages_lacking b a k in
      let own : said_new b a k b ≡ gots_said g k ps = cc (eq-eqb b b refl) in
      record {
        taken = λ t. pages_said is_got t (gots_said g k ps);
        gots = λ t. pages_more is_got t (board_at k b) (board_at j b) (gots_said g k ps) (rw own at (says b l));
        showns = λ t.
            pages_more is_shown t (board_at k b) (board_at j b) (gots_said g k ps) (rw own at (says b l))
            ∙ (ap (λ (l : List ℕ). showns_to t (records_of (board_at k b)) ++ l) (gots_not_shown t g k ps) ∙ append-nil (showns_to t (records_of (board_at k b))));
        given = λ c m n.
            let other : said_new b a k c ≡ showns_said g k b c ps ++ drops_said k b c (cells_written a) = cc (ne_eqb c b n) in
            let pages : pages_said is_shown b (showns_said g k b c ps ++ drops_said k b c (cells_written a)) ≡ pages_said is_got c (gots_said g k ps) =
            said_append is_shown b (showns_said g k b c ps) (drops_said k b c (cells_written a))
            ∙ (ap (λ (l : List ℕ). pages_said is_shown b (showns_said g k b c ps) ++ l) (drops_not_shown b k b c (cells_written a))
            ∙ (append-nil (pages_said is_shown b (showns_said g k b c ps)) ∙ partners b c g k ps)) in
            pages_more is_shown b (board_at k c) (board_at j c) _ (rw other at (says c m))
            ∙ ap (λ (l : List ℕ). showns_to b (records_of (board_at k c)) ++ l) pages;
      }

-- ---- a call that loses nobody's power leaves the bank as it was, or is done

calm : {b : ℕ} {k : Bank} {Late : Run → Type 0} {t : Result} → Ends b k Late t → ((r : Run) → Late r → ⊥) → code t.answer ≢ 8
    → (t.run ≡ start k) ⊎ ((v : ℕ) × (t.answer ≡ Done v))
unfolding finished code
calm (refused_first x h i n) late safe = inl refl
calm (refused_late x r h i l) late safe = absurd (late r l)
calm {k = k} (ran v given r) late safe =
    cases_option (λ (t : Result). code t.answer ≢ 8 → (t.run ≡ start k) ⊎ ((v : ℕ) × (t.answer ≡ Done v))) r.lost
    (λ n z. inr (v, refl))
    (λ c e z. absurd (z refl))
    safe
calm (looked i d) late safe = inl refl

call_calm : (c : Call) (k : Bank) → (board_at k (board_named c)).state ≡ Up → code (call_bank c k).answer ≢ 8
    → ((call_bank c k).run ≡ start k) ⊎ ((v : ℕ) × ((call_bank c k).answer ≡ Done v))
call_calm c k up safe = calm (call_ended c k) (λ r l. up_not_replaying up (late_replaying c k r l)) safe

-- ---- every call of an up board

-- a fuse set is no part of a log
fuse_records : (b n : ℕ) (k : Bank) (c : ℕ) → records_of (board_at (on_board b (with_fuse n) k) c) ≡ records_of (board_at k c)
unfolding records_of with_fuse
fuse_records b n k c =
    by_eq c b
    (λ e. rw e (by_board k b (λ l. rw (board_at_same b (with_fuse n) k l) refl) (λ out. rw (on_board_out b (with_fuse n) k out) refl)))
    (λ m. ap records_of (board_at_other b (with_fuse n) k c m))

fused : (b n : ℕ) (k : Bank) → Traded b k (call_bank (Fusing b (suc n)) k).run.bank
unfolding call_bank fuse_bank fuse_board finished step start
fused b n k =
    plain_cases (λ (t : Result). Traded b k t.run.bank) k b
    (not (ltb b (length k.boards) && ltb (suc n) no_fuse)) (is_down (board_at k b).state) (finished 0 [] (step (fuse_board b (suc n)) (start k)))
    (λ x l h. traded_same b k (start k) refl)
    (λ out wrong. traded_none b k (on_board b (with_fuse (suc n)) k) (fuse_records b (suc n) k))

-- a restart of an up board is refused
not_restarted : (b : ℕ) (k : Bank) → (board_at k b).state ≡ Up → Traded b k (call_bank (Restarting b) k).run.bank
unfolding call_bank restart_bank
not_restarted b k up =
    plain_cases (λ (t : Result). Traded b k t.run.bank) k b
    (not (ltb b (length k.boards))) (not (is_down (board_at k b).state))
    (finished (board_at k b).stable.selected.number [] (end_if_over b (start (on_board b restarted k))))
    (λ x l h. traded_same b k (start k) refl)
    (λ out wrong. absurd (up_not_down up (is_down_down (board_at k b).state (not-false _ wrong))))

compared : (b c : ℕ) (k : Bank) → Traded b k (call_bank (Comparing b c) k).run.bank
unfolding call_bank
compared b c k =
    compare_cases (λ (t : Result). Traded b k t.run.bank) b c k (λ x h i. traded_same b k (start k) refl) (λ i d. traded_same b k (start k) refl)

-- no board lost its power by a fuse, and the caller neither by a fuse of 0; it made no checkpoint
pub call_traded : (c : Call) (k : Bank) → WellFormed k → (board_at k (board_named c)).state ≡ Up
    → code (call_bank c k).answer ≢ 8 → event_of c (call_bank c k).answer (call_bank c k).given ≢ LostPower (board_named c)
    → (c ≡ Checkpointing (board_named c) → code (call_bank c k).answer ≢ 0) → Traded (board_named c) k (call_bank c k).run.bank
unfolding board_named event_of done_event code
call_traded (Accessing b a) k w up safe power rest =
    ⊎_elim
    (traded_same b k (call_bank (Accessing b a) k).run)
    (λ d. access_traded b a k w up d.0 d.1 (up_below k b up))
    (call_calm (Accessing b a) k up safe)
call_traded (Checkpointing b) k w up safe power rest =
    ⊎_elim (traded_same b k (call_bank (Checkpointing b) k).run) (λ d. absurd (rest refl (ap code d.1))) (call_calm (Checkpointing b) k up safe)
call_traded (Fusing b zero) k w up safe power rest =
    ⊎_elim
    (traded_same b k (call_bank (Fusing b zero) k).run)
    (λ d. absurd (power (ap (λ x. event_of (Fusing b zero) x (call_bank (Fusing b zero) k).given) d.1)))
    (call_calm (Fusing b zero) k up safe)
call_traded (Fusing b (suc n)) k w up safe power rest = fused b n k
call_traded (Restarting b) k w up safe power rest = not_restarted b k up
call_traded (Comparing b c) k w up safe power rest = compared b c k
