-- One line's work in a buffer that holds the largest bank. Assumes nothing.
use Rattle.std.specs.Prelude.{◌≡◌, refl, ℕ, ◌*◌, ◌≤◌, true, false, List, [], ◌++◌, length, drop}
use Rattle.std.proofs.Common.{sym, ◌∙◌, mul-le-mul, arith, eq-eqb, ne_eqb}
use Rattle.std.proofs.Math.Path.{ap}
use Rattle.std.proofs.lemmas.List.{length-replicate}
use Rattle.types.specs.declared.Answer.TheVariants.{OutOfRange}
use Rattle.types.specs.declared.Outcome.{Outcome}
use Rattle.lines.specs.declared.print.Printed.{Printed}
use Rattle.lines.specs.declared.request.Request.{Request}
use Rattle.lines.specs.declared.request.Request.TheVariants.{Make, Read, Write, Checkpoint, Fuse, Restart, Unreadable}
use Rattle.script.specs.declared.work.Work.{Work}
use Rattle.model.specs.Definitions.Parts.{zeros}
use Rattle.model.specs.Definitions.Layout.{most_boards, most_pages, block_size, bank_size}
use Rattle.model.specs.Definitions.Bank.{fresh}
use Rattle.engine.specs.Clauses.{Replied}
use Rattle.engine.specs.Replies.{done}
use Rattle.engine.specs.Making.{make_range, make_done}
use Rattle.model.specs.Definitions.Answers.{code}
use Rattle.model.specs.Definitions.Calls.{Call, refused, call, make}
use Rattle.lines.specs.Definitions.Output.{printed_of, unreadable}
use Rattle.script.specs.Definitions.Runner.{Worked, unread, worked, made, work}
use Rattle.fields.proofs.Splices.{splice_none}
use Rattle.model.proofs.Laws.Parts.{splice_zero}
use Rattle.lines.specs.Clauses.{Put}
use Rattle.lines.specs.Laws.Output.{put_as}
use Rattle.script.specs.Clauses.{most_bank, Works, called}
use Rattle.model.specs.Definitions.Check.{sizes_allowed}

pub work_called : (i : ℕ) (r : Request) (s : List ℕ) → (i ≡ 1 → ⊥) → work i r s ≡ called r s
unfolding work
work_called i (Make n p) s h = cc (ne_eqb i 1 h)
work_called i (Read b p o) s h = refl
work_called i (Write b p o v) s h = refl
work_called i (Checkpoint b) s h = refl
work_called i (Fuse b k) s h = refl
work_called i (Restart b) s h = refl
work_called i Unreadable s h = refl

-- a call's reply, printed
pub call_worked : {q q' : Request} (s : List ℕ) (c : Call) {o : Outcome} {p : Printed} {t : List ℕ} → q ≡ q' → Replied (call c s) o t → p ≡ printed_of o
    → called q' s ≡ worked (call c s) → (p ≡ (called q s).printed) × (t ≡ (called q s).bank)
unfolding worked
call_worked {q} {q'} s c e h f g = (f ∙ rw (h.0, e, g), h.1 ∙ rw (e, g))

pub line_unread : {q q' : Request} (s : List ℕ) {p : Printed} → q ≡ q' → p ≡ unreadable → called q' s ≡ unread s
    → (p ≡ (called q s).printed) × (s ≡ (called q s).bank)
unfolding unread
line_unread {q} {q'} s e f g = (f ∙ rw (e, g), rw (e, g))

-- ---- in the first bytes of a buffer

pub put_none : (l : List ℕ) (a : ℕ) → Put l a [] l a
put_none l a = record { bytes = splice_none l a; end = omega arith }

put_prefix : (buffer v : List ℕ) (n : ℕ) → length v ≡ n → Put buffer 0 v (v ++ drop n buffer) n
put_prefix buffer v n e = record { bytes = sym (splice_zero buffer v n e); end = omega arith }

-- a call on the bank's part
pub call_works : (q : Request) (s : List ℕ) (size : ℕ) (r : Printed) (t buffer : List ℕ) → (r ≡ (called q s).printed) × (t ≡ (called q s).bank) → length t ≡ size
    → Works (called q s) (record { printed = r; size = size }) buffer (t ++ drop size buffer)
call_works q s size r t buffer h k = record { printed = h.0; bank = put_as (sym h.1) (put_prefix buffer t size k) }

-- the same work in other words
pub works_as : {w v : Worked} {r : Work} {before after : List ℕ} → w ≡ v → Works v r before after → Works w r before after
works_as e h = rw e h

-- ---- make: what the buffer held does not matter

pub bank_sizes : (n p : ℕ) → n ≤ most_boards → p ≤ most_pages → bank_size n p ≤ most_bank
bank_sizes n p h k =
    let block : block_size p ≤ block_size most_pages = omega arith in
    let m : n * block_size p ≤ most_boards * block_size most_pages = mul-le-mul h block in
    omega arith

-- N on line 1, refused and done, in a buffer that holds the largest bank
module _ (n p : ℕ) (s : List ℕ) where
  pub make_works_refused : (r : Printed) (buffer : List ℕ) → sizes_allowed n p ≡ false → r ≡ printed_of (record { answer = OutOfRange; stores = 0 })
      → Works (work 1 (Make n p) s) (record { printed = r; size = 0 }) buffer buffer
  unfolding work made refused code
  make_works_refused r buffer e f =
      let h : make n p (zeros (bank_size n p)) ≡ refused OutOfRange (zeros (bank_size n p)) = make_range n p (zeros (bank_size n p)) e in
      record { printed = f ∙ rw h; bank = rw h (put_none buffer 0) }

  work_made : sizes_allowed n p ≡ true → work 1 (Make n p) s ≡ worked (done (fresh n p))
  unfolding work made worked code zeros
  work_made e = ap made (make_done n p (zeros (bank_size n p)) e (eq-eqb _ _ (length-replicate (bank_size n p) 0)))

  pub make_works_done : (t : List ℕ) {o : Outcome} (r : Printed) (size : ℕ) (v buffer : List ℕ) → sizes_allowed n p ≡ true → size ≡ bank_size n p
      → length t ≡ size → Replied (make n p t) o v → r ≡ printed_of o → length v ≡ length t
      → Works (work 1 (Make n p) s) (record { printed = r; size = size }) buffer (v ++ drop size buffer)
  unfolding worked
  make_works_done t r size v buffer e z h g f k =
      let a : make n p t ≡ done (fresh n p) = make_done n p t e (eq-eqb _ _ (h ∙ z)) in
      let left : v ≡ (work 1 (Make n p) s).bank = g.1 ∙ rw (a, work_made e) in
      record { printed = f ∙ rw (g.0, a, work_made e); bank = put_as (sym left) (put_prefix buffer v size (k ∙ h)) }

pub make_first : (i n p : ℕ) (q : Request) (s t : List ℕ) → i ≡ 1 → q ≡ Make n p → work i q s ≡ work 1 (Make n p) t
unfolding work
make_first i n p q s t e f = rw (e, f)
