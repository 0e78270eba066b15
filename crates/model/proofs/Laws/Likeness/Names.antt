-- Only the call that holds two logs against each other is decided by a name: likeness with the same page bytes. Assumes nothing.
use Rattle.std.specs.Prelude.{◌≡◌, refl, ℕ, false}
use Rattle.std.proofs.Common.{ap, ◌∙◌, map-id}
use Rattle.types.specs.declared.Answer.{Answer}
use Rattle.types.specs.declared.Answer.TheVariants.{Done, Malformed, OutOfRange, WrongState, CountersFull, ReplayDiffers, OwnerNotUp, LogFull, PowerLost}
use Rattle.types.specs.declared.Answer.TheVariants.{WrongCells, HasRecords, Compared, SameBoard}
use Rattle.model.specs.Definitions.Bank.{Bank}
use Rattle.model.specs.Definitions.Steps.{Access, Read, Write, ReadCells}
use Rattle.model.specs.Definitions.Calls.{Call, Accessing, Checkpointing, Fusing, Restarting, Comparing, call_within}
use Rattle.model.specs.Likeness.{mapped_access, mapped_value, mapped_call, mapped_call_value, on_value, ResultAlike, any_names, SameButNames, SameAnswer}
use Rattle.model.specs.Likeness.{reads_names}
use Rattle.model.proofs.Laws.Logic.{clash}
use Rattle.model.proofs.Laws.Likeness.Calls.{calls_alike}

-- with the identity for f the same is asked, and the same is answered
mapped_access_same : (a : Access) → mapped_access (λ v. v) a ≡ a
unfolding mapped_access
mapped_access_same (Read p o) = refl
mapped_access_same (Write p o v) = refl
mapped_access_same (ReadCells cells out_length) = refl

mapped_value_same : (a : Access) (v : ℕ) → mapped_value (λ v. v) a v ≡ v
unfolding mapped_value
mapped_value_same (Read p o) v = refl
mapped_value_same (Write p o w) v = refl
mapped_value_same (ReadCells cells out_length) v = refl

mapped_call_same : (c : Call) → mapped_call (λ v. v) c ≡ c
unfolding mapped_call
mapped_call_same (Accessing b a) = ap (Accessing b) (mapped_access_same a)
mapped_call_same (Checkpointing b) = refl
mapped_call_same (Fusing b n) = refl
mapped_call_same (Restarting b) = refl
mapped_call_same (Comparing b c) = refl

mapped_call_value_same : (c : Call) (v : ℕ) → mapped_call_value (λ v. v) c v ≡ v
unfolding mapped_call_value
mapped_call_value_same (Accessing b a) v = mapped_value_same a v
mapped_call_value_same (Checkpointing b) v = refl
mapped_call_value_same (Fusing b n) v = refl
mapped_call_value_same (Restarting b) v = refl
mapped_call_value_same (Comparing b c) v = refl

on_value_same : (g : ℕ → ℕ) → ((v : ℕ) → g v ≡ v) → (x : Answer) → on_value g x ≡ x
unfolding on_value
on_value_same g i (Done v) = ap Done (i v)
on_value_same g i Malformed = refl
on_value_same g i OutOfRange = refl
on_value_same g i (WrongState b) = refl
on_value_same g i (CountersFull b) = refl
on_value_same g i (ReplayDiffers b) = refl
on_value_same g i (OwnerNotUp b) = refl
on_value_same g i (LogFull b) = refl
on_value_same g i (PowerLost b) = refl
on_value_same g i WrongCells = refl
on_value_same g i HasRecords = refl
on_value_same g i (Compared n b) = refl
on_value_same g i SameBoard = refl

-- two banks that differ in names alone answer every call alike but the one that compares logs, and are left differing only there
pub unread_names : (largest : ℕ) (c : Call) → reads_names c ≡ false → {k j : Bank} → SameButNames k j
    → SameAnswer (call_within largest c k) (call_within largest c j)
unread_names largest c unnamed {k} {j} e =
    let q : ResultAlike any_names (mapped_call_value (λ v. v) c) (call_within largest c k) (call_within largest c j) =
    rw (mapped_call_same c) at (calls_alike any_names refl (λ v. refl) largest c (λ t x y i. clash t unnamed) e) in
    record {
      answer = q.answer ∙ on_value_same (mapped_call_value (λ v. v) c) (mapped_call_value_same c) (call_within largest c k).answer;
      given = q.given ∙ map-id (call_within largest c k).given;
      stores = q.run.stores;
      lost = q.run.lost;
      bank = q.run.bank;
    }
