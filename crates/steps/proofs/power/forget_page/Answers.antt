-- `steps::power::forget_page` meets its contract. Assumes nothing.
use mathlib.Core.Path.{◌≡◌, ap, ◌∙◌}
use Prim.Native.Nat.{ℕ, ◌+◌, ◌*◌}
use Rattle.model.specs.Definitions.Parts.{splice, without_member}
use Rattle.model.specs.Definitions.Layout.{head_size, entry_size}
use Rattle.model.specs.Definitions.Bank.{Entry}
use Rattle.model.specs.Definitions.Codec.{encode_entry}
use Rattle.model.specs.Definitions.Steps.{forgotten}
use Rattle.steps.proofs.power.forget_page.Goals as goal

-- the entry that is written
entry_forgotten : (e : Entry) (owner copies left b : ℕ) → owner ≡ e.owner → copies ≡ e.copies → left ≡ without_member b copies
    → ◌≡◌ {A = Entry} (record { owner = owner; copies = left }) (forgotten b e)
unfolding forgotten
entry_forgotten e owner copies left b p q r = rw (p, r, q)

pub returns : goal.returns
returns c =
    let args = c.args in
    c.write_entry.ensures
    ∙ ap (λ (e : Entry). splice args.bank.now (head_size + args.page * entry_size) (encode_entry e))
    (entry_forgotten _ _ _ _ _ c.read_owner-owner.ensures
    c.read_copies-copies.ensures c.without_member.ensures)
