-- A power loss, a fuse and a stable store keep a bank well formed. Assumes nothing.
use Rattle.std.specs.Prelude.{◌≡◌, refl, ◌≢◌, ℕ, ◌-◌, ◌≤◌, ◌<◌, false, List, map, length, eqb}
use Rattle.std.proofs.Common.{◌∙◌, arith}
use Rattle.std.proofs.Math.Option.{none}
use Rattle.std.proofs.lemmas.List.{length-map}
use Rattle.std.proofs.lemmas.Bool.{eqb-false}
use Rattle.types.specs.declared.State.TheVariants.{Down}
use Rattle.model.specs.Definitions.Parts.{member, without_member}
use Rattle.model.specs.Definitions.Layout.{no_fuse}
use Rattle.model.specs.Definitions.Bank.{Entry, Board, Bank, empty_frame, board_at, on_board, no_entry, entry_in}
use Rattle.model.specs.Definitions.WellFormed.{PlaceOk, EntryOk, WellFormed, FieldsOk}
use Rattle.model.specs.Definitions.Steps.{Run, step, powered_off, forgotten, power_off, with_fuse, burnt, store}
use Rattle.model.proofs.Laws.Logic.{by_eq, cases}
use Rattle.model.proofs.Laws.Lists.{each_map}
use Rattle.model.proofs.Laws.Sets.{member_without_same, member_without_other, without_le}
use Rattle.model.proofs.Laws.Boards.{get_d_map_below, each_map_of, right_in_same, board_at_same, boards_power_off, board_at_power_off_same}
use Rattle.model.proofs.Laws.Boards.{board_at_power_off_other, power_off_on_board}
use Rattle.model.proofs.Laws.Runs.{step_cases, store_cases}
use Rattle.model.proofs.Laws.Runs.Stores.{burnt_working, burnt_stable}
use Rattle.model.proofs.Laws.Keeps.Clauses.{up_not_down, SameFor, well_formed_fits, on_board_keeps, fits_directory, fits, fits_kept}
use Rattle.model.specs.Clauses.{Fits}
use Rattle.model.proofs.Laws.Keeps.Peers.{with_fuse_peers, burnt_peers, powered_off_peers}
use Rattle.model.proofs.Laws.BoardFields.{powered_off_fields, with_fuse_fields}

-- ---- a power loss

-- the entry stays valid without one of its copies
forgotten_ok : (n b : ℕ) (e : Entry) → EntryOk n e → EntryOk n (forgotten b e)
unfolding forgotten
forgotten_ok n b e h =
    record {
      owner = h.owner;
      copies = omega (arith, h.copies, without_le b e.copies);
      owner_bit = by_eq e.owner b (λ i. rw i (member_without_same b e.copies)) (λ i. member_without_other b e.owner e.copies i ∙ h.owner_bit);
    }

forgotten_none : (b : ℕ) (e : Entry) → member b (forgotten b e).copies ≡ false
unfolding forgotten
forgotten_none b e = member_without_same b e.copies

-- all other boards find in it what they found
forgotten_same : (b c : ℕ) (e : Entry) → c ≢ b → SameFor c e (forgotten b e)
unfolding forgotten
forgotten_same b c e n =
    let m : member c (without_member b e.copies) ≡ member c e.copies = member_without_other b c e.copies n in
    record { right = right_in_same e (forgotten b e) c refl m; copies = m }

-- a board without power, in a directory that lists no copy of it
powered_off_fits : (d d' : List Entry) (b : ℕ) (x : Board) → length d' ≡ length d → FieldsOk (length d) x
    → ((p : ℕ) → p < length d' → member b (entry_in d' p).copies ≡ false) → Fits d' b (powered_off x)
unfolding powered_off empty_frame PlaceOk
powered_off_fits d d' b x l h absent =
    record {
      alone =
          record {
            fields = rw l (powered_off_fields h);
            fuse = omega arith;
            room = omega (arith, h.selected.log.count);
            replaying = λ e. refl;
            down =
                λ e.
                record {
                  number = refl;
                  since = refl;
                  volatile = refl;
                  frames = each_map (λ f. empty_frame) x.working.frames (λ f. (refl, refl));
                  fuse = refl;
                };
          };
      place = refl;
      agreed = record { rights = λ e. up_not_down e refl; copies = λ e. absent };
    }

-- "Cut: .."
pub power_off_keeps : (b : ℕ) (k : Bank) → WellFormed k → WellFormed (power_off b k)
unfolding power_off on_board
power_off_keeps b k w =
    let l : length (map (forgotten b) k.directory) ≡ length k.directory = length-map k.directory (forgotten b) in
    let entry : (p : ℕ) → p < length k.directory → entry_in (map (forgotten b) k.directory) p ≡ forgotten b (entry_in k.directory p) =
    λ p m. get_d_map_below (forgotten b) k.directory p no_entry no_entry m in
    well_formed_fits (power_off b k)
    (rw (boards_power_off b k, l) w.sizes)
    (rw (boards_power_off b k) (each_map_of (forgotten b) k.directory (λ e h. forgotten_ok (length k.boards) b e h) w.directory))
    (λ c h.
    let m : c < length k.boards = rw (boards_power_off b k) at h in
    by_eq c b
    (λ e.
    let i : b < length k.boards = rw e at m in
    rw (e, board_at_power_off_same b k i)
    (powered_off_fits k.directory (map (forgotten b) k.directory) b (board_at k b) l (fits w b i).alone.fields
    (λ p j. rw (entry p (rw l at j)) (forgotten_none b (entry_in k.directory p)))))
    (λ n.
    rw (board_at_power_off_other b k c n)
    (fits_directory k.directory (map (forgotten b) k.directory) c (board_at k c) l
    (λ p i. rw (entry p i) (forgotten_same b c (entry_in k.directory p) n))
    (fits w c m))))
    (λ c h.
    let m : c < length k.boards = rw (boards_power_off b k) at h in
    rw (boards_power_off b k)
    (by_eq c b
    (λ e. rw (e, board_at_power_off_same b k (rw e at m)) (powered_off_peers (board_at k b) (w.peers b (rw e at m))))
    (λ n. rw (board_at_power_off_other b k c n) (w.peers c m))))

-- ---- a fuse

-- a board that has power may be given any fuse
with_fuse_fits : (d : List Entry) (b n : ℕ) (x : Board) → Fits d b x → 0 < n → n ≤ no_fuse → x.state ≢ Down → Fits d b (with_fuse n x)
unfolding with_fuse
with_fuse_fits d b n x h p m u =
    fits_kept x (with_fuse n x) h
    (record {
      fields = with_fuse_fields h.alone.fields n m;
      fuse = p;
      room = h.alone.room;
      replaying = h.alone.replaying;
      down = λ e. absurd (u e);
    })
    refl refl refl (omega arith)

-- "Fuse k .."
pub with_fuse_keeps : (b n : ℕ) (k : Bank) → WellFormed k → 0 < n → n ≤ no_fuse → (board_at k b).state ≢ Down → WellFormed (on_board b (with_fuse n) k)
with_fuse_keeps b n k w p m u = on_board_keeps b (with_fuse n) k w (λ l h. with_fuse_fits k.directory b n (board_at k b) h p m u) (with_fuse_peers n)

-- a board whose fuse is set has power
burnt_fits : (d : List Entry) (b : ℕ) (x : Board) → Fits d b x → (burnt x).fuse ≢ 0 → Fits d b (burnt x)
unfolding burnt with_fuse
burnt_fits d b x h n =
    cases (λ (y : Board). y.fuse ≢ 0 → Fits d b y) (eqb x.fuse no_fuse)
    (λ t m. h)
    (λ t m.
    let set : x.fuse - 1 ≢ 0 = m in
    with_fuse_fits d b (x.fuse - 1) x h (omega arith) (omega (arith, h.alone.fields.fuse)) (λ e. eqb-false x.fuse no_fuse t (h.alone.down e).fuse))
    n

-- ---- a store

-- the board that a power loss leaves doesn't show what the fuse was
pub powered_off_burnt : (x : Board) → powered_off (burnt x) ≡ powered_off x
unfolding powered_off
powered_off_burnt x = cc (burnt_working x, burnt_stable x)

-- "One store ..": whatever it does to its board, if that keeps the bank well formed
pub store_keeps : (b : ℕ) (f : Board → Board) (r : Run) → WellFormed r.bank → (r.lost ≡ none → WellFormed (on_board b f r.bank))
    → WellFormed (store b f r).bank
store_keeps b f r w g =
    store_cases (λ s. WellFormed s.bank) b f r
    (λ c e. w)
    (λ n e. rw (power_off_on_board b (on_board b f r.bank) burnt powered_off_burnt) (power_off_keeps b (on_board b f r.bank) (g n)))
    (λ n e.
    on_board_keeps b burnt (on_board b f r.bank) (g n)
    (λ l h. burnt_fits (on_board b f r.bank).directory b (board_at (on_board b f r.bank) b) h (rw (board_at_same b burnt (on_board b f r.bank) l) at e))
    (burnt_peers (board_at (on_board b f r.bank) b)))

-- a step that stores nothing
pub step_keeps : (f : Bank → Bank) (r : Run) → WellFormed r.bank → (r.lost ≡ none → WellFormed (f r.bank)) → WellFormed (step f r).bank
step_keeps f r w g = step_cases (λ s. WellFormed s.bank) f r (λ c e. w) g
