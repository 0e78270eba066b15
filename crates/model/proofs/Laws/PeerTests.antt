-- The test of whom records name (Definitions.Check) says exactly that clause of the board that a block is read as. Assumes nothing.
use Rattle.std.specs.Prelude.{◌≡◌, ◌≢◌, not}
use Prim.Native.Nat.{ℕ, ◌+◌, ◌*◌, ◌≤◌, ◌<◌}
use Rattle.std.proofs.Common.{arith, ne_eqb}
use Rattle.std.proofs.Math.Bool.{Bool, true, false}
use mathlib.Core.List.{List, []}
use Rattle.std.proofs.Math.Dec.{eqb}
use Rattle.std.proofs.lemmas.Bool.{eqb-false}
use Rattle.words.specs.Bytes.{Each}
use Rattle.types.specs.declared.Record.{Record}
use Rattle.model.specs.Definitions.Parts.{part, byte_at}
use Rattle.model.specs.Definitions.Layout.{Form, slot_count, slot_peer_at, selector_at, area_slots_at, slot_size_in, slots_size_in, area_size_in}
use Rattle.model.specs.Definitions.Layout.{volatile_count_at_in, slots_at_in, area_at_in}
use Rattle.model.specs.Definitions.Bank.{Area}
use Rattle.model.specs.Definitions.Codec.{selector_byte, decode_record_in, decode_log_in, decode_area_in, decode_stable, decode_board_in}
use Rattle.model.specs.Definitions.WellFormed.{PeerOk, PeersOkIn}
use Rattle.model.specs.Definitions.Check.{peer_allowed, slot_peer_valid, area_count, stored_passes, slots_pass, records_pass}
use Rattle.model.proofs.Laws.Logic.{not_true, true_not}
use Rattle.model.proofs.Laws.Lists.{each_get_d}
use Rattle.model.proofs.Laws.Parts.{get_d_decode_all}
use Rattle.model.proofs.Laws.CodecBack.{Readable, length_decode_log}
use Rattle.model.proofs.Laws.Tests.{Says, says_and, says_below, says_eq, says_lt}
use Rattle.model.proofs.Laws.BoardTests.{says_record, count_place, slots_place}
use Rattle.model.proofs.Laws.ReadTests.{each_decode_all}

says_other : (a b : ℕ) → Says (not (eqb a b)) (a ≢ b)
says_other a b = (λ h. eqb-false a b (not_true h), λ h. true_not (ne_eqb a b h))

-- of a record, as its slot has it
says_peer : (form : Form) (named : Bool) (boards b : ℕ) (l : List ℕ) → Says (slot_peer_valid named boards b l) (PeerOk named boards b (decode_record_in form l))
unfolding slot_peer_valid peer_allowed PeerOk decode_record_in
says_peer form true boards b l = says_and (says_lt (byte_at l slot_peer_at) boards) (says_other (byte_at l slot_peer_at) b)
says_peer form false boards b l = says_eq (byte_at l slot_peer_at) 0

module _ (form : Form) (named : Bool) (boards b : ℕ) where
  -- every slot below a count names whom it may
  abbrev SlotsPeer : ℕ → List ℕ → Type 0
  SlotsPeer count l = (i : ℕ) → i < count → slot_peer_valid named boards b (part l (i * slot_size_in form) (slot_size_in form)) ≡ true

  peers_read : (count : ℕ) (l : List ℕ) → SlotsPeer count l → Each (PeerOk named boards b) (decode_log_in form count l)
  unfolding decode_log_in
  peers_read count l h =
      each_decode_all (decode_record_in form) (slot_size_in form) count l (λ i m. (says_peer form named boards b _).0 (h i m))

  read_peers : (count : ℕ) (l : List ℕ) → Each (PeerOk named boards b) (decode_log_in form count l) → SlotsPeer count l
  unfolding decode_log_in
  read_peers count l h i m =
      let none : Record = decode_record_in form [] in
      (says_peer form named boards b (part l (i * slot_size_in form) (slot_size_in form))
      ).1 (rw (get_d_decode_all (decode_record_in form) (slot_size_in form) count l i none m)
      at (each_get_d (decode_log_in form count l) i none h (rw (length_decode_log form count l) m)))

  -- the logs of a block, as the board has them: an area's slots stand in the area, and either area may be the selected one
  module _ (pages : ℕ) (l : List ℕ) where
    abbrev area : ℕ → Area
    area n = decode_area_in form pages (part l (area_at_in form pages n) (area_size_in form pages))

    stored_read : (n : ℕ) → SlotsPeer (area_count form pages n l) (part l (area_at_in form pages n + area_slots_at pages) (slots_size_in form))
        → Each (PeerOk named boards b) (area n).log
    unfolding decode_area_in
    stored_read n h = rw (count_place form pages n l, slots_place form pages n l) (peers_read _ _ h)

    read_stored : (n : ℕ) → Each (PeerOk named boards b) (area n).log
        → SlotsPeer (area_count form pages n l) (part l (area_at_in form pages n + area_slots_at pages) (slots_size_in form))
    unfolding decode_area_in
    read_stored n h = read_peers _ _ (rw (count_place form pages n l, slots_place form pages n l) at h)

    both_areas : (second : Bool) (P : Area → Type 0) → P (area 0) → P (area 1)
        → P (decode_stable second (area 0) (area 1)).selected × P (decode_stable second (area 0) (area 1)).spare
    unfolding decode_stable
    both_areas false P x y = (x, y)
    both_areas true P x y = (y, x)

    areas_both : (second : Bool) (P : Area → Type 0) → P (decode_stable second (area 0) (area 1)).selected
        → P (decode_stable second (area 0) (area 1)).spare → P (area 0) × P (area 1)
    unfolding decode_stable
    areas_both false P x y = (x, y)
    areas_both true P x y = (y, x)

    pub says_peers : Readable form pages l → Says (records_pass form (slot_peer_valid named boards b) pages l) (PeersOkIn named boards b (decode_board_in form pages l))
    unfolding records_pass slots_pass stored_passes decode_board_in
    says_peers r =
        let v : ℕ = byte_at l (volatile_count_at_in form) in
        let stored : ℕ → ℕ = λ n. area_count form pages n l in
        let start : ℕ → ℕ = λ n. area_at_in form pages n + area_slots_at pages in
        let second : Bool = eqb (byte_at l selector_at) (selector_byte true) in
        let test : List ℕ → Bool = slot_peer_valid named boards b in
        let few : (stored 0 ≤ slot_count) × (stored 1 ≤ slot_count) =
        (rw (count_place form pages 0 l) at r.area0.log.few, rw (count_place form pages 1 l) at r.area1.log.few) in
        let names : Area → Type 0 = λ a. Each (PeerOk named boards b) a.log in
        let all =
        says_below slot_count (slots_pass form test pages l)
        (λ i h.
        says_and (says_record form test (slots_at_in form pages) v l i h)
        (says_and (says_record form test (start 0) (stored 0) l i h) (says_record form test (start 1) (stored 1) l i h))) in (
          λ t.
              let q = all.0 t in
              let areas = both_areas second names
              (stored_read 0 (λ i h. (q i (omega (arith, few.0))).1.0 h))
              (stored_read 1 (λ i h. (q i (omega (arith, few.1))).1.1 h)) in
              record { volatile = peers_read _ _ (λ i h. (q i (omega (arith, r.log.few))).0 h); selected = areas.0; spare = areas.1 },
          λ n.
              let areas = areas_both second names n.selected n.spare in
              all.1 (λ i m. (read_peers _ _ n.volatile i, (read_stored 0 areas.0 i, read_stored 1 areas.1 i))),
        )
