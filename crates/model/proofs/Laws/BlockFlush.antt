-- A flush, store by store: the board after its first j volatile records were stored. The selected area has them behind its own, all else that a power
-- loss can't touch is as it was, and so are fuse, state and counters. Assumes nothing.
use Rattle.std.specs.Prelude.{◌≡◌, refl, ◌≢◌, ℕ, zero, suc, ◌+◌, ◌-◌, ◌≤◌, ◌<◌, true, false, length, get_or, take, drop, eqb}
use Rattle.std.proofs.Common.{sym, ap, ◌∙◌, arith, length-append, length-take, length-drop, take-suc, length-take-le, ne_eqb}
use mathlib.Core.List.{List, [], ◌∷◌, ◌++◌, append_assoc, append-nil}
use Rattle.words.specs.Bytes.{Each}
use Rattle.types.specs.declared.Kind.TheVariants.{Shown}
use Rattle.types.specs.declared.Record.{Record}
use Rattle.model.specs.Definitions.Layout.{slot_count, no_fuse}
use Rattle.model.specs.Definitions.Bank.{Area, Board, with_area_log, with_log, on_working, on_selected}
use Rattle.model.specs.Definitions.WellFormed.{RecordOk, LogOk, AreaOk, FieldsOk, RoomOk}
use Rattle.model.specs.Definitions.Steps.{with_fuse, burnt, appended, moved_record, stored_record, with_record}
use Rattle.model.proofs.Laws.Logic.{by_bool, by_eq}
use Rattle.model.proofs.Laws.Lists.{each_append, each_drop, each_take}
use Rattle.model.proofs.Laws.BlockWorking.{next_record}
use Rattle.model.proofs.Laws.BoardFields.{on_working_fields, on_selected_fields}
use Rattle.model.proofs.Laws.Valid.{area_ok_log, working_ok_log}

-- ---- records appended

-- these records behind a log's own: each takes the next slot
unfoldable pub appended_all : List Record → List Record → List Record
appended_all rs l = l ++ rs

unfoldable pub with_records : List Record → Area → Area
with_records rs a = with_area_log (appended_all rs a.log) a

pub appended_all_none : (l : List Record) → appended_all [] l ≡ l
unfolding appended_all
appended_all_none l = rw append-nil

pub appended_all_next : (rs : List Record) (r : Record) (l : List Record) → appended_all (rs ++ (r ∷ [])) l ≡ appended r (appended_all rs l)
unfolding appended_all appended
appended_all_next rs r l =
    rw (append_assoc l rs (r ∷ []))

pub with_records_none : (a : Area) → with_records [] a ≡ a
unfolding with_records
with_records_none a = rw appended_all_none

-- the next record of a list
pub with_records_next : (rs : List Record) (j : ℕ) (d : Record) (a : Area) → j < length rs
    → with_records (take (suc j) rs) a ≡ with_record (get_or rs j d) (with_records (take j rs) a)
unfolding with_records
with_records_next rs j d a h = rw (take-suc rs j d h, appended_all_next)

pub area_ok_records : (pages : ℕ) (rs : List Record) (a : Area) → AreaOk pages a → Each (RecordOk pages) rs
    → length a.log + length rs ≤ slot_count → AreaOk pages (with_records rs a)
unfolding with_records appended_all
area_ok_records pages rs a ok v h =
    area_ok_log ok (record { records = each_append a.log rs ok.log.records v; count = rw (length-append a.log rs) h })

-- ---- the board that the bytes show between the stores

-- the volatile slots wait till the last store: only the selected area is written
unfoldable pub flushing : ℕ → Board → Board
flushing j x = on_selected (with_records (take j x.working.log)) x

-- one record more behind those of the selected area
pub flushing_next : (j : ℕ) (x : Board) (d : Record) → j < length x.working.log
    → on_selected (with_record (get_or x.working.log j d)) (flushing j x) ≡ flushing (suc j) x
unfolding flushing on_selected
flushing_next j x d h = rw (with_records_next x.working.log j d x.stable.selected h)

pub flushing_count : (j : ℕ) (x : Board) → j ≤ length x.working.log
    → length (flushing j x).stable.selected.log ≡ length x.stable.selected.log + j
unfolding flushing on_selected with_records appended_all
flushing_count j x h =
    let rs : List Record = x.working.log in
    length-append x.stable.selected.log (take j rs) ∙ rw (length-take-le j rs h)

module _ (pages : ℕ) (x : Board) (ok : FieldsOk pages x) (room : RoomOk x) where
  pub flushing_fields : (j : ℕ) → FieldsOk pages (flushing j x)
  unfolding flushing
  flushing_fields j =
      let rs : List Record = x.working.log in
      on_selected_fields ok (with_records (take j rs))
      (area_ok_records pages (take j rs) x.stable.selected ok.selected (each_take j rs ok.working.log.records)
      (rw (length-take j rs) (omega arith)))

-- ---- the board after j stores

unfoldable pub stored_records : ℕ → Board → Board
stored_records zero x = x
stored_records (suc j) x = stored_record (stored_records j x)

abbrev any_record : Record
any_record = record { count = 0; kind = Shown 0; peer = 0; bytes = [] }

-- each store takes the next of the records that were volatile at first
pub stored_records_parts : (j : ℕ) (x : Board) → j ≤ length x.working.log
    → stored_records j x ≡ on_working (with_log (drop j x.working.log)) (flushing j x)
unfolding stored_records on_working flushing on_selected moved_record
stored_records_parts zero x h = rw (with_records_none x.stable.selected)
stored_records_parts (suc j) x h =
    let g : List Record = x.working.log in
    let y : Board = on_working (with_log (drop j g)) (flushing j x) in
    let n : stored_record y ≡ moved_record (get_or g j any_record) (drop (suc j) g) y = next_record g j any_record y refl h in
    let a : (stored_record y).state ≡ x.state = ap (λ (z : Board). z.state) n in
    let f : (stored_record y).fuse ≡ x.fuse = ap (λ (z : Board). z.fuse) n in
    let w : (stored_record y).working ≡ with_log (drop (suc j) g) x.working = ap (λ (z : Board). z.working) n in
    let t : (stored_record y).stable ≡ (flushing (suc j) x).stable =
    ap (λ (z : Board). z.stable) n ∙ ap (λ (z : Board). z.stable) (flushing_next j x any_record h) in
    ap stored_record (stored_records_parts j x (omega arith)) ∙ (λ i. record { state = a i; fuse = f i; working = w i; stable = t i })

pub working_stored_records : (j : ℕ) (x : Board) → j ≤ length x.working.log
    → (stored_records j x).working ≡ with_log (drop j x.working.log) x.working
unfolding on_working flushing on_selected
working_stored_records j x h = ap (λ (y : Board). y.working) (stored_records_parts j x h)

-- the bytes between the stores are those of this board with the volatile log of before the flush
pub flushing_log : (j : ℕ) (x : Board) → j ≤ length x.working.log → on_working (with_log x.working.log) (stored_records j x) ≡ flushing j x
unfolding on_working flushing on_selected
flushing_log j x h = rw (stored_records_parts j x h)

module _ (pages : ℕ) (x : Board) (ok : FieldsOk pages x) (room : RoomOk x) where
  left_ok : (j : ℕ) → LogOk pages (drop j x.working.log)
  left_ok j =
      record {
        records = each_drop j x.working.log ok.working.log.records;
        count = rw (length-drop j x.working.log) (omega (arith, ok.working.log.count));
      }

  pub stored_records_fields : (j : ℕ) → j ≤ length x.working.log → FieldsOk pages (stored_records j x)
  unfolding flushing on_selected
  stored_records_fields j h =
      rw (stored_records_parts j x h)
      (on_working_fields (flushing_fields pages x ok room j) (with_log (drop j x.working.log)) (working_ok_log ok.working (left_ok j)))

-- ---- the fuse, lowered after each store

-- a fuse after j stores, none of which blew it
unfoldable pub fuse_after : ℕ → ℕ → ℕ
fuse_after j f = elim (eqb f no_fuse) [ true ↦ f | false ↦ f - j ]

pub fuse_after_none : (j : ℕ) → fuse_after j no_fuse ≡ no_fuse
unfolding fuse_after
fuse_after_none j = refl

pub fuse_after_set : (j f : ℕ) → f ≢ no_fuse → fuse_after j f ≡ f - j
unfolding fuse_after
fuse_after_set j f n = cc (ne_eqb f no_fuse n)

burnt_with_fuse : (m : ℕ) (x : Board) → burnt (with_fuse m x) ≡ with_fuse (fuse_after 1 m) x
unfolding burnt with_fuse fuse_after
burnt_with_fuse m x = by_bool (eqb m no_fuse) (λ t. cc) (λ t. cc)

fuse_first : (f : ℕ) → fuse_after 0 f ≡ f
fuse_first f = by_eq f no_fuse (λ e. rw (e, fuse_after_none)) (λ n. rw (fuse_after_set 0 f n) (omega arith))

fuse_next : (j f : ℕ) → f ≤ no_fuse → fuse_after 1 (fuse_after j f) ≡ fuse_after (suc j) f
fuse_next j f h =
    by_eq f no_fuse
    (λ e. rw (e, fuse_after_none j, fuse_after_none 1, fuse_after_none (suc j)))
    (λ n. rw (fuse_after_set j f n, fuse_after_set (suc j) f n, fuse_after_set 1 (f - j) (λ e. n (omega arith))) (omega arith))

stored_record_fuse : (n : ℕ) (x : Board) → stored_record (with_fuse n x) ≡ with_fuse n (stored_record x)
unfolding stored_record moved_record with_fuse
stored_record_fuse n x = go x.working.log
  where
    go : (l : List Record)
        → elim l [ [] ↦ with_fuse n x | r ∷ rs ↦ moved_record r rs (with_fuse n x) ] ≡ with_fuse n (elim l [ [] ↦ x | r ∷ rs ↦ moved_record r rs x ])
    go [] = refl
    go (r ∷ rs) = refl

-- the board after j stores, its fuse lowered after each
unfoldable pub stored_burnt : ℕ → Board → Board
stored_burnt zero x = x
stored_burnt (suc j) x = burnt (stored_record (stored_burnt j x))

-- the stores and the fuse don't meet
pub stored_burnt_parts : (j : ℕ) (x : Board) → x.fuse ≤ no_fuse → stored_burnt j x ≡ with_fuse (fuse_after j x.fuse) (stored_records j x)
unfolding stored_burnt stored_records with_fuse
stored_burnt_parts zero x h = ap (λ (n : ℕ). with_fuse n x) (sym (fuse_first x.fuse))
stored_burnt_parts (suc j) x h =
    let m : ℕ = fuse_after j x.fuse in
    let y : Board = stored_record (stored_records j x) in
    ap (λ (z : Board). burnt (stored_record z)) (stored_burnt_parts j x h) ∙ ap burnt (stored_record_fuse m (stored_records j x)) ∙ burnt_with_fuse m y
    ∙ ap (λ (n : ℕ). with_fuse n y) (fuse_next j x.fuse h)

-- between the stores the bytes show it with the volatile log of before the flush, and after a power loss the two are one
pub stored_burnt_log : (j : ℕ) (x : Board) → x.fuse ≤ no_fuse → j ≤ length x.working.log
    → on_working (with_log x.working.log) (stored_burnt j x) ≡ with_fuse (fuse_after j x.fuse) (flushing j x)
unfolding on_working with_fuse
stored_burnt_log j x f h = rw (stored_burnt_parts j x f) (ap (with_fuse (fuse_after j x.fuse)) (flushing_log j x h))
