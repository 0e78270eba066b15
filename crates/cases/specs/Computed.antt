-- The worked cases and histories, computed on the bank. Nothing here rests on a law.
-- Assumes nothing.
use Rattle.std.specs.Prelude.{◌≡◌, refl, true, false, ◌&&◌, [], ◌∷◌}
use Rattle.model.specs.Definitions.Parts.{every}
use Rattle.model.specs.Definitions.Bank.{fresh}
use Rattle.model.specs.Definitions.Steps.{Read, Write}
use Rattle.model.specs.Definitions.Calls.{Accessing, Fusing}
use Rattle.model.specs.History.Statement.{no_history, of_board, discard, done_event, event_of, entry_count, repeats, with_number_of, bytes_seen, with_entry, fed}
use Rattle.model.specs.History.Statement.{zero_memory, byte_in, written, access_of, live_bank, givers_in, gave_in, granted_after, next_entry}
use Rattle.model.proofs.History.Tests.{same_bytes, same_access, done_or_lost, repeats_entry, premise_for, one_memory_test, gave_entry, repeat_for, grants_for}
use Rattle.model.specs.History.Banks.{history_after, grants_after}
use Rattle.cases.specs.Evaluate.{evaluate}
use Rattle.cases.specs.Digest.{taken, digest_from, digest}
use Rattle.cases.specs.Table.{agrees, case_a, case_bcut, case_b, board_out_of_range, restart_of_up_board, replay_differs, owner_not_up, alternating}
use Rattle.cases.specs.Table.{alternating_writes, fuse_blows, last_offset, zero_fuse, scripts, lengths}
use Rattle.cases.specs.Conversions.{old_bank, new_bank, both_lengths, refuses, converts, reads, first_told}
use Rattle.model.specs.History.ConversionStatement.{told_within, told_older}
use Rattle.model.specs.History.CleanStatement.{told_by, told_on}
use Rattle.model.specs.History.Statement.{run_of}
use Rattle.cases.specs.Slots.{single, places, with_stale, seen, cleans_to, zeroed, kept, area_after, frame_of_five, head_zeroes}
use Rattle.cases.specs.Cells.{glances_on, two_pages, giver_lost, first_giver_lost, end_lost, replay_ends, wrong_lists, with_stored, glances_from, needs_added}
use Rattle.cases.specs.Cells.{differs_with, groups_differ, glances}
use Rattle.cases.specs.Worked.{calls_of, fuse_at_replay_end, every_entry, fuse_in_flush, fuse_at_selector, given_after_replay, taker_cut, refused_in_replay}
use Rattle.cases.specs.Worked.{cells_repeated, histories, other_byte, other_byte_repeated, other_order, read_for_cells, other_order_lost, two_givers}
use Rattle.cases.specs.Holders.{holder_gives, owner_replays, lowest_gives, both_given, other_missing, giver_charged, holders, holder_gave}
use Rattle.cases.specs.Holders.{passed_on}
use Rattle.cases.specs.Peers.{names_in, log_names, bank_after, holder_named, writer_named, givers_named, stored_with, spare_with, volatile_with, parts}
use Rattle.cases.specs.Peers.{refused_peers, earlier, adopts_as, adopts, earlier_today, checkpoints_empty, peers_worked}
use Rattle.model.specs.Laws.Codes.Statement.{board_named}
use Rattle.cases.specs.Logs.{answers_as, yields, two_logs, one_pair, lower_first, stored_only, any_state, codes_compared, lost_board, was_cut}
use Rattle.cases.specs.Logs.{was_checkpointed}
use Rattle.cases.specs.Logs.{called_in_vain, broken, breaks, yields_by, given_in_vain, giver_was_cut, taker_was_cut, giver_checkpointed, taker_checkpointed}
use Rattle.cases.specs.Logs.{nothing_broken, each_needed}
use Rattle.cases.specs.Wear.{stores_on, counted_on, stores_each, each_within, flush_at_last, end_and_fetch, pages_once, done_alone, weighed, seven_pages}
use Rattle.cases.specs.Wear.{two_shelves, refuted, goes_over}
use Rattle.model.specs.History.WearStatement.{events_asked, is_event, if_event, events_answered, dearest}
use Rattle.cases.specs.Worked.{giver_cut, two_due, holder_repeats}
use Rattle.cases.specs.Running.{leaves_on, passes_on, passes_fresh, premises_on, claims_on, holds_on, grants_in}
use Rattle.model.specs.Definitions.Check.{sizes_allowed}

-- A theorem that says `unfolding evaluate tables` computes with the definitions of the history and of the tables too
unfoldable pub tables : Unit {0}
unfolding no_history of_board discard done_event event_of entry_count repeats with_number_of bytes_seen with_entry fed zero_memory byte_in written access_of live_bank
    givers_in gave_in granted_after next_entry same_bytes same_access done_or_lost repeats_entry premise_for one_memory_test gave_entry repeat_for grants_for history_after
    grants_after leaves_on passes_on passes_fresh premises_on claims_on holds_on grants_in taken digest_from digest agrees case_a case_bcut case_b board_out_of_range
    restart_of_up_board replay_differs owner_not_up alternating alternating_writes fuse_blows last_offset zero_fuse scripts lengths old_bank new_bank both_lengths
    refuses converts reads calls_of fuse_at_replay_end every_entry fuse_in_flush fuse_at_selector given_after_replay taker_cut refused_in_replay cells_repeated histories
    other_byte
    other_byte_repeated other_order read_for_cells other_order_lost two_givers giver_cut two_due glances_on two_pages giver_lost first_giver_lost end_lost replay_ends
    wrong_lists with_stored glances_from needs_added differs_with groups_differ glances holder_gives owner_replays lowest_gives both_given other_missing giver_charged
    holders holder_gave passed_on holder_repeats names_in log_names bank_after holder_named writer_named givers_named stored_with spare_with volatile_with
    parts refused_peers earlier adopts_as adopts earlier_today checkpoints_empty peers_worked board_named answers_as yields two_logs one_pair lower_first stored_only
    any_state codes_compared lost_board was_cut was_checkpointed called_in_vain broken breaks yields_by given_in_vain giver_was_cut taker_was_cut giver_checkpointed
    taker_checkpointed nothing_broken each_needed first_told told_by told_within told_on told_older run_of single places with_stale seen
    cleans_to zeroed kept area_after frame_of_five head_zeroes stores_on counted_on stores_each each_within flush_at_last end_and_fetch pages_once done_alone weighed
    seven_pages two_shelves refuted goes_over events_asked is_event if_event events_answered dearest
tables = tt

pub lengths_hold : lengths ≡ true
unfolding evaluate tables
lengths_hold = refl

pub conversions_hold : (both_lengths && (converts && reads)) ≡ true
unfolding evaluate tables
conversions_hold = refl

pub glances_hold : glances ≡ true
unfolding evaluate tables
glances_hold = refl

pub holders_hold : holders ≡ true
unfolding evaluate tables
holders_hold = refl

pub peers_hold : peers_worked ≡ true
unfolding evaluate tables
peers_hold = refl

pub slots_seen : seen ≡ true
unfolding evaluate tables
slots_seen = refl

pub slots_zeroed : zeroed ≡ true
unfolding evaluate tables
slots_zeroed = refl

pub records_kept : kept ≡ true
unfolding evaluate tables
records_kept = refl

pub head_zeroes_lem : head_zeroes ≡ true
unfolding evaluate tables
head_zeroes_lem = refl

pub pairs_hold : one_pair ≡ true
unfolding evaluate tables
pairs_hold = refl

pub lower_first_lem : lower_first ≡ true
unfolding evaluate tables
lower_first_lem = refl

pub stored_only_lem : stored_only ≡ true
unfolding evaluate tables
stored_only_lem = refl

pub comparisons_hold : (any_state && codes_compared) ≡ true
unfolding evaluate tables
comparisons_hold = refl

pub each_needed_lem : each_needed ≡ true
unfolding evaluate tables
each_needed_lem = refl

-- one call above its own bound, by a flush and by the end of a replay; a shelf's fetches
pub stores_each_lem :
    (stores_each flush_at_last (fresh 2 1) ≡ 1 ∷ 0 ∷ 1 ∷ 0 ∷ 6 ∷ [])
    × (stores_each end_and_fetch (fresh 2 2) ≡ 1 ∷ 0 ∷ 1 ∷ 0 ∷ 5 ∷ [])
    × (stores_each two_shelves (fresh 8 7) ≡ 6 ∷ 13 ∷ [])
unfolding evaluate tables
stores_each_lem = (refl, refl, refl)

pub one_call_over : (each_within 2 1 flush_at_last (fresh 2 1) ≡ false) × (each_within 2 2 end_and_fetch (fresh 2 2) ≡ false)
unfolding evaluate tables
one_call_over = (refl, refl)

pub go_over : every goes_over refuted ≡ true
unfolding evaluate tables
go_over = refl

pub scripts_sized : every (λ c. sizes_allowed c.boards c.pages) scripts ≡ true
unfolding evaluate tables
scripts_sized = refl

pub scripts_hold : every passes_fresh scripts ≡ true
unfolding evaluate tables
scripts_hold = refl

pub histories_hold : every holds_on histories ≡ true
unfolding evaluate tables
histories_hold = refl

pub two_due_holds : passes_fresh two_due ≡ true
unfolding evaluate tables
two_due_holds = refl

pub holder_gave_holds : passes_fresh holder_gave ≡ true
unfolding evaluate tables
holder_gave_holds = refl

-- two boards and up to three pages are in range, and three boards
pub sized : (sizes_allowed 2 1 ≡ true) × (sizes_allowed 2 3 ≡ true) × (sizes_allowed 3 3 ≡ true) × (sizes_allowed 3 1 ≡ true)
unfolding evaluate tables
sized = (refl, refl, refl, refl)

pub other_byte_breaks : (premises_on other_byte (fresh 2 1) no_history ≡ false) × (claims_on other_byte (fresh 2 1) no_history (λ b. 0) ≡ false)
unfolding evaluate tables
other_byte_breaks = (refl, refl)

-- a repeated read that gives another byte breaks the claim, with no entry that contradicts one memory
pub other_byte_repeated_breaks : claims_on other_byte_repeated (fresh 2 1) no_history (λ b. 0) ≡ false
unfolding evaluate tables
other_byte_repeated_breaks = refl

-- other cells, or the same in another order, are no repeat
pub cells_break :
    (premises_on other_order (fresh 3 3) no_history ≡ false)
    × (premises_on read_for_cells (fresh 3 3) no_history ≡ false)
    × (premises_on other_order_lost (fresh 3 3) no_history ≡ false)
unfolding evaluate tables
cells_break = (refl, refl, refl)

-- what is given is noted, live and after a replay that ended in the same access; a recovery point below what was given breaks the claim
pub grants_noted :
    (grants_in (Accessing 0 (Write 0 0 5) ∷ Accessing 1 (Read 0 0) ∷ []) (fresh 2 1) (λ b. 0) 0 ≡ 1)
    × ((grants_in given_after_replay (fresh 2 2) (λ b. 0) 1 ≡ 1) × (claims_on (Fusing 0 0 ∷ []) (fresh 2 1) no_history (λ b. 1) ≡ false))
unfolding evaluate tables
grants_noted = (refl, (refl, refl))

-- who gave is noted, owner or not
pub holders_granted : (grants_in passed_on (fresh 3 1) (λ b. 0) 0 ≡ 1) × (grants_in passed_on (fresh 3 1) (λ b. 0) 1 ≡ 2)
unfolding evaluate tables
holders_granted = (refl, refl)

-- of two givers each has its own number; where one of them loses power nothing is given
pub cells_granted :
    (grants_in two_givers (fresh 3 3) (λ b. 0) 1 ≡ 3)
    × (grants_in two_givers (fresh 3 3) (λ b. 0) 2 ≡ 2)
    × (grants_in two_givers (fresh 3 3) (λ b. 0) 0 ≡ 0)
    × (grants_in giver_cut (fresh 3 3) (λ b. 0) 1 ≡ 0)
unfolding evaluate tables
cells_granted = (refl, refl, refl, refl)
