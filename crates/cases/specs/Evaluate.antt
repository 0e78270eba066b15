-- A theorem that says `unfolding evaluate` computes with every definition of the documents. This list is the only use of the name. Assumes nothing.
use Rattle.std.specs.Int.Count.{count_trailing_zeros}
use Rattle.words.specs.LittleEndian.{bytes_of, number_of}
use Rattle.model.specs.Definitions.Parts.{part, splice, byte_at, zeros, encode_all, decode_all, update, each_from, each, tabulate_from, tabulate, every}
use Rattle.model.specs.Definitions.Parts.{every_from, every_below, first_from, first_below, all_from, all_below, sum_from, sum_below, member, with_member}
use Rattle.model.specs.Definitions.Parts.{without_member}
use Rattle.model.specs.Definitions.Bank.{empty_frame, no_board, board_at, entry_at, frame_at, on_board, on_entry, on_working, on_spare, on_frames}
use Rattle.model.specs.Definitions.Bank.{fresh_frames, fresh_board, fresh}
use Rattle.model.specs.Definitions.Codec.{encode_entry, decode_entry, right_byte, right_of, encode_frame, decode_frame, mark0, mark1, page_of, kind_of}
use Rattle.model.specs.Definitions.Codec.{decode_frames, state_byte, state_of, selector_byte, decode_stable, encode_record_in, decode_record_in, encode_log_in}
use Rattle.model.specs.Definitions.Codec.{decode_log_in, encode_area_in, decode_area_in, encode_fixed_in, encode_stable_in, encode_board_in, decode_board_in, encode_in}
use Rattle.model.specs.Definitions.Codec.{decode_in}
use Rattle.model.specs.Definitions.WellFormed.{is_got, PlaceOk, right_in, is_up, is_down, is_replaying}
use Rattle.model.specs.Definitions.Check.{is_zero, head_valid, entry_valid, directory_valid, area_count, counts_valid, frame_valid, frames_valid, all_frames_valid}
use Rattle.model.specs.Definitions.Check.{fields_valid, selected_count, is_blank, state_valid, board_valid, same_right, page_agrees, page_agrees_at, pages_agree}
use Rattle.model.specs.Definitions.Check.{block_fits, got_mark, bare_mark, mark_fits, slot_valid, peer_allowed, slot_peer_valid, directory_of, blocks_fit}
use Rattle.model.specs.Definitions.Check.{logs_valid}
use Rattle.model.specs.Definitions.Check.{record_passes, stored_passes, slots_pass, records_pass, peers_valid, block_of_in, formed_in, rest_zero, block_clean}
use Rattle.model.specs.Definitions.Check.{slots_clean, well_formed_in}
use Rattle.model.specs.Definitions.Steps.{start, step, powered_off, forgotten, power_off, with_fuse, fuse_board, burnt, store, store_all, appended, recorded}
use Rattle.model.specs.Definitions.Steps.{note, moved_record, stored_record, record_stores, flush, stored_frame, stored_head, stored_selector, spare_stores}
use Rattle.model.specs.Definitions.Steps.{checkpoint_stores, rested_working, checkpoint, cells_asked, cells_read, cells_written, any_cell, any_write, names}
use Rattle.model.specs.Definitions.Steps.{takes, lacks, lacks_page, lacking_pages, cell_byte, read_from, given_of, with_byte, with_bytes, value_of, accessed}
use Rattle.model.specs.Definitions.Steps.{access, with_frame, frame_of, lowest_holder, owner_up, giver, show, give_copy, dropped, drop_at, drop_copies}
use Rattle.model.specs.Definitions.Steps.{pass_ownership, show_all, give_copies, read_fetch, write_fetch, fetch}
use Rattle.model.specs.Definitions.Replay.{loaded, records_left, used, use_up, used_up, gots_due, due, same_got, lacking, needs_got, needs_gots, differs}
use Rattle.model.specs.Definitions.Replay.{right_got, took_got, took_gots, took_due, replay_over, settled_frame, settled, settle, end_replay, end_if_over}
use Rattle.model.specs.Definitions.Replay.{replayed, count_sum, recovery_point}
use Rattle.model.specs.Definitions.Answers.{code, value, who}
use Rattle.model.specs.Definitions.Calls.{first_given, unless, finished, page_written, copies_out, fetch_need, drop_need, lacking_of, pages_lacking, page_need}
use Rattle.model.specs.Definitions.Calls.{need, short, short_board, is_some, number_in, nobody_gives, page_missing, live_refusals, prepared, performed, live}
use Rattle.model.specs.Definitions.Calls.{live_after_end, replaying, cell_in_range, access_in_range, wrong_cells, counters_full, refusals_within, access_within}
use Rattle.model.specs.Definitions.Calls.{checkpoint_bank, fuse_bank, restart_bank, call_bank, refused, reply_of, call_within, call, make, buffer_after}
use Rattle.model.specs.Definitions.Calls.{compare_bank}
use Rattle.model.specs.Definitions.Logs.{is_shown, pages_naming, first_unmatched, unmatched_in, compared_in_order, compared_logs}
use Rattle.model.specs.Definitions.Older.{log_empty, board_empty, no_records, adopt, cleaned_log, cleaned_block, cleaned_in, clean, fits_target, convert}

unfoldable pub evaluate : Unit {0}
unfolding bytes_of number_of part splice byte_at zeros encode_all decode_all update each_from each tabulate_from tabulate every every_from every_below first_from
    first_below all_from all_below sum_from sum_below member with_member without_member empty_frame no_board board_at entry_at frame_at on_board on_entry
    on_working on_spare on_frames fresh_frames fresh_board fresh encode_entry decode_entry right_byte right_of encode_frame decode_frame
    mark0 mark1 page_of kind_of encode_record_in decode_record_in encode_log_in decode_log_in encode_area_in decode_frames decode_area_in state_byte state_of selector_byte
    encode_fixed_in encode_stable_in decode_stable encode_board_in decode_board_in encode_in decode_in is_got PlaceOk right_in is_up is_down is_replaying is_zero head_valid
    entry_valid directory_valid area_count counts_valid frame_valid frames_valid all_frames_valid fields_valid selected_count is_blank state_valid board_valid same_right
    page_agrees page_agrees_at pages_agree block_fits got_mark bare_mark mark_fits slot_valid record_passes stored_passes slots_pass records_pass peer_allowed
    slot_peer_valid directory_of
    block_of_in blocks_fit logs_valid peers_valid formed_in rest_zero block_clean slots_clean well_formed_in start step powered_off forgotten power_off with_fuse
    fuse_board burnt store store_all appended recorded note moved_record
    stored_record record_stores flush stored_frame stored_head stored_selector spare_stores checkpoint_stores rested_working checkpoint cells_asked cells_read
    cells_written any_cell any_write names takes lacks lacks_page lacking_pages cell_byte read_from given_of with_byte with_bytes value_of accessed access with_frame
    frame_of count_trailing_zeros lowest_holder owner_up giver show give_copy dropped drop_at drop_copies pass_ownership show_all give_copies read_fetch write_fetch
    fetch loaded records_left used use_up used_up
    gots_due due same_got lacking needs_got needs_gots differs right_got took_got took_gots took_due replay_over settled_frame settled settle end_replay end_if_over
    replayed count_sum recovery_point code value who first_given unless finished page_written copies_out fetch_need drop_need lacking_of pages_lacking page_need need
    short short_board is_some number_in nobody_gives page_missing live_refusals prepared performed live live_after_end replaying cell_in_range access_in_range wrong_cells
    counters_full refusals_within access_within checkpoint_bank fuse_bank restart_bank call_bank call_within refused reply_of call make log_empty board_empty no_records
    adopt cleaned_log cleaned_block cleaned_in clean fits_target convert buffer_after is_shown pages_naming first_unmatched unmatched_in compared_in_order compared_logs
    compare_bank
evaluate = tt
