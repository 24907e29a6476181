-- The small cases hold, by computation.
use mathlib.Core.Path.{refl}
use mathlib.Core.List.{flatten}
use Rattle.iscc.specs.Lists.{every, pairwise, cut, same_bytes}
use Rattle.iscc.specs.Digits.{digits, value, all_below, byte_count, spare_count, from_digits}
use Rattle.iscc.specs.Alphabet.{upper, index_of, digit_in, decode}
use Rattle.iscc.specs.Base32.{base32}
use Rattle.iscc.specs.Varnibble.{first_of, prefix_of, row_of, row_by, varnibble, read_varnibble}
use Rattle.iscc.specs.Header.{nibbles, packed, header_bytes, read_header}
use Rattle.iscc.specs.Permitted.{type_of, main_type_of, sets, set_of, unit_types, composite_subtype, is_wide, row, body_bytes}
use Rattle.iscc.specs.Item.{item_bytes, read_item, read_one, composite_of, wide_of, meaning_as, unit_length_number, item_of}
use Rattle.iscc.specs.Items.{read_up_to, read_items, body_in, subtype_in, subtype_of, composite_from, meaning_of_items}
use Rattle.iscc.specs.Doors.{is_blank, trim_start, trim_end, scheme, scheme_length, drop_hyphens, trimmed, behind_scheme, cleaned, decode_run, payload, items_of_text, meaning_of_text, code_bytes}
use Rattle.loans.specs.Loan.{one_code, find, without}
use Rattle.loans.specs.Map.{change_with}
use Rattle.octets.specs.Order.{before}
use Rattle.loans.specs.Place.{zeros, free, place_bytes, places_bytes, place_of, is_place}
use Rattle.loans.specs.Order.{follows, in_order, placed, put}
use Rattle.loans.specs.Halving.{halving, searched}
use Rattle.loans.specs.Counts.{code_type, count_of, in_pairs, counts_bytes}
use Rattle.loans.specs.Moves.{pasted, number_at, with_number, one_more, one_less}
use Rattle.loans.specs.Fields.{field_bytes, first_size, first_is_whole, first_field}
use Rattle.loans.specs.Log.{records_up_to, records_from}
use Rattle.loans.specs.Replay.{replay_all}
use Rattle.loans.specs.Records.{is_record, change_of}
use Rattle.loans.specs.Numbered.{taking_next}
use Rattle.loans.specs.PendingLog.{is_numbered, numbered_of, in_turn, apply_with}
use Rattle.loans.specs.CodesOut.{applied_in}
use Rattle.loans.specs.Promotion.{difference, compared}
use Rattle.loans.specs.Examples.{Examples}

pub examples : Examples
unfolding digits value all_below byte_count spare_count from_digits upper index_of digit_in decode base32 first_of prefix_of row_of row_by varnibble read_varnibble nibbles packed header_bytes read_header type_of main_type_of sets set_of unit_types composite_subtype is_wide row body_bytes item_bytes read_item read_one cut composite_of wide_of meaning_as unit_length_number flatten item_of read_up_to read_items every pairwise body_in subtype_in subtype_of composite_from meaning_of_items is_blank trim_start trim_end same_bytes scheme scheme_length drop_hyphens trimmed behind_scheme cleaned decode_run payload items_of_text meaning_of_text code_bytes one_code find without before zeros free place_bytes places_bytes place_of is_place follows in_order placed put halving searched code_type count_of in_pairs counts_bytes pasted number_at with_number one_more one_less change_with field_bytes first_size first_is_whole first_field records_up_to records_from replay_all is_record change_of taking_next is_numbered numbered_of in_turn apply_with applied_in difference compared
examples =
    record {
      place = refl;
      place_back = refl;
      place_valid = refl;
      fill_not_zero = refl;
      zero_byte_not_zero = refl;
      length_too_short = refl;
      length_too_long = refl;
      two_units = refl;
      free_not_zero = refl;
      rising = refl;
      falling = refl;
      by_length = refl;
      twice = refl;
      used_behind_free = refl;
      put_between = refl;
      put_first = refl;
      put_last = refl;
      taken = refl;
      out_already = refl;
      not_there = refl;
      gap_closed = refl;
      found_first = refl;
      found_middle = refl;
      found_last = refl;
      not_found = refl;
      none_out = refl;
      type_of_unit = refl;
      type_of_list = refl;
      type_of_wide = refl;
      type_of_id = refl;
      counted_four = refl;
      counted_none = refl;
      high_byte_first = refl;
      one_more_unit = refl;
      one_less_id = refl;
      carried = refl;
      typed_apart = refl;
      typed_small = refl;
      typed_around = refl;
      wide_typed = refl;
      wide_place = refl;
      wide_issued = refl;
      label_written = refl;
      cut_at_0 = refl;
      cut_at_28 = refl;
      cut_at_29 = refl;
      cut_at_30 = refl;
      cut_at_54 = refl;
      two_bytes = refl;
      length_damaged = refl;
      zeros_whole = refl;
      zeros_no_record = refl;
      other_tag = refl;
      issue_short = refl;
      old_issue = refl;
      old_return = refl;
      issued_twice = refl;
      takes_next = refl;
      takes_last = refl;
      spent = refl;
      refused_takes_none = refl;
      number_zero = refl;
      skipped = refl;
      skipped_other = refl;
      damaged_not_skipped = refl;
      gap = refl;
      gap_first = refl;
      next_not_out = refl;
      next_taken = refl;
      twice_first = refl;
      twice_second = refl;
      no_difference = refl;
      in_first_only = refl;
      in_second_only = refl;
      other_borrower = refl;
      least_of_three = refl;
      first_shorter = refl;
      second_shorter = refl;
      both_alike = refl;
      last_alone = refl;
      code_first = refl;
      whole_log = refl;
      cut_between = refl;
      torn_log = refl;
      stopped_at_29 = refl;
      first_lacking = refl;
      skipped_none = refl;
      stopped_none = refl;
      both_there = refl;
      none_there = refl;
      second_to_another = refl;
      more_changes = refl;
      second_torn = refl;
      second_cut_off = refl;
    }
