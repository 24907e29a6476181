-- The labels of the specification hold, by computation.
use mathlib.Core.Path.{refl}
use mathlib.Core.List.{flatten}
use Rattle.iscc.specs.NamedNumbers.{is_named}
use Rattle.iscc.specs.Lists.{every, pairwise, cut, same_bytes}
use Rattle.iscc.specs.Digits.{digits, value, all_below, digit_count, to_digits, byte_count, spare_count, from_digits}
use Rattle.iscc.specs.Alphabet.{upper, index_of, char_in, digit_in, encode, decode}
use Rattle.iscc.specs.Base32.{base32}
use Rattle.iscc.specs.Varnibble.{first_of, prefix_of, row_of, row_by, varnibble, write_varnibble, read_varnibble}
use Rattle.iscc.specs.Header.{nibbles, packed, header_bytes, raw_header, read_header}
use Rattle.iscc.specs.Permitted.{type_of, main_type_of, sets, set_of, unit_types, composite_subtype, is_wide, row, body_bytes}
use Rattle.iscc.specs.Item.{item_bytes, read_item, read_one, unit_bytes, composite_of, wide_of, meaning_as, unit_length_number, item_of}
use Rattle.iscc.specs.Items.{read_up_to, read_items, body_in, subtype_in, subtype_of, composite_from, meaning_of_items}
use Rattle.iscc.specs.Doors.{is_blank, trim_start, trim_end, scheme, scheme_length, drop_hyphens, trimmed, behind_scheme, cleaned, decode_run, payload, items_of_text, meaning_of_text, text_of, intake}
use Rattle.iscc.specs.Distance.{bits_of, differing_positions, ratio_of, differing_bits, compared_bits, comparable, distance}
use Rattle.iscc.specs.Lines.{lines_of, decimal, refused_word, line_answer, line_answers, line_program}
use Rattle.iscc.specs.Labels.{ProvedLabels, RunLabels, PinnedDefinitions}
use lib.Ieee.{of_int, div}

pub proved-labels : ProvedLabels
unfolding is_named digits value all_below digit_count to_digits byte_count spare_count from_digits upper index_of char_in digit_in encode decode base32 first_of prefix_of row_of row_by varnibble write_varnibble read_varnibble nibbles packed header_bytes raw_header read_header type_of main_type_of sets set_of unit_types composite_subtype is_wide row body_bytes item_bytes read_item read_one cut composite_of wide_of meaning_as unit_length_number flatten item_of read_up_to read_items every pairwise body_in subtype_in subtype_of composite_from meaning_of_items is_blank trim_start trim_end same_bytes scheme scheme_length drop_hyphens trimmed behind_scheme cleaned decode_run payload items_of_text meaning_of_text text_of intake bits_of differing_positions ratio_of differing_bits compared_bits comparable distance of_int div
proved-labels =
    record {
      number7 = refl;
      number8 = refl;
      number71 = refl;
      number72 = refl;
      number583 = refl;
      number584 = refl;
      number4679 = refl;
      number4680 = refl;
      header5500 = refl;
      header8000 = refl;
      pad_not_zero = refl;
      first_line = refl;
      swapped = refl;
      alone = refl;
      twice = refl;
      nine = refl;
    }

pub run-labels : RunLabels
unfolding is_named digits value all_below digit_count to_digits byte_count spare_count from_digits upper index_of char_in digit_in encode decode base32 first_of prefix_of row_of row_by varnibble read_varnibble nibbles packed header_bytes read_header type_of main_type_of sets set_of unit_types composite_subtype is_wide row body_bytes item_bytes read_item cut composite_of wide_of meaning_as unit_length_number flatten item_of read_up_to read_items every pairwise body_in subtype_in subtype_of composite_from meaning_of_items is_blank trim_start trim_end same_bytes scheme scheme_length drop_hyphens trimmed behind_scheme cleaned decode_run payload items_of_text meaning_of_text text_of intake lines_of decimal refused_word line_answer line_answers line_program
run-labels =
    record {
      no_colon = refl;
      ab = refl;
      a = refl;
      a1 = refl;
      aa = refl;
      with_id = refl;
      header5700 = refl;
      header5701 = refl;
      wide_text = refl;
      scheme_alone = refl;
      hyphen_alone = refl;
      three_spaces = refl;
      sizes = refl;
      wide_size = refl;
      characters = refl;
      line_case = refl;
    }

pub pinned : PinnedDefinitions
unfolding is_named digits value all_below digit_count to_digits byte_count spare_count from_digits upper index_of char_in digit_in encode decode base32 first_of prefix_of row_of row_by varnibble read_varnibble nibbles packed header_bytes read_header type_of main_type_of row body_bytes item_bytes read_item read_one unit_bytes meaning_as unit_length_number item_of read_up_to read_items meaning_of_items is_blank trim_start trim_end same_bytes scheme scheme_length drop_hyphens trimmed behind_scheme cleaned decode_run payload items_of_text meaning_of_text text_of intake bits_of differing_positions ratio_of differing_bits compared_bits comparable distance of_int div
pinned =
    record {
      shorter_first = refl;
      shorter_second = refl;
      instances = refl;
      tabs = refl;
      returns = refl;
      feeds = refl;
      id5 = refl;
      id6 = refl;
    }
