-- Small cases, by computation (proofs/Examples.antt).
use Rattle.std.specs.Prelude.{ℕ, ◌≡◌, true, false, List, [], ◌∷◌, ◌++◌, take}
use Rattle.std.proofs.Math.Option.{none, some}
use Rattle.iscc.specs.Refusals.{already_out, not_out, not_record, number_gap, numbers_spent, last_numbers_differ, log_torn, loans_differ}
use Rattle.iscc.specs.Answer.{accept, refuse}
use Rattle.iscc.specs.Ascii.{ascii}
use Rattle.iscc.specs.Doors.{code_bytes}
use Rattle.loans.specs.Loan.{Loan, loan_of}
use Rattle.loans.specs.Map.{Change, issue_code, return_code}
use Rattle.loans.specs.Place.{zeros, place_bytes, places_bytes, place_of, is_place}
use Rattle.loans.specs.Order.{in_order, placed}
use Rattle.loans.specs.Halving.{searched}
use Rattle.loans.specs.Counts.{code_type, in_pairs, counts_bytes}
use Rattle.loans.specs.Numbered.{Contents, nothing}
use Rattle.loans.specs.Contents.{changed_loans, applied}
use Rattle.loans.specs.Moves.{one_more, one_less}
use Rattle.loans.specs.Fields.{Field, field_bytes}
use Rattle.loans.specs.Log.{Record, Records, records_from}
use Rattle.loans.specs.Replay.{ended, stopped, replay_from}
use Rattle.loans.specs.PendingLog.{record_of, apply_record}
use Rattle.loans.specs.Promotion.{Verdict, granted, refused, refused_at, refused_for, difference, compared, from_empty, verdict_of}
use Rattle.loans.specs.PromotionPromises.{changes_in}

-- two META units of 32 bits
abbrev pub one : List ℕ
one = 0 ∷ 0 ∷ 1 ∷ 2 ∷ 3 ∷ 4 ∷ []

abbrev pub two : List ℕ
two = 0 ∷ 0 ∷ 1 ∷ 2 ∷ 3 ∷ 5 ∷ []

-- the DATA and INSTANCE units of the first label, as a composite
abbrev pub label : List ℕ
label = 0x55 ∷ 0 ∷ 0x6D ∷ 0x3E ∷ 0x22 ∷ 0x8C ∷ 0xBA ∷ 0xB6 ∷ 0xD7 ∷ 0x35 ∷ 0x4A ∷ 0x80 ∷ 0x50 ∷ 0x55 ∷ 0xC9 ∷ 0xBA ∷ 0xF3 ∷ 0x96 ∷ []

-- the wide composite of the specification's example
abbrev pub wide_label : List ℕ
wide_label =
    0x57 ∷ 0 ∷ 0 ∷ 1 ∷ 2 ∷ 3 ∷ 4 ∷ 5 ∷ 6 ∷ 7 ∷ 8 ∷ 9 ∷ 10 ∷ 11 ∷ 12 ∷ 13 ∷ 14 ∷ 15
    ∷ 16 ∷ 17 ∷ 18 ∷ 19 ∷ 20 ∷ 21 ∷ 22 ∷ 23 ∷ 24 ∷ 25 ∷ 26 ∷ 27 ∷ 28 ∷ 29 ∷ 30 ∷ 31 ∷ []

-- an ID
abbrev pub id : List ℕ
id = 0x60 ∷ 0 ∷ 1 ∷ 2 ∷ 3 ∷ 4 ∷ 5 ∷ 6 ∷ 7 ∷ 8 ∷ []

-- four of them out, in rising order
abbrev pub four : List Loan
four = loan_of one 1 ∷ loan_of two 2 ∷ loan_of label 3 ∷ loan_of id 4 ∷ []

abbrev pub bytes_up_to : ℕ → List Loan → List ℕ
bytes_up_to n ls = places_bytes (placed n ls)

abbrev pub numbered : ℕ → Change → Field
numbered n ch = record_of (record { number = n; change = ch })

-- "The first label of Labels, issued to borrower 258 and then taken back"
abbrev pub label_out : Field
label_out = numbered 1 (issue_code label 258)

abbrev pub label_back : Field
label_back = numbered 2 (return_code label)

abbrev pub label_log : List ℕ
label_log = (3 ∷ 0 ∷ 0x1A ∷ 0 ∷ 0 ∷ 0 ∷ 1 ∷ 0 ∷ 0 ∷ 1 ∷ 2 ∷ label) ++ (4 ∷ 0 ∷ 0x16 ∷ 0 ∷ 0 ∷ 0 ∷ 2 ∷ label)

-- the label out to borrower 258, by so many changes
abbrev pub label_out_at : ℕ → Contents
label_out_at n = record { loans = loan_of label 258 ∷ []; last = n }

-- the label taken back
abbrev pub label_returned : Contents
label_returned = record { loans = []; last = 2 }

-- issued twice, the second time with the next number
abbrev pub twice_out : List ℕ
twice_out = field_bytes label_out ++ field_bytes (numbered 2 (issue_code label 1))

-- a log against what a replica holds
abbrev pub against : List ℕ → Contents → Verdict
against log held = verdict_of held (accept (from_empty log))

-- two issues, and a replica that has both, the second to this borrower, by so many changes
abbrev pub two_out : List ℕ
two_out = field_bytes label_out ++ field_bytes (numbered 2 (issue_code id 7))

abbrev pub both_out : ℕ → ℕ → Contents
both_out b n = record { loans = loan_of label 258 ∷ loan_of id b ∷ []; last = n }

-- records, each with its offset, and no tear; or a tear behind them
abbrev pub record_at : ℕ → Field → Record
record_at offset f = record { offset = offset; field = f }

abbrev pub untorn : List Record → Records
untorn rs = record { whole = rs; tear = none }

abbrev pub torn_at : ℕ → List Record → Records
torn_at offset rs = record { whole = rs; tear = some offset }

pub record Examples : Type 0 where
  pub place : place_bytes (some (loan_of one 258)) ≡ 6 ∷ one ++ zeros 37 ++ (0 ∷ 0 ∷ 1 ∷ 2 ∷ [])
  pub place_back : place_of (place_bytes (some (loan_of one 258))) ≡ some (loan_of one 258)
  pub place_valid : is_place (place_bytes (some (loan_of one 258))) ≡ true
  pub fill_not_zero : is_place (6 ∷ one ++ (1 ∷ []) ++ zeros 40) ≡ false
  pub zero_byte_not_zero : is_place (6 ∷ one ++ zeros 36 ++ (1 ∷ []) ++ zeros 4) ≡ false
  pub length_too_short : is_place (5 ∷ one ++ zeros 41) ≡ false
  pub length_too_long : is_place (7 ∷ one ++ zeros 41) ≡ false
  pub two_units : is_place (12 ∷ one ++ two ++ zeros 35) ≡ false
  pub free_not_zero : is_place (zeros 47 ++ (1 ∷ [])) ≡ false
  -- "behind a free one a free one alone, behind a used one also one whose code comes later"; "the length byte takes no part"
  pub rising : in_order (some (loan_of one 1) ∷ some (loan_of two 1) ∷ some (loan_of label 1) ∷ some (loan_of wide_label 1) ∷ some (loan_of id 1) ∷ none ∷ []) ≡ true
  pub falling : in_order (some (loan_of two 1) ∷ some (loan_of one 1) ∷ none ∷ []) ≡ false
  pub by_length : in_order (some (loan_of one 1) ∷ some (loan_of id 1) ∷ some (loan_of label 1) ∷ none ∷ []) ≡ false
  pub twice : in_order (some (loan_of one 1) ∷ some (loan_of one 2) ∷ none ∷ []) ≡ false
  pub used_behind_free : in_order (some (loan_of one 1) ∷ none ∷ some (loan_of two 1) ∷ []) ≡ false
  -- an issue makes room at its place in the order, and a return closes its gap
  pub put_between : changed_loans (issue_code label 9) (loan_of one 1 ∷ loan_of id 2 ∷ []) ≡ accept (loan_of one 1 ∷ loan_of label 9 ∷ loan_of id 2 ∷ [])
  pub put_first : changed_loans (issue_code one 9) (loan_of two 1 ∷ []) ≡ accept (loan_of one 9 ∷ loan_of two 1 ∷ [])
  pub put_last : changed_loans (issue_code id 9) (loan_of one 1 ∷ []) ≡ accept (loan_of one 1 ∷ loan_of id 9 ∷ [])
  pub taken : changed_loans (return_code one) (loan_of one 1 ∷ loan_of two 9 ∷ []) ≡ accept (loan_of two 9 ∷ [])
  pub out_already : changed_loans (issue_code one 9) (loan_of one 1 ∷ []) ≡ refuse already_out
  pub not_there : changed_loans (return_code two) (loan_of one 1 ∷ []) ≡ refuse not_out
  pub gap_closed : bytes_up_to 3 (loan_of two 9 ∷ []) ≡ place_bytes (some (loan_of two 9)) ++ zeros 96
  -- the middle of four places is place 2, of the two before it place 1, of the one behind it place 3
  pub found_first : searched one four ≡ record { looked = 2 ∷ 1 ∷ 0 ∷ []; found = true; place = 0 }
  pub found_middle : searched label four ≡ record { looked = 2 ∷ []; found = true; place = 2 }
  pub found_last : searched id four ≡ record { looked = 2 ∷ 3 ∷ []; found = true; place = 3 }
  pub not_found : searched wide_label four ≡ record { looked = 2 ∷ 3 ∷ []; found = false; place = 3 }
  pub none_out : searched one [] ≡ record { looked = []; found = false; place = 0 }
  -- main types: a META unit, a composite of a list of units, a wide one, an ID; and the sixteen bytes
  pub type_of_unit : code_type one ≡ 0
  pub type_of_list : code_type label ≡ 5
  pub type_of_wide : code_type wide_label ≡ 5
  pub type_of_id : code_type id ≡ 6
  pub counted_four : counts_bytes four ≡ 0 ∷ 4 ∷ 0 ∷ 2 ∷ zeros 8 ++ (0 ∷ 1 ∷ 0 ∷ 1 ∷ [])
  pub counted_none : counts_bytes [] ≡ zeros 16
  pub high_byte_first : in_pairs (258 ∷ []) ≡ 1 ∷ 2 ∷ []
  pub one_more_unit : one_more 0 (counts_bytes four) ≡ 0 ∷ 5 ∷ 0 ∷ 3 ∷ zeros 8 ++ (0 ∷ 1 ∷ 0 ∷ 1 ∷ [])
  pub one_less_id : one_less 6 (counts_bytes four) ≡ 0 ∷ 3 ∷ 0 ∷ 2 ∷ zeros 8 ++ (0 ∷ 1 ∷ 0 ∷ 0 ∷ [])
  -- 255 and one more: the high byte moves
  pub carried : one_more 4 (0 ∷ 255 ∷ zeros 8 ++ (0 ∷ 255 ∷ zeros 4)) ≡ 1 ∷ 0 ∷ zeros 8 ++ (1 ∷ 0 ∷ zeros 4)
  -- one label in three spellings: separate units with a hyphen, small letters, units in the other order
  pub typed_apart : code_bytes (ascii "GAAW2PRCRS5LNVZV-IAAUVACQKXE3V44W") ≡ accept label
  pub typed_small : code_bytes (ascii "iscc:kuag2prcrs5lnvzvjkafavojxlzzm") ≡ accept label
  pub typed_around : code_bytes (ascii "iaauvacqkxe3v44w-gaaw2prcrs5lnvzv") ≡ accept label
  -- a wide composite: typed, in its place, and issued by its record
  pub wide_typed : code_bytes (ascii "k4aaaaicamcakbqhbaequcymbuha-6earcijrifiwc4mbsgq3dqor4hy") ≡ accept wide_label
  pub wide_place : is_place (34 ∷ wide_label ++ zeros 9 ++ (0 ∷ 0 ∷ 1 ∷ 2 ∷ [])) ≡ true
  pub wide_issued : apply_record (record { tag = 3; body = 0 ∷ 0 ∷ 0 ∷ 1 ∷ 0 ∷ 0 ∷ 1 ∷ 2 ∷ wide_label }) nothing ≡ accept (record { loans = loan_of wide_label 258 ∷ []; last = 1 })
  -- the log of the label, and its cuts: before it, one byte before the first record's end, there, one byte later, and all of it
  pub label_written : field_bytes label_out ++ field_bytes label_back ≡ label_log
  pub cut_at_0 : records_from 0 (take 0 label_log) ≡ untorn []
  pub cut_at_28 : records_from 0 (take 28 label_log) ≡ torn_at 0 []
  pub cut_at_29 : records_from 0 (take 29 label_log) ≡ untorn (record_at 0 label_out ∷ [])
  pub cut_at_30 : records_from 0 (take 30 label_log) ≡ torn_at 29 (record_at 0 label_out ∷ [])
  pub cut_at_54 : records_from 0 (take 54 label_log) ≡ untorn (record_at 0 label_out ∷ record_at 29 label_back ∷ [])
  -- "One byte or two are a tear too, and so is a record whose length, damaged, reaches past the end of the log."
  pub two_bytes : records_from 0 (4 ∷ 0 ∷ []) ≡ torn_at 0 []
  pub length_damaged : records_from 0 (take 29 label_log ++ 4 ∷ 0 ∷ 0x17 ∷ 0 ∷ 0 ∷ 0 ∷ 2 ∷ label) ≡ torn_at 29 (record_at 0 label_out ∷ [])
  -- "Zeros behind it would be read as a record of tag 0 and length 0, which is 24."
  pub zeros_whole : records_from 0 (zeros 3) ≡ untorn (record_at 0 (record { tag = 0; body = [] }) ∷ [])
  pub zeros_no_record : apply_record (record { tag = 0; body = [] }) nothing ≡ refuse not_record
  pub other_tag : apply_record (record { tag = 5; body = 0 ∷ 0 ∷ 0 ∷ 1 ∷ label }) nothing ≡ refuse not_record
  pub issue_short : apply_record (record { tag = 3; body = 0 ∷ 0 ∷ 0 ∷ 1 ∷ 0 ∷ 0 ∷ 1 ∷ [] }) nothing ≡ refuse not_record
  -- "a whole record of an older log is 24", whatever its code
  pub old_issue : apply_record (record { tag = 1; body = 0 ∷ 0 ∷ 1 ∷ 2 ∷ label }) nothing ≡ refuse not_record
  pub old_return : apply_record (record { tag = 2; body = label }) nothing ≡ refuse not_record
  -- one code issued twice: the first stays applied, and the last number is its own
  pub issued_twice : replay_from apply_record 0 (twice_out ++ field_bytes (numbered 3 (return_code label))) nothing
      ≡ record { state = label_out_at 1; end = stopped already_out 29 }
  -- a live change takes the next number, up to the last; with no number left it is 26, where the code is out too
  pub takes_next : applied (issue_code label 258) (record { loans = []; last = 6 }) ≡ accept (label_out_at 7)
  pub takes_last : applied (issue_code label 258) (record { loans = []; last = 4294967294 }) ≡ accept (label_out_at 4294967295)
  pub spent : applied (issue_code label 258) (label_out_at 4294967295) ≡ refuse numbers_spent
  pub refused_takes_none : applied (issue_code label 9) (label_out_at 1) ≡ refuse already_out
  -- 24, then the skip, then 25, then 20 to 22
  pub number_zero : apply_record (numbered 0 (return_code label)) (label_out_at 1) ≡ refuse not_record
  pub skipped : apply_record label_out (label_out_at 1) ≡ accept (label_out_at 1)
  pub skipped_other : apply_record (numbered 3 (return_code one)) (label_out_at 7) ≡ accept (label_out_at 7)
  pub damaged_not_skipped : apply_record (record { tag = 4; body = 0 ∷ 0 ∷ 0 ∷ 1 ∷ 1 ∷ [] }) (label_out_at 7) ≡ refuse not_record
  pub gap : apply_record (numbered 3 (return_code label)) (label_out_at 1) ≡ refuse number_gap
  pub gap_first : apply_record (numbered 3 (return_code one)) (label_out_at 1) ≡ refuse number_gap
  pub next_not_out : apply_record (numbered 2 (return_code one)) (label_out_at 1) ≡ refuse not_out
  pub next_taken : apply_record label_back (label_out_at 1) ≡ accept label_returned
  -- the log of the label a second time
  pub twice_first : replay_from apply_record 0 label_log nothing ≡ record { state = label_returned; end = ended }
  pub twice_second : replay_from apply_record 0 label_log label_returned ≡ record { state = label_returned; end = ended }
  -- two registers: the least code that one of them holds alone, or with another borrower
  pub no_difference : difference four four ≡ none
  pub in_first_only : difference (loan_of one 1 ∷ loan_of two 2 ∷ []) (loan_of two 2 ∷ []) ≡ some one
  pub in_second_only : difference (loan_of two 2 ∷ []) (loan_of one 1 ∷ loan_of two 2 ∷ []) ≡ some one
  pub other_borrower : difference (loan_of one 1 ∷ loan_of two 2 ∷ []) (loan_of one 1 ∷ loan_of two 3 ∷ []) ≡ some two
  pub least_of_three : difference (loan_of one 1 ∷ loan_of label 3 ∷ loan_of id 4 ∷ []) (loan_of one 1 ∷ loan_of two 2 ∷ loan_of id 9 ∷ []) ≡ some two
  pub first_shorter : difference (loan_of one 1 ∷ []) four ≡ some two
  pub second_shorter : difference four (loan_of one 1 ∷ loan_of two 2 ∷ loan_of label 3 ∷ []) ≡ some id
  -- 27 where the last numbers alone differ; 37 before it
  pub both_alike : compared (label_out_at 1) (label_out_at 1) ≡ granted
  pub last_alone : compared (label_out_at 1) (label_out_at 3) ≡ refused last_numbers_differ
  pub code_first : compared (label_out_at 1) label_returned ≡ refused_for loans_differ label
  -- the log of the label: to its end, cut between its records, and torn one byte later, where the registers are the same too
  pub whole_log : against label_log label_returned ≡ granted
  pub cut_between : against (take 29 label_log) (label_out_at 1) ≡ granted
  pub torn_log : against (take 30 label_log) (label_out_at 1) ≡ refused_at log_torn 29
  -- the replay's own numbers: 20, also where a tear is behind it; 25 where the log lacks its first record
  pub stopped_at_29 : against (twice_out ++ 4 ∷ []) (label_out_at 1) ≡ refused_at already_out 29
  pub first_lacking : against (field_bytes label_back) nothing ≡ refused_at number_gap 0
  -- "A record that is skipped is not one of them.", nor is one that stops the replay
  pub skipped_none : changes_in (field_bytes label_out ++ field_bytes label_out) ≡ issue_code label 258 ∷ []
  pub stopped_none : changes_in twice_out ≡ issue_code label 258 ∷ []
  -- the example of Promotion, row by row
  pub both_there : against two_out (both_out 7 2) ≡ granted
  pub none_there : against two_out nothing ≡ refused_for loans_differ label
  pub second_to_another : against two_out (both_out 9 2) ≡ refused_for loans_differ id
  pub more_changes : against two_out (both_out 7 4) ≡ refused last_numbers_differ
  pub second_torn : against (take 49 two_out) (both_out 7 2) ≡ refused_at log_torn 29
  pub second_cut_off : against (take 29 two_out) (both_out 7 2) ≡ refused_for loans_differ id
