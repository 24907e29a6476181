-- The specification, "Labels": the statements; proofs/Labels.antt computes them.
use Rattle.std.specs.Prelude.{◌+◌, ◌≡◌, false, [], ◌∷◌, map, Float, negsuc}
use Rattle.std.specs.Float.{fin}
use Rattle.iscc.specs.Answer.{accept, refuse}
use Rattle.iscc.specs.Refusals.{refusal}
use Rattle.iscc.specs.Ascii.{ascii}
use Rattle.iscc.specs.Digits.{digit_count}
use Rattle.iscc.specs.Varnibble.{write_varnibble}
use Rattle.iscc.specs.Header.{header_with_numbers, write_header, read_header}
use Rattle.iscc.specs.Permitted.{number, body_bytes}
use Rattle.iscc.specs.declared.main_type.Name.TheVariants.{Iscc, Id}
use Rattle.iscc.specs.Item.{read_item, write_unit}
use Rattle.iscc.specs.Doors.{intake}
use Rattle.iscc.specs.Distance.{distance}
use Rattle.iscc.specs.Lines.{line_program}

-- 0.28125 is 9 times 2 ^ -5
abbrev nine_thirty_seconds : Float
nine_thirty_seconds = fin false 9 (negsuc 4)

-- the group under Proved
pub record ProvedLabels : Type 0 where
  pub number7 : write_varnibble 7 ≡ accept (0x7 ∷ [])
  pub number8 : write_varnibble 8 ≡ accept (0x8 ∷ 0x0 ∷ [])
  pub number71 : write_varnibble 71 ≡ accept (0xb ∷ 0xf ∷ [])
  pub number72 : write_varnibble 72 ≡ accept (0xc ∷ 0x0 ∷ 0x0 ∷ [])
  pub number583 : write_varnibble 583 ≡ accept (0xd ∷ 0xf ∷ 0xf ∷ [])
  pub number584 : write_varnibble 584 ≡ accept (0xe ∷ 0x0 ∷ 0x0 ∷ 0x0 ∷ [])
  pub number4679 : write_varnibble 4679 ≡ accept (0xe ∷ 0xf ∷ 0xf ∷ 0xf ∷ [])
  pub number4680 : write_varnibble 4680 ≡ refuse (refusal 17)
  pub header5500 : write_header (header_with_numbers 5 5 0 0) 8 ≡ accept (0x55 ∷ 0x00 ∷ [])
  pub header8000 : write_header (header_with_numbers 8 0 0 0) 8 ≡ accept (0x80 ∷ 0x00 ∷ 0x00 ∷ [])
  pub pad_not_zero : read_header (0x80 ∷ 0x00 ∷ 0x01 ∷ []) ≡ refuse (refusal 7)
  pub first_line : intake (ascii "GAAW2PRCRS5LNVZV-IAAUVACQKXE3V44W") 73 ≡ accept (ascii "ISCC:KUAG2PRCRS5LNVZVJKAFAVOJXLZZM")
  pub swapped : intake (ascii "IAAUVACQKXE3V44W-GAAW2PRCRS5LNVZV") 73 ≡ accept (ascii "ISCC:KUAG2PRCRS5LNVZVJKAFAVOJXLZZM")
  pub alone : intake (ascii "GAAW2PRCRS5LNVZV") 73 ≡ accept (ascii "ISCC:GAAW2PRCRS5LNVZV")
  pub twice : intake (ascii "GAAW2PRCRS5LNVZVGAAW2PRCRS5LNVZV") 73 ≡ refuse (refusal 12)
  pub nine : distance (0x30 ∷ 0 ∷ 0 ∷ 0 ∷ 0 ∷ 0 ∷ []) (0x30 ∷ 0 ∷ 0xff ∷ 0 ∷ 0 ∷ 1 ∷ []) ≡ accept (record { d = 9; n = 32; ratio = nine_thirty_seconds })

-- texts and a header of the group under Run, the sizes of composites, and the line program's example; computed too
pub record RunLabels : Type 0 where
  pub no_colon : intake (ascii "ISCC") 73 ≡ refuse (refusal 6)
  pub ab : intake (ascii "AB") 73 ≡ refuse (refusal 6)
  pub a : intake (ascii "A") 73 ≡ refuse (refusal 5)
  pub a1 : intake (ascii "A1") 73 ≡ refuse (refusal 4)
  pub aa : intake (ascii "AA") 73 ≡ refuse (refusal 7)
  pub with_id : intake (ascii "GAAW2PRCRS5LNVZV-MAAGZTFQTTVIZPJR") 73 ≡ refuse (refusal 10)
  pub header5700 : read_item (0x57 ∷ 0x00 ∷ []) ≡ refuse (refusal 9)
  pub header5701 : read_item (0x57 ∷ 0x01 ∷ []) ≡ refuse (refusal 8)
  pub wide_text : intake (ascii "iscc:k4aaaaicamcakbqhbaequcymbuha-6earcijrifiwc4mbsgq3dqor4hy") 73 ≡ accept (ascii "ISCC:K4AAAAICAMCAKBQHBAEQUCYMBUHA6EARCIJRIFIWC4MBSGQ3DQOR4HY")
  pub scheme_alone : intake (ascii "ISCC:") 73 ≡ refuse (refusal 1)
  pub hyphen_alone : intake (ascii "-") 73 ≡ refuse (refusal 1)
  pub three_spaces : intake (ascii "   ") 73 ≡ refuse (refusal 1)
  pub sizes : map (λ l. (2 + body_bytes Iscc 0 l)) (0 ∷ 1 ∷ 3 ∷ 7 ∷ []) ≡ 18 ∷ 26 ∷ 34 ∷ 42 ∷ []
  pub wide_size : 2 + body_bytes Iscc 7 0 ≡ 34
  pub characters : map (digit_count 5) (18 ∷ 26 ∷ 34 ∷ 42 ∷ []) ≡ 29 ∷ 42 ∷ 55 ∷ 68 ∷ []
  pub line_case : line_program (ascii "GAAW2PRCRS5LNVZV-IAAUVACQKXE3V44W\niscc:maagztfqttvizpjr\n\nIscc:Maagztfqttvizpjr\n")
      ≡ ascii "ISCC:KUAG2PRCRS5LNVZVJKAFAVOJXLZZM\nISCC:MAAGZTFQTTVIZPJR\nrefused 1\nISCC:MAAGZTFQTTVIZPJR\n"

-- what the labels leave open by one, pinned from both sides
pub record PinnedDefinitions : Type 0 where
  -- n is the shorter body's bits, whichever comes first: a DATA unit of 32 bits and one of 64
  pub shorter_first : distance (0x30 ∷ 0 ∷ 0xff ∷ 0 ∷ 0 ∷ 1 ∷ []) (0x30 ∷ 1 ∷ 0 ∷ 0 ∷ 0 ∷ 0 ∷ 0xff ∷ 0xff ∷ 0xff ∷ 0xff ∷ []) ≡ accept (record { d = 9; n = 32; ratio = nine_thirty_seconds })
  pub shorter_second : distance (0x30 ∷ 1 ∷ 0 ∷ 0 ∷ 0 ∷ 0 ∷ 0xff ∷ 0xff ∷ 0xff ∷ 0xff ∷ []) (0x30 ∷ 0 ∷ 0xff ∷ 0 ∷ 0 ∷ 1 ∷ []) ≡ accept (record { d = 9; n = 32; ratio = nine_thirty_seconds })
  -- DATA has a distance (above), INSTANCE has none
  pub instances : distance (0x40 ∷ 0 ∷ 0 ∷ 0 ∷ 0 ∷ 0 ∷ []) (0x40 ∷ 0 ∷ 0 ∷ 0 ∷ 0 ∷ 0 ∷ []) ≡ refuse (refusal 18)
  -- tab, CR and LF are blanks, at both ends
  pub tabs : intake (ascii "\tGAAW2PRCRS5LNVZV\t") 73 ≡ accept (ascii "ISCC:GAAW2PRCRS5LNVZV")
  pub returns : intake (ascii "\rGAAW2PRCRS5LNVZV\r") 73 ≡ accept (ascii "ISCC:GAAW2PRCRS5LNVZV")
  pub feeds : intake (ascii "\nGAAW2PRCRS5LNVZV\n") 73 ≡ accept (ascii "ISCC:GAAW2PRCRS5LNVZV")
  -- ID has subtype 5, and not 6
  pub id5 : write_unit (header_with_numbers (number Id) 5 0 0) (ascii "8 bytes.") 10 ≡ accept (0x65 ∷ 0x00 ∷ ascii "8 bytes.")
  pub id6 : write_unit (header_with_numbers (number Id) 6 0 0) (ascii "8 bytes.") 10 ≡ refuse (refusal 8)
