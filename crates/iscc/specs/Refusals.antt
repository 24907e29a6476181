-- The specification, "Numbers of refusal and their order": each number of the table, under a name.
use Rattle.std.specs.Prelude.{ℕ, ◌≡◌, refl, Bool, true, false, cond, List, [], ◌∷◌, eqb}
use Rattle.iscc.specs.NamedNumbers.{is_named}
use Rattle.iscc.specs.declared.refusal.Refusal as code
use Rattle.iscc.specs.declared.refusal.Refusal.TheVariants as declared

-- A refusal is the code's own (src/refusal.rt). Laws cite it by its name, and what they say of a refusal itself is about its
-- number alone.
abbrev pub Refusal : Type 0
Refusal = code.Refusal

abbrev pub refusal_number : Refusal → ℕ
refusal_number declared.EmptyText = 1
refusal_number declared.LongText = 2
refusal_number declared.LongRun = 3
refusal_number declared.BadCharacter = 4
refusal_number declared.BadCount = 5
refusal_number declared.SpareBits = 6
refusal_number declared.BadHeader = 7
refusal_number declared.NotPermitted = 8
refusal_number declared.ShortBody = 9
refusal_number declared.NotJoinable = 10
refusal_number declared.Not64Bits = 11
refusal_number declared.MainTypeTwice = 12
refusal_number declared.LacksDataOrInstance = 13
refusal_number declared.SubtypesDiffer = 14
refusal_number declared.AreaTooShort = 15
refusal_number declared.OtherText = 16
refusal_number declared.NumberTooLarge = 17
refusal_number declared.NoDistance = 18
refusal_number declared.BytesLeftOver = 19
refusal_number declared.AlreadyOut = 20
refusal_number declared.AllOut = 21
refusal_number declared.NotOut = 22
refusal_number declared.NotRegister = 23
refusal_number declared.NotRecord = 24
refusal_number declared.NumberGap = 25
refusal_number declared.NumbersSpent = 26
refusal_number declared.LastNumbersDiffer = 27
refusal_number declared.LogTorn = 36
refusal_number declared.LoansDiffer = 37
refusal_number (declared.Other n) = n.number

-- nothing is left after the dropping
abbrev pub empty_text : Refusal
empty_text = declared.EmptyText

-- the text is longer than 1,024 bytes
abbrev pub long_text : Refusal
long_text = declared.LongText

-- more than 80 characters are left
abbrev pub long_run : Refusal
long_run = declared.LongRun

-- a character is outside the alphabet
abbrev pub bad_character : Refusal
bad_character = declared.BadCharacter

-- the count of characters leaves 1, 3 or 6 over a multiple of 8
abbrev pub bad_count : Refusal
bad_count = declared.BadCount

-- a spare bit after the last whole byte is not zero
abbrev pub spare_bits : Refusal
spare_bits = declared.SpareBits

-- a header is cut, has the prefix 1111, or a pad nibble that is not zero
abbrev pub bad_header : Refusal
bad_header = declared.BadHeader

-- a header is not permitted, or not there: a composite for the unit writer, anything else for split
abbrev pub not_permitted : Refusal
not_permitted = declared.NotPermitted

-- fewer body bytes than the header says
abbrev pub short_body : Refusal
short_body = declared.ShortBody

-- two or more items, one being a composite or an ID; or join of one item that is such
abbrev pub not_joinable : Refusal
not_joinable = declared.NotJoinable

-- a unit in a list is not of 64 bits
abbrev pub not_64_bits : Refusal
not_64_bits = declared.Not64Bits

-- a main type is twice in a list
abbrev pub main_type_twice : Refusal
main_type_twice = declared.MainTypeTwice

-- a list lacks DATA or INSTANCE
abbrev pub lacks_data_or_instance : Refusal
lacks_data_or_instance = declared.LacksDataOrInstance

-- SEMANTIC and CONTENT differ in subtype
abbrev pub subtypes_differ : Refusal
subtypes_differ = declared.SubtypesDiffer

-- the output area is too short
abbrev pub area_too_short : Refusal
area_too_short = declared.AreaTooShort

-- strict door: intake accepts, but would write another text
abbrev pub other_text : Refusal
other_text = declared.OtherText

-- a number above 4679 to be written as a varnibble
abbrev pub number_too_large : Refusal
number_too_large = declared.NumberTooLarge

-- two units that have no distance
abbrev pub no_distance : Refusal
no_distance = declared.NoDistance

-- bytes left over where exactly one unit is wanted
abbrev pub bytes_left_over : Refusal
bytes_left_over = declared.BytesLeftOver

-- the code is out already
abbrev pub already_out : Refusal
already_out = declared.AlreadyOut

-- 256 others are out
abbrev pub all_out : Refusal
all_out = declared.AllOut

-- the code is not out
abbrev pub not_out : Refusal
not_out = declared.NotOut

-- the area is not a register
abbrev pub not_register : Refusal
not_register = declared.NotRegister

-- no record of the log: another tag, code bytes that are not exactly one unit or composite, or record number 0
abbrev pub not_record : Refusal
not_record = declared.NotRecord

-- the record is not the next: others before it are missing
abbrev pub number_gap : Refusal
number_gap = declared.NumberGap

-- the last record number is taken
abbrev pub numbers_spent : Refusal
numbers_spent = declared.NumbersSpent

-- promotion: only the last numbers differ
abbrev pub last_numbers_differ : Refusal
last_numbers_differ = declared.LastNumbersDiffer

-- promotion: the log is torn
abbrev pub log_torn : Refusal
log_torn = declared.LogTorn

-- promotion: a code is held by one register only, or with another borrower
abbrev pub loans_differ : Refusal
loans_differ = declared.LoansDiffer

-- the table, in its order
abbrev pub refusals : List Refusal
refusals =
    empty_text
    ∷ long_text
    ∷ long_run
    ∷ bad_character
    ∷ bad_count
    ∷ spare_bits
    ∷ bad_header
    ∷ not_permitted
    ∷ short_body
    ∷ not_joinable
    ∷ not_64_bits
    ∷ main_type_twice
    ∷ lacks_data_or_instance
    ∷ subtypes_differ
    ∷ area_too_short
    ∷ other_text
    ∷ number_too_large
    ∷ no_distance
    ∷ bytes_left_over
    ∷ already_out
    ∷ all_out
    ∷ not_out
    ∷ not_register
    ∷ not_record
    ∷ number_gap
    ∷ numbers_spent
    ∷ last_numbers_differ
    ∷ log_torn
    ∷ loans_differ
    ∷ []

-- the first of a list that has the number; no number of the table gets to its end
abbrev pub numbered : ℕ → List Refusal → Refusal
numbered n [] = empty_text
numbered n (q ∷ qs) = cond (eqb (refusal_number q) n) q (numbered n qs)

abbrev pub refusal_if : (n : ℕ) (named : Bool) → is_named n ≡ named → Refusal
refusal_if n true e = numbered n refusals
refusal_if n false e = declared.Other (record { number = n; other = e })

-- the refusal of a number, as examples write it: each number has one
abbrev pub refusal : ℕ → Refusal
refusal n = refusal_if n (is_named n) refl
