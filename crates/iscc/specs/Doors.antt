-- The specification, "Reading text at intake": the text's cleaning, the intake door and the strict door.
use Rattle.std.specs.Prelude.{ℕ, Bool, cond, ◌||◌, List, [], ◌∷◌, ◌++◌, map, length, take, drop, eqb, leb, ltb}
use Rattle.iscc.specs.Answer.{Answer, accept, ◌>>=◌, ◌>>◌, ◌otherwise◌, area_after, written}
use Rattle.iscc.specs.Lists.{same_bytes}
use Rattle.iscc.specs.Refusals.{empty_text, long_text, long_run, area_too_short, other_text}
use Rattle.iscc.specs.Ascii.{ascii}
use Rattle.iscc.specs.Alphabet.{Alphabet, upper, encode, decode}
use Rattle.iscc.specs.Base32.{base32}
use Rattle.iscc.specs.Item.{Item, item_bytes, item_of, read_one, meaning_of}
use Rattle.iscc.specs.Items.{read_items, meaning_of_items}
use Rattle.iscc.specs.Meaning.{Meaning}

-- space, tab, CR and LF
unfoldable pub is_blank : ℕ → Bool
is_blank c = eqb c 32 || eqb c 9 || eqb c 13 || eqb c 10

-- blanks are dropped at both ends only
unfoldable pub trim_start : List ℕ → List ℕ
trim_start [] = []
trim_start (c ∷ cs) = cond (is_blank c) (trim_start cs) (c ∷ cs)

-- a character in front of a trimmed text
abbrev pub keep : ℕ → List ℕ → List ℕ
keep c [] = cond (is_blank c) [] (c ∷ [])
keep c (d ∷ ds) = c ∷ d ∷ ds

unfoldable pub trim_end : List ℕ → List ℕ
trim_end [] = []
trim_end (c ∷ cs) = keep c (trim_end cs)

-- the five characters ISCC:
unfoldable pub scheme : List ℕ
scheme = ascii "ISCC:"

-- dropped once if they stand there in any letter case: how many characters that drops
unfoldable pub scheme_length : List ℕ → ℕ
scheme_length t = cond (same_bytes (map upper (take 5 t)) scheme) 5 0

-- all hyphens are dropped
unfoldable pub drop_hyphens : List ℕ → List ℕ
drop_hyphens [] = []
drop_hyphens (c ∷ cs) = cond (eqb c 45) (drop_hyphens cs) (c ∷ drop_hyphens cs)

unfoldable pub trimmed : List ℕ → List ℕ
trimmed t = trim_end (trim_start t)

-- what stands behind the scheme, hyphens too
unfoldable pub behind_scheme : List ℕ → List ℕ
behind_scheme t = drop (scheme_length (trimmed t)) (trimmed t)

unfoldable pub cleaned : List ℕ → List ℕ
cleaned t = drop_hyphens (behind_scheme t)

-- a run of at most so many characters of an alphabet: 1, 3, then 4, 5, 6
unfoldable pub decode_run : Alphabet → ℕ → List ℕ → Answer (List ℕ)
decode_run a most cs = do
  ltb 0 (length cs) otherwise empty_text
  leb (length cs) most otherwise long_run
  decode a cs

-- 2, then 1, 3, 4, 5, 6
unfoldable pub payload : List ℕ → Answer (List ℕ)
payload t = do
  leb (length t) 1024 otherwise long_text
  decode_run base32 80 (cleaned t)

-- the code that a text holds: its items. 7, 8, 9 for each from the left
unfoldable pub items_of_text : List ℕ → Answer (List Item)
items_of_text t = do
  bs ← payload t
  read_items bs

-- what a text means, or the first refusal of those from 2 to 14
unfoldable pub meaning_of_text : List ℕ → Answer Meaning
meaning_of_text t = do
  is ← items_of_text t
  meaning_of_items is

-- the one text of a meaning: ISCC: and the capital base32 text of the one unit or composite
unfoldable pub text_of : Meaning → List ℕ
text_of m = scheme ++ encode base32 (item_bytes (item_of m))

-- the bytes of the one unit or composite that a text means: 2, 1, 3 to 14
unfoldable pub code_bytes : List ℕ → Answer (List ℕ)
code_bytes t = do
  m ← meaning_of_text t
  accept (item_bytes (item_of m))

-- the code of a text, with an output area of so many bytes: 15 below 42, whatever the text
unfoldable pub read_code : List ℕ → ℕ → Answer (List ℕ)
read_code t area = do
  leb 42 area otherwise area_too_short
  code_bytes t

-- the text of a code, with an output area of so many bytes: 15 below 73; then 7, 8, 9, 19 of the code's bytes
unfoldable pub write_text : List ℕ → ℕ → Answer (List ℕ)
write_text bs area = do
  leb 73 area otherwise area_too_short
  i ← read_one bs
  accept (text_of (meaning_of i))

-- intake, with an output area of so many bytes: the text that it writes
unfoldable pub intake : List ℕ → ℕ → Answer (List ℕ)
intake t area = do
  leb 73 area otherwise area_too_short
  m ← meaning_of_text t
  accept (text_of m)

-- the written text: "the first bytes of intake's output area, as many as intake answers"
unfoldable pub written_text : List ℕ → List ℕ → List ℕ
written_text t area = take (written (intake t (length area))) (area_after (intake t (length area)) area)

-- the strict door: the meaning of the text that it accepts
unfoldable pub strict : List ℕ → Answer Meaning
strict t = do
  m ← meaning_of_text t
  same_bytes (text_of m) t otherwise other_text
  accept m
