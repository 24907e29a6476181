-- The specification, "Distance": n, the shorter body's bits; d, the differing bits among the first n; the ratio d / n.
use Rattle.std.specs.Prelude.{ℕ, ◌+◌, ◌*◌, min, Bool, true, false, cond, ◌&&◌, List, [], ◌∷◌, ◌++◌, length, eqb, pos, Float}
use Rattle.std.specs.Float.{fin, binary32}
use Rattle.std.specs.Float.Ieee.{of_int, div}
use Rattle.iscc.specs.Answer.{Answer, accept, refuse, ◌>>=◌, ◌>>◌, ◌otherwise◌}
use Rattle.iscc.specs.Refusals.{no_distance}
use Rattle.iscc.specs.Digits.{digits}
use Rattle.iscc.specs.Permitted.{MainType}
use Rattle.iscc.specs.declared.main_type.Name.TheVariants.{Meta, Semantic, Content, Data, Instance, Iscc, Id}
use Rattle.iscc.specs.Item.{Item, read_one}
use Rattle.iscc.specs.Items.{same_type}

-- bytes as bits, the high bit of each byte first
unfoldable pub bits_of : List ℕ → List ℕ
bits_of [] = []
bits_of (b ∷ bs) = digits 1 8 b ++ bits_of bs

-- in how many positions two lists of bits differ, as far as the shorter goes
unfoldable pub differing_positions : List ℕ → List ℕ → ℕ
differing_positions [] ys = 0
differing_positions (x ∷ xs) [] = 0
differing_positions (x ∷ xs) (y ∷ ys) = cond (eqb x y) 0 1 + differing_positions xs ys

pub record Distance : Type 0 where
  pub d : ℕ
  pub n : ℕ
  pub ratio : Float

-- the single rounded division of both numbers
unfoldable pub ratio_of : ℕ → ℕ → Float
ratio_of d n = div binary32 (of_int binary32 (pos d)) (of_int binary32 (pos n))

unfoldable pub differing_bits : List ℕ → List ℕ → ℕ
differing_bits x y = differing_positions (bits_of x) (bits_of y)

unfoldable pub compared_bits : List ℕ → List ℕ → ℕ
compared_bits x y = 8 * min (length x) (length y)

-- the main types whose units have a distance
abbrev pub has_distance : MainType → Bool
has_distance Meta = true
has_distance Semantic = true
has_distance Content = true
has_distance Data = true
has_distance Instance = false
has_distance Iscc = false
has_distance Id = false

-- 18 unless main type (META to DATA) and subtype agree
unfoldable pub comparable : Item → Item → Bool
comparable i j = same_type i.main_type j.main_type && has_distance i.main_type && eqb i.subtype j.subtype

-- 7, 8, 9, 19 on the first, the same on the second, then 18
unfoldable pub distance : List ℕ → List ℕ → Answer Distance
distance x y = do
  i ← read_one x
  j ← read_one y
  comparable i j otherwise no_distance
  accept
      (record {
        d = differing_bits i.body j.body;
        n = compared_bits i.body j.body;
        ratio = ratio_of (differing_bits i.body j.body) (compared_bits i.body j.body);
      })

-- a refusal has d 0, n 0 and ratio +0.0
unfoldable pub distance_answer : Answer Distance → Distance
distance_answer (accept r) = r
distance_answer (refuse k) = record { d = 0; n = 0; ratio = fin false 0 (pos 0) }
