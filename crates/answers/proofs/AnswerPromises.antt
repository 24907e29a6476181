-- What is promised of the answer lines holds.
use Prim.Native.Nat.{ℕ, ◌<◌}
use mathlib.Core.Path.{◌≡◌, ap}
use mathlib.Core.List.{List}
use lib.ListN.{drop}
use Rattle.answers.specs.Answers.{in_decimal, issued_line, returned_line, out_line}
use Rattle.answers.specs.AnswerPromises.{NoBlank, AnswerLines}
use Rattle.answers.proofs.Lengths.{length-issued, length-returned, length-out, length-counts, length-refused}
use Rattle.answers.proofs.Told.{first-blank, number-free, same_number}

module _ (t u : List ℕ) (free-t : NoBlank t) (free-u : NoBlank u) where
  out-tells : (a b : ℕ) → a < 4294967296 → b < 4294967296 → out_line t a ≡ out_line u b → (t ≡ u) × (a ≡ b)
  unfolding out_line
  out-tells a b h l e =
      let r = first-blank t u _ _ free-t free-u (ap (drop 4) e) in
      (r.0, same_number a b h l (ap (drop 3) r.1))

  returned-tells : (m n : ℕ) → m < 4294967296 → n < 4294967296 → returned_line t m ≡ returned_line u n → (t ≡ u) × (m ≡ n)
  unfolding returned_line
  returned-tells m n h l e =
      let r = first-blank t u _ _ free-t free-u (ap (drop 9) e) in
      (r.0, same_number m n h l (ap (drop 10) r.1))

  issued-tells : (a b m n : ℕ) → a < 4294967296 → b < 4294967296 → m < 4294967296 → n < 4294967296
      → issued_line t a m ≡ issued_line u b n → (t ≡ u) × (a ≡ b) × (m ≡ n)
  unfolding issued_line
  issued-tells a b m n ha hb hm hn e =
      let r = first-blank t u _ _ free-t free-u (ap (drop 7) e) in
      let s = first-blank (in_decimal a) (in_decimal b) _ _ (number-free a ha) (number-free b hb) (ap (drop 3) r.1) in
      (r.0, same_number a b ha hb s.0, same_number m n hm hn (ap (drop 10) s.1))

pub answer-lines : AnswerLines
answer-lines =
    record {
      issued_whole = length-issued;
      returned_whole = length-returned;
      out_whole = length-out;
      counts_whole = length-counts;
      refused_whole = length-refused;
      issued_tells = λ t u a b m n p q. issued-tells t u p q a b m n;
      returned_tells = λ t u m n p q. returned-tells t u p q m n;
      out_tells = λ t u a b p q. out-tells t u p q a b;
    }
