-- The numbers that have no sentence, and how long a sentence is.
use Prim.Native.Nat.{ℕ, zero, suc, ◌+◌, ◌-◌, ◌≤◌, ◌<◌, max}
use mathlib.Core.Path.{◌≡◌, refl}
use mathlib.Core.Bool.{Bool, true, false, cond}
use mathlib.Core.List.{List, [], ◌∷◌}
use native.Mathlib.Omega.{arith}
use lib.ListN.{length, get_or, get_or-eq_default}
use lib.Dec.{ltb}
use borrow.Author.Tests.{lt-ltb, le-ltb}
use Rattle.answers.specs.Sentences.{sentence, text_sentences, register_sentences, promotion_sentences}

-- n is none of the k numbers from f on
abbrev pub Others : ℕ → ℕ → ℕ → Type 0
Others f zero n = Unit {0}
Others f (suc k) n = Others f k n × (n ≡ f + k → ⊥)

others-past : (f k n : ℕ) → Others f k n → f ≤ n → f + k ≤ n
others-past f zero n o h = omega arith
others-past f (suc k) n o h = let p : f + k ≤ n = others-past f k n o.0 h in let ne : n ≡ f + k → ⊥ = o.1 in omega arith

none-behind : (xs : List (List ℕ)) (k n : ℕ) → length xs ≡ k → k ≤ n → get_or xs n [] ≡ []
none-behind xs k n e h = get_or-eq_default xs [] (omega arith)

pub others-text : (n : ℕ) → n < 20 → Others 1 14 n → sentence n ≡ []
unfolding sentence text_sentences
others-text zero h o = refl
others-text (suc n) h o = rw (lt-ltb (suc n) 20 h) (none-behind text_sentences 15 (suc n) refl (others-past 1 14 (suc n) o (omega arith)))

pub others-register : (n : ℕ) → (20 ≤ n) × (n < 36) → Others 20 8 n → sentence n ≡ []
unfolding sentence register_sentences
others-register n h o =
    rw (le-ltb n 20 h.0, lt-ltb n 36 h.1) (none-behind register_sentences 8 (n - 20) refl (omega (arith, others-past 20 8 n o h.0)))

pub others-promotion : (n : ℕ) → 36 ≤ n → Others 36 2 n → sentence n ≡ []
unfolding sentence promotion_sentences
others-promotion n h o =
    rw (le-ltb n 20 (omega arith), le-ltb n 36 h) (none-behind promotion_sentences 2 (n - 36) refl (omega (arith, others-past 36 2 n o h)))

-- the longest text of a table
abbrev longest : List (List ℕ) → ℕ
longest [] = 0
longest (t ∷ ts) = max (length t) (longest ts)

length-longest : (ts : List (List ℕ)) (i : ℕ) → length (get_or ts i []) ≤ longest ts
length-longest [] i = omega arith
length-longest (t ∷ ts) zero = omega arith
length-longest (t ∷ ts) (suc i) = omega (arith, length-longest ts i)

pub length-sentence : (n : ℕ) → length (sentence n) ≤ 67
unfolding sentence text_sentences register_sentences promotion_sentences
length-sentence n = go (ltb n 20) (ltb n 36)
  where
    go : (a b : Bool)
        → length (cond a (get_or text_sentences n []) (cond b (get_or register_sentences (n - 20) []) (get_or promotion_sentences (n - 36) []))) ≤ 67
    go true b = length-longest text_sentences n
    go false true = omega (arith, length-longest register_sentences (n - 20))
    go false false = omega (arith, length-longest promotion_sentences (n - 36))
