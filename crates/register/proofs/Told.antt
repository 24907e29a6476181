-- What a register tells: the number in its last four bytes, whether one is left behind it, and its eight counts.
use Prim.Native.Nat.{ℕ, suc, ◌+◌, ◌%◌, ◌^◌}
use mathlib.Core.Path.{◌≡◌, refl, sym, ◌∙◌, ap}
use mathlib.Core.Bool.{true}
use mathlib.Core.List.{List}
use Rattle.std.specs.Prelude.{Option, Some, None, Ok}
use native.Mathlib.Nat.{mod-eq_of_lt}
use native.Mathlib.Omega.{arith}
use lib.ListN.{get_or, take, drop}
use borrow.Author.Tests.{lt-ltb, le-ltb}
use Rattle.iscc.specs.Answer.{accept}
use Rattle.iscc.specs.Digits.{value, Below}
use Rattle.loans.specs.Contents.{is_register, contents_of}
use Rattle.loans.proofs.Contents.{register-sound}
use Rattle.register.specs.Next.{next_number}
use Rattle.register.specs.Representation.{counts_as}

pub next-none : (l n : ℕ) → n ≡ l → n ≡ 4294967295 → None ≡ next_number l
unfolding next_number
next-none l n e h = sym (rw (le-ltb l 4294967295 (omega (arith, e, h))))

pub next-some : (area : List ℕ) → Below 256 area → is_register area ≡ true → (n : ℕ) → n ≡ (contents_of area).last → (n ≡ 4294967295 → ⊥) → Some (n + 1) ≡ next_number (contents_of area).last
unfolding next_number
next-some area k v n e w =
    let s : n + 1 ≡ suc (contents_of area).last = omega (arith, e) in
    rw (lt-ltb (contents_of area).last 4294967295 (omega (arith, (register-sound.good area k v).last, e, w))) (ap Some s)

pub last-there : (area : List ℕ) → Below 256 area → is_register area ≡ true → (r : ℕ) → r ≡ value 8 (take 4 (drop 12304 area)) % 2 ^ 32 → r ≡ (contents_of area).last
last-there area k v r e = e ∙ mod-eq_of_lt (register-sound.good area k v).last

pub all_there : (ns : List ℕ) (a b c d e f g h : ℕ) → a ≡ get_or ns 0 0 → b ≡ get_or ns 1 0 → c ≡ get_or ns 2 0 → d ≡ get_or ns 3 0
    → e ≡ get_or ns 4 0 → f ≡ get_or ns 5 0 → g ≡ get_or ns 6 0 → h ≡ get_or ns 7 0
    → Ok (record { out = a; meta = b; semantic = c; content = d; «data» = e; instance = f; iscc = g; id = h }) ≡ counts_as (accept ns)
all_there ns a b c d e f g h p q r s t u v w = rw (p, q, r, s, t, u, v, w)
