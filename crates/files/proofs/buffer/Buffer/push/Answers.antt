use Rattle.std.proofs.Common.{rules, arith, ◌≡◌, ◌++◌, ◌≤◌, take, ℕ, ◌+◌, ◌-◌, length, List, min, sym, ap, ◌∙◌}
use Rattle.std.proofs.lemmas.List.{length-take, take_min, take-append-le, take_all}
use Rattle.std.proofs.Math.Seq.{take-append-add}
use borrow.Rule.Slice.PartMut.{put_mid, post_of}
use Rattle.files.proofs.buffer.Buffer.push.Goals as goal

take_behind : (xs ys : List ℕ) (n k : ℕ) → length xs ≡ n → take (n + k) (xs ++ ys) ≡ xs ++ take k ys
take_behind xs ys n k e = ap (λ m. take (m + k) (xs ++ ys)) (sym e) ∙ take-append-add xs ys k

take_put : (front part rest : List ℕ) (n k room : ℕ) → length front ≡ n → k ≡ min room (length part)
    → take (n + k) (front ++ (take k part ++ rest)) ≡ take (n + room) (front ++ part)
take_put front part rest n k room e m =
    let l : length (take k part) ≡ k = length-take k part ∙ omega (arith, m) in
    take_behind front (take k part ++ rest) n k e
    ∙ ap (λ ys. front ++ ys) (take-append-le k (take k part) rest (omega (arith, l)) ∙ take_all k (take k part) (omega (arith, l)) ∙ ap (λ i. take i part) m ∙ take_min room part)
    ∙ sym (take_behind front part n room e)

pushed : (area part x : List ℕ) (n k room : ℕ) → length area ≡ room → n ≤ room → k ≡ min (length part) (room - n) → x ≡ take k part
    → take (n + k) (put_mid n (n + k - n) area x) ≡ take room (take n area ++ part)
pushed area part x n k room l i m e =
    ap (λ y. take (n + k) (take n area ++ (y ++ post_of n (n + k - n) area))) e
    ∙ take_put (take n area) part (post_of n (n + k - n) area) n k (room - n) (length-take n area ∙ omega (arith, l)) (omega (arith, m))
    ∙ ap (λ j. take j (take n area ++ part)) (omega arith)

pub returns : goal.returns
returns g c = pushed c.args.self.now.bytes c.args.part.now _ c.args.self.now.length _ g.row.N (search rules) (search rules) (omega arith) (search rules)
