-- At each return the tests settle what reading comes to.
use Rattle.std.proofs.Common.{arith, refl, ◌∙◌, sym}
use borrow.Author.Tests.{ltb-true}
use Rattle.iscc.specs.Base32.{base32}
use Rattle.iscc.proofs.Digits.{below_of}
use Rattle.iscc.proofs.Filling.{refused, too_short, filled, answers-same}
use Rattle.iscc.proofs.Decoding.{bytes_of, length-bytes, refused-4, refused-5, refused-6, accepted}
use Rattle.base32.proofs.reader.read.Goals as goal

pub returns-then-not-all_digits : goal.returns-then-not-all_digits
unfolding base32
returns-then-not-all_digits c =
    let a = refused c.args.out.now (refused-4 base32 _ (sym c.all_digits.ensures ∙ c.if-not-all_digits.true)) refl in
    record { answer = a.0; area = a.1 }

pub returns-then-not-whole_count : goal.returns-then-not-whole_count
unfolding base32
returns-then-not-whole_count c =
    let a = refused c.args.out.now (refused-5 base32 _ (sym c.all_digits.ensures ∙ c.if-not-all_digits.false) (sym c.whole_count.ensures ∙ c.if-not-whole_count.true)) refl in
    record { answer = a.0; area = a.1 }

pub spare-requires : goal.spare-requires
spare-requires c = record { below = below_of 32 _ (sym c.all_digits.ensures ∙ c.if-not-all_digits.false); text_bound = ltb-true _ _ (sym c.whole_count.ensures ∙ c.if-not-whole_count.false) }

pub returns-then-spare-ne0 : goal.returns-then-spare-ne0
unfolding base32
returns-then-spare-ne0 c =
    let a =
    refused c.args.out.now
    (refused-6 base32 _ (sym c.all_digits.ensures ∙ c.if-not-all_digits.false) (sym c.whole_count.ensures ∙ c.if-not-whole_count.false) (λ e. c.if-spare-ne0.true (c.spare.ensures ∙ e))) refl in
    record { answer = a.0; area = a.1 }

pub returns-then-out-count : goal.returns-then-out-count
unfolding base32
returns-then-out-count c =
    let e = accepted base32 _ (sym c.all_digits.ensures ∙ c.if-not-all_digits.false) (sym c.whole_count.ensures ∙ c.if-not-whole_count.false) (sym c.spare.ensures ∙ c.if-spare-ne0.false) in
    let s = too_short (bytes_of base32 c.args.text.now) c.args.out.now (omega (arith, length-bytes base32 c.args.text.now, c.byte_length-count.ensures, c.if-out-count.true)) refl in
    let a = answers-same c.args.out.now e s.0 s.1 in
    record { answer = a.0; area = a.1 }

pub fill-requires-clause-below : goal.fill-requires-clause-below
fill-requires-clause-below c = below_of 32 _ (sym c.all_digits.ensures ∙ c.if-not-all_digits.false)

pub returns : goal.returns
unfolding base32
returns c =
    let e = accepted base32 _ (sym c.all_digits.ensures ∙ c.if-not-all_digits.false) (sym c.whole_count.ensures ∙ c.if-not-whole_count.false) (sym c.spare.ensures ∙ c.if-spare-ne0.false) in
    let n = length-bytes base32 c.args.text.now ∙ sym c.byte_length-count.ensures in
    let s = filled {xs = bytes_of base32 c.args.text.now} {d = c.args.out.now} (record { count = n; room = c.if-out-count.false; is = rw c.byte_length-count.ensures c.fill.ensures }) refl in
    let a = answers-same c.args.out.now e s.0 s.1 in
    record { answer = a.0; area = a.1 }
