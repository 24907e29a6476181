-- The digit of each character of each range is computed.
use Rattle.std.proofs.Common.{arith, refl, ◌+◌, ◌-◌}
use Rattle.iscc.specs.Alphabet.{upper, index_of, digit_in}
use Rattle.iscc.specs.Base32.{base32}
use Rattle.iscc.proofs.Table.{up_to}
use Rattle.iscc.proofs.Values.{agree}
use Rattle.base32.proofs.reader.digit_of.Goals as goal

pub returns-in-50-to-55 : goal.returns-in-50-to-55
unfolding up_to upper index_of digit_in base32
returns-in-50-to-55 c = (agree (λ x. x - 50 + 26) (digit_in base32) 50 6 refl c.args.c (omega arith) (omega arith), omega arith)

pub returns-in-65-to-90 : goal.returns-in-65-to-90
unfolding up_to upper index_of digit_in base32
returns-in-65-to-90 c = (agree (λ x. x - 65) (digit_in base32) 65 26 refl c.args.c (omega arith) (omega arith), omega arith)

pub returns-in-97-to-122 : goal.returns-in-97-to-122
unfolding up_to upper index_of digit_in base32
returns-in-97-to-122 c = (agree (λ x. x - 97) (digit_in base32) 97 26 refl c.args.c (omega arith) (omega arith), omega arith)

pub returns-in_default : goal.returns-in_default
unfolding up_to upper index_of digit_in base32
returns-in_default c = (agree (λ _. 32) (digit_in base32) 0 50 refl c.args.c (omega arith) (omega arith), omega arith)

pub returns-in_default-2 : goal.returns-in_default-2
unfolding up_to upper index_of digit_in base32
returns-in_default-2 c = (agree (λ _. 32) (digit_in base32) 56 9 refl c.args.c (omega arith) (omega arith), omega arith)

pub returns-in_default-3 : goal.returns-in_default-3
unfolding up_to upper index_of digit_in base32
returns-in_default-3 c = (agree (λ _. 32) (digit_in base32) 91 6 refl c.args.c (omega arith) (omega arith), omega arith)

pub returns-in_default-4 : goal.returns-in_default-4
unfolding up_to upper index_of digit_in base32
returns-in_default-4 c = (agree (λ _. 32) (digit_in base32) 123 133 refl c.args.c (omega arith) (omega arith), omega arith)
