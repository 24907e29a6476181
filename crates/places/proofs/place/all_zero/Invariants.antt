-- `place::all_zero`: the largest byte so far, and the bytes from there on, decide.
use Rattle.places.proofs.PlaceTests.{Zeros}
use Rattle.places.proofs.place.all_zero.Given as goal

abbrev pub invariant-loop-byte : goal.invariant-loop-byte
invariant-loop-byte l = Zeros l.bytes l.byte-index l.most
