-- Four varnibbles, one behind the other.
use Rattle.header.proofs.Write.{joined-four}
use Rattle.header.proofs.writer.nibbles_of.Goals as goal

pub returns-clause-nibbles : goal.returns-clause-nibbles
returns-clause-nibbles c = joined-four _ _ _ _ c.append-a.ensures.nibbles c.append-b.ensures.nibbles c.append-c.ensures.nibbles c.append.ensures.nibbles
