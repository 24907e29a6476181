-- A law of `write_header` for each return.
use Rattle.header.proofs.Write.{write-17, write-15, write-ok}
use Rattle.header.proofs.writer.write.Goals as goal

pub returns-then-not-writable-clause-answer : goal.returns-then-not-writable-clause-answer
returns-then-not-writable-clause-answer c = (write-17 _ c.writable.ensures _ c.if-not-writable.true).0

pub returns-then-not-writable-clause-area : goal.returns-then-not-writable-clause-area
returns-then-not-writable-clause-area c = (write-17 _ c.writable.ensures _ c.if-not-writable.true).1

pub returns-then-out-bytes-clause-answer : goal.returns-then-out-bytes-clause-answer
returns-then-out-bytes-clause-answer c = (write-15 _ c.writable.ensures _ c.if-not-writable.false _ _ c.bytes_of-bytes.ensures c.if-out-bytes.true).0

pub returns-then-out-bytes-clause-area : goal.returns-then-out-bytes-clause-area
returns-then-out-bytes-clause-area c = (write-15 _ c.writable.ensures _ c.if-not-writable.false _ _ c.bytes_of-bytes.ensures c.if-out-bytes.true).1

pub returns-clause-answer : goal.returns-clause-answer
returns-clause-answer c = (write-ok _ c.writable.ensures _ c.if-not-writable.false _ _ c.bytes_of-bytes.ensures c.if-out-bytes.false c.put.ensures).0

pub returns-clause-area : goal.returns-clause-area
returns-clause-area c = (write-ok _ c.writable.ensures _ c.if-not-writable.false _ _ c.bytes_of-bytes.ensures c.if-out-bytes.false c.put.ensures).1
