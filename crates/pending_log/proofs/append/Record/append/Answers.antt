-- `Record::append`: three parts, one behind the other.
use Rattle.pending_log.proofs.Appends.{no_record, room-lacks, record-put}
use Rattle.pending_log.proofs.append.Record.append.Goals as goal

pub returns-then-not-is_numbered : goal.returns-then-not-is_numbered
returns-then-not-is_numbered c =
    let r = c.args.self in
    let t = no_record r.tag _ r.front.now _ c.args.log.now c.args.position _ c.is_numbered.ensures.is c.if-not-is_numbered.true in
    record { answer = t.0; log = t.1 }

pub returns-then-room-self : goal.returns-then-room-self
returns-then-room-self c =
    let r = c.args.self in
    let t =
    room-lacks r.tag _ r.front.now _ c.args.log.now c.args.position _ c.is_numbered.ensures.is c.if-not-is_numbered.false
    _ c.saturating_sub-room.ensures c.if-room-self.true in
    record { answer = t.0; log = t.1 }

pub head-requires : goal.head-requires
head-requires c = c.is_numbered.ensures.most c.if-not-is_numbered.false

pub returns : goal.returns
returns c =
    let r = c.args.self in
    let t =
    record-put r.tag _ r.front.now _ c.args.log.now c.args.position _ c.is_numbered.ensures.is c.if-not-is_numbered.false
    _ c.saturating_sub-room.ensures c.if-room-self.false _ c.head.ensures _ _ _ _ _ _
    (c.put-behind.ensures.offset, c.put-behind.ensures.log) (c.put-middle.ensures.offset, c.put-middle.ensures.log) (c.put.ensures.offset, c.put.ensures.log) in
    record { answer = t.0; log = t.1 }
