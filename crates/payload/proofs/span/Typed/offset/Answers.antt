use Rattle.payload.proofs.Offsets.{offset-is}
use Rattle.payload.proofs.span.Typed.offset.Goals as goal

pub returns : goal.returns
returns c = offset-is _ _ _ _ _ c.args.self.begins c.args.self.stands c.offset_in.ensures.value
