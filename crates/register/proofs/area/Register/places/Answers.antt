-- `Register::places`: they are in order.
use Rattle.loans.proofs.Contents.{register-known}
use Rattle.register.proofs.area.Register.places.Goals as goal

pub new-requires-clause-ordered : goal.new-requires-clause-ordered
new-requires-clause-ordered c = (register-known _ c.args.self.valid).ordered
