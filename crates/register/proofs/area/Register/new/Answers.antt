-- `Register::new`: what follows of such an area.
use Rattle.register.proofs.Changes.{size-known}
use Rattle.register.proofs.area.Register.new.Goals as goal

pub invariant_of-result : goal.invariant_of-result
invariant_of-result c = record { valid = c.requires; whole = size-known _ c.requires }
