-- `Register::ask` meets its contract.
use Rattle.register.proofs.Changes.{found-few, asked-none, asked-yes}
use Rattle.register.proofs.area.Register.ask.Goals as goal

pub borrower-requires : goal.borrower-requires
borrower-requires c = found-few _ c.args.self.area.now c.args.self.valid _ c.find-at.ensures _ c.in-Ok.is

pub returns-in-Ok : goal.returns-in-Ok
returns-in-Ok c =
    asked-yes _ c.args.self.area.now c.args.self.valid _ c.find-at.ensures _ c.in-Ok.is _ _ c.places.ensures c.borrower.ensures

pub returns-in-Err : goal.returns-in-Err
returns-in-Err c = asked-none _ c.args.self.area.now c.args.self.valid _ c.find-at.ensures _ c.in-Err.is
