-- `serving::ask` meets its contract.
use mathlib.Core.Path.{ap}
use borrow.Author.Rules.{rules}
use Rattle.register.specs.declared.answer.Asked.{Asked}
use Rattle.hall.proofs.Tellings.{ask-found, ask-refused}
use Rattle.hall.proofs.serving.ask.Statement.{statement}
use Rattle.hall.proofs.serving.ask.Tie as tie

returns : tie.Need-returns-in-Ok
returns c =
    ask-found c.args.text.now c.args.area.now _ _ (ap (λ (x : Asked). x.holder) c.ask-asked.ensures.0) _ c.in-Ok.is c.found.ensures

returns-2 : tie.Need-returns-in-Err
returns-2 c =
    ask-refused c.args.text.now c.args.area.now _ _ (ap (λ (x : Asked). x.holder) c.ask-asked.ensures.0) _ c.in-Err.is c.refused.ensures

pub ask_spec : {M : Type 1} → statement M
ask_spec =
    tie.close
    (tie.spec
    (λ c κs. search rules)
    (λ c. search rules)
    (λ c κs. search rules)
    (λ c. search rules)
    (λ c κs. search rules)
    returns
    returns-2)
