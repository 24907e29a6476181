-- `serving::take_back` meets its contract.
use borrow.Author.Rules.{rules}
use Rattle.iscc.proofs.Digits.{below_all}
use Rattle.hall.proofs.Tellings.{return-recordable, return-done, return_refused}
use Rattle.hall.proofs.serving.take_back.Statement.{statement}
use Rattle.hall.proofs.serving.take_back.Tie as tie

returned-requires : tie.Need-returned-requires
returned-requires c κs =
    let bytes = below_all 256 c.args.area.now (λ k _. (c.slice_known-1.given k).fits) in
    return-recordable _ bytes _ _ _ c.in-Ok.is c.take_back.ensures.0

returns : tie.Need-returns-in-Ok
returns c =
    return-done c.args.text.now c.args.area.now _ _ _ _ c.take_back.ensures.0 c.take_back.ensures.1.1.1 _ _ c.in-Ok.is c.returned.ensures

returns-2 : tie.Need-returns-in-Err
returns-2 c =
    return_refused c.args.text.now c.args.area.now _ _ _ _ c.take_back.ensures.0 c.take_back.ensures.1.1.1 _ c.in-Err.is c.refused.ensures

pub take_back_spec : {M : Type 1} → statement M
take_back_spec =
    tie.close
    (tie.spec
    (λ c κs. search rules)
    (λ c. search rules)
    returned-requires
    (λ c. search rules)
    (λ c κs. search rules)
    (λ c. search rules)
    returns
    (λ c. search rules)
    returns-2)
