-- `Line::push`: the part behind the line, as far as there is room. How much of it goes is left to arithmetic.
use Rattle.std.proofs.Common.{rules, arith, ◌∙◌, ap, ◌++◌, take, List, ℕ}
use Rattle.answers.proofs.Parts.{pushed, line-put}
use Rattle.answers.proofs.line.Line.push.Goals as goal

pub invariant_of-self : goal.invariant_of-self
invariant_of-self c =
    let q = c.self.inside in
    line-put q.bytes c.args.part.now _ q.length _ (search rules) c.self.invariant.within (omega arith) c.copy_from_slice.ensures.after c.self.invariant _ (omega arith)

pub returns : goal.returns
returns c =
    let q = c.self.inside in
    pushed q.bytes c.args.part.now _ q.length _ (search rules) c.self.invariant.within (omega arith) c.copy_from_slice.ensures.after _
    ∙ ap (λ (t : List ℕ). take 200 (t ++ c.args.part.now)) c.self.view_is
