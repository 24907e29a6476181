-- `from_code` meets its contract.
use Rattle.std.proofs.Common.{ℕ, ◌≡◌, ◌∙◌, ap, rules, take, drop, get_or, length, ◌+◌, ◌*◌, arith, List, []}
use lib.ListN.{length-drop}
use lib.Seq.{length-take-le}
use Rattle.composite.proofs.Parts.{filled-eight}
use Rattle.iscc.specs.Permitted.{set_of, unit_count}
use Rattle.composite.specs.Bodies.{parts, filled_bodies}
use Rattle.composite.proofs.gather.from_code.Goals as goal

-- the bodies are those behind the header
behind : (c : goal.After-bodies_at-found)
    → c.bodies_at-found.result ≡ filled_bodies (λ i. take 8 (drop (2 + i * 8) c.args.bytes.now)) (unit_count (set_of c.args.length_number)) 5
behind c =
    c.bodies_at-found.ensures (λ i. 2 + i * 8) (λ i at h p. search rules)
    ∙ ap (λ (m : ℕ). filled_bodies (λ i. take 8 (drop (2 + i * 8) c.args.bytes.now)) m 5) c.body_count.ensures.0

pub invariant_of-result : goal.invariant_of-result
invariant_of-result c =
    record {
      number = c.requires.few;
      subtype = c.requires.permitted;
      bodies =
          λ i h. ap (λ (x : List (List ℕ)). length (get_or x i [])) (behind c)
          ∙ filled-eight _ (unit_count (set_of c.args.length_number)) 5 (λ j l. length-take-le 8 _ (omega (arith, c.requires.room, length-drop (2 + j * 8) c.args.bytes.now))) i h;
    }

pub returns : goal.returns
returns c = ap (parts c.args.length_number c.args.subtype) (behind c)
