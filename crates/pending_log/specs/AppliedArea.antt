-- A record applied to a register in a lent area: 24, then skipped, 25 or what its change gives there.
use Rattle.std.specs.Prelude.{ℕ, List}
use Rattle.iscc.specs.Answer.{Answer, ◌>>◌, ◌otherwise◌}
use Rattle.iscc.specs.Refusals.{not_record}
use Rattle.loans.specs.Register.{changed_area}
use Rattle.loans.specs.Contents.{contents_of, register}
use Rattle.loans.specs.Fields.{Field}
use Rattle.loans.specs.PendingLog.{number_in, is_numbered, numbered_of, in_turn}

unfoldable pub applied_area : Field → List ℕ → Answer (List ℕ)
applied_area f area = do
  is_numbered f otherwise not_record
  in_turn (number_in f) (contents_of area).last area (changed_area register (numbered_of f).change area)
