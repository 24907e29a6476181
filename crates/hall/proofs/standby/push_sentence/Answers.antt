-- `standby::push_sentence`: two parts behind a line.
use Rattle.iscc.specs.Refusals.{refusal_number}
use Rattle.iscc.specs.Ascii.{ascii}
use Rattle.answers.specs.Sentences.{sentence}
use Rattle.answers.proofs.Parts.{put_two}
use Rattle.hall.proofs.standby.push_sentence.Goals as goal

pub returns : goal.returns
returns c = put_two c.args.line.now (ascii ": ") (sentence (refusal_number c.args.q)) c.push.ensures (rw (c.sentence.ensures, c.number.ensures) at c.push-2.ensures)
