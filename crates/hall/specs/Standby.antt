-- What the standby hall's program answers: to a replay, and to the question whether its replica may be promoted.
use Rattle.iscc.specs.Refusals.{refusal_number}
use Rattle.std.specs.Prelude.{ℕ, cond, List, [], ◌++◌, length}
use Rattle.iscc.specs.Answer.{Answer, accept, refuse}
use Rattle.iscc.specs.Refusals.{Refusal, not_register}
use Rattle.iscc.specs.Ascii.{ascii}
use Rattle.loans.specs.Numbered.{Contents}
use Rattle.loans.specs.Contents.{is_register, contents_of}
use Rattle.loans.specs.Replay.{End, ended, torn, stopped}
use Rattle.loans.specs.Promotion.{Verdict, granted, refused, refused_at, refused_for}
use Rattle.answers.specs.Answers.{in_decimal, refused_line}
use Rattle.answers.specs.Sentences.{sentence}
use Rattle.hall.specs.Sheet.{text_of_bytes}

-- a number, where it applies, and its sentence
abbrev pub numbered : Refusal → List ℕ → List ℕ
numbered q where' = in_decimal (refusal_number q) ++ (where' ++ (ascii ": " ++ sentence (refusal_number q)))

-- ---- a replay

-- how far the register has come
unfoldable pub replayed_to : Contents → List ℕ
replayed_to s = ascii "replayed to record " ++ (in_decimal s.last ++ (ascii ", " ++ (in_decimal (length s.loans) ++ ascii " out")))

unfoldable pub end_line : End → Contents → List ℕ
end_line ended s = replayed_to s
end_line (torn offset) s = replayed_to s ++ (ascii "; the log is torn at byte " ++ in_decimal offset)
end_line (stopped q offset) s = ascii "refused " ++ numbered q (ascii " at byte " ++ in_decimal offset)

-- by the area after the replay; 23 comes before all else
abbrev pub line_by : Answer End → Contents → List ℕ
line_by (accept e) s = end_line e s
line_by (refuse q) s = refused_line q

unfoldable pub replay_line : Answer End → List ℕ → List ℕ
replay_line x area = cond (is_register area) (line_by x (contents_of area)) (refused_line not_register)

-- ---- a promotion

unfoldable pub verdict_line : Verdict → List ℕ
verdict_line granted = ascii "yes: this replica may be promoted"
verdict_line (refused q) = ascii "no " ++ numbered q []
verdict_line (refused_at q offset) = ascii "no " ++ numbered q (ascii " at byte " ++ in_decimal offset)
verdict_line (refused_for q c) = ascii "no " ++ numbered q (ascii " for " ++ text_of_bytes c)
