-- A refusal with what it tells, and without.
use Rattle.std.specs.Prelude.{ℕ}
use Rattle.iscc.specs.Refusals.{Refusal}
use Rattle.iscc.specs.declared.refusal.DetailedRefusal.{DetailedRefusal}

abbrev pub with_detail : ℕ → Refusal → DetailedRefusal
with_detail k q = record { refusal = q; detail = k }

abbrev pub plain : DetailedRefusal → Refusal
plain d = d.refusal
