-- A line served by the command that it is.
use mathlib.Core.Path.{◌≡◌, refl, subst}
use mathlib.Core.Bool.{Bool, true, false}
use mathlib.Core.List.{List, []}
use Prim.Native.Nat.{ℕ}
use Rattle.iscc.specs.Answer.{Answer, accept, refuse}
use Rattle.loans.specs.Calls.{ask}
use Rattle.loans.specs.Contents.{is_register, ask_text}
use Rattle.commands.specs.Commands.{Command, command_of}
use Rattle.hall.specs.Serving.{ask_served, sheet_served, call_served, command_served, served}
use Rattle.hall.specs.Said.{Tells}
use Rattle.hall.specs.declared.serving.Served.{Served}

-- ---- what changes nothing

pub ask-keeps : (t area : List ℕ) → ((call_served (ask t) area).entry ≡ []) × ((call_served (ask t) area).area ≡ area)
unfolding call_served
ask-keeps t area = go (ask_text t area)
  where
    go : (y : Answer ℕ) → ((ask_served t area y).entry ≡ []) × ((ask_served t area y).area ≡ area)
    go (accept b) = (refl, refl)
    go (refuse q) = (refl, refl)

pub sheet-keeps : (area : List ℕ) → ((sheet_served area).entry ≡ []) × ((sheet_served area).area ≡ area)
sheet-keeps area = go (is_register area) refl
  where
    go : (b : Bool) → is_register area ≡ b → ((sheet_served area).entry ≡ []) × ((sheet_served area).area ≡ area)
    go true e = rw e (refl, refl)
    go false e = rw e (refl, refl)

-- ---- the line

module _ (line area : List ℕ) (c : Command) (is : c ≡ command_of line) where
  pub told-as : {r : Served} {entry entry' : List ℕ} → Tells (command_served c area) r entry entry' → Tells (served line area) r entry entry'
  unfolding served
  told-as {r} {entry} {entry'} x = subst (λ (d : Command). Tells (command_served d area) r entry entry') is x

  pub area-as : {area' : List ℕ} → area' ≡ (command_served c area).area → area' ≡ (served line area).area
  unfolding served
  area-as {area'} x = subst (λ (d : Command). area' ≡ (command_served d area).area) is x
