-- A claim is read from line to line.
use Rattle.std.proofs.Common.{◌≡◌, sym, subst, ℕ, ◌+◌, ◌≤◌, List, ◌∷◌, length}
use Rattle.tb_base.specs.Refusals.{IsRefused}
use Rattle.tb_base.specs.TimetableData.{TimetableData}
use Rattle.tb_base.specs.declared.refused.Refused.{Refused}
use Rattle.text_lines.specs.Lines.{lines_of}
use Rattle.journey_read.specs.declared.claim.JourneyFault.{JourneyFault}
use Rattle.journey_read.specs.Claims.{SoFar, claim_from, claim_so_far}

-- what the first lines say, where the text behind them is still to be read
pub record IsReadTo (T : TimetableData) (bytes text : List ℕ) (s : SoFar) : Type 0 where
  pub count : s.lines + length text ≤ length bytes
  pub rest : claim_from T 1 (lines_of bytes) ≡ claim_so_far T s (lines_of text)

-- a line that is refused is what refuses the text
pub refused_at : (T : TimetableData) (bytes text line rest : List ℕ) (s : SoFar) (refused : Refused JourneyFault) → IsReadTo T bytes text s → lines_of text ≡ line ∷ lines_of rest
    → ((lines : List (List ℕ)) → IsRefused (claim_so_far T s (line ∷ lines)) refused) → IsRefused (claim_from T 1 (lines_of bytes)) refused
refused_at T bytes text line rest s refused read cut told =
    subst (λ m. IsRefused m refused) (sym read.rest) (subst (λ ls. IsRefused (claim_so_far T s ls) refused) (sym cut) (told (lines_of rest)))
