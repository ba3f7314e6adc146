-- Rules: "Cases at the edges". Those that are proved of the metric, as one list.
use Rattle.std.specs.Prelude.{ℕ, ◌-◌, ◌^◌, ◌≡◌, List, [], ◌∷◌, Some}
use Rattle.metric.specs.Metric.{age_of, ato_of, decode_of}
use Rattle.metric.specs.declared.Metric.{Metric}
use Rattle.metric.specs.declared.Metric.TheVariants.{NotReceived, Received, OverRange, NoTime}

pub data Case : Type 0 where
  age : ℕ → ℕ → Case
  reads : ℕ → Metric → Case

-- whatever RTS and time have that age, the ATO is this; the metric reads as this
abbrev pub CaseHolds : Case → Type 0
CaseHolds (age a ato) = (rts t : ℕ) → age_of rts t ≡ a → ato_of (Some t) rts ≡ ato
CaseHolds (reads m case) = decode_of m ≡ case

unfoldable pub cases : List Case
cases =
    age 0 0 ∷ age 63 0 ∷ age 64 1 ∷ age 524096 0x1FFD ∷ age 524097 0x1FFE ∷ age (2 ^ 31 - 1) 0x1FFE ∷ age (2 ^ 31) 0x1FFF
    ∷ reads 0x7FFF NotReceived ∷ reads 0xBFFD (Received 1 8189) ∷ reads 0xFFFE (OverRange 3) ∷ reads 0xFFFF (NoTime 3) ∷ []
