-- The kind of what a metric says has the number of the metric's case. Assumes nothing.
use Prim.Native.Nat.{ℕ}
use mathlib.Core.Path.{◌≡◌, refl}
use Rattle.metric.specs.Metric.{case_number}
use Rattle.metric.specs.declared.Metric.{Metric}
use Rattle.sent_word.specs.Status.{status_of}
use Rattle.ccfb_sent.specs.Sent.{kind_number}
use Rattle.metric.specs.declared.Metric.TheVariants.{NotReceived, Received, OverRange, NoTime}

pub kind_of_lem : (m : Metric) (rts : ℕ) → kind_number (status_of m rts) ≡ case_number m
kind_of_lem NotReceived rts = refl
kind_of_lem (Received mark offset) rts = refl
kind_of_lem (OverRange mark) rts = refl
kind_of_lem (NoTime mark) rts = refl
