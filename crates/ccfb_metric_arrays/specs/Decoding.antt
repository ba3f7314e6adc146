-- Rules: "Decoding all metrics". What `ccfb_decode_metrics` answers and leaves: 0 or the refusal's
-- number, and the three arrays.
use Rattle.std.specs.Prelude.{ℕ, Result, Ok, Err}
use Rattle.refusal.specs.Numbers.{number_of}
use Rattle.metric_arrays.specs.Arrays.{Arrays, ArraysAfter}
use Rattle.refusal.specs.declared.Refusal.{Refusal}

pub record Decoding : Type 0 where
  pub answer : ℕ
  pub arrays : Arrays

abbrev pub decoding : ℕ → Arrays → Decoding
decoding r a = record { answer = r; arrays = a }

abbrev pub decode_called_by : Result (Unit {0}) Refusal → Arrays → Decoding
decode_called_by (Ok tt) a = decoding 0 a
decode_called_by (Err e) a = decoding (number_of e) a

abbrev pub decode_called : ArraysAfter → Decoding
decode_called o = decode_called_by o.answer o.arrays
