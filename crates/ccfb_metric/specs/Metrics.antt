-- Rules: "Metric", "Reading a metric". What `ccfb_encode_metric` answers. (What
-- `ccfb_decode_metric` leaves behind its pointers is `case_behind` of ccfb_calls.)
use Rattle.std.specs.Prelude.{ℕ, Bool, cond, [], ◌∷◌, ltb, Some}
use Rattle.refusal.specs.declared.Refusal.TheVariants.{BadMark}
use Rattle.metric.specs.Metric.{encode_of, time_of, congested}
use Rattle.ccfb_calls.specs.Called.{Called, called, refused_with}

-- the metric, or refusal 1
unfoldable pub encode_called : ℕ → Bool → ℕ → ℕ → ℕ → Called
encode_called mark known time rts before =
    cond (ltb congested mark) (refused_with BadMark (before ∷ []))
    (called 0 (encode_of (Some (record { mark = mark; time = time_of known time })) rts ∷ []))
