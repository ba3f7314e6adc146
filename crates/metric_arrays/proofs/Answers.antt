-- When an array is too short, and what the call leaves otherwise. Assumes nothing.
use Prim.Native.Nat.{ℕ, ◌<◌, ◌≤◌}
use mathlib.Core.Path.{◌≡◌}
use mathlib.Core.List.{List}
use borrow.Author.Tests.{lt-ltb, le-ltb}
use lib.ListN.{length}
use Rattle.reader.specs.Reading.{metrics_at_of}
use Rattle.metric_arrays.specs.Arrays.{Arrays, arrays_after, metric_count, decoded_into, decoded_all}
use Rattle.refusal.specs.declared.Refusal.TheVariants.{OutputTooShort}
use Rattle.std.specs.Prelude.{Ok, Err}

module _ (part : List ℕ) (a : Arrays) where
  pub short_cases : length a.cases < metric_count part → arrays_after (Err OutputTooShort) a ≡ decoded_all part a
  unfolding decoded_all
  short_cases h = rw (lt-ltb (length a.cases) (metric_count part) h)

  pub short_marks : metric_count part ≤ length a.cases → length a.marks < metric_count part
      → arrays_after (Err OutputTooShort) a ≡ decoded_all part a
  unfolding decoded_all
  short_marks c h = rw (le-ltb (length a.cases) (metric_count part) c, lt-ltb (length a.marks) (metric_count part) h)

  pub short_offsets : metric_count part ≤ length a.cases → metric_count part ≤ length a.marks → length a.offsets < metric_count part
      → arrays_after (Err OutputTooShort) a ≡ decoded_all part a
  unfolding decoded_all
  short_offsets c m h =
      rw (
        le-ltb (length a.cases) (metric_count part) c,
        le-ltb (length a.marks) (metric_count part) m,
        lt-ltb (length a.offsets) (metric_count part) h,
      )

  pub long_enough : metric_count part ≤ length a.cases → metric_count part ≤ length a.marks → metric_count part ≤ length a.offsets
      → decoded_all part a ≡ arrays_after (Ok tt) (decoded_into (metrics_at_of part 0 (metric_count part)) a)
  unfolding decoded_all
  long_enough c m o =
      rw (
        le-ltb (length a.cases) (metric_count part) c,
        le-ltb (length a.marks) (metric_count part) m,
        le-ltb (length a.offsets) (metric_count part) o,
      )
