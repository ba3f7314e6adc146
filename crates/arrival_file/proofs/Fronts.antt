-- A header and a record are what their own octets say, whatever comes after them. Assumes nothing.
use Prim.Native.Nat.{ℕ, ◌<◌, ◌≤◌}
use mathlib.Core.Path.{◌≡◌}
use mathlib.Core.List.{List, ◌++◌}
use native.Mathlib.Omega.{arith}
use borrow.Author.Tests.{le-ltb}
use lib.ListN.{length, get_or, length-append, get_or-append}
use Rattle.octets.proofs.Parts.{front16, front32}
use Rattle.arrival_record.specs.Record.{record_read_of, record_octets}
use Rattle.arrival_file.specs.File.{header_of, file_header_octets}

module _ (s t : List ℕ) where
  front : (i : ℕ) → i < length s → get_or (s ++ t) i 0 ≡ get_or s i 0
  front i h = get_or-append s t 0 i h

  pub header_front : file_header_octets ≤ length s → header_of (s ++ t) ≡ header_of s
  unfolding header_of
  header_front h =
      simp (
        le-ltb (length (s ++ t)) file_header_octets (omega (arith, length-append s t)),
        le-ltb (length s) file_header_octets h,
        front 0 (omega arith),
        front 1 (omega arith),
        front 2 (omega arith),
        front16 s t 3 (omega arith),
      )

  pub entry_front : record_octets ≤ length s → record_read_of (s ++ t) ≡ record_read_of s
  unfolding record_read_of
  entry_front h =
      simp (
        le-ltb (length (s ++ t)) record_octets (omega (arith, length-append s t)),
        le-ltb (length s) record_octets h,
        front 6 (omega arith),
        front 7 (omega arith),
        front16 s t 4 (omega arith),
        front32 s t 0 (omega arith),
        front32 s t 8 (omega arith),
      )
