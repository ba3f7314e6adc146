-- `header_of` in each of its cases, in the order of its tests. Assumes nothing.
use Prim.Native.Nat.{ℕ, ◌<◌, ◌≤◌}
use mathlib.Core.Path.{◌≡◌}
use mathlib.Core.List.{List}
use borrow.Author.Tests.{lt-ltb, le-ltb, eq-eqb, ne_eqb}
use lib.ListN.{length, get_or}
use Rattle.refusal.specs.declared.Refusal.TheVariants.{BadFileMark, BadFileVersion}
use Rattle.octets.specs.Octets.{be16}
use Rattle.arrival_file.specs.File.{header_of, file_header_octets, file_version}
use Rattle.std.specs.Prelude.{Ok, Err}

module _ (s : List ℕ) where
  pub too_short : length s < file_header_octets → Err BadFileMark ≡ header_of s
  unfolding header_of
  too_short h = simp (lt-ltb (length s) file_header_octets h)

  module _ (long : file_header_octets ≤ length s) where
    pub wrong_a : (get_or s 0 0 ≡ 0x41 → ⊥) → Err BadFileMark ≡ header_of s
    unfolding header_of
    wrong_a h = simp (le-ltb (length s) file_header_octets long, ne_eqb (get_or s 0 0) 0x41 h)

    module _ (a : get_or s 0 0 ≡ 0x41) where
      pub wrong_r : (get_or s 1 0 ≡ 0x52 → ⊥) → Err BadFileMark ≡ header_of s
      unfolding header_of
      wrong_r h = simp (le-ltb (length s) file_header_octets long, eq-eqb (get_or s 0 0) 0x41 a, ne_eqb (get_or s 1 0) 0x52 h)

      module _ (r : get_or s 1 0 ≡ 0x52) where
        pub wrong_l : (get_or s 2 0 ≡ 0x4C → ⊥) → Err BadFileMark ≡ header_of s
        unfolding header_of
        wrong_l h =
            simp (le-ltb (length s) file_header_octets long, eq-eqb (get_or s 0 0) 0x41 a, eq-eqb (get_or s 1 0) 0x52 r, ne_eqb (get_or s 2 0) 0x4C h)

        module _ (l : get_or s 2 0 ≡ 0x4C) where
          pub wrong_version_lem : (be16 s 3 ≡ file_version → ⊥) → Err BadFileVersion ≡ header_of s
          unfolding header_of
          wrong_version_lem h =
              simp
              (le-ltb (length s) file_header_octets long, eq-eqb (get_or s 0 0) 0x41 a, eq-eqb (get_or s 1 0) 0x52 r, eq-eqb (get_or s 2 0) 0x4C l, ne_eqb (be16 s 3) file_version h)

          pub sound_header : be16 s 3 ≡ file_version → (Ok tt) ≡ header_of s
          unfolding header_of
          sound_header h =
              simp
              (le-ltb (length s) file_header_octets long, eq-eqb (get_or s 0 0) 0x41 a, eq-eqb (get_or s 1 0) 0x52 r, eq-eqb (get_or s 2 0) 0x4C l, eq-eqb (be16 s 3) file_version h)
