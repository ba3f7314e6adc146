-- `start_of` in each of its cases, in the order of its tests. Assumes nothing.
use Prim.Native.Nat.{ℕ, ◌<◌, ◌≤◌}
use mathlib.Core.Path.{◌≡◌, refl}
use mathlib.Core.List.{List}
use borrow.Author.Tests.{lt-ltb, le-ltb, eq-eqb, ne_eqb}
use lib.ListN.{length}
use Rattle.refusal.specs.declared.Refusal.TheVariants.{PacketTooShort, BadVersion, BadType, BadLength, Padded}
use Rattle.lists.proofs.Cases.{never, split_le, split_eq}
use Rattle.packet_header.specs.Header.{version_of, padding_of, format_of, type_of, length_of, start_of}
use Rattle.packet_header.specs.declared.Cursor.{Cursor}
use Rattle.std.specs.Prelude.{Ok, Err}

module _ (s : List ℕ) where
  pub too_short : length s < 12 → Err PacketTooShort ≡ start_of s
  unfolding start_of
  too_short h = simp (lt-ltb (length s) 12 h)

  module _ (long : 12 ≤ length s) where
    pub bad_version_lem : (version_of s ≡ 2 → ⊥) → Err BadVersion ≡ start_of s
    unfolding start_of
    bad_version_lem h = simp (le-ltb (length s) 12 long, ne_eqb (version_of s) 2 h)

    module _ (version : version_of s ≡ 2) where
      pub bad_type_lem : (type_of s ≡ 205 → ⊥) → Err BadType ≡ start_of s
      unfolding start_of
      bad_type_lem h = simp (le-ltb (length s) 12 long, eq-eqb (version_of s) 2 version, ne_eqb (type_of s) 205 h)

      module _ (type : type_of s ≡ 205) where
        pub bad_format : (format_of s ≡ 11 → ⊥) → Err BadType ≡ start_of s
        unfolding start_of
        bad_format h =
            simp (
              le-ltb (length s) 12 long,
              eq-eqb (version_of s) 2 version,
              eq-eqb (type_of s) 205 type,
              ne_eqb (format_of s) 11 h,
            )

        module _ (format : format_of s ≡ 11) where
          pub bad_length_lem : (length_of s ≡ length s → ⊥) → Err BadLength ≡ start_of s
          unfolding start_of
          bad_length_lem h =
              simp (
                le-ltb (length s) 12 long,
                eq-eqb (version_of s) 2 version,
                eq-eqb (type_of s) 205 type,
                eq-eqb (format_of s) 11 format,
                ne_eqb (length_of s) (length s) h,
              )

          module _ (words : length_of s ≡ length s) where
            pub padded : (padding_of s ≡ 0 → ⊥) → Err Padded ≡ start_of s
            unfolding start_of
            padded h =
                simp (
                  le-ltb (length s) 12 long,
                  eq-eqb (version_of s) 2 version,
                  eq-eqb (type_of s) 205 type,
                  eq-eqb (format_of s) 11 format,
                  eq-eqb (length_of s) (length s) words,
                  ne_eqb (padding_of s) 0 h,
                )

            pub sound : padding_of s ≡ 0 → Ok (record { at = 8 }) ≡ start_of s
            unfolding start_of
            sound h =
                simp (
                  le-ltb (length s) 12 long,
                  eq-eqb (version_of s) 2 version,
                  eq-eqb (type_of s) 205 type,
                  eq-eqb (format_of s) 11 format,
                  eq-eqb (length_of s) (length s) words,
                  eq-eqb (padding_of s) 0 h,
                )

-- every case
pub ruleset starts = (too_short, bad_version_lem, bad_type_lem, bad_format, bad_length_lem, padded, sound)

-- all that holds of a sound header
pub record SoundHeader (s : List ℕ) : Type 0 where
  pub long : 12 ≤ length s
  pub version : version_of s ≡ 2
  pub type : type_of s ≡ 205
  pub format : format_of s ≡ 11
  pub words : length_of s ≡ length s
  pub unpadded : padding_of s ≡ 0

pub sound_header : (s : List ℕ) (c : Cursor) → start_of s ≡ Ok c → SoundHeader s × (c.at ≡ 8)
sound_header s c e =
    split_le 12 (length s)
    (λ l. split_eq (version_of s) 2
    (λ v. split_eq (type_of s) 205
    (λ t. split_eq (format_of s) 11
    (λ f. split_eq (length_of s) (length s)
    (λ w. split_eq (padding_of s) 0
    (λ u. let x = sound s l v t f w u in
    let z : c ≡ record { at = 8 } = cc in
    (record { long = l; version = v; type = t; format = f; words = w; unpadded = u }, rw z refl))
    (λ u. let x = padded s l v t f w u in never (cc)))
    (λ w. let x = bad_length_lem s l v t f w in never (cc)))
    (λ f. let x = bad_format s l v t f in never (cc)))
    (λ t. let x = bad_type_lem s l v t in never (cc)))
    (λ v. let x = bad_version_lem s l v in never (cc)))
    (λ l. let x = too_short s l in never (cc))
