-- How the words of places read. Assumes nothing.
use Prim.Native.Nat.{ℕ, ◌+◌, ◌/◌, ◌^◌, ◌<◌}
use mathlib.Core.Path.{◌≡◌}
use mathlib.Core.Bool.{true, false}
use mathlib.Core.List.{List}
use native.Mathlib.Nat.{sub-zero}
use native.Mathlib.Omega.{arith}
use native.Mathlib.Decide.{ℕ_discrete}
use borrow.Author.Tests.{eq-eqb, ne_eqb}
use Rattle.places.specs.Place.{held, place_word, ssrc_of, highest_of, read_place, is_stream, is_free, find_from, find_of}
use Rattle.std.specs.Prelude.{Some, None}

module _ (word : ℕ) where
  pub read_held : word / held ≡ 1 → read_place word ≡ Some (record { ssrc = ssrc_of word; highest = highest_of word })
  unfolding read_place
  read_held e = simp (eq-eqb (word / held) 1 e)

  pub read_free : (word / held ≡ 1 → ⊥) → read_place word ≡ None
  unfolding read_place
  read_free n = simp (ne_eqb (word / held) 1 n)

  -- the test of a search for a stream
  pub stream_is : (ssrc : ℕ) → ssrc < 2 ^ 32 → word / 2 ^ 16 ≡ 2 ^ 32 + ssrc → is_stream ssrc (read_place word) ≡ true
  stream_is ssrc l e = rw (read_held (omega arith)) (eq-eqb (ssrc_of word) ssrc (omega arith))

  pub stream_not : (ssrc : ℕ) → (word / 2 ^ 16 ≡ 2 ^ 32 + ssrc → ⊥) → is_stream ssrc (read_place word) ≡ false
  stream_not ssrc n =
      elim (ℕ_discrete (word / held) 1) [
        | yes e ↦ rw (read_held e) (ne_eqb (ssrc_of word) ssrc (λ g. n (omega arith)))
        | no e ↦ rw (read_free e)
      ]

  -- the test of a search for a free place
  pub free_is : (word / held ≡ 1 → ⊥) → is_free (read_place word) ≡ true
  free_is n = rw (read_free n)

  pub free_not : word / held ≡ 1 → is_free (read_place word) ≡ false
  free_not e = rw (read_held e)

-- a word as a call writes it
pub read_word : (ssrc number : ℕ) → ssrc < 2 ^ 32 → number < 2 ^ 16 → read_place (place_word ssrc number) ≡ Some (record { ssrc = ssrc; highest = number })
read_word ssrc number l h =
    let s : ssrc_of (place_word ssrc number) ≡ ssrc = omega arith in
    let n : highest_of (place_word ssrc number) ≡ number = omega arith in
    rw (read_held (place_word ssrc number) (omega arith), s, n)

pub read_zero : read_place 0 ≡ None
read_zero = read_free 0 (λ e. omega arith)

-- a search that starts at the first place is the whole search
pub find_from_first : (places : List ℕ) (ssrc : ℕ) → find_from places ssrc 0 ≡ find_of places ssrc
find_from_first places ssrc = rw sub-zero
