-- Laws for writing hex to the front of an output. Assumes nothing.
use Prim.Native.Nat.{ℕ, suc, ◌+◌, ◌-◌, ◌*◌, ◌/◌, ◌%◌, ◌<◌, ◌≤◌}
use mathlib.Core.Path.{◌≡◌, refl}
use mathlib.Core.List.{List, [], ◌∷◌, append_assoc}
use native.Mathlib.Omega.{arith}
use native.Mathlib.Numerals.{add-one}
use lib.ListN.{length, get_or, set, drop, length-append, drop_of_length-le}
use lib.Seq.{sets, sets-eq, drop-cons, drop-drop}
use borrow.Rule.Slice.PartMut.{put_mid}
use Rattle.octets.specs.Output.{output_after}
use Rattle.octets.proofs.Sets.{sets_append}
use Rattle.line_hex.specs.Hex.{digit_of, hex_of, newline, hex_line, put_text}

-- a text that was copied into the part at an offset was written there
pub text_put : (out part text : List ℕ) (at : ℕ) → at + length text ≤ length out → part ≡ text
    → put_mid at (at + length text - at) out part ≡ sets out at text
text_put out part text at h e =
    let n : at + length text - at ≡ length text = omega arith in
    rw (e, n, sets-eq text out at h, append_assoc, drop-drop (length text) at out)

-- one octet more
pub one_put : (out packet : List ℕ) (i : ℕ) → i < length packet
    → sets (set (set out (2 * i) (digit_of (get_or packet i 0 / 16))) (2 * i + 1) (digit_of (get_or packet i 0 % 16))) (2 * (i + 1)) (hex_of (drop (i + 1) packet))
    ≡ sets out (2 * i) (hex_of (drop i packet))
unfolding hex_of
one_put out packet i h =
    let n : 2 * (i + 1) ≡ suc (suc (2 * i)) = omega arith in
    rw (n, add-one (2 * i), add-one i, drop-cons packet i 0 h)

pub all_put : (out packet : List ℕ) (i : ℕ) → length packet ≤ i → sets out (2 * i) (hex_of (drop i packet)) ≡ out
unfolding hex_of
all_put out packet i h = rw (drop_of_length-le packet {i = i} h)

pub length_hex : (xs : List ℕ) → length (hex_of xs) ≡ 2 * length xs
unfolding hex_of
length_hex [] = refl
length_hex (x ∷ xs) = let h = length_hex xs in omega arith

pub length_line : (packet : List ℕ) → length (hex_line packet) ≡ 2 * length packet + 1
unfolding hex_line
length_line packet = simp length-append (omega (arith, length_hex packet))

-- the line of a packet, once its hex is written
pub line_put : (out out' packet : List ℕ) → out' ≡ sets out 0 (hex_of packet)
    → output_after (2 * length packet + 1) (set out' (2 * length packet) 10) ≡ put_text out (hex_line packet)
unfolding hex_line
line_put out out' packet e =
    let n : length (hex_line packet) ≡ 2 * length packet + 1 = length_line packet in
    let m : 0 + length (hex_of packet) ≡ 2 * length packet = omega (arith, length_hex packet) in
    rw (n, sets_append (hex_of packet) newline out 0, m, e)
