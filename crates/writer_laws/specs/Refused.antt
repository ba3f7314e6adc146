-- Rules: "Requests", "Writer", "Refusals", "Order of refusals". When each refusal of the writer is
-- given, in the words of the rules. First 4, 6, 7; for each request in turn 5, 8, 9; and last 10.
use Rattle.std.specs.Prelude.{ℕ, ◌-◌, ◌≤◌, ◌<◌, ◌≡◌, ◌⊎◌, List, [], ◌∷◌, ◌++◌, length}
use Rattle.refusal.specs.declared.Refusal.{Refusal}
use Rattle.window.specs.Number.{distance_of}
use Rattle.ring.specs.Ring.{cells_of_a_place}
use Rattle.places.specs.Shape.{Shaped, Misshapen}
use Rattle.places.specs.Held.{Unheld, HeldAt}
use Rattle.cutting.specs.Limits.{least_limit, most_limit, most_requests}
use Rattle.cutting.specs.declared.Request.{Request}
use Rattle.blocks.specs.Packets.{encode_packets, packets_for}
use Rattle.refusal.specs.declared.Refusal.TheVariants.{BadStore, BadLimit, TooManyRequests, NotHeld, StreamRepeated, BadRange, OutputTooShort}

-- ---- a request

-- one of the requests names the stream
pub data Named (ssrc : ℕ) : List Request → Type 0 where
  here : {q : Request} {qs : List Request} → q.ssrc ≡ ssrc → Named ssrc (q ∷ qs)
  there : {q : Request} {qs : List Request} → Named ssrc qs → Named ssrc (q ∷ qs)

-- rules "Range in the window" and "Empty request": a range that is not empty begins at most 2,047
-- numbers behind the highest one, and not less than count - 1; an empty one begins at the highest
-- number
pub record InWindow (highest begin count : ℕ) : Type 0 where
  pub some : 0 < count → (distance_of highest begin < cells_of_a_place) × (count - 1 ≤ distance_of highest begin)
  pub none : count ≡ 0 → begin ≡ highest

module _ (places : List ℕ) (earlier : List Request) (r : Request) where
  -- the request is sound: the place p holds its stream, no earlier request names it, and its range lies in
  -- the window
  pub record SoundAt (p : ℕ) : Type 0 where
    pub highest : ℕ
    pub held : HeldAt places r.ssrc p highest
    pub new : Named r.ssrc earlier → ⊥
    pub range : InWindow highest r.begin r.count

  -- 5: the stream is not held; 8: an earlier request names it; 9: the range does not lie in the window
  pub data FaultIn : Refusal → Type 0 where
    not_held : Unheld places r.ssrc → FaultIn NotHeld
    repeated : (p highest : ℕ) → HeldAt places r.ssrc p highest → Named r.ssrc earlier → FaultIn StreamRepeated
    bad_range : (p highest : ℕ) → HeldAt places r.ssrc p highest → (Named r.ssrc earlier → ⊥)
        → (InWindow highest r.begin r.count → ⊥) → FaultIn BadRange

-- ---- requests that come after `earlier` ones

pub data AllSound (places : List ℕ) : List Request → List Request → Type 0 where
  none : {earlier : List Request} → AllSound places earlier []
  more : {earlier : List Request} {r : Request} {rs : List Request} (p : ℕ) → SoundAt places earlier r p
      → AllSound places (earlier ++ r ∷ []) rs → AllSound places earlier (r ∷ rs)

-- the first request that is not sound
pub data FirstFault (places : List ℕ) : List Request → List Request → Refusal → Type 0 where
  here : {earlier : List Request} {r : Request} {rs : List Request} {e : Refusal} → FaultIn places earlier r e
      → FirstFault places earlier (r ∷ rs) e
  later : {earlier : List Request} {r : Request} {rs : List Request} {e : Refusal} (p : ℕ) → SoundAt places earlier r p
      → FirstFault places (earlier ++ r ∷ []) rs e → FirstFault places earlier (r ∷ rs) e

-- ---- the call

module _ (places cells : List ℕ) (sender rts limit n : ℕ) (rs : List Request) (out : List ℕ) where
  -- no refusal 4, 6 or 7
  pub record Proper : Type 0 where
    pub store : Shaped places cells
    pub least : least_limit ≤ limit
    pub most : limit ≤ most_limit
    pub few : n ≤ most_requests

  -- rule "Room": the output has fewer octets than the packets take
  abbrev pub TooShort : Type 0
  TooShort = length out < length (encode_packets (packets_for places cells sender rts limit rs))

  -- each refusal, with why it is given
  pub data WritingGiven : Refusal → Type 0 where
    bad_store : Misshapen places cells → WritingGiven BadStore
    bad_limit : Shaped places cells → (limit < least_limit) ⊎ (most_limit < limit) → WritingGiven BadLimit
    too_many_of : Shaped places cells → least_limit ≤ limit → limit ≤ most_limit → most_requests < n → WritingGiven TooManyRequests
    in_request : {e : Refusal} → Proper → FirstFault places [] rs e → WritingGiven e
    too_short_of : Proper → AllSound places [] rs → TooShort → WritingGiven OutputTooShort
